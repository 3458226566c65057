use Rattle.std.proofs.Common.{◌≡◌}
use Rattle.client_file_tables.specs.Boot.{servers_under}
use Rattle.client_file_tables.proofs.boot.servers_of.Given as goal

abbrev pub invariant-loop-place : goal.invariant-loop-place
invariant-loop-place l = l.servers ≡ servers_under l.lines l.place
