use Rattle.std.proofs.Common.{◌≡◌, drop}
use Rattle.cluster_file.specs.Names.{program_named}
use Rattle.cluster_file.proofs.hosts.program_named.Given as goal

-- the first of that name in the rest is that of all
abbrev pub invariant-loop-row : goal.invariant-loop-row
invariant-loop-row l = program_named l.name (drop l.row-index l.rows) ≡ program_named l.name l.rows
