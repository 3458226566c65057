use Rattle.std.proofs.Common.{◌≡◌}
use Rattle.client_file_tables.specs.Closes.{fds_under}
use Rattle.client_file_tables.proofs.client_files.ClientFiles.fds_of.Given as goal

abbrev pub invariant-loop-fd : goal.invariant-loop-fd
invariant-loop-fd l = l.fds ≡ fds_under l.fd l.pid l.self
