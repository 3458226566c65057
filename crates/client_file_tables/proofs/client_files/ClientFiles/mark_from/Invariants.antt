use Rattle.std.proofs.Common.{◌≡◌}
use Rattle.client_file_tables.specs.WriteBacks.{dirties_from}
use Rattle.client_file_tables.proofs.client_files.ClientFiles.mark_from.Given as goal

abbrev pub invariant-loop-place : goal.invariant-loop-place
invariant-loop-place l = l.self ≡ dirties_from l.file l.first l.place l.fn.self
