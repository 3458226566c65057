use Rattle.std.proofs.Common.{◌≡◌, Ok, drop}
use Rattle.cluster_file.specs.Refusals.{read_on}
use Rattle.cluster_file.specs.Paths.{file_line, filed}
use Rattle.cluster_file.proofs.file_paths.filed.Given as goal

-- the rest, read behind what was read so far, gives what all give
abbrev pub invariant-loop-row : goal.invariant-loop-row
invariant-loop-row l = read_on (file_line l.kernels l.paths) (Ok l.lines) (drop l.row-index l.rows) ≡ filed l.kernels l.paths l.rows
