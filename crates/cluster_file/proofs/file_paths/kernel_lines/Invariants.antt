use Rattle.std.proofs.Common.{◌≡◌, Ok, drop}
use Rattle.cluster_file.specs.Refusals.{read_on}
use Rattle.cluster_file.specs.Paths.{kernel_line, kernel_lines}
use Rattle.cluster_file.proofs.file_paths.kernel_lines.Given as goal

-- the rest, read behind what was read so far, gives what all give
abbrev pub invariant-loop-row : goal.invariant-loop-row
invariant-loop-row l = read_on (kernel_line) (Ok l.lines) (drop l.row-index l.rows) ≡ kernel_lines l.rows
