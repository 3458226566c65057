use Rattle.std.proofs.Common.{◌≡◌, Ok, drop}
use Rattle.cluster_file.specs.Refusals.{read_on}
use Rattle.cluster_file.specs.Clusters.{program_line, program_lines}
use Rattle.cluster_file.proofs.program_lines.program_lines.Given as goal

-- the rest, read behind what was read so far, gives what all give
abbrev pub invariant-loop-row : goal.invariant-loop-row
invariant-loop-row l = read_on (program_line l.version) (Ok l.lines) (drop l.row-index l.rows) ≡ program_lines l.version l.rows
