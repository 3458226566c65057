use Rattle.std.proofs.Common.{◌≡◌, Ok, drop}
use Rattle.cluster_file.specs.Refusals.{read_on}
use Rattle.cluster_file.specs.Names.{evict_line, evict_lines}
use Rattle.cluster_file.proofs.hosts.evict_lines.Given as goal

-- the rest, read behind what was read so far, gives what all give
abbrev pub invariant-loop-row : goal.invariant-loop-row
invariant-loop-row l = read_on (evict_line l.rows.kernels) (Ok l.lines) (drop l.row-index l.row-items) ≡ evict_lines l.rows
