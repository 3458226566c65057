use Rattle.std.proofs.Common.{◌≡◌, Ok, drop}
use Rattle.cluster_file.specs.Refusals.{read_on}
use Rattle.cluster_file.specs.Names.{hosted_start, all_started}
use Rattle.cluster_file.proofs.hosts.all_started.Given as goal

-- the rest, read behind what was read so far, gives what all give
abbrev pub invariant-loop-row : goal.invariant-loop-row
invariant-loop-row l = read_on (hosted_start l.rows.kernels) (Ok l.starts) (drop l.row-index l.row-items) ≡ all_started l.rows
