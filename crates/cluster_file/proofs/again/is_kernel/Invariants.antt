use Rattle.std.proofs.Common.{◌≡◌, drop}
use Rattle.cluster_file.specs.Names.{is_kernel}
use Rattle.cluster_file.proofs.again.is_kernel.Given as goal

-- whether one of the rest has the name tells it of all
abbrev pub invariant-loop-row : goal.invariant-loop-row
invariant-loop-row l = is_kernel l.name (drop l.row-index l.rows) ≡ is_kernel l.name l.rows
