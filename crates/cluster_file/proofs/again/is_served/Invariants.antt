use Rattle.std.proofs.Common.{◌≡◌, drop}
use Rattle.cluster_file.specs.Names.{is_served}
use Rattle.cluster_file.proofs.again.is_served.Given as goal

-- whether one of the rest serves the path tells it of all
abbrev pub invariant-loop-row : goal.invariant-loop-row
invariant-loop-row l = is_served l.path (drop l.row-index l.rows) ≡ is_served l.path l.rows
