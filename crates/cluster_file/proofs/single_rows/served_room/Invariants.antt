use Rattle.std.proofs.Common.{◌≡◌, drop}
use Rattle.cluster_file.specs.Refusals.{rest_of}
use Rattle.cluster_file.specs.Rows.{served_by}
use Rattle.cluster_file.proofs.single_rows.served_room.Given as goal

-- what the rest leaves of what is left is what all leave
abbrev pub invariant-loop-row : goal.invariant-loop-row
invariant-loop-row l = rest_of l.rest (served_by (drop l.row-index l.rows)) ≡ rest_of l.most (served_by l.rows)
