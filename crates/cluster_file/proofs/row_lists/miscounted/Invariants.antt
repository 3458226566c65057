use Rattle.std.proofs.Common.{◌≡◌, drop}
use Rattle.toml.specs.View.{table_view}
use Rattle.cluster_file.specs.Rows.{miscounted}
use Rattle.cluster_file.proofs.row_lists.miscounted.Given as goal

-- the first of the rest is the first of all
abbrev pub invariant-loop-section : goal.invariant-loop-section
invariant-loop-section l = miscounted (table_view l.document) (drop l.section-index l.sections) ≡ miscounted (table_view l.document) l.sections
