use Rattle.std.proofs.Common.{◌≡◌, Ok, map, drop}
use Rattle.toml.specs.View.{view}
use Rattle.cluster_file.specs.declared.keys.Section.TheVariants.{Start}
use Rattle.cluster_file.specs.Refusals.{read_on}
use Rattle.cluster_file.specs.Tables.{tables_in}
use Rattle.cluster_file.specs.Rows.{where_room, rows_in, start_row}
use Rattle.cluster_file.proofs.row_lists.start_rows.Given as goal

-- the rest, read behind the rows so far, gives what all give
abbrev pub invariant-loop-element : goal.invariant-loop-element
invariant-loop-element l =
    read_on (λ earlier table. where_room Start earlier (start_row earlier table)) (Ok l.rows) (tables_in (map view (drop l.element-index l.elements)))
    ≡ rows_in Start (start_row) (map view l.elements)
