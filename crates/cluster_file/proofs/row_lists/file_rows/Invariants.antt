use Rattle.std.proofs.Common.{◌≡◌, Ok, map, drop}
use Rattle.toml.specs.View.{view}
use Rattle.cluster_file.specs.declared.keys.Section.TheVariants.{File}
use Rattle.cluster_file.specs.Refusals.{read_on}
use Rattle.cluster_file.specs.Tables.{tables_in}
use Rattle.cluster_file.specs.Rows.{where_room, rows_in, file_row}
use Rattle.cluster_file.proofs.row_lists.file_rows.Given as goal

-- the rest, read behind the rows so far, gives what all give
abbrev pub invariant-loop-element : goal.invariant-loop-element
invariant-loop-element l =
    read_on (λ earlier table. where_room File earlier (file_row l.version earlier table)) (Ok l.rows) (tables_in (map view (drop l.element-index l.elements)))
    ≡ rows_in File (file_row l.version) (map view l.elements)
