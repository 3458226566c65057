use Rattle.std.proofs.Common.{◌≡◌, ◌++◌, map, drop}
use Rattle.toml.specs.View.{view, table_view}
use Rattle.cluster_file.specs.Tables.{texts_in, elements_at}
use Rattle.cluster_file.proofs.single_rows.texts_at.Given as goal

-- the strings so far and those of the rest are all
abbrev pub invariant-loop-element : goal.invariant-loop-element
invariant-loop-element l =
    l.texts ++ texts_in (map view (drop l.element-index l.element-items)) ≡ texts_in (elements_at l.fn.key (table_view l.table))
