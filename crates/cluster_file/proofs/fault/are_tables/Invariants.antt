use Rattle.std.proofs.Common.{◌≡◌, map, drop}
use Rattle.std.specs.List.{list_all}
use Rattle.toml.specs.View.{view}
use Rattle.cluster_file.specs.Faults.{is_table}
use Rattle.cluster_file.proofs.fault.are_tables.Given as goal

-- whether all of the rest are tables tells it of all
abbrev pub invariant-loop-element : goal.invariant-loop-element
invariant-loop-element l = list_all is_table (map view (drop l.element-index l.elements)) ≡ list_all is_table (map view l.elements)
