use Rattle.std.proofs.Common.{◌≡◌, drop}
use Rattle.toml.specs.View.{table_view}
use Rattle.cluster_file.specs.Faults.{sections_fault}
use Rattle.cluster_file.proofs.fault.sections_fault.Given as goal

-- the first fault of the rest of the sections is that of all
abbrev pub invariant-loop-section : goal.invariant-loop-section
invariant-loop-section l =
    sections_fault l.fault (table_view l.document) (drop l.section-index l.sections) ≡ sections_fault l.fault (table_view l.document) l.sections
