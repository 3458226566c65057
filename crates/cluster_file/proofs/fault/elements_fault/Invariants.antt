use Rattle.std.proofs.Common.{◌≡◌, ◌+◌, map, drop}
use Rattle.toml.specs.View.{view}
use Rattle.cluster_file.specs.Faults.{elements_fault}
use Rattle.cluster_file.proofs.fault.elements_fault.Given as goal

-- the first fault of the rest, numbered on, is that of all
abbrev pub invariant-loop-place : goal.invariant-loop-place
invariant-loop-place l =
    elements_fault l.fault l.section l.keys (l.place + 1) (map view (drop l.place l.elements))
    ≡ elements_fault l.fault l.section l.keys 1 (map view l.elements)
