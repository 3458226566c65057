use Rattle.std.proofs.Common.{◌≡◌, ◌++◌, drop}
use Rattle.migrate_freeze.specs.Packing.{packed}
use Rattle.migrate_freeze.proofs.packing.packed.Given as goal

-- what is there and what comes yet
abbrev pub invariant-loop-place : goal.invariant-loop-place
invariant-loop-place l = l.streams ++ packed (drop l.place-index l.moved) ≡ packed l.moved
