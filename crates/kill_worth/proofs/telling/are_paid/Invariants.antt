use Rattle.std.proofs.Common.{◌≡◌, ◌≤◌, drop, length}
use Rattle.kill_worth.specs.Told.{TellsTold, are_paid}
use Rattle.kill_worth.proofs.telling.are_paid.Given as goal

-- what stands behind the place is told, and whether the kills there are
abbrev pub invariant-loop-place : goal.invariant-loop-place
invariant-loop-place l = TellsTold l.told (drop l.place l.trace) × (l.place ≤ length l.trace) × (l.paid ≡ are_paid (drop l.place l.kills) (drop l.place l.trace))

abbrev pub decreases-loop-place : goal.decreases-loop-place
decreases-loop-place l = l.place
