use Rattle.std.proofs.Common.{◌≡◌, ◌+◌, drop}
use Rattle.open_worth.specs.MovedOpens.{moved_in}
use Rattle.open_worth.proofs.moved_opens.moved_opens.Given as goal

-- those so far, and those of the rest, are all
abbrev pub invariant-loop-place : goal.invariant-loop-place
invariant-loop-place l = l.count + moved_in (drop l.place l.trace) (drop l.place l.openings) ≡ moved_in l.fn.trace l.fn.openings
