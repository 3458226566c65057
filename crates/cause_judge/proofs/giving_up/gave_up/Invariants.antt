use Rattle.std.proofs.Common.{◌≡◌, drop, take}
use Rattle.call_journal.specs.Unreachable.{gave_up, gave_up_from}
use Rattle.cause_judge.proofs.giving_up.gave_up.Given as goal

-- whether it was given up is told by the rest
abbrev pub invariant-loop-place : goal.invariant-loop-place
invariant-loop-place l = gave_up_from l.kernel l.tx.0 l.to (take l.place l.behind) (drop l.place l.behind) ≡ gave_up l.kernel l.tx.0 l.to l.behind
