use Rattle.std.proofs.Common.{◌≡◌, drop}
use Rattle.link_plan.specs.Fates.{fate_in}
use Rattle.link_plan.proofs.fates.fate_in.Given as goal

-- no entry so far is met
abbrev pub invariant-loop-entry : goal.invariant-loop-entry
invariant-loop-entry l = fate_in (drop l.entry-index l.entries) l.from l.to l.number ≡ fate_in l.entries l.from l.to l.number
