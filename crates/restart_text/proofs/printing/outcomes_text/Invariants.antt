use Rattle.std.proofs.Common.{◌≡◌, take}
use Rattle.restart_text.specs.FileTexts.{outcomes_text}
use Rattle.restart_text.proofs.printing.outcomes_text.Given as goal

-- the lines of the outcomes so far were put
abbrev pub invariant-loop-outcome : goal.invariant-loop-outcome
invariant-loop-outcome l = l.out.items ≡ outcomes_text (take l.outcome-index l.outcomes)
