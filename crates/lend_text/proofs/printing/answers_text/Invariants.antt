use Rattle.std.proofs.Common.{◌≡◌, take}
use Rattle.lend_text.specs.Events.{answers_text}
use Rattle.lend_text.proofs.printing.answers_text.Given as goal

-- the answers so far were put
abbrev pub invariant-loop-answer : goal.invariant-loop-answer
invariant-loop-answer l = l.out.items ≡ answers_text (take l.answer-index l.answers)
