use Rattle.std.proofs.Common.{◌≡◌, drop}
use Rattle.unix_calls.specs.DeviceCalls.{answer_for}
use Rattle.run_judge.proofs.asking.has_answer.Given as goal

-- the answer in the rest is that in the whole
abbrev pub invariant-loop-answer : goal.invariant-loop-answer
invariant-loop-answer l = answer_for l.pid (drop l.answer-index l.answers) ≡ answer_for l.pid l.answers
