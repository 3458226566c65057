use Rattle.std.proofs.Common.{◌≡◌, drop}
use Rattle.unix_calls.specs.DeviceCalls.{answer_for}
use Rattle.unix_run.proofs.entering.answer_for.Given as goal

abbrev pub invariant-loop-answer : goal.invariant-loop-answer
invariant-loop-answer l = answer_for l.pid (drop l.answer-index l.answers) ≡ answer_for l.pid l.answers
