use Rattle.std.proofs.Common.{◌≡◌, ◌||◌, drop}
use Rattle.wire_fragments.specs.declared.MessageId.{MessageId}
use Rattle.wire_fragments.specs.Runs.{is_given}
use Rattle.frames_text.specs.Reports.{has}
use Rattle.frames_text.proofs.reporting.names_given.Given as goal

-- a message is noted, or one of the answers that are left gives it, exactly where one of all does
abbrev pub invariant-loop-answer : goal.invariant-loop-answer
invariant-loop-answer l = (name : MessageId) → (has l.given.keys name || is_given (drop l.answer-index l.answers) name) ≡ is_given l.answers name
