use Rattle.std.proofs.Common.{◌≡◌, ◌++◌, drop}
use Rattle.wire_fragments.specs.Gathering.{answers_from, empty_gather}
use Rattle.wire_fragments.proofs.running.answer_all.Given as goal

-- the answers so far, and then those to the frames that are left, are all
abbrev pub invariant-loop-frame : goal.invariant-loop-frame
invariant-loop-frame l =
    l.answers.items ++ answers_from l.gather (drop l.frame-index l.frames) ≡ answers_from (empty_gather l.room) l.frames
