use Rattle.std.proofs.Common.{◌≡◌, ◌++◌, take}
use Rattle.frames_text.specs.Sending.{too_late}
use Rattle.frames_text.proofs.sending.put_too_late.Given as goal

-- those of the frames so far were put
abbrev pub invariant-loop-frame : goal.invariant-loop-frame
invariant-loop-frame l = l.frames.items ≡ l.fn.frames.items ++ too_late (take l.frame-index l.sent)
