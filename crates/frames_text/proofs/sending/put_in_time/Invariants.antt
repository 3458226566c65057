use Rattle.std.proofs.Common.{◌≡◌, ◌++◌, take}
use Rattle.frames_text.specs.Sending.{in_time}
use Rattle.frames_text.proofs.sending.put_in_time.Given as goal

-- those of the frames so far were put
abbrev pub invariant-loop-frame : goal.invariant-loop-frame
invariant-loop-frame l = l.frames.items ≡ l.fn.frames.items ++ in_time (take l.frame-index l.sent)
