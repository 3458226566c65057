use Rattle.std.proofs.Common.{◌≡◌, ◌++◌, take}
use Rattle.std.specs.Prelude.{map}
use Rattle.kernel_steps.specs.Outs.{send_event}
use Rattle.kernel_steps.proofs.writer.note_sends.Given as goal

-- what was there, and a record for each receiver so far
abbrev pub invariant-loop-to : goal.invariant-loop-to
invariant-loop-to l = l.events ≡ l.fn.events ++ map (send_event l.tx l.sending.about l.kind) (take l.to-index l.sending.to)
