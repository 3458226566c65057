use Rattle.std.proofs.Common.{take}
use Rattle.calls_once.specs.Passes.{Tells}
use Rattle.calls_once.proofs.once.calls_are_once.Given as goal

abbrev pub invariant-loop-record : goal.invariant-loop-record
invariant-loop-record l = Tells l.turns.entries (take l.record-index l.trace)
