use Rattle.std.proofs.Common.{◌≡◌, ◌++◌, drop}
use Rattle.file_coherence.proofs.data.copies_of.Given as goal

abbrev pub invariant-loop-step : goal.invariant-loop-step
invariant-loop-step l = l.copies ++ drop l.step-index l.steps ≡ l.steps
