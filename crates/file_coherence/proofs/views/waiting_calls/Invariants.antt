use Rattle.std.proofs.Common.{◌≡◌, ◌++◌, filter, drop}
use Rattle.file_views.specs.Views.{waits}
use Rattle.file_coherence.proofs.views.waiting_calls.Given as goal

abbrev pub invariant-loop-one : goal.invariant-loop-one
invariant-loop-one l = l.waiting ++ filter waits (drop l.one-index l.calls) ≡ filter waits l.calls
