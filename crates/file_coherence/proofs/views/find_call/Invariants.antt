use Rattle.std.proofs.Common.{◌≡◌, drop}
use Rattle.file_views.specs.Views.{find_call}
use Rattle.file_coherence.proofs.views.find_call.Given as goal

abbrev pub invariant-loop-one : goal.invariant-loop-one
invariant-loop-one l = find_call (drop l.one-index l.calls) l.number ≡ find_call l.calls l.number
