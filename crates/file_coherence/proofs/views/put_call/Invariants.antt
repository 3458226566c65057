use Rattle.std.proofs.Common.{◌≡◌, ◌++◌, map, take, drop}
use Rattle.file_coherence.specs.Parts.{in_place}
use Rattle.file_coherence.proofs.views.put_call.Given as goal

abbrev pub invariant-loop-at : goal.invariant-loop-at
invariant-loop-at l = l.calls ≡ map (in_place l.new) (take l.at l.fn.calls) ++ drop l.at l.fn.calls
