use Rattle.std.proofs.Common.{◌≡◌, drop}
use Rattle.file_views.specs.Views.{find_carried}
use Rattle.file_coherence.proofs.views.find_carried.Given as goal

abbrev pub invariant-loop-one : goal.invariant-loop-one
invariant-loop-one l = find_carried (drop l.one-index l.carried) l.number ≡ find_carried l.carried l.number
