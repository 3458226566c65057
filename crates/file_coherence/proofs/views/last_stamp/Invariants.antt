use Rattle.std.proofs.Common.{◌≡◌, max, drop}
use Rattle.file_views.specs.Views.{greatest}
use Rattle.file_coherence.proofs.views.last_stamp.Given as goal

abbrev pub invariant-loop-stamp : goal.invariant-loop-stamp
invariant-loop-stamp l = max l.last (greatest (drop l.stamp-index l.stamps)) ≡ greatest l.stamps
