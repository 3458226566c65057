use Rattle.std.proofs.Common.{◌≡◌, ◌++◌, drop}
use Rattle.file_views.specs.Streams.{take_off}
use Rattle.file_coherence.proofs.streams.take_off.Given as goal

abbrev pub invariant-loop-one : goal.invariant-loop-one
invariant-loop-one l = l.left ++ take_off (drop l.one-index l.opens) l.stream l.kernel l.grants ≡ take_off l.opens l.stream l.kernel l.grants
