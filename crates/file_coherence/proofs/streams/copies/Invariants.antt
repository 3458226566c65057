use Rattle.std.proofs.Common.{◌≡◌, ◌+◌, drop}
use Rattle.sprite_ids.specs.Lists.{total}
use Rattle.file_views.specs.Streams.{one_of}
use Rattle.file_coherence.proofs.streams.copies.Given as goal

abbrev pub invariant-loop-other : goal.invariant-loop-other
invariant-loop-other l = l.count + total (one_of l.stream) (drop l.other-index l.streams) ≡ total (one_of l.stream) l.streams
