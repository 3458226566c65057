use Rattle.std.proofs.Common.{◌≡◌, ◌+◌, drop}
use Rattle.sprite_ids.specs.Lists.{total}
use Rattle.file_views.specs.Streams.{counted}
use Rattle.file_coherence.proofs.streams.open_count.Given as goal

abbrev pub invariant-loop-one : goal.invariant-loop-one
invariant-loop-one l = l.count + total (counted l.stream l.kernel) (drop l.one-index l.opens) ≡ total (counted l.stream l.kernel) l.opens
