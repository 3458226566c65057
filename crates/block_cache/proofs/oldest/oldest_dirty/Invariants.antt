use Rattle.std.proofs.Common.{◌≡◌}
use Rattle.std.specs.Iterator.Adapters.{rev_source}
use Rattle.block_cache.specs.Ages.{plain}
use Rattle.block_cache.specs.Blocks.{oldest, is_dirty_of}
use Rattle.block_cache.proofs.oldest.oldest_dirty.Given as goal

abbrev pub invariant-loop-key : goal.invariant-loop-key
invariant-loop-key l =
    (goal.iterator-loop-key).can_next l.key-iterator ×
    (goal.iterator-loop-key).is_finite l.key-iterator ×
    (oldest (is_dirty_of l.file) (plain (rev_source l.key-iterator)) ≡ oldest (is_dirty_of l.file) (plain l.blocks.entries))
