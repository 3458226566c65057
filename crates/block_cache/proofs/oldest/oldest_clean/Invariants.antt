use Rattle.std.proofs.Common.{◌≡◌}
use Rattle.std.specs.Iterator.Adapters.{rev_source}
use Rattle.block_cache.specs.Ages.{plain}
use Rattle.block_cache.specs.Blocks.{oldest, is_clean_outside}
use Rattle.block_cache.proofs.oldest.oldest_clean.Given as goal

abbrev pub invariant-loop-key : goal.invariant-loop-key
invariant-loop-key l =
    (goal.iterator-loop-key).can_next l.key-iterator ×
    (goal.iterator-loop-key).is_finite l.key-iterator ×
    (oldest (is_clean_outside l.file l.first l.last) (plain (rev_source l.key-iterator)) ≡ oldest (is_clean_outside l.file l.first l.last) (plain l.blocks.entries))
