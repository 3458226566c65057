use Rattle.std.proofs.Common.{◌≡◌, ℕ}
use Rattle.std.specs.List.{find}
use Rattle.std.specs.Map.{values_of}
use Rattle.block_cache.specs.declared.key.BlockKey.{BlockKey}
use Rattle.block_cache.specs.Blocks.{is_of}
use Rattle.block_cache.proofs.ages.Ages.oldest_dirty.Given as goal

abbrev pub invariant-loop-block : goal.invariant-loop-block
invariant-loop-block l =
    find (λ (block : BlockKey × ℕ). is_of l.file block.0) l.block-iterator ≡ find (λ (block : BlockKey × ℕ). is_of l.file block.0) (values_of l.self.dirty)
