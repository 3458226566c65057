use Rattle.std.proofs.Common.{◌≡◌}
use Rattle.block_cache.specs.Blocks.{dirty_under}
use Rattle.block_cache.proofs.blocks.dirty_blocks.Given as goal

abbrev pub invariant-loop-number : goal.invariant-loop-number
invariant-loop-number l = l.dirty.items ≡ dirty_under l.blocks.entries l.file l.number
