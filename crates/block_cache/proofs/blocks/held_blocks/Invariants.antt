use Rattle.std.proofs.Common.{◌≡◌}
use Rattle.block_cache.specs.Blocks.{held_under}
use Rattle.block_cache.proofs.blocks.held_blocks.Given as goal

abbrev pub invariant-loop-number : goal.invariant-loop-number
invariant-loop-number l = l.held.items ≡ held_under l.blocks.entries l.file l.number
