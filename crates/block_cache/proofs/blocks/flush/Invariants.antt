use Rattle.std.proofs.Common.{◌≡◌, take}
use Rattle.block_cache.specs.Blocks.{flushed}
use Rattle.block_cache.proofs.blocks.flush.Given as goal

abbrev pub invariant-loop-number : goal.invariant-loop-number
invariant-loop-number l = l.sent ≡ flushed l.blocks.entries l.file l.size (take l.number-index l.numbers)
