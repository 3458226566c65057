use Rattle.std.proofs.Common.{◌≡◌}
use Rattle.lru.specs.LruCache.{lru_cache}
use Rattle.block_cache.specs.Blocks.{cleaned_under}
use Rattle.block_cache.proofs.blocks.clean_all.Given as goal

abbrev pub invariant-loop-number : goal.invariant-loop-number
invariant-loop-number l = l.blocks ≡ lru_cache (cleaned_under l.fn.blocks.entries l.file l.number) l.fn.blocks.cap
