use Rattle.std.proofs.Common.{◌≡◌}
use Rattle.lru.specs.LruCache.{lru_cache}
use Rattle.block_cache.specs.Blocks.{used}
use Rattle.block_cache.proofs.blocks.use_all.Given as goal

abbrev pub invariant-loop-place : goal.invariant-loop-place
invariant-loop-place l = l.blocks ≡ lru_cache (used l.fn.blocks.entries l.file l.span.first l.place) l.fn.blocks.cap
