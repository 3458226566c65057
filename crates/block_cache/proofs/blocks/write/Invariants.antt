use Rattle.std.proofs.Common.{◌≡◌}
use Rattle.lru.specs.LruCache.{lru_cache}
use Rattle.block_cache.specs.Blocks.{written}
use Rattle.block_cache.proofs.blocks.write.Given as goal

abbrev pub invariant-loop-place : goal.invariant-loop-place
invariant-loop-place l = l.blocks ≡ lru_cache (written l.fn.blocks.entries l.file l.from l.bytes l.last l.span.first l.place) l.fn.blocks.cap
