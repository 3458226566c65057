use Rattle.std.proofs.Common.{◌≡◌, arith, ap, ◌∙◌}
use Rattle.lru.specs.LruCache.{lru_cache}
use Rattle.block_cache.specs.Blocks.{dropped_under}
use Rattle.block_cache.proofs.DropLaws.{dropped_without}
use Rattle.block_cache.proofs.blocks.drop_all.Goals as goal

pub returns : goal.returns
returns c =
    let blocks = c.args.blocks.now.entries in
    let file = c.args.file.now in
    let all : c.loop-number.number ≡ c.args.end = omega (arith, c.loop-number-test.false, c.loop-number.auto.number-end) in
    let same = ap (dropped_under blocks file) all ∙ dropped_without file c.args.end blocks c.len.ensures.valid.0 c.requires in
    c.loop-number.invariant ∙ ap (λ entries. lru_cache entries c.args.blocks.now.cap) same
