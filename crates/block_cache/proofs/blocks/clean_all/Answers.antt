use Rattle.std.proofs.Common.{◌≡◌, arith, ap, ◌∙◌}
use Rattle.lru.specs.LruCache.{lru_cache}
use Rattle.block_cache.specs.Ranges.{file_blocks}
use Rattle.block_cache.specs.Blocks.{cleaned_under}
use Rattle.block_cache.proofs.ReachLaws.{under_all, cleaned_same}
use Rattle.block_cache.proofs.blocks.clean_all.Goals as goal

pub returns : goal.returns
returns c =
    let blocks = c.args.blocks.now.entries in
    let file = c.args.file.now in
    let all : c.loop-number.number ≡ c.args.end = omega (arith, c.loop-number-test.false, c.loop-number.auto.number-end) in
    let same = ap (cleaned_under blocks file) all ∙ cleaned_same blocks file c.args.end file_blocks c.requires.under (under_all file blocks c.requires.reached) in
    c.loop-number.invariant ∙ ap (λ entries. lru_cache entries c.args.blocks.now.cap) same
