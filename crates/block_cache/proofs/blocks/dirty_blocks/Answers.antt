use Rattle.std.proofs.Common.{◌≡◌, arith, ap, ◌∙◌}
use Rattle.block_cache.specs.Ranges.{file_blocks}
use Rattle.block_cache.specs.Blocks.{dirty_under}
use Rattle.block_cache.proofs.ReachLaws.{under_all, dirty_same}
use Rattle.block_cache.proofs.blocks.dirty_blocks.Goals as goal

pub returns : goal.returns
returns c =
    let blocks = c.args.blocks.now.entries in
    let file = c.args.file.now in
    let all : c.loop-number.number ≡ c.args.end = omega (arith, c.loop-number-test.false, c.loop-number.auto.number-end) in
    c.loop-number.invariant ∙ ap (dirty_under blocks file) all ∙ dirty_same blocks file c.args.end file_blocks c.requires.under (under_all file blocks c.requires.reached)
