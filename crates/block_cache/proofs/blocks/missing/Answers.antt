use Rattle.std.proofs.Common.{sym, ◌∙◌}
use Rattle.block_cache.proofs.HeldLaws.{missing_on}
use Rattle.block_cache.proofs.blocks.missing.Goals as goal

pub loop-place-preserved : goal.loop-place-preserved
loop-place-preserved c =
    missing_on c.args.blocks.now.entries c.args.file.now c.args.span.now.first c.args.span.now.count c.loop-place.place c.loop-place-test.true (sym c.is_held.ensures ∙ c.if-not-is_held.false) ∙ c.loop-place.invariant
