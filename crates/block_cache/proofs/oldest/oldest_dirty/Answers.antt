use Rattle.std.proofs.Common.{sym, ap, ◌∙◌}
use Rattle.block_cache.specs.Blocks.{is_dirty_of}
use Rattle.block_cache.specs.Held.{named_of}
use Rattle.block_cache.proofs.OrderLaws.{stops_at, goes_past}
use Rattle.block_cache.proofs.oldest.oldest_dirty.Goals as goal

pub returns-then-is_dirty_of : goal.returns-then-is_dirty_of
returns-then-is_dirty_of c =
    c.named.ensures ∙ sym (ap named_of (stops_at (is_dirty_of c.args.file.now) c.args.blocks.now.entries _ _ _ c.loop-key.invariant.2 c.in-Some.ensures.steps (sym c.is_dirty_of.ensures ∙ c.if-is_dirty_of.true)))

pub loop-key-preserved : goal.loop-key-preserved
loop-key-preserved c =
    (tt, tt, goes_past (is_dirty_of c.args.file.now) c.args.blocks.now.entries _ _ _ c.loop-key.invariant.2 c.in-Some.ensures.steps (sym c.is_dirty_of.ensures ∙ c.if-is_dirty_of.false))
