use Rattle.std.proofs.Common.{Some, option_map, sym, ap, ◌∙◌}
use Rattle.block_cache.specs.Blocks.{is_clean_outside}
use Rattle.block_cache.proofs.OrderLaws.{stops_at, goes_past}
use Rattle.block_cache.proofs.oldest.oldest_clean.Goals as goal

pub returns-then-is_clean_outside : goal.returns-then-is_clean_outside
returns-then-is_clean_outside c =
    ap Some c.copied.ensures ∙ sym (ap (option_map (λ entry. entry.0)) (stops_at (is_clean_outside c.args.file.now c.args.first c.args.last) c.args.blocks.now.entries _ _ _ c.loop-key.invariant.2 c.in-Some.ensures.steps (sym c.is_clean_outside.ensures ∙ c.if-is_clean_outside.true)))

pub loop-key-preserved : goal.loop-key-preserved
loop-key-preserved c =
    (tt, tt, goes_past (is_clean_outside c.args.file.now c.args.first c.args.last) c.args.blocks.now.entries _ _ _ c.loop-key.invariant.2 c.in-Some.ensures.steps (sym c.is_clean_outside.ensures ∙ c.if-is_clean_outside.false))
