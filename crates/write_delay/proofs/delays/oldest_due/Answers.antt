use Rattle.std.proofs.Common.{ℕ, Some, sym, ap, ◌∙◌, option_map}
use Rattle.write_delay.specs.declared.delayed_block.DelayedBlock.{DelayedBlock}
use Rattle.write_delay.proofs.DueLaws.{stops_at, goes_past}
use Rattle.write_delay.proofs.delays.oldest_due.Goals as goal

pub returns-then-is_due : goal.returns-then-is_due
returns-then-is_due c =
    ap Some c.named.ensures ∙ sym (ap (option_map (λ (entry : DelayedBlock × ℕ). (entry.0.file, entry.0.block))) (stops_at c.args.step c.args.blocks.now.entries _ _ _ c.loop-block.invariant.2 c.in-Some.ensures.steps (sym c.is_due.ensures ∙ c.if-is_due.true)))

pub loop-block-preserved : goal.loop-block-preserved
loop-block-preserved c =
    (tt, tt, goes_past c.args.step c.args.blocks.now.entries _ _ _ c.loop-block.invariant.2 c.in-Some.ensures.steps (sym c.is_due.ensures ∙ c.if-is_due.false))
