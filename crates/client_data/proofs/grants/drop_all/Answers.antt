use Rattle.std.proofs.Common.{◌+◌, drop, ap, sym, ◌∙◌}
use Rattle.std.proofs.lemmas.List.{at_drop_more}
use Rattle.client_data.specs.Grants.{drops_all}
use Rattle.client_data.proofs.grants.drop_all.Goals as goal

pub loop-block-preserved : goal.loop-block-preserved
loop-block-preserved c =
    ap (λ s. drops_all c.args.file.now (drop (c.loop-block.block-index + 1) c.args.blocks.now) c.args.cause s) c.in_ok-drop_one.ensures
    ∙ sym (at_drop_more (λ xs. drops_all c.args.file.now xs c.args.cause c.loop-block.files) c.args.blocks.now c.loop-block.block-index _ c.loop-block-test.true)
    ∙ c.loop-block.invariant
