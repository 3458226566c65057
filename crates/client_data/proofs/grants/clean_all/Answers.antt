use Rattle.std.proofs.Common.{◌+◌, drop, ap, sym, ◌∙◌}
use Rattle.std.proofs.lemmas.List.{at_drop_more}
use Rattle.client_data.specs.Grants.{cleans_all}
use Rattle.client_data.proofs.grants.clean_all.Goals as goal

pub loop-block-preserved : goal.loop-block-preserved
loop-block-preserved c =
    ap (λ s. cleans_all c.args.file.now (drop (c.loop-block.block-index + 1) c.args.blocks.now) s) c.clean_one.ensures
    ∙ sym (at_drop_more (λ xs. cleans_all c.args.file.now xs c.loop-block.files) c.args.blocks.now c.loop-block.block-index _ c.loop-block-test.true)
    ∙ c.loop-block.invariant
