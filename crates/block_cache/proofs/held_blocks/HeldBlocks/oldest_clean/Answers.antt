use Rattle.std.proofs.Common.{option_map, sym, ap, ◌∙◌}
use Rattle.block_cache.specs.declared.key.BlockKey.{BlockKey}
use Rattle.block_cache.specs.declared.block.Block.{Block}
use Rattle.block_cache.specs.Blocks.{oldest, is_clean_outside}
use Rattle.block_cache.specs.Ages.{Order, first_clean}
use Rattle.block_cache.proofs.ToldLaws.{clean_first}
use Rattle.block_cache.proofs.held_blocks.HeldBlocks.oldest_clean.Goals as goal

pub returns-then-are_kept : goal.returns-then-are_kept
returns-then-are_kept c =
    let file = c.args.file.now in
    let first = c.args.first in
    let last = c.args.last in
    let told = c.self.invariant (sym c.are_kept.ensures ∙ c.if-are_kept.true) in
    c.oldest_clean.ensures
    ∙ ap (first_clean file first last) told.clean
    ∙ sym (clean_first file first last c.self.inside.order.entries)
    ∙ ap (λ (o : Order). option_map (λ (entry : BlockKey × Block). entry.0) (oldest (is_clean_outside file first last) o.entries)) c.self.view_is
