use Rattle.std.proofs.Common.{sym, ap, ◌∙◌}
use Rattle.block_cache.specs.Blocks.{oldest, is_dirty_of}
use Rattle.block_cache.specs.Held.{named_of}
use Rattle.block_cache.specs.Ages.{Order, first_dirty}
use Rattle.block_cache.proofs.ToldLaws.{dirty_first}
use Rattle.block_cache.proofs.held_blocks.HeldBlocks.oldest_dirty.Goals as goal

pub returns-then-are_kept : goal.returns-then-are_kept
returns-then-are_kept c =
    let file = c.args.file.now in
    let told = c.self.invariant (sym c.are_kept.ensures ∙ c.if-are_kept.true) in
    c.oldest_dirty.ensures
    ∙ ap (first_dirty file) told.dirty
    ∙ sym (dirty_first file c.self.inside.order.entries)
    ∙ ap (λ (o : Order). named_of (oldest (is_dirty_of file) o.entries)) c.self.view_is
