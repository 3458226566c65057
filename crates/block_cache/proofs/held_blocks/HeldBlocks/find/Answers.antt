use Rattle.std.proofs.Common.{option_copied, option_map, sym, ap, ◌∙◌}
use Rattle.block_cache.specs.Blocks.{is_at, block_at}
use Rattle.block_cache.specs.Ages.{Order}
use Rattle.block_cache.proofs.PlainLaws.{block_of, lookup_plain}
use Rattle.block_cache.proofs.held_blocks.HeldBlocks.find.Goals as goal

pub returns-in-Some : goal.returns-in-Some
returns-in-Some c =
    let file = c.args.file.now in
    let number = c.args.block.0 in
    let there = sym c.find.ensures ∙ ap option_copied c.in-Some.is in
    let plainly = lookup_plain (is_at file number) c.self.inside.order.entries ∙ ap (option_map block_of) there in
    sym plainly ∙ ap (λ (o : Order). block_at o.entries file number) c.self.view_is

pub returns-in-None : goal.returns-in-None
returns-in-None c =
    let file = c.args.file.now in
    let number = c.args.block.0 in
    let there = sym c.find.ensures ∙ ap option_copied c.in-None.is in
    let plainly = lookup_plain (is_at file number) c.self.inside.order.entries ∙ ap (option_map block_of) there in
    sym plainly ∙ ap (λ (o : Order). block_at o.entries file number) c.self.view_is
