use Rattle.std.proofs.Common.{arith, ap}
use Rattle.file_store.specs.Content.{block_put}
use Rattle.file_store.specs.Files.{Files, files_in, held, with_bytes}
use Rattle.file_store.proofs.LengthLaws.{changed_within, held_within, within_after, block_short}
use Rattle.file_store.proofs.store.Store.put_block.Goals as goal

pub invariant_of-self : goal.invariant_of-self
invariant_of-self c =
    let limit = c.self.inside.limit in
    let files = files_in c.self.inside.files in
    let file = c.args.file in
    let same = ap (λ (all : Files). all.limit) c.self.view_is in
    let new = block_put (held files file) c.args.block.0 c.args.size c.args.bytes.now in
    let before = held_within limit files file c.self.invariant.1 in
    let short = block_short limit (held files file) c.args.block.0 c.args.size c.args.bytes.now before (omega (arith, c.requires.size, same)) (omega (arith, c.requires.within, same)) in
    let there = changed_within limit files file new short c.self.invariant.1 in
    (c.self.invariant.0, within_after c.put_block.result limit (files_in c.put_block.new.files) (with_bytes files file new) files c.put_block.ensures.ok c.put_block.ensures.err there c.self.invariant.1)
