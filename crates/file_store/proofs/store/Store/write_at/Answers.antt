use Rattle.std.proofs.Common.{arith, ap}
use Rattle.file_store.specs.Content.{written}
use Rattle.file_store.specs.Files.{Files, files_in, held, with_bytes}
use Rattle.file_store.proofs.LengthLaws.{changed_within, held_within, within_after, written_short}
use Rattle.file_store.proofs.store.Store.write_at.Goals as goal

pub invariant_of-self : goal.invariant_of-self
invariant_of-self c =
    let limit = c.self.inside.limit in
    let files = files_in c.self.inside.files in
    let file = c.args.file in
    let same = ap (λ (all : Files). all.limit) c.self.view_is in
    let new = written (held files file) c.args.from c.args.bytes.now in
    let short = written_short limit (held files file) c.args.from c.args.bytes.now (held_within limit files file c.self.invariant.1) (omega (arith, c.requires.within, same)) in
    let there = changed_within limit files file new short c.self.invariant.1 in
    (c.self.invariant.0, within_after c.write.result limit (files_in c.write.new.files) (with_bytes files file new) files c.write.ensures.ok c.write.ensures.err there c.self.invariant.1)
