use Rattle.std.proofs.Common.{◌≡◌, ◌+◌, arith}
use Rattle.block_cache.proofs.SoundLaws.{sound_next}
use Rattle.std.proofs.Common.{ℕ, true, ◌^◌, ◌<◌, length, nat_le, sym, ap, subst, ◌∙◌}
use Rattle.std.proofs.lemmas.Bool.{and_parts, leb-true}
use Rattle.block_cache.specs.Files.{Files, known, grown}
use Rattle.block_cache.specs.declared.key.BlockKey.{BlockKey}
use Rattle.block_cache.specs.Reach.{end_of}
use Rattle.block_cache.proofs.ReachLaws.{keys_written}
use Rattle.block_cache.specs.Blocks.{written}
use Rattle.block_cache.specs.Held.{Held, has_room}
use Rattle.block_cache.proofs.KeptLaws.{AreKept, kept_state, kept_written, written_count}
use Rattle.block_cache.proofs.cache.Cache.write.Goals as goal

pub invariant_of-self : goal.invariant_of-self
invariant_of-self c =
    let old = c.self.inside.blocks in
    let files = c.self.inside.files in
    let size = c.self.inside.size in
    let last = c.self.inside.last in
    let sound = c.self.invariant.2 in
    let file = c.args.file in
    let span = c.of-span.result in
    let new = c.args.bytes.now in
    let from = c.args.from in
    let end = from + length new in
    let roomy : has_room c.args.self.now ≡ true = c.requires.room in
    let low = leb-true last 2000000000 (ap (λ (h : Held). nat_le h.last 2000000000) c.self.view_is ∙ (and_parts (nat_le c.args.self.now.last 2000000000) _ roomy).0) in
    let blocks = written old.entries file from new last span.first span.count in
    let more : last + c.from.result ≡ last + span.count = ap (λ (n : ℕ). last + n) c.from.ensures in
    let kept = kept_written files last old.entries file from new span.first span.count c.of-span.ensures.touches sound.kept in
    let later = kept_state files (last + span.count) blocks file (grown (known files file) end) (λ was. was) kept in
    let there = subst (λ (f : Files). AreKept f (last + span.count) blocks) (sym c.grow.ensures) later in
    let up = subst (λ (n : ℕ). AreKept c.grow.new.self n blocks) (sym more) there in
    let count = written_count old.entries file from new last span.first span.count in
    let below : last + c.from.result < 2 ^ 64 = omega (arith, low, more, c.of-span.ensures.within) in
    let under = keys_written (λ (key : BlockKey). key.block.0 < end_of c.self.inside.reach key.file) old.entries file from new last span.first span.count c.self.invariant.3 in
    sound_next size c.grow.new.self old c.write.new.blocks blocks (last + c.from.result) c.self.inside.reach c.self.invariant.0 c.write.ensures below (omega (arith, sound.fits, count)) up under
