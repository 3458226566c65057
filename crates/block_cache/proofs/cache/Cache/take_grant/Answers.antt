use Rattle.std.proofs.Common.{◌≡◌, ◌<◌, arith}
use Rattle.block_cache.proofs.SoundLaws.{sound_next}
use Rattle.std.proofs.Common.{true, refl, sym, ap, subst, ◌∙◌}
use Rattle.std.proofs.lemmas.Bool.{and_parts}
use Rattle.block_cache.specs.declared.file_state.FileState.{FileState}
use Rattle.block_cache.specs.Files.{Files}
use Rattle.std.specs.List.{AllByRecursion}
use Rattle.block_cache.specs.declared.key.BlockKey.{BlockKey}
use Rattle.block_cache.specs.Reach.{end_of, IsUnder}
use Rattle.block_cache.proofs.ReachLaws.{under_end, keys_without}
use Rattle.block_cache.specs.Blocks.{without}
use Rattle.block_cache.proofs.KeptLaws.{AreKept, kept_state, kept_without, without_count}
use Rattle.block_cache.proofs.cache.Cache.take_grant.Goals as goal

pub invariant_of-self-then-keeps : goal.invariant_of-self-then-keeps
invariant_of-self-then-keeps c =
    let old = c.self.inside.blocks in
    let files = c.self.inside.files in
    let size = c.self.inside.size in
    let last = c.self.inside.last in
    let sound = c.self.invariant.2 in
    let state = c.granted.result in
    let grant = c.args.grant.now in
    let on : state.on ≡ true = ap (λ (s : FileState). s.on) c.granted.ensures ∙ (and_parts grant.on _ (sym c.keeps.ensures ∙ c.if-keeps.true)).0 in
    let kept = kept_state files last old.entries grant.file state (λ was. on) sound.kept in
    let there = subst (λ (f : Files). AreKept f last old.entries) (sym c.in_ok-put.ensures.ok) kept in
    sound_next size c.put.new.self old old old.entries last c.self.inside.reach c.self.invariant.0 refl c.self.invariant.1 sound.fits there c.self.invariant.3

pub drop_all-requires : goal.drop_all-requires
drop_all-requires c =
    let reach = c.self.inside.reach in
    subst (λ end. AllByRecursion (IsUnder c.args.grant.now.file end) c.self.inside.blocks.entries) (sym c.end-end.ensures) (under_end reach c.args.grant.now.file c.self.inside.blocks.entries c.self.invariant.3)

pub invariant_of-self-2 : goal.invariant_of-self-2
invariant_of-self-2 c =
    let old = c.self.inside.blocks in
    let files = c.self.inside.files in
    let size = c.self.inside.size in
    let last = c.self.inside.last in
    let sound = c.self.invariant.2 in
    let file = c.args.grant.now.file in
    let kept = kept_without files last old.entries file c.granted.result sound.kept in
    let there = subst (λ (f : Files). AreKept f last (without old.entries file)) (sym c.in_ok-put.ensures.ok) kept in
    let under = keys_without (λ (key : BlockKey). key.block.0 < end_of c.self.inside.reach key.file) old.entries file c.self.invariant.3 in
    let count = without_count old.entries file in
    sound_next size c.put.new.self old c.drop_all.new.blocks (without old.entries file) last c.self.inside.reach c.self.invariant.0 c.drop_all.ensures c.self.invariant.1 (omega (arith, sound.fits, count)) there under
