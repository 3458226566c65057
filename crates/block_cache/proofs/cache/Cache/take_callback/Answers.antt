use Rattle.block_cache.specs.Held.{Held}
use Rattle.std.proofs.Common.{◌≡◌, ◌<◌, arith}
use Rattle.block_cache.proofs.SoundLaws.{sound_next}
use Rattle.std.proofs.Common.{sym, ap, subst, ◌∙◌}
use Rattle.block_cache.specs.declared.file_state.FileState.{FileState}
use Rattle.block_cache.specs.Files.{Files, known, called, with_state}
use Rattle.block_cache.specs.Ranges.{file_blocks}
use Rattle.std.specs.List.{AllByRecursion}
use Rattle.block_cache.specs.declared.key.BlockKey.{BlockKey}
use Rattle.block_cache.specs.Reach.{end_of, IsUnder}
use Rattle.block_cache.proofs.ReachLaws.{under_end, keys_without, keys_cleaned_under}
use Rattle.block_cache.specs.Blocks.{without, cleaned_under}
use Rattle.block_cache.proofs.KeptLaws.{AreKept, kept_state, kept_without, without_count, kept_cleaned_under, cleaned_under_count}
use Rattle.block_cache.proofs.cache.Cache.take_callback.Goals as goal

pub invariant_of-self-in-Recall : goal.invariant_of-self-in-Recall
invariant_of-self-in-Recall c =
    let old = c.self.inside.blocks in
    let files = c.self.inside.files in
    let size = c.self.inside.size in
    let last = c.self.inside.last in
    let sound = c.self.invariant.2 in
    let file = c.args.file in
    let state = c.called.result in
    let called_on : state.on ≡ c.known-known.result.on = ap (λ (s : FileState). s.on) (c.called.ensures ∙ ap (called c.known-known.result c.args.stamp) c.in-Recall.is) in
    let known_on : c.known-known.result.on ≡ (known files file).on = ap (λ (s : FileState). s.on) (c.known-known.ensures ∙ sym (ap (λ (h : Held). known h.files file) c.self.view_is)) in
    let blocks = cleaned_under old.entries file file_blocks in
    let kept = kept_cleaned_under (with_state files file state) last old.entries file file_blocks (kept_state files last old.entries file state (λ was. called_on ∙ known_on ∙ was) sound.kept) in
    let there = subst (λ (f : Files). AreKept f last blocks) (sym c.in_ok-put.ensures.ok) kept in
    let under = keys_cleaned_under (λ (key : BlockKey). key.block.0 < end_of c.self.inside.reach key.file) old.entries file file_blocks c.self.invariant.3 in
    let count = cleaned_under_count old.entries file file_blocks in
    sound_next size c.put.new.self old c.clean_all.new.blocks blocks last c.self.inside.reach c.self.invariant.0 c.clean_all.ensures c.self.invariant.1 (omega (arith, sound.fits, count)) there under

pub drop_all-requires : goal.drop_all-requires
drop_all-requires c =
    let reach = c.self.inside.reach in
    subst (λ end. AllByRecursion (IsUnder c.args.file end) c.self.inside.blocks.entries) (sym c.end-end.ensures) (under_end reach c.args.file c.self.inside.blocks.entries c.self.invariant.3)

pub clean_all-requires-clause-under : goal.clean_all-requires-clause-under
clean_all-requires-clause-under c =
    let reach = c.self.inside.reach in
    subst (λ end. AllByRecursion (IsUnder c.args.file end) c.self.inside.blocks.entries) (sym c.end-end.ensures) (under_end reach c.args.file c.self.inside.blocks.entries c.self.invariant.3)

pub invariant_of-self-in-Stop : goal.invariant_of-self-in-Stop
invariant_of-self-in-Stop c =
    let old = c.self.inside.blocks in
    let files = c.self.inside.files in
    let size = c.self.inside.size in
    let last = c.self.inside.last in
    let sound = c.self.invariant.2 in
    let file = c.args.file in
    let kept = kept_without files last old.entries file c.called.result sound.kept in
    let there = subst (λ (f : Files). AreKept f last (without old.entries file)) (sym c.in_ok-put.ensures.ok) kept in
    let under = keys_without (λ (key : BlockKey). key.block.0 < end_of c.self.inside.reach key.file) old.entries file c.self.invariant.3 in
    let count = without_count old.entries file in
    sound_next size c.put.new.self old c.drop_all.new.blocks (without old.entries file) last c.self.inside.reach c.self.invariant.0 c.drop_all.ensures c.self.invariant.1 (omega (arith, sound.fits, count)) there under
