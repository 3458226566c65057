-- How old the dirty blocks are is told record by record.
use Rattle.std.proofs.Common.{◌≡◌, ◌∙◌, ℕ, ◌+◌, ◌-◌, ◌==◌, Bool, true, false, cond, ◌&&◌, List, [], ◌∷◌, ◌++◌, Option, Some, None, nat_le, count_by, refl, sym, ap, subst, arith}
use Rattle.std.proofs.lemmas.List.Sums.{sum_by_push}
use Rattle.std.proofs.lemmas.Bool.{and_parts, eqb-true}
use Rattle.sprite_ids.specs.Lists.{one_if}
use Rattle.unix_calls.specs.declared.event.Event.{Event}
use Rattle.unix_calls.specs.declared.event.Event.TheVariants as event
use Rattle.unix_calls.specs.declared.event.Rec.{Rec}
use Rattle.sprite_ids.specs.declared.names.FileId.{FileId}
use Rattle.sprite_ids.specs.declared.names.BlockNo.{BlockNo}
use Rattle.call_journal.specs.Past.{since_last}
use Rattle.call_journal.specs.Matching.{is_at}
use Rattle.call_journal.specs.WriteBacks.{is_counted_step, is_dirtied, is_old}
use Rattle.call_journal.proofs.GrowthLaws.{look_backs_grow}
use Rattle.trace_rules.specs.declared.place.BlockAt.{BlockAt}
use Rattle.trace_rules.specs.Lists.{any_more}
use Rattle.write_rules.specs.Ages.{steps_kept, steps_or, steps_at, dirtied_at, is_aged, is_old_in, steps_behind, dirtied_behind, AgesOn, counted, counted_since, was_dirtied, Aged, TellsAges}

-- ---- looking

aged : (at : BlockAt) (records : List Rec) (o : Option ℕ) (steps : ℕ) → steps ≡ counted at.kernel records → Aged at records o → is_aged steps o ≡ is_old at.kernel at.file at.block records
aged at records None steps is told = sym (ap (λ b. b && nat_le 30 (counted_since at records)) told)
aged at records (Some before) steps is told =
    let left : steps - before ≡ counted_since at records = (let since = told.1 in omega (arith, is, since)) in
    ap (nat_le 30) left ∙ sym (ap (λ b. b && nat_le 30 (counted_since at records)) told.0)

-- whether a block is old enough is told by what is kept
pub age_told : (steps : List (ℕ × ℕ)) (dirtied : List (BlockAt × ℕ)) (records : List Rec) (at : BlockAt) → TellsAges steps dirtied records → is_old_in steps dirtied at ≡ is_old at.kernel at.file at.block records
age_told steps dirtied records at told =
    aged at records (dirtied_at dirtied at) (steps_at steps at.kernel) (told.steps_told at.kernel) (told.dirtied_told at)

-- ---- one record more

count_more : (test : Rec → Bool) (rs : List Rec) (r : Rec) → count_by test (rs ++ r ∷ []) ≡ count_by test rs + one_if (test r)
count_more test rs r = sum_by_push (λ (x : Rec). cond {A = ℕ} (test x) 1 0) rs r ∙ ap (λ n. count_by test rs + n) (by (test r))
  where
    by : (b : Bool) → cond {A = ℕ} b 1 0 ≡ one_if b
    by true = refl
    by false = refl

one_more : (kernel other count : ℕ) (before : Option ℕ) (b : Bool) → (kernel == other) ≡ b → (kernel ≡ other → count ≡ steps_or before) → steps_or (cond b (Some (count + 1)) before) ≡ steps_or before + one_if (b && true)
one_more kernel other count before true is same = ap (λ n. n + 1) (same (eqb-true kernel other is))
one_more kernel other count before false is same = omega arith

none_more : (n : ℕ) (b : Bool) → n ≡ n + one_if (b && false)
none_more n true = omega arith
none_more n false = omega arith

steps_more : (kernel other count : ℕ) (e : Event) (before : Option ℕ) → (kernel ≡ other → count ≡ steps_or before) → steps_or (steps_behind kernel e other count before) ≡ steps_or before + one_if (kernel == other && is_counted_step e)
steps_more kernel other count (event.Burst pid many) before same = one_more kernel other count before (kernel == other) refl same
steps_more kernel other count (event.Deliver tx from reply about) before same = one_more kernel other count before (kernel == other) refl same
steps_more kernel other count (event.Expire tx last) before same = one_more kernel other count before (kernel == other) refl same
steps_more kernel other count _ before same = none_more (steps_or before) (kernel == other)

stays : (b : Bool) (count : ℕ) (before : Option ℕ) → before ≡ cond (b && false) (Some count) before
stays true count before = refl
stays false count before = refl

dirtied_by : (kernel : ℕ) (e : Event) (at : BlockAt) (count : ℕ) (before : Option ℕ) → dirtied_behind kernel e at count before ≡ cond (kernel == at.kernel && is_dirtied at.file at.block e) (Some count) before
dirtied_by kernel (event.Dirtied file block) at count before = refl
dirtied_by kernel _ at count before = stays (kernel == at.kernel) count before

-- what makes a block dirty is no counted step
not_counted : (file : FileId) (block : BlockNo) (e : Event) → is_dirtied file block e ≡ true → is_counted_step e ≡ false
not_counted file block (event.Dirtied f b) is = refl
not_counted file block _ is = absurd (cc is)

aged_more : (at : BlockAt) (records : List Rec) (rec : Rec) (count : ℕ) (before : Option ℕ) (d : Bool) → is_at at.kernel (is_dirtied at.file at.block) rec ≡ d → (rec.kernel ≡ at.kernel → count ≡ counted at.kernel records) → Aged at records before → Aged at (records ++ rec ∷ []) (cond d (Some count) before)
aged_more at records rec count before true is same told =
    let parts = and_parts (rec.kernel == at.kernel) (is_dirtied at.file at.block rec.event) is in
    let here = same (eqb-true rec.kernel at.kernel parts.0) in
    let any = any_more (is_at at.kernel (is_dirtied at.file at.block)) records rec ∙ ap (λ b. cond b true (was_dirtied at records)) is in
    let none : counted_since at (records ++ rec ∷ []) ≡ 0 = ap (counted at.kernel) (look_backs_grow.sinces (is_at at.kernel (is_dirtied at.file at.block)) records rec ∙ ap (λ (b : Bool). cond {A = List Rec} b [] (since_last (is_at at.kernel (is_dirtied at.file at.block)) records ++ rec ∷ [])) is) in
    let all : counted at.kernel (records ++ rec ∷ []) ≡ counted at.kernel records + 0 = count_more (is_at at.kernel is_counted_step) records rec ∙ ap (λ b. counted at.kernel records + one_if b) (ap (λ b. rec.kernel == at.kernel && b) (not_counted at.file at.block rec.event parts.1) ∙ ap (λ b. b && false) parts.0) in
    (any, omega (arith, none, all, here))
aged_more at records rec count None false is same told =
    any_more (is_at at.kernel (is_dirtied at.file at.block)) records rec ∙ ap (λ b. cond b true (was_dirtied at records)) is ∙ told
aged_more at records rec count (Some before) false is same told =
    let any = any_more (is_at at.kernel (is_dirtied at.file at.block)) records rec ∙ ap (λ b. cond b true (was_dirtied at records)) is ∙ told.0 in
    let test = is_at at.kernel (is_dirtied at.file at.block) in
    let more : counted_since at (records ++ rec ∷ []) ≡ counted_since at records + one_if (is_at at.kernel is_counted_step rec) =
    ap (counted at.kernel) (look_backs_grow.sinces test records rec ∙ ap (λ (b : Bool). cond {A = List Rec} b [] (since_last test records ++ rec ∷ [])) is)
    ∙ count_more (is_at at.kernel is_counted_step) (since_last test records) rec in
    let all = count_more (is_at at.kernel is_counted_step) records rec in
    let was = told.1 in
    (any, omega (arith, more, all, was))

pub ages_told_on : (rec : Rec) (steps steps_after : List (ℕ × ℕ)) (dirtied dirtied_after : List (BlockAt × ℕ)) (records : List Rec) → TellsAges steps dirtied records → AgesOn rec steps dirtied steps_after dirtied_after → TellsAges steps_after dirtied_after (records ++ rec ∷ [])
ages_told_on rec steps steps_after dirtied dirtied_after records told more = record {
  steps_told = λ kernel.
      ap steps_or (more.0 kernel)
      ∙ steps_more rec.kernel kernel (steps_at steps rec.kernel) rec.event (steps_kept steps kernel) (λ same. ap (steps_at steps) same)
      ∙ ap (λ n. n + one_if (is_at kernel is_counted_step rec)) (told.steps_told kernel)
      ∙ sym (count_more (is_at kernel is_counted_step) records rec);
  dirtied_told = λ at.
      subst (λ (o : Option ℕ). Aged at (records ++ rec ∷ []) o)
      (sym (more.1 at ∙ dirtied_by rec.kernel rec.event at (steps_at steps rec.kernel) (dirtied_at dirtied at)))
      (aged_more at records rec (steps_at steps rec.kernel) (dirtied_at dirtied at) (is_at at.kernel (is_dirtied at.file at.block) rec) refl (λ same. ap (steps_at steps) same ∙ told.steps_told at.kernel) (told.dirtied_told at));
}
