-- What happened to blocks is told record by record.
use Rattle.std.proofs.Common.{◌≡◌, ◌∙◌, ℕ, ◌+◌, ◌-◌, Bool, true, false, cond, ◌||◌, List, [], ◌∷◌, ◌++◌, Option, Some, nat_le, count_by, refl, sym, ap, ap₂, arith}
use Rattle.std.specs.List.{list_any}
use Rattle.sprite_ids.specs.Lists.{one_if}
use Rattle.unix_calls.specs.declared.event.Rec.{Rec}
use Rattle.call_journal.specs.Past.{since_last}
use Rattle.trace_rules.specs.Lists.{no_more, count_more, any_counted, any_since, any_more}
use Rattle.trace_rules.specs.PlaceLaws.{use_is, place_is}
use Rattle.trace_rules.specs.declared.place.BlockAt.{BlockAt}
use Rattle.trace_rules.specs.declared.place.FileAt.{FileAt}
use Rattle.cache_worth.specs.declared.since.Since.{Since}
use Rattle.cache_worth.specs.declared.since.Step.{Step}
use Rattle.cache_worth.specs.declared.since.Step.TheVariants as step
use Rattle.cache_worth.specs.Lists.{any_either, count_since}
use Rattle.trace_rules.specs.Places.{same_place, same_use, file_of, has_block}
use Rattle.cache_worth.specs.Since.{count_or, takes_kept, takes_at, mark_kept, mark_at, is_kept, has_changed, takes_behind, mark_behind, changed_behind, StepsOn, begins_at, changes_at, takes_in, Reads, TellsSince}

-- ---- looking

-- whether it happened to a block since is told by what is kept
pub changed_law : (begins changes takes : BlockAt → Rec → Bool) (since : Since) (records : List Rec) (at : BlockAt) → TellsSince begins changes takes since records → has_changed since at ≡ list_any (λ (r : Rec). changes at r || takes at r) (since_last (begins at) records)
changed_law begins changes takes since records at told =
    let behind = since_last (begins at) records in
    let all = told.takes_told at in
    let mark = told.marks_told at in
    let left : takes_at since.takes.entries (file_of at) - mark_at since.marks.entries at ≡ count_by (takes at) behind = omega (arith, all, mark) in
    ap₂ (λ a n. a || nat_le 1 n) (told.changed_told at) left
    ∙ ap (λ b. list_any (changes at) behind || b) (any_counted (takes at) behind)
    ∙ sym (any_either (changes at) (takes at) behind)

-- ---- names that are equal

file_is : (a b : BlockAt) → same_place a b ≡ true → file_of a ≡ file_of b
file_is a b h = ap file_of (place_is a b h)

-- ---- one record more

taken : (takes : List (FileAt × ℕ)) (a file : FileAt) (b : Bool) → same_use a file ≡ b → count_or (cond b (Some (takes_at takes a + 1)) (takes_kept takes file)) ≡ takes_at takes file + one_if b
taken takes a file true is = ap (λ f. takes_at takes f + 1) (use_is a file is)
taken takes a file false is = no_more (takes_at takes file)

takes_more : (s : Step) (takes : List (FileAt × ℕ)) (file : FileAt) → count_or (takes_behind s takes file) ≡ takes_at takes file + one_if (takes_in s file)
takes_more (step.Takes a) takes file = taken takes a file (same_use a file) refl
takes_more (step.Begins a) takes file = no_more (takes_at takes file)
takes_more _ takes file = no_more (takes_at takes file)

-- what is told of a block's mark
abbrev Marked : ℕ → ℕ → ℕ → Type 0
Marked mark behind all = mark + behind ≡ all

mark_begun : (takes : List (FileAt × ℕ)) (a at : BlockAt) (before : Option ℕ) (behind all : ℕ) (b : Bool) → same_place a at ≡ b → takes_at takes (file_of at) ≡ all → Marked (count_or before) behind all → Marked (count_or (cond b (Some (takes_at takes (file_of a))) before)) (cond {A = ℕ} b 0 (behind + 0)) (all + 0)
mark_begun takes a at before behind all true is now told = (let h = ap (takes_at takes) (file_is a at is) ∙ now in omega (arith, h))
mark_begun takes a at before behind all false is now told = omega (arith, told)

mark_more : (s : Step) (takes : List (FileAt × ℕ)) (at : BlockAt) (before : Option ℕ) (behind all : ℕ) → takes_at takes (file_of at) ≡ all → Marked (count_or before) behind all → Marked (count_or (mark_behind s takes at before)) (cond {A = ℕ} (begins_at s at) 0 (behind + one_if (takes_in s (file_of at)))) (all + one_if (takes_in s (file_of at)))
mark_more (step.Begins a) takes at before behind all now told = mark_begun takes a at before behind all (same_place a at) refl now told
mark_more (step.Changes a) takes at before behind all now told = omega (arith, told)
mark_more (step.Takes a) takes at before behind all now told = omega (arith, told)
mark_more step.Rests takes at before behind all now told = omega (arith, told)

begun_by : (b : Bool) (n : ℕ) (before : Option ℕ) → is_kept (cond b (Some n) before) ≡ cond b true (is_kept before)
begun_by true n before = refl
begun_by false n before = refl

begun_more : (s : Step) (takes : List (FileAt × ℕ)) (at : BlockAt) (before : Option ℕ) → is_kept (mark_behind s takes at before) ≡ cond (begins_at s at) true (is_kept before)
begun_more (step.Begins a) takes at before = begun_by (same_place a at) (takes_at takes (file_of a)) before
begun_more (step.Changes a) takes at before = refl
begun_more _ takes at before = refl

changed_more : (s : Step) (at : BlockAt) (before : Bool) → changed_behind s at before ≡ cond (begins_at s at) false (cond (changes_at s at) true before)
changed_more (step.Begins a) at before = refl
changed_more (step.Changes a) at before = refl
changed_more _ at before = refl

-- what is kept behind a step is told
pub since_told_on : (begins changes takes : BlockAt → Rec → Bool) (s : Step) (old new : Since) (records : List Rec) (rec : Rec) → Reads begins changes takes s rec → TellsSince begins changes takes old records → StepsOn s old new → TellsSince begins changes takes new (records ++ rec ∷ [])
since_told_on begins changes takes s old new records rec reads told more = record {
  takes_told = λ at.
      ap count_or (more.takes (file_of at))
      ∙ takes_more s old.takes.entries (file_of at)
      ∙ ap₂ (λ n b. n + one_if b) (told.takes_told at) (sym (reads.take at))
      ∙ sym (count_more (takes at) records rec);
  marks_told = λ at.
      let mark = ap count_or (more.marks at) in
      let behind = count_since (begins at) (takes at) records rec ∙ ap₂ (λ b t. cond {A = ℕ} b 0 (count_by (takes at) (since_last (begins at) records) + one_if t)) (reads.begin at) (reads.take at) in
      let all = count_more (takes at) records rec ∙ ap (λ t. count_by (takes at) records + one_if t) (reads.take at) in
      ap₂ (λ m n. m + n) mark behind
      ∙ mark_more s old.takes.entries at (mark_kept old.marks.entries at) (count_by (takes at) (since_last (begins at) records)) (count_by (takes at) records) (told.takes_told at) (told.marks_told at)
      ∙ sym all;
  begun_told = λ at.
      ap is_kept (more.marks at)
      ∙ begun_more s old.takes.entries at (mark_kept old.marks.entries at)
      ∙ ap₂ (λ b n. cond b true n) (sym (reads.begin at)) (told.begun_told at)
      ∙ sym (any_more (begins at) records rec);
  changed_told = λ at.
      more.changed at
      ∙ changed_more s at (has_block old.changed.keys at)
      ∙ ap₂ (λ b n. cond b false n) (sym (reads.begin at)) (ap₂ (λ b n. cond b true n) (sym (reads.change at)) (told.changed_told at))
      ∙ sym (any_since (begins at) (changes at) records rec);
}
