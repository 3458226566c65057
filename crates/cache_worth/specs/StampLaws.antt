-- The stamps that kernels were given and took are told record by record.
use Rattle.std.proofs.Common.{◌≡◌, ◌∙◌, ℕ, ◌==◌, Bool, true, false, cond, ◌&&◌, List, Some, nat_lt, refl, sym, ap, ap₂}
use Rattle.unix_calls.specs.declared.description.Description.{Description}
use Rattle.unix_calls.specs.declared.event.Event.{Event}
use Rattle.unix_calls.specs.declared.event.Event.TheVariants as event
use Rattle.unix_calls.specs.declared.event.Rec.{Rec}
use Rattle.call_journal.specs.Past.{Past, past_with}
use Rattle.call_journal.specs.Matching.{same_file, has_event}
use Rattle.call_journal.specs.Drops.{is_given}
use Rattle.call_journal.specs.WorthCaches.{took_less}
use Rattle.trace_rules.specs.Lists.{and_true, all_more, any_more}
use Rattle.trace_rules.specs.Greatest.{is_less, later}
use Rattle.trace_rules.specs.GreatestLaws.{later_less}
use Rattle.trace_rules.specs.PlaceLaws.{use_is}
use Rattle.trace_rules.specs.declared.place.FileAt.{FileAt}
use Rattle.trace_rules.specs.declared.place.StampAt.{StampAt}
use Rattle.cache_worth.specs.declared.stamps.Stamps.{Stamps}
use Rattle.cache_worth.specs.Parts.{stamps_well}
use Rattle.trace_rules.specs.Places.{same_use, has_stamp}
use Rattle.cache_worth.specs.Stamps.{greatest, may_take, greatest_behind, given_behind, TakesOn, takes_less, TellsStamps}

-- ---- looking

told_of : (judge : Stamps) (past : Past) (kernel : ℕ) (e : Event) → TellsStamps judge.taken.entries judge.given.keys past.records → stamps_well past kernel e ≡ may_take judge.taken.entries judge.given.keys kernel e
told_of judge past kernel (event.Mode f s m) told =
    ap₂ (λ a b. a && b) (sym (told.taken_told (record { kernel = kernel; file = f }) s)) (sym (told.given_told (record { kernel = kernel; file = f; stamp = s })))
told_of judge past kernel (event.Filled f b) told = refl
told_of judge past kernel _ told = refl

pub stamps_told : (c : Description) (judge : Stamps) (past : Past) (rec : Rec) → TellsStamps judge.taken.entries judge.given.keys past.records → stamps_well past rec.kernel rec.event ≡ may_take judge.taken.entries judge.given.keys rec.kernel rec.event
stamps_told c judge past rec told = told_of judge past rec.kernel rec.event told

-- ---- one record more

taken_by : (taken : List (FileAt × ℕ)) (from at : FileAt) (stamp x : ℕ) (b : Bool) → same_use from at ≡ b → is_less (cond b (Some (later stamp (greatest taken from))) (greatest taken at)) x ≡ (is_less (greatest taken at) x && cond {A = Bool} b (nat_lt stamp x) true)
taken_by taken from at stamp x true is = ap (λ f. nat_lt (later stamp (greatest taken f)) x) (use_is from at is) ∙ later_less stamp (greatest taken at) x
taken_by taken from at stamp x false is = sym (and_true (is_less (greatest taken at) x))

taken_more : (kernel : ℕ) (e : Event) (taken : List (FileAt × ℕ)) (at : FileAt) (x : ℕ) → is_less (greatest_behind kernel e taken at) x ≡ (is_less (greatest taken at) x && took_less at.kernel at.file x kernel e)
taken_more kernel (event.Mode f s m) taken at x =
    let from : FileAt = record { kernel = kernel; file = f } in
    taken_by taken from at s x (same_use from at) refl
taken_more kernel (event.Filled f b) taken at x = sym (and_true (is_less (greatest taken at) x))
taken_more kernel _ taken at x = sym (and_true (is_less (greatest taken at) x))

turned : (a b c : Bool) (before : Bool) → cond (a && (b && c)) true before ≡ cond ((b && a) && c) true before
turned true true c before = refl
turned true false c before = refl
turned false true c before = refl
turned false false c before = refl

given_more : (e : Event) (at : StampAt) (before : Bool) → given_behind e at before ≡ cond (is_given at.kernel at.file at.stamp e) true before
given_more (event.Grant f to s m) at before = turned (to == at.kernel) (same_file f at.file) (s == at.stamp) before
given_more (event.Callback f to s k) at before = turned (to == at.kernel) (same_file f at.file) (s == at.stamp) before
given_more _ at before = refl

pub stamps_told_on : (c : Description) (old new : Stamps) (past : Past) (rec : Rec) → TellsStamps old.taken.entries old.given.keys past.records → TakesOn rec old.taken.entries new.taken.entries old.given.keys new.given.keys → TellsStamps new.taken.entries new.given.keys (past_with c rec past).records
stamps_told_on c old new past rec told more = record {
  taken_told = λ at stamp.
      ap (λ o. is_less o stamp) (more.takes at)
      ∙ taken_more rec.kernel rec.event old.taken.entries at stamp
      ∙ ap (λ b. b && takes_less at stamp rec) (told.taken_told at stamp)
      ∙ sym (all_more (takes_less at stamp) past.records rec);
  given_told = λ at.
      more.gives at
      ∙ given_more rec.event at (has_stamp old.given.keys at)
      ∙ ap (λ b. cond (is_given at.kernel at.file at.stamp rec.event) true b) (told.given_told at)
      ∙ sym (any_more (has_event (is_given at.kernel at.file at.stamp)) past.records rec);
}
