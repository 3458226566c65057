-- What a trace keeps beside its records, when one is put at its end.
use Rattle.std.proofs.Common.{◌≡◌, ℕ, ◌+◌, ◌<◌, ◌==◌, List, [], ◌∷◌, ◌++◌, cond, ap, sym, subst, ◌∙◌, arith, append-nil, append_assoc, length, slice_index, slice_set}
use Rattle.std.proofs.lemmas.List.{get_or-set_same, get_or-set_other, length-set}
use Rattle.std.proofs.lemmas.List.Sums.{sum_by-append}
use Rattle.unix_calls.specs.declared.event.Event.{Event}
use Rattle.unix_calls.specs.declared.event.Event.TheVariants as event
use Rattle.unix_calls.specs.declared.event.Rec.{Rec}
use Rattle.call_journal.specs.declared.counts.Tally.{Tally}
use Rattle.call_journal.specs.Units.{units_of_event, units_of, kind_of, count_of}
use Rattle.call_journal.specs.Journal.{records_by}
use Rattle.call_journal.specs.Counts.{AreCounts, AreTold, tally_after, tally_more}

-- one unit and those of the data for one more record
pub units_of-more : (trace : List Rec) (rec : Rec) → units_of (trace ++ rec ∷ []) ≡ units_of trace + units_of_event rec.event
units_of-more [] rec = omega arith
units_of-more (x ∷ xs) rec = let rest = units_of-more xs rec in omega (arith, rest)

-- one more of its kind
pub count_of-more : (kind : ℕ) (trace : List Rec) (rec : Rec) → count_of kind (trace ++ rec ∷ []) ≡ count_of kind trace + cond (kind_of rec.event == kind) 1 0
count_of-more kind trace rec = let e = sum_by-append (λ (r : Rec). cond (kind_of r.event == kind) 1 0) trace (rec ∷ []) in omega (arith, e)

-- the count at one place is raised
pub raised : (counts : List ℕ) (at kind : ℕ) → at < length counts → slice_index (slice_set counts at (slice_index counts at + 1)) kind ≡ slice_index counts kind + cond (at == kind) 1 0
raised counts at kind within = grind (arith, get_or-set_same, get_or-set_other)

-- the counts after one more record
pub counted : (trace : List Rec) (rec : Rec) (counts : List ℕ) → kind_of rec.event < 21 → AreCounts trace counts → AreCounts (trace ++ rec ∷ []) (slice_set counts (kind_of rec.event) (slice_index counts (kind_of rec.event) + 1))
counted trace rec counts few h = record {
  all = length-set counts _ _ ∙ h.all;
  each = λ kind within. raised counts (kind_of rec.event) kind (rw h.all few) ∙ ap (λ n. n + cond (kind_of rec.event == kind) 1 0) (h.each kind within) ∙ sym (count_of-more kind trace rec);
}

-- there are no more kinds than are counted
kind_few : (e : Event) → kind_of e < 21
kind_few (event.Burst pid count) = omega arith
kind_few (event.Issue pid number call) = omega arith
kind_few (event.Enter entry) = omega arith
kind_few (event.Return pid number reply) = omega arith
kind_few (event.Send tx to about kind) = omega arith
kind_few (event.Fault a b met) = omega arith
kind_few (event.Deliver tx from reply about) = omega arith
kind_few (event.Expire tx last) = omega arith
kind_few (event.Grant file to stamp mode) = omega arith
kind_few (event.Callback file to stamp kind) = omega arith
kind_few (event.Mode file stamp mode) = omega arith
kind_few (event.Filled file block) = omega arith
kind_few (event.Dropped file block cause) = omega arith
kind_few (event.Dirtied file block) = omega arith
kind_few (event.WroteBack file block) = omega arith
kind_few (event.Opened file stream kernel mode) = omega arith
kind_few (event.Closed file stream kernel mode) = omega arith
kind_few (event.Shared file stream) = omega arith
kind_few (event.Learned prefix server) = omega arith
kind_few (event.Freeze pid) = omega arith
kind_few (event.Thaw pid) = omega arith

-- the tally of one more record
told_more : (trace : List Rec) (rec : Rec) (before : Tally) → AreTold trace before → AreTold (trace ++ rec ∷ []) (tally_more before rec.event)
told_more trace rec before h = record {
  are_units = ap (λ n. n + units_of_event rec.event) h.are_units ∙ sym (units_of-more trace rec);
  are_counts = counted trace rec before.counts (kind_few rec.event) h.are_counts;
}

pub told : (trace : List Rec) (rec : Rec) (before later : Tally) → AreTold trace before → later ≡ tally_more before rec.event → AreTold (trace ++ rec ∷ []) later
told trace rec before later h is = subst (AreTold (trace ++ rec ∷ [])) (sym is) (told_more trace rec before h)

-- the tally of some more that a kernel told
told_after : (trace : List Rec) (kernel : ℕ) (events : List Event) (before : Tally) → AreTold trace before → AreTold (trace ++ records_by kernel events) (tally_after before events)
told_after trace kernel [] before h = subst (λ all. AreTold all before) (sym (append-nil trace)) h
told_after trace kernel (e ∷ events) before h =
    let rec : Rec = record { kernel = kernel; event = e } in
    subst (λ all. AreTold all (tally_after (tally_more before e) events)) (append_assoc trace (rec ∷ []) (records_by kernel events))
    (told_after (trace ++ rec ∷ []) kernel events (tally_more before e) (told_more trace rec before h))

pub told_all : (trace : List Rec) (kernel : ℕ) (events : List Event) (before later : Tally) → AreTold trace before → later ≡ tally_after before events → AreTold (trace ++ records_by kernel events) later
told_all trace kernel events before later h is = subst (AreTold (trace ++ records_by kernel events)) (sym is) (told_after trace kernel events before h)
