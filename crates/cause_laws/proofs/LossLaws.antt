-- Eight losses behind each entry that calls a server unreachable.
use Rattle.std.proofs.Common.{arith, ◌≡◌, ◌∙◌, ℕ, ◌+◌, ◌≤◌, ◌==◌, Bool, true, false, ◌&&◌, ◌||◌, not, cond, List, [], ◌∷◌, ◌++◌, refl, sym, ap, subst, nat_le}
use Rattle.std.specs.Prelude.{count_by, if◌then◌else◌}
use Rattle.std.specs.List.{list_any}
use Rattle.std.proofs.lemmas.Bool.{and_parts, leb-true}
use Rattle.std.proofs.lemmas.List.Sums.{sum_by-append}
use Rattle.unix_calls.specs.declared.Description.{Description}
use Rattle.unix_calls.specs.declared.Entry.{Entry}
use Rattle.unix_calls.specs.declared.Event.{Event}
use Rattle.unix_calls.specs.declared.Event.TheVariants as event
use Rattle.unix_calls.specs.declared.Rec.{Rec}
use Rattle.call_journal.specs.Matching.{has_event, is_about, is_at, is_expire, is_last_expire, is_loss, is_reply_from}
use Rattle.call_journal.specs.Past.{Past, each_from, no_past, past_from, past_with, some_then}
use Rattle.call_journal.specs.Unreachable.{gave_up, gave_up_from, has_cause, is_given_up, is_unreachable_entry, keeps_cause, lost_eight, may_give_up, unreachable_for_cause}
use Rattle.call_journal.proofs.GrowthLaws.{records_of-past}
use Rattle.cause_laws.specs.Losses.{LossesBehind, UnreachableFollowsLosses, losses_between}

-- losses of a list that is put together
losses_more : (a b : ℕ) (xs ys : List Rec) → losses_between a b (xs ++ ys) ≡ losses_between a b xs + losses_between a b ys
losses_more a b xs ys = sum_by-append (λ (r : Rec). cond (has_event (is_loss a b) r) 1 0) xs ys

-- a send that was given up has eight losses behind it
given_up_lost : (kernel tx to : ℕ) (between rest : List Rec) → gave_up_from kernel tx to between rest ≡ true → 8 ≤ losses_between kernel to between + losses_between kernel to rest
given_up_lost kernel tx to between [] gave = absurd (cc)
given_up_lost kernel tx to between (rec ∷ rest) gave = by_first (is_at kernel (is_last_expire tx) rec && count_by (is_at kernel (is_expire tx)) between == 7 && lost_eight kernel tx to between) refl (λ h. given_up_lost kernel tx to (between ++ rec ∷ []) rest h) gave
  where
    by_first : (first : Bool) → (is_at kernel (is_last_expire tx) rec && count_by (is_at kernel (is_expire tx)) between == 7 && lost_eight kernel tx to between) ≡ first → (gave_up_from kernel tx to (between ++ rec ∷ []) rest ≡ true → 8 ≤ losses_between kernel to (between ++ rec ∷ []) + losses_between kernel to rest) → (first || gave_up_from kernel tx to (between ++ rec ∷ []) rest) ≡ true → 8 ≤ losses_between kernel to between + losses_between kernel to (rec ∷ rest)
    by_first true is later gave =
        (let lost = (and_parts (is_at kernel (is_last_expire tx) rec && count_by (is_at kernel (is_expire tx)) between == 7) (lost_eight kernel tx to between) is).1 in
        let eight = leb-true 8 (losses_between kernel to between) (and_parts (nat_le 8 (losses_between kernel to between)) (not (list_any (is_at kernel (is_reply_from tx to)) between)) lost).0 in
        omega arith)
    by_first false is later gave =
        (let lost = later gave in
        let one = losses_more kernel to between (rec ∷ []) in
        let two = losses_more kernel to (rec ∷ []) rest in
        omega arith)

-- so has one event of a call
event_lost : (c : Description) (kernel pid number : ℕ) (e : Event) (rest : List Rec) → is_given_up c kernel pid number e rest ≡ true → (to : ℕ) × (8 ≤ losses_between kernel to rest)
event_lost c kernel pid number (event.Send tx to about kind) rest given =
    (let lost = given_up_lost kernel tx.0 to [] rest (and_parts (is_about pid number about && may_give_up c to kind) (gave_up kernel tx.0 to rest) given).1 in (to, omega arith))
event_lost c kernel pid number _ rest given = absurd (cc)

-- and some of a list
some_lost : (c : Description) (kernel pid number : ℕ) (recs : List Rec) → some_then (λ (r : Rec) rest. r.kernel == kernel && is_given_up c kernel pid number r.event rest) recs ≡ true → (to : ℕ) × (8 ≤ losses_between kernel to recs)
some_lost c kernel pid number [] some = absurd (cc)
some_lost c kernel pid number (rec ∷ recs) some = by_first (rec.kernel == kernel && is_given_up c kernel pid number rec.event recs) refl (λ h. some_lost c kernel pid number recs h) some
  where
    put : (to : ℕ) → 8 ≤ losses_between kernel to recs → 8 ≤ losses_between kernel to (rec ∷ recs)
    put to lost = (let more = losses_more kernel to (rec ∷ []) recs in omega arith)

    by_first : (first : Bool) → (rec.kernel == kernel && is_given_up c kernel pid number rec.event recs) ≡ first → (some_then (λ (r : Rec) rest. r.kernel == kernel && is_given_up c kernel pid number r.event rest) recs ≡ true → (to : ℕ) × (8 ≤ losses_between kernel to recs)) → (first || some_then (λ (r : Rec) rest. r.kernel == kernel && is_given_up c kernel pid number r.event rest) recs) ≡ true → (to : ℕ) × (8 ≤ losses_between kernel to (rec ∷ recs))
    by_first true is later given = (let found = event_lost c kernel pid number rec.event recs (and_parts (rec.kernel == kernel) (is_given_up c kernel pid number rec.event recs) is).1 in (found.0, put found.0 found.1))
    by_first false is later given = (let found = later given in (found.0, put found.0 found.1))

-- an entry in its place
entry_lost : (c : Description) (past : Past) (kernel : ℕ) (entry : Entry) → is_unreachable_entry entry ≡ true → keeps_cause c past kernel (event.Enter entry) ≡ true → (to : ℕ) × (8 ≤ losses_between kernel to past.records)
entry_lost c past kernel entry calls kept = some_lost c kernel entry.pid entry.number past.records (by_test (is_unreachable_entry entry) calls kept)
  where
    by_test : (test : Bool) → test ≡ true → (if test then has_cause c past kernel entry else true) ≡ true → has_cause c past kernel entry ≡ true
    by_test true is kept = kept
    by_test false is kept = absurd (cc)

-- what each record keeps, that at a place keeps
at_place : (c : Description) (past : Past) (before : List Rec) (rec : Rec) (rest : List Rec) → each_from c (λ (p : Past) (r : Rec) (behind : List Rec). keeps_cause c p r.kernel r.event) past (before ++ rec ∷ rest) ≡ true → keeps_cause c (past_from c past before) rec.kernel rec.event ≡ true
at_place c past [] rec rest each = (and_parts (keeps_cause c past rec.kernel rec.event) (each_from c (λ (p : Past) (r : Rec) (behind : List Rec). keeps_cause c p r.kernel r.event) (past_with c rec past) rest) each).0
at_place c past (first ∷ before) rec rest each =
    at_place c (past_with c first past) before rec rest (and_parts (keeps_cause c past first.kernel first.event) (each_from c (λ (p : Past) (r : Rec) (behind : List Rec). keeps_cause c p r.kernel r.event) (past_with c first past) (before ++ rec ∷ rest)) each).1

pub follows_losses : UnreachableFollowsLosses
follows_losses c trace for_cause before rest kernel entry is calls =
    (let found = entry_lost c (past_from c (no_past c) before) kernel entry calls (at_place c (no_past c) before (record { kernel = kernel; event = event.Enter entry }) rest (subst (λ (t : List Rec). unreachable_for_cause c t ≡ true) is for_cause)) in
    (found.0, subst (λ (recs : List Rec). 8 ≤ losses_between kernel found.0 recs) (records_of-past c (no_past c) before) found.1))
