-- The bursts of a trace are worth exactly where each is whole or has its reason, and each keeps the count.
use Rattle.std.proofs.Common.{◌≡◌, ◌∙◌, ◌≤◌, ◌<◌, ℕ, zero, suc, ◌+◌, ◌==◌, Bool, true, false, ◌&&◌, ◌||◌, List, [], ◌∷◌, nat_le, nat_lt, drop, slice_get, refl, sym, ap, ap₂, arith, le-leb, leb-true, ltb-true, ltb-false, eq-eqb}
use Rattle.unix_calls.specs.declared.description.Description.{Description}
use Rattle.unix_calls.specs.declared.event.Event.{Event}
use Rattle.unix_calls.specs.declared.event.Event.TheVariants as event
use Rattle.unix_calls.specs.declared.event.Rec.{Rec}
use Rattle.call_journal.specs.Formed.{next_is}
use Rattle.call_journal.specs.Past.{Past, each_from, no_past, past_with}
use Rattle.call_journal.specs.WorthBursts.{bursts_are_worth, counts_well, done_since_entry, due_in, is_at_most, is_reason, is_whole_burst}
use Rattle.trace_bursts.specs.Reasons.{are_whole, bursts_are_counted, first, is_reason_if, is_whole_at, keeps_count}

-- the reason of a short burst is the first record behind it
reason_is : (kernel pid : ℕ) (rest : List Rec) → next_is (is_reason kernel pid) rest ≡ is_reason_if kernel pid (first rest)
reason_is kernel pid [] = refl
reason_is kernel pid (rec ∷ rest) = refl

-- fewer, where it isn't whole
short_by : (count : ℕ) (e l s : Bool) (why : Bool) → (count == 10000) ≡ e → nat_le count 10000 ≡ l → nat_lt count 10000 ≡ s → (e || (l && why)) ≡ (e || (s && why))
short_by count true l s why is few less = refl
short_by count false true true why is few less = refl
short_by count false false false why is few less = refl
short_by count false true false why is few less =
    let most : count ≤ 10000 = leb-true count 10000 few in
    let no_less : 10000 ≤ count = ltb-false count 10000 less in
    let same : true ≡ false = sym (eq-eqb count 10000 (omega (arith, most, no_less))) ∙ is in
    absurd (cc (same))
short_by count false false true why is few less =
    let below : count < 10000 = ltb-true count 10000 less in
    let few_too : true ≡ false = sym (le-leb count 10000 (omega (arith, below))) ∙ few in
    absurd (cc (few_too))

whole_is : (kernel pid count : ℕ) (rest : List Rec) → is_whole_burst kernel pid count rest ≡ is_whole_at kernel (event.Burst pid count) (first rest)
whole_is kernel pid count rest =
    ap (λ b. count == 10000 || (nat_le count 10000 && b)) (reason_is kernel pid rest)
    ∙ short_by count (count == 10000) (nat_le count 10000) (nat_lt count 10000) (is_reason_if kernel pid (first rest)) refl refl refl

one_by : (c : Description) (past : Past) (kernel : ℕ) (e : Event) (rest : List Rec) → counts_well c past kernel e rest ≡ (is_whole_at kernel e (first rest) && keeps_count c past e)
one_by c past kernel (event.Burst pid count) rest = ap (λ b. b && is_at_most (done_since_entry pid past.records + count) (due_in c past pid)) (whole_is kernel pid count rest)
one_by c past kernel (event.Issue pid number call) rest = refl
one_by c past kernel (event.Enter entry) rest = refl
one_by c past kernel _ rest = refl

and_between : (a b x y : Bool) → ((a && b) && (x && y)) ≡ ((a && x) && (b && y))
and_between true true x y = refl
and_between true false true y = refl
and_between true false false y = refl
and_between false b x y = refl

each_by : (c : Description) (past : Past) (trace : List Rec) → each_from c (λ p rec rest. counts_well c p rec.kernel rec.event rest) past trace ≡ (are_whole trace && each_from c (λ p rec rest. keeps_count c p rec.event) past trace)
each_by c past [] = refl
each_by c past (rec ∷ rest) =
    ap₂ (λ a b. a && b) (one_by c past rec.kernel rec.event rest) (each_by c (past_with c rec past) rest)
    ∙ and_between (is_whole_at rec.kernel rec.event (first rest)) (keeps_count c past rec.event) (are_whole rest) (each_from c (λ p r behind. keeps_count c p r.event) (past_with c rec past) rest)

pub worth_is : (c : Description) (trace : List Rec) → bursts_are_worth c trace ≡ (are_whole trace && bursts_are_counted c trace)
worth_is c trace = each_by c (no_past c) trace

-- ---- the loop

first_is : (trace : List Rec) (place : ℕ) → slice_get trace place ≡ first (drop place trace)
first_is [] zero = refl
first_is [] (suc n) = refl
first_is (rec ∷ rest) zero = refl
first_is (rec ∷ rest) (suc n) = first_is rest n

-- one record more
pub whole_goes : (trace : List Rec) (place : ℕ) (rec : Rec) → drop place trace ≡ rec ∷ drop (place + 1) trace → are_whole (drop place trace) ≡ (is_whole_at rec.kernel rec.event (slice_get trace (place + 1)) && are_whole (drop (place + 1) trace))
whole_goes trace place rec cut =
    ap are_whole cut ∙ ap (λ o. is_whole_at rec.kernel rec.event o && are_whole (drop (place + 1) trace)) (sym (first_is trace (place + 1)))
