-- The opens that are those of moves.
use Rattle.std.proofs.Common.{◌≡◌, ◌∙◌, ℕ, zero, suc, ◌+◌, ◌-◌, ◌*◌, Bool, true, false, cond, ◌&&◌, not, List, [], ◌∷◌, map, take, drop, length, nat_le, Option, Some, refl, sym, ap, ap₂, add-one, arith}
use Rattle.std.proofs.lemmas.List.{take_rest}
use Rattle.std.specs.Prelude.{count_by}
use Rattle.std.specs.Option.{is_some}
use Rattle.sprite_ids.specs.Lists.{one_if}
use Rattle.unix_calls.specs.declared.description.Description.{Description}
use Rattle.unix_calls.specs.declared.event.Event.{Event}
use Rattle.unix_calls.specs.declared.event.Rec.{Rec}
use Rattle.unix_calls.specs.declared.state.Stream.{Stream}
use Rattle.unix_calls.specs.State.{Unix}
use Rattle.unix_calls.specs.Boot.{boot_of}
use Rattle.call_journal.specs.Past.{Seen, opening_of, seen_from, state_by}
use Rattle.call_journal.specs.Matching.{has_event}
use Rattle.call_journal.specs.WorthRecords.{is_any_opened, is_any_freeze, is_opening_next, moved_opens, are_moved_opens_few}
use Rattle.trace_forms.specs.Openings.{openings_from, openings_of}

-- whether the first of some records makes a stream of a file
abbrev pub is_made_next : List (Option Stream) → Bool
is_made_next [] = false
is_made_next (made ∷ rest) = is_some made

abbrev pub is_moved_open : Event → List (Option Stream) → Bool
is_moved_open e behind = is_any_opened e && not (is_made_next behind)

abbrev pub behind_first : List (Option Stream) → List (Option Stream)
behind_first [] = []
behind_first (made ∷ rest) = rest

-- how many opens of some records are those of moves
abbrev pub moved_in : List Rec → List (Option Stream) → ℕ
moved_in [] openings = 0
moved_in (rec ∷ rest) openings = one_if (is_moved_open rec.event (behind_first openings)) + moved_in rest (behind_first openings)

next_told : (seens : List Seen) → is_made_next (map opening_of seens) ≡ is_opening_next seens
next_told [] = refl
next_told (seen ∷ rest) = refl

one_by : (b : Bool) → one_if b ≡ cond {A = ℕ} b 1 0
one_by true = refl
one_by false = refl

moved_told : (c : Description) (u : Option Unix) (trace : List Rec) → moved_in trace (openings_from c u trace) ≡ moved_opens (seen_from c u trace)
moved_told c u [] = refl
moved_told c u (rec ∷ rest) =
    let later = state_by c rec.event u in
    ap₂ (λ m n. m + n)
    (ap (λ b. one_if (is_any_opened rec.event && not b)) (next_told (seen_from c later rest)) ∙ one_by (is_any_opened rec.event && not (is_opening_next (seen_from c later rest))))
    (moved_told c later rest)

-- few are told by what the records make
pub few_told : (c : Description) (trace : List Rec) (openings : List (Option Stream)) (moved freezes : ℕ) → openings ≡ openings_of c trace → moved ≡ moved_in trace openings → freezes ≡ count_by (has_event is_any_freeze) trace → nat_le moved (16 * freezes) ≡ are_moved_opens_few c trace
few_told c trace openings moved freezes is counted frozen =
    ap₂ (λ n m. nat_le n (16 * m)) (counted ∙ ap (moved_in trace) is ∙ moved_told c (Some (boot_of c)) trace) frozen

-- behind the last one
pub all_counted : (count all : ℕ) (trace : List Rec) (openings : List (Option Stream)) → trace ≡ [] → count + moved_in trace openings ≡ all → count ≡ all
all_counted count all trace openings none so_far =
    let nothing : moved_in trace openings ≡ 0 = ap (λ rs. moved_in rs openings) none in
    omega (arith, nothing, so_far)

-- ---- counting

behind_at : (i : ℕ) (os : List (Option Stream)) → behind_first (drop i os) ≡ drop (suc i) os
behind_at zero [] = refl
behind_at zero (o ∷ os) = refl
behind_at (suc i) [] = refl
behind_at (suc i) (o ∷ os) = behind_at i os

behind_is : (i : ℕ) (os : List (Option Stream)) → behind_first (drop i os) ≡ drop (i + 1) os
behind_is i os = rw add-one (behind_at i os)

summed : (count one rest all : ℕ) → count + (one + rest) ≡ all → (count + one) + rest ≡ all
summed count one rest all is = omega (arith, is)

-- one record further
pub moved_on : (count next : ℕ) (rec : Rec) (trace : List Rec) (openings : List (Option Stream)) (place : ℕ) (moved : Bool) (all : ℕ) → drop place trace ≡ rec ∷ drop (place + 1) trace → count + moved_in (drop place trace) (drop place openings) ≡ all → moved ≡ is_moved_open rec.event (take (length openings - (place + 1)) (drop (place + 1) openings)) → next ≡ count + one_if moved → next + moved_in (drop (place + 1) trace) (drop (place + 1) openings) ≡ all
moved_on count next rec trace openings place moved all cut so_far is more =
    let later = drop (place + 1) openings in
    let here : is_moved_open rec.event (behind_first (drop place openings)) ≡ moved = ap (is_moved_open rec.event) (behind_is place openings ∙ sym (take_rest openings (place + 1))) ∙ sym is in
    let first : count + (one_if moved + moved_in (drop (place + 1) trace) later) ≡ all =
    ap₂ (λ b os. count + (one_if b + moved_in (drop (place + 1) trace) os)) (sym here) (sym (behind_is place openings))
    ∙ sym (ap (λ rs. count + moved_in rs (drop place openings)) cut)
    ∙ so_far in
    ap (λ n. n + moved_in (drop (place + 1) trace) later) more
    ∙ summed count (one_if moved) (moved_in (drop (place + 1) trace) later) all first

-- each record makes a stream of a file, or none
count_from : (c : Description) (u : Option Unix) (trace : List Rec) → length (openings_from c u trace) ≡ length trace
count_from c u [] = refl
count_from c u (rec ∷ rest) = ap suc (count_from c (state_by c rec.event u) rest)

pub openings_count : (c : Description) (trace : List Rec) → length (openings_of c trace) ≡ length trace
openings_count c trace = count_from c (Some (boot_of c)) trace
