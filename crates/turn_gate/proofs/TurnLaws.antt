-- The steps of one turn, at the seats that the calls before them leave.
use Rattle.std.proofs.Common.{◌≡◌, ℕ, ◌+◌, ◌-◌, ◌%◌, ◌^◌, ◌≤◌, ◌≢◌, List, [], ◌∷◌, ◌++◌, length, drop, Option, Some, None, sym, refl, ap, ap₂, ◌∙◌, subst, arith, length-append, append-nil, append_assoc, le_refl, le_trans}
use Rattle.atomic_table.specs.Table.{Me, Allows, rest}
use Rattle.turn_gate.specs.declared.view.View.{View}
use Rattle.turn_gate.specs.Rule.{items_of}
use Rattle.turn_gate.specs.Steps.{log_of, with_ticket, counted, done, Grows, Told, Looks, Counts, Raises, IsIdle, IsServed, IsPlain, AllBy, Taken, Later}
use Rattle.turn_gate.proofs.SmallLaws.{items_append, items_all, drop_front, some_not}
use Rattle.turn_gate.proofs.RuleLaws.{K}
use Rattle.turn_gate.proofs.StepLaws.{looks, counts, raises}

pub longer : {A : Type 0} (xs ys zs : List A) (n b : ℕ) → ys ≡ xs ++ zs → n ≡ length ys → b ≡ length xs → length xs + (n - b) ≡ length ys
longer xs ys zs n b e f h = let l : length ys ≡ length xs + length zs = ap (λ l. length l) e ∙ length-append xs zs in omega arith

pub front : {S : Type 0} (c : List (ℕ × S)) (y : S) → c ≡ (0, y) ∷ [] → c ≡ (0, y) ∷ rest c
front c y e = e ∙ ap (λ z. (0, y) ∷ rest z) (sym e)

-- what the look tells a seat whose ticket is served
pub got : {V O I : Type 0} (origin : V → O) (logof : V → List (ℕ × I)) (holds : V → Type 0) (t : ℕ) (v : View O I) (me m : Me (Option V) (View O I)) (found : ℕ) → me ≡ (with_ticket v (Some t) None, []) → Looks origin logof holds me found m → found ≡ t % 2 ^ 64
    → (x : V) × (m ≡ (with_ticket v (Some t) (Some (logof x)), (0, Some x) ∷ [])) × Told (origin x) (logof x) v × holds x
got {V} {O} {I} origin logof holds t v me m found e looked hit =
    let r = (looked t (ap (λ (z : Me (Option V) (View O I)). z.0.ticket) e)).0 hit in let x = r.0 in
    let told = subst (λ (z : Me (Option V) (View O I)). Told (origin x) (logof x) z.0) e r.2 in (
      x,
      r.1 ∙ ap (λ (z : Me (Option V) (View O I)). (with_ticket z.0 (Some t) (Some (logof x)), (0, Some x) ∷ z.1)) e,
      record { from_start = told.from_start; saw = told.saw; added = told.added; grown = told.grown; stand = told.stand },
      r.3,
    )

-- the seat after the count
pub after_count : {V O I : Type 0} (logof : V → List (ℕ × I)) (before me m : Me (Option V) (View O I)) (x : V) → IsServed before None → me ≡ (before.0, (0, Some x) ∷ rest before.1) → Counts logof me m → m ≡ (counted before.0 (logof x), (0, Some x) ∷ [])
after_count {V} {O} {I} logof before me m x served e told =
    let held : me.1 ≡ (0, Some x) ∷ [] = ap (λ (z : Me (Option V) (View O I)). z.1) e ∙ ap (λ c. (0, Some x) ∷ rest c) served.2 in
    told x held ∙ ap₂ (λ (v : View O I) (c : List (ℕ × Option V)). (counted v (logof x), c)) (ap (λ (z : Me (Option V) (View O I)). z.0) e) held

-- the seat after the turn
pub after_turn : {V O I : Type 0} (logof : V → List (ℕ × I)) (before me m after : Me (Option V) (View O I)) (x : V) → IsServed before None → me ≡ (before.0, (0, Some x) ∷ rest before.1) → Counts logof me m → Raises m after → after ≡ (done before.0 (logof x), [])
after_turn {V} {O} {I} logof before me m after x served e told given = given ∙ ap (λ (z : Me (Option V) (View O I)). (with_ticket z.0 None None, rest z.1)) (after_count logof before me m x served e told)

pub idle_again : {S O I : Type 0} (after : Me S (View O I)) (v : View O I) (l : List (ℕ × I)) → v.origin ≢ None → after ≡ (done v l, []) → IsIdle after
idle_again {S} {O} {I} after v l live e = subst (λ (m : Me S (View O I)). IsIdle m) (sym e) (live, refl, refl, refl)

pub plain_again : {S O I : Type 0} (after : Me S (View O I)) (n : ℕ) (v : View O I) (l : List (ℕ × I)) → IsPlain n v → Grows v.number (log_of v) l → after ≡ (done v l, []) → IsPlain n after.0
plain_again {S} {O} {I} after n v l plain grows e = subst (λ (m : Me S (View O I)). IsPlain n m.0) (sym e)
    (let new = grows.0 in
    let newer : drop (length (log_of v)) l ≡ new = ap (λ z. drop (length (log_of v)) z) grows.1 ∙ drop_front (log_of v) new in
    let all : items_of n new ≡ new = ap (λ k. items_of k new) (sym plain.0) ∙ items_all v.number new grows.2 in (
      plain.0,
      plain.1,
      items_append n v.items (drop (length (log_of v)) l) ∙ ap₂ (λ a b. a ++ b) plain.2 (ap (λ z. items_of n z) newer ∙ (all ∙ sym newer)),
    ))

-- the same seat with its turn begun, and with it ended
pub later_taken : {V O I : Type 0} (origin : V → O) (logof : V → List (ℕ × I)) (x : V) (v w : View O I) → Taken origin logof x v w → Later v w
later_taken {V} {O} {I} origin logof x v w t = subst (λ (z : View O I). Later v z) (sym t.1) (record { origin = refl; opening = refl; number = refl; keeps = refl; tally = refl; items = ([], sym (append-nil v.items), tt); seen = le_refl v.seen })

pub later_put : {O I : Type 0} (v w : View O I) (l : List (ℕ × I)) → Grows v.number (log_of v) l → v.seen ≤ length (log_of v) → w ≡ done v l → Later v w
later_put {O} {I} v w l grows saw e =
    let new = grows.0 in
    let newer : drop (length (log_of v)) l ≡ new = ap (λ z. drop (length (log_of v)) z) grows.1 ∙ drop_front (log_of v) new in
    let long : length l ≡ length (log_of v) + length new = ap (λ z. length z) grows.1 ∙ length-append (log_of v) new in
    subst (λ (z : View O I). Later v z) (sym e) (record { origin = refl; opening = refl; number = refl; keeps = refl; tally = refl; items = (new, ap (λ z. v.items ++ z) newer, grows.2); seen = (omega arith) })

allby_append : {I : Type 0} (n : ℕ) (xs ys : List (ℕ × I)) → AllBy n xs → AllBy n ys → AllBy n (xs ++ ys)
allby_append n [] ys a b = b
allby_append n (x ∷ xs) ys a b = (a.0, allby_append n xs ys a.1 b)

pub grows_on : {I : Type 0} (n : ℕ) (xs ys zs : List (ℕ × I)) → Grows n xs ys → Grows n ys zs → Grows n xs zs
grows_on n xs ys zs a b = (a.0 ++ b.0, b.1 ∙ (ap (λ l. l ++ b.0) a.1 ∙ append_assoc xs a.0 b.0), allby_append n a.0 b.0 a.2 b.2)

-- later than later
pub later_on : {O I : Type 0} (u v w : View O I) → Later u v → Later v w → Later u w
later_on u v w a b = record {
  origin = b.origin ∙ a.origin;
  opening = b.opening ∙ a.opening;
  number = b.number ∙ a.number;
  keeps = b.keeps ∙ a.keeps;
  tally = b.tally ∙ a.tally;
  items = grows_on u.number u.items v.items w.items a.items (subst (λ n. Grows n v.items w.items) a.number b.items);
  seen = le_trans a.seen b.seen;
}

module _ {V O I : Type 0} (origin : V → O) (logof : V → List (ℕ × I)) (holds : V → Type 0) (o : O) (op : List (ℕ × I)) where
  abbrev M : Type 0
  M = Me (Option V) (View O I)

  -- the look of a seat that drew this ticket
  pub looks_as : (slots id t : ℕ) (v : View O I) (me : M) → v.origin ≢ None → me ≡ (with_ticket v (Some t) None, []) → Allows (K origin logof holds o op) slots id me 1 (λ n. n) (λ n m. Looks origin logof holds me n m)
  looks_as slots id t v me live e = subst (λ (m : M). Allows (K origin logof holds o op) slots id m 1 (λ n. n) (λ n m'. Looks origin logof holds m n m')) (sym e) (looks origin logof holds o op slots id t (with_ticket v (Some t) None, []) live refl refl)

  -- the count, with the value put in the slot
  pub counts_as : (slots id : ℕ) (before me : M) (x : V) (extra : ℕ) → IsServed before None → me ≡ (before.0, (0, Some x) ∷ rest before.1) → Grows before.0.number (log_of before.0) (logof x) → length (log_of before.0) + extra ≡ length (logof x)
      → Allows (K origin logof holds o op) slots id me 2 (λ n. (n + extra) % 2 ^ 64) (λ n m. Counts logof me m)
  counts_as slots id before me x extra served e grows long =
      let now : M = (before.0, (0, Some x) ∷ rest before.1) in
      subst (λ (m : M). Allows (K origin logof holds o op) slots id m 2 (λ n. (n + extra) % 2 ^ 64) (λ n m'. Counts logof m m')) (sym e)
      (counts origin logof holds o op slots id now x extra (served.0, served.1, ap (λ c. (0, Some x) ∷ rest c) served.2) grows long)

  pub raises_as : (slots id : ℕ) (before me m : M) (x : V) → IsServed before None → me ≡ (before.0, (0, Some x) ∷ rest before.1) → Counts logof me m → holds x → Some (origin x) ≡ before.0.origin
      → Allows (K origin logof holds o op) slots id m 1 (λ n. (n + 1) % 2 ^ 64) (λ n m'. Raises m m')
  raises_as slots id before me m x served e told good from =
      let now : M = (counted before.0 (logof x), (0, Some x) ∷ []) in
      subst (λ (z : M). Allows (K origin logof holds o op) slots id z 1 (λ n. (n + 1) % 2 ^ 64) (λ n m'. Raises z m')) (sym (after_count logof before me m x served e told))
      (raises origin logof holds o op slots id now x (served.0, some_not (logof x), refl) good from refl)
