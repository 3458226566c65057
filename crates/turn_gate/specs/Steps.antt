-- What each step tells its seat, what a seat may say of itself, and how seats are made and joined.
use Rattle.std.specs.Prelude.{◌≡◌, ℕ, suc, ◌%◌, ◌^◌, ◌≤◌, ◌≢◌, max, List, [], ◌∷◌, ◌++◌, length, drop, Option, Some, None, option_map}
use Rattle.atomic_table.specs.Table.{Me, rest}
use Rattle.turn_gate.specs.declared.view.View.{View}
use Rattle.turn_gate.specs.Rule.{In, items_of}

-- the list, or the empty one
abbrev pub or_nil : {A : Type 0} → Option (List A) → List A
or_nil (Some xs) = xs
or_nil None = []

-- the first where it is there, else the second
abbrev pub or_else : {A : Type 0} → Option A → Option A → Option A
or_else (Some x) b = Some x
or_else None b = b

-- the number, or 0
abbrev pub or_zero : Option ℕ → ℕ
or_zero (Some n) = n
or_zero None = 0

-- the log that the seat has with the value
abbrev pub log_of : {O I : Type 0} → View O I → List (ℕ × I)
log_of v = or_nil v.log

-- the view with this ticket and this log
abbrev pub with_ticket : {O I : Type 0} → View O I → Option ℕ → Option (List (ℕ × I)) → View O I
with_ticket v t l = record { origin = v.origin; opening = v.opening; tally = v.tally; number = v.number; keeps = v.keeps; items = v.items; seen = v.seen; ticket = t; log = l }

-- what was added to the log joins the seat's items, and it has seen the whole log
abbrev pub counted : {O I : Type 0} → View O I → List (ℕ × I) → View O I
counted v l = record { origin = v.origin; opening = v.opening; tally = v.tally; number = v.number; keeps = v.keeps; items = v.items ++ drop (length (log_of v)) l; seen = length l; ticket = v.ticket; log = Some l }

-- the view after a turn that left this log
abbrev pub done : {O I : Type 0} → View O I → List (ℕ × I) → View O I
done v l = with_ticket (counted v l) None None

-- the seat that gave out one more number, and the new seat of that number
abbrev pub dealer : {O I : Type 0} → View O I → View O I
dealer v = record { origin = v.origin; opening = v.opening; tally = option_map (λ n. suc n) v.tally; number = v.number; keeps = v.keeps; items = v.items; seen = v.seen; ticket = v.ticket; log = v.log }

abbrev pub dealt : {O I : Type 0} → View O I → View O I
dealt v = record { origin = v.origin; opening = v.opening; tally = None; number = suc (or_zero v.tally); keeps = suc (or_zero v.tally) ∷ []; items = []; seen = v.seen; ticket = None; log = None }

-- two seats made one, and what is left of the other
abbrev pub joined : {O I : Type 0} → View O I → View O I → View O I
joined v w = record { origin = v.origin; opening = v.opening; tally = or_else v.tally w.tally; number = v.number; keeps = v.keeps ++ w.keeps; items = v.items ++ w.items; seen = max v.seen w.seen; ticket = v.ticket; log = v.log }

abbrev pub spent_view : {O I : Type 0} → View O I
spent_view = record { origin = None; opening = []; tally = None; number = 0; keeps = []; items = []; seen = 0; ticket = None; log = None }

-- each item has that number
abbrev pub AllBy : {I : Type 0} → ℕ → List (ℕ × I) → Type 0
AllBy n [] = Unit {0}
AllBy n (x ∷ xs) = (x.0 ≡ n) × AllBy n xs

-- the log has grown by items of that number alone
abbrev pub Grows : {I : Type 0} → ℕ → List (ℕ × I) → List (ℕ × I) → Type 0
Grows n old now = (new : _) × (now ≡ old ++ new) × AllBy n new

-- What a seat learns of a value with this origin and this log: it is the value of the start, with a log that begins with the opening one and is no shorter than the seat saw, and in what was added the items of each number that the seat keeps are those that it keeps, in order
pub record Told {O I : Type 0} (o : O) (log : List (ℕ × I)) (v : View O I) : Type 0 where
  pub from_start : Some o ≡ v.origin
  pub saw : v.seen ≤ length log
  pub added : List (ℕ × I)
  pub grown : log ≡ v.opening ++ added
  pub stand : (n : ℕ) → In n v.keeps → items_of n added ≡ items_of n v.items

-- a ticket is drawn, and found is the word for it
abbrev pub Draws : {S O I : Type 0} → Me S (View O I) → ℕ → Me S (View O I) → Type 0
Draws m found n = (t : ℕ) × (found ≡ t % 2 ^ 64) × (n ≡ (with_ticket m.0 (Some t) None, m.1))

-- with its own ticket found the seat has the value; else all is as before
abbrev pub Looks : {V O I : Type 0} → (V → O) → (V → List (ℕ × I)) → (V → Type 0) → Me (Option V) (View O I) → ℕ → Me (Option V) (View O I) → Type 0
Looks origin logof holds m found n =
    (t : ℕ)
    → m.0.ticket ≡ Some t
    → (found ≡ t % 2 ^ 64 → (x : _) × (n ≡ (with_ticket m.0 (Some t) (Some (logof x)), (0, Some x) ∷ m.1)) × Told (origin x) (logof x) m.0 × holds x) × (found ≢ t % 2 ^ 64 → n ≡ m)

-- the items that the value in the slot has more than the seat's log are the seat's
abbrev pub Counts : {V O I : Type 0} → (V → List (ℕ × I)) → Me (Option V) (View O I) → Me (Option V) (View O I) → Type 0
Counts logof m n = (x : _) → m.1 ≡ (0, Some x) ∷ [] → n ≡ (counted m.0 (logof x), m.1)

-- the value is given back
abbrev pub Raises : {S O I : Type 0} → Me S (View O I) → Me S (View O I) → Type 0
Raises m n = n ≡ (with_ticket m.0 None None, rest m.1)

-- a seat between turns
abbrev pub IsIdle : {S O I : Type 0} → Me S (View O I) → Type 0
IsIdle m = (m.0.origin ≢ None) × (m.0.ticket ≡ None) × (m.0.log ≡ None) × (m.1 ≡ [])

-- a seat that has the slot, with y in it
abbrev pub IsServed : {S O I : Type 0} → Me S (View O I) → S → Type 0
IsServed m y = (m.0.origin ≢ None) × (m.0.log ≢ None) × (m.1 ≡ (0, y) ∷ [])

-- a seat that was not joined with another: it has that number, and the items of it alone
abbrev pub IsPlain : {O I : Type 0} → ℕ → View O I → Type 0
IsPlain n v = (v.number ≡ n) × (v.keeps ≡ n ∷ []) × (items_of n v.items ≡ v.items)

-- what a turn's begin tells: the seat has a ticket and the log of x, and x is the value that it may have
abbrev pub Taken : {V O I : Type 0} → (V → O) → (V → List (ℕ × I)) → V → View O I → View O I → Type 0
Taken origin logof x v w = (t : ℕ) × (w ≡ with_ticket v (Some t) (Some (logof x))) × Told (origin x) (logof x) v

-- the same seat, some turns later: its items have grown by items of its number, and it has seen no less
pub record Later {O I : Type 0} (v w : View O I) : Type 0 where
  pub origin : w.origin ≡ v.origin
  pub opening : w.opening ≡ v.opening
  pub number : w.number ≡ v.number
  pub keeps : w.keeps ≡ v.keeps
  pub tally : w.tally ≡ v.tally
  pub items : Grows v.number v.items w.items
  pub seen : v.seen ≤ w.seen
