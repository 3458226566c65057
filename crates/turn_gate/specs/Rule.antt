-- The rule of the gate: what its words, its slot and the views of its seats have to do with one another. A ticket here is counted without end, and the words hold it modulo 2^64.
use Rattle.std.specs.Prelude.{◌≡◌, ℕ, zero, suc, ◌+◌, ◌%◌, ◌^◌, ◌==◌, ◌<◌, ◌≤◌, ◌≢◌, ◌⊎◌, List, [], ◌∷◌, ◌++◌, length, Option, Some, None}
use Rattle.std.specs.List.{filter}
use mathlib.Core.Option as maybe
use mathlib.Core.Option.{none, some}
use lib.ListN.{get_elem?}
use Rattle.atomic_table.specs.Table.{State}
use Rattle.turn_gate.specs.declared.view.View.{View}

-- the number is in the list
abbrev pub In : ℕ → List ℕ → Type 0
In n [] = ⊥
In n (m ∷ ms) = (n ≡ m) ⊎ In n ms

-- the items of a number, in their order
abbrev pub items_of : {I : Type 0} → ℕ → List (ℕ × I) → List (ℕ × I)
items_of n xs = filter (λ x. x.0 == n) xs

-- 1 where there is something, else 0
abbrev pub one : {A : Type 0} → Option A → ℕ
one (Some x) = 1
one None = 0

-- 1 where there is something, else n
abbrev pub one_or : {A : Type 0} → Option A → ℕ → ℕ
one_or (Some x) n = 1
one_or None n = n

-- the sum of a number for each
abbrev pub total : {A : Type 0} → (A → ℕ) → List A → ℕ
total f [] = 0
total f (x ∷ xs) = f x + total f xs

-- 1 for a view with a ticket
abbrev pub ticketed : {O I : Type 0} → View O I → ℕ
ticketed v = one v.ticket

-- 1 for a view that is not spent
abbrev pub living : {O I : Type 0} → View O I → ℕ
living v = one_or v.ticket (one v.origin)

-- the first seat has number 1, and the right to make the others
abbrev pub first_view : {O I : Type 0} → O → List (ℕ × I) → View O I
first_view o op = record { origin = Some o; opening = op; tally = Some 1; number = 1; keeps = 1 ∷ []; items = []; seen = length op; ticket = None; log = None }

-- What the rule knows beside the words: the next ticket and the one that is served, who drew each ticket, how many numbers were given out and who may give more, who keeps the items of each number, the log and what was added to it, and who has the value (0: nobody, n + 1: seat n)
pub record Facts (I : Type 0) : Type 0 where
  pub next : ℕ
  pub serving : ℕ
  pub drawn : ℕ → ℕ
  pub tally : ℕ
  pub teller : ℕ
  pub keeper : ℕ → ℕ
  pub log : List (ℕ × I)
  pub added : List (ℕ × I)
  pub holder : ℕ

-- a spent view has nothing
pub record Spent {O I : Type 0} (v : View O I) : Type 0 where
  pub no_ticket : v.ticket ≡ None
  pub no_log : v.log ≡ None
  pub no_items : v.items ≡ []
  pub no_numbers : v.keeps ≡ []
  pub no_tally : v.tally ≡ None

-- what the rule says of the view of one seat
pub record Tied {O I : Type 0} (o : O) (op : List (ℕ × I)) (f : Facts I) (id : ℕ) (v : View O I) : Type 0 where
  pub from_start : v.origin ≢ None → (v.origin ≡ Some o) × (v.opening ≡ op) × In v.number v.keeps
  pub spent : v.origin ≡ None → Spent v
  pub waits : (t : ℕ) → v.ticket ≡ Some t → (f.serving ≤ t) × (t < f.next) × (f.drawn t ≡ id)
  pub tells : (n : ℕ) → v.tally ≡ Some n → (n ≡ f.tally) × (f.teller ≡ id)
  pub kept : (n : ℕ) → In n v.keeps → (1 ≤ n) × (n ≤ f.tally) × (f.keeper n ≡ id)
  pub held : v.log ≢ None → (f.holder ≡ suc id) × (v.ticket ≡ Some f.serving) × (v.log ≡ Some f.log)
  pub saw : v.seen ≤ length f.log
  pub stand : (n : ℕ) → In n v.keeps → items_of n f.added ≡ items_of n v.items
  pub alone : (n : ℕ) → ¬ In n v.keeps → items_of n v.items ≡ []

-- what it says of each
abbrev pub Each : {O I : Type 0} → O → List (ℕ × I) → Facts I → List (View O I) → Type 0
Each o op f views = (id : ℕ) (v : _) → get_elem? views id ≡ some v → Tied o op f id v

-- where the value is: in its slot, with the origin and the log, and with what holds of it, or with a seat
abbrev pub Lies : {V O I : Type 0} → (V → O) → (V → List (ℕ × I)) → (V → Type 0) → O → List (ℕ × I) → List (maybe.Option (Option V)) → List (View O I) → ℕ → Type 0
Lies origin logof holds o log homes views zero = (x : _) × (homes ≡ some (Some x) ∷ []) × (origin x ≡ o) × (logof x ≡ log) × holds x
Lies origin logof holds o log homes views (suc j) = (homes ≡ none ∷ []) × ((v : _) × (get_elem? views j ≡ some v) × (v.log ≢ None) × (v.origin ≢ None))

-- the rule, for a gate whose value began with this origin and this log
pub record Kept {V O I : Type 0} (origin : V → O) (logof : V → List (ℕ × I)) (holds : V → Type 0) (o : O) (op : List (ℕ × I)) (s : State (Option V) (View O I)) : Type 0 where
  pub facts : Facts I
  pub words : s.words ≡ facts.next % 2 ^ 64 ∷ facts.serving % 2 ^ 64 ∷ length facts.log % 2 ^ 64 ∷ []
  pub waiting : facts.next ≡ facts.serving + total ticketed s.views
  pub few : total living s.views ≤ facts.tally
  pub most : facts.tally ≤ 16
  pub grown : facts.log ≡ op ++ facts.added
  pub no_strangers : (n : ℕ) → (n ≡ 0) ⊎ (facts.tally < n) → items_of n facts.added ≡ []
  pub lies : Lies origin logof holds o facts.log s.homes s.views facts.holder
  pub each : Each o op facts s.views
