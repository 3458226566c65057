-- All seats of a gate, and what its value is when it ends.
use Rattle.std.specs.Prelude.{◌≡◌, ℕ, zero, suc, ◌<◌, ◌≤◌, ◌⊎◌, List, [], ◌∷◌, ◌++◌, length, Some, None}
use mathlib.Core.Option.{some}
use lib.ListN.{get_elem?}
use Rattle.turn_gate.specs.declared.view.View.{View}
use Rattle.turn_gate.specs.Rule.{items_of}
use Rattle.turn_gate.specs.Steps.{IsPlain, joined, spent_view}

-- the seats have the numbers from n + 1 on, in order, and each the items of its number
abbrev pub Ordered : {O I : Type 0} → ℕ → List (View O I) → Type 0
Ordered n [] = Unit {0}
Ordered n (v ∷ vs) = IsPlain (suc n) v × Ordered (suc n) vs

-- these are all seats of a gate, in order of their numbers from 1 on
abbrev pub IsAll : {O I : Type 0} → List (View O I) → Type 0
IsAll [] = ⊥
IsAll (v ∷ vs) = Ordered 0 (v ∷ vs) × (v.tally ≡ Some (suc (length vs)))

-- the first seat of a new gate, with the tally of that many
abbrev pub opener : {O I : Type 0} → O → List (ℕ × I) → ℕ → View O I
opener o op seats = record { origin = Some o; opening = op; tally = Some seats; number = 1; keeps = 1 ∷ []; items = []; seen = length op; ticket = None; log = None }

-- a new seat of that number
abbrev pub newcomer : {O I : Type 0} → O → List (ℕ × I) → ℕ → View O I
newcomer o op n = record { origin = Some o; opening = op; tally = None; number = n; keeps = n ∷ []; items = []; seen = length op; ticket = None; log = None }

-- new seats, as many, with the numbers from n + 1 on
abbrev pub newcomers : {O I : Type 0} → O → List (ℕ × I) → ℕ → ℕ → List (View O I)
newcomers o op n zero = []
newcomers o op n (suc more) = newcomer o op (suc n) ∷ newcomers o op (suc n) more

-- the seats of a new gate
abbrev pub seats_of : {O I : Type 0} → O → List (ℕ × I) → ℕ → List (View O I)
seats_of o op zero = []
seats_of o op (suc more) = opener o op (suc more) ∷ newcomers o op 1 more

-- all seats as one
abbrev pub gathered_to : {O I : Type 0} → View O I → List (View O I) → View O I
gathered_to v [] = v
gathered_to v (w ∷ ws) = gathered_to (joined v w) ws

abbrev pub gathered : {O I : Type 0} → List (View O I) → View O I
gathered [] = spent_view
gathered (v ∷ vs) = gathered_to v vs

-- What comes out at the end has the origin o of the start; its log is the opening log op and then items of the seats alone; the items of each seat stand there each once, in its order, and no seat saw a longer log
pub record Ended {O I : Type 0} (o : O) (op : List (ℕ × I)) (now : O) (log : List (ℕ × I)) (vs : List (View O I)) : Type 0 where
  pub from_start : now ≡ o
  pub added : List (ℕ × I)
  pub grown : log ≡ op ++ added
  pub strangers : (n : ℕ) → (n ≡ 0) ⊎ (length vs < n) → items_of n added ≡ []
  pub seats : (i : ℕ) (v : View O I) → get_elem? vs i ≡ some v → (items_of (suc i) added ≡ v.items) × (v.seen ≤ length log)
