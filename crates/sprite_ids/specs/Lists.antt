-- Lists in which an item is put, changed or taken out by a test; sums over items.
use Rattle.std.specs.Prelude.{◌≡◌, ℕ, ◌+◌, Bool, true, false, not, if◌then◌else◌, List, [], ◌∷◌}
use Rattle.std.specs.List.{filter, list_any}

-- the item in the place of the first that passes the test, else at the end
abbrev pub put : {X : Type 0} → (X → Bool) → X → List X → List X
put p x [] = x ∷ []
put p x (y ∷ ys) = if p y then x ∷ ys else y ∷ put p x ys

-- the items after a change of the first that passes the test
abbrev pub changed : {X : Type 0} → (X → Bool) → (X → X) → List X → List X
changed p f [] = []
changed p f (y ∷ ys) = if p y then f y ∷ ys else y ∷ changed p f ys

-- the items without the first that passes the test
abbrev pub less : {X : Type 0} → (X → Bool) → List X → List X
less p [] = []
less p (y ∷ ys) = if p y then ys else y ∷ less p ys

-- the items that don't pass the test
abbrev pub without : {X : Type 0} → (X → Bool) → List X → List X
without p xs = filter (λ x. not (p x)) xs

-- no item stands twice
abbrev pub EachOnce : {X : Type 0} → (X → X → Bool) → List X → Type 0
EachOnce same [] = Unit {0}
EachOnce same (x ∷ xs) = (list_any (same x) xs ≡ false) × EachOnce same xs

-- the sum of a number of each item
abbrev pub total : {X : Type 0} → (X → ℕ) → List X → ℕ
total number [] = 0
total number (x ∷ xs) = number x + total number xs

-- one where it is so
abbrev pub one_if : Bool → ℕ
one_if true = 1
one_if false = 0
