-- What every crate above cites about lists: `AllByRecursion` under the edits of a list, and the looked-up item.
use Rattle.std.proofs.Common.{◌≡◌, ℕ, zero, suc, ◌<◌, ◌≤◌, List, [], ◌∷◌, ◌++◌, length, take, drop, map, replicate, Some, Bool, true, false, cond, refl, ap, sym, subst, arith, slice_get, slice_set, filter}
use Rattle.std.specs.List.{AllByRecursion}

-- the items of equal `Some`s are equal
pub some_is : {X : Type 0} (x y : X) → Some x ≡ Some y → x ≡ y
some_is x y e = cc

-- a fact of each item of two lists is one of each item of both together
pub each_append : {X : Type 0} (P : X → Type 0) (xs ys : List X) → AllByRecursion P xs → AllByRecursion P ys → AllByRecursion P (xs ++ ys)
each_append P [] ys h k = k
each_append P (x ∷ xs) ys h k = (h.0, each_append P xs ys h.1 k)

-- and of the two parts where it is one of both together
pub each_of_append : {X : Type 0} (P : X → Type 0) (xs ys : List X) → AllByRecursion P (xs ++ ys) → AllByRecursion P xs × AllByRecursion P ys
each_of_append P [] ys h = (tt, h)
each_of_append P (x ∷ xs) ys h = let parts = each_of_append P xs ys h.1 in ((h.0, parts.0), parts.1)

-- one more item at the end
pub each_push : {X : Type 0} (P : X → Type 0) (xs : List X) (x : X) → AllByRecursion P xs → P x → AllByRecursion P (xs ++ x ∷ [])
each_push P xs x h k = each_append P xs (x ∷ []) h (k, tt)

-- a weaker fact
pub each_weaken : {X : Type 0} (P Q : X → Type 0) (xs : List X) → ((x : X) → P x → Q x) → AllByRecursion P xs → AllByRecursion Q xs
each_weaken P Q [] f h = tt
each_weaken P Q (x ∷ xs) f h = (f x h.0, each_weaken P Q xs f h.1)

-- the items after a function
pub each_map : {X Y : Type 0} (P : Y → Type 0) (f : X → Y) (xs : List X) → AllByRecursion (λ x. P (f x)) xs → AllByRecursion P (map f xs)
each_map P f [] h = tt
each_map P f (x ∷ xs) h = (h.0, each_map P f xs h.1)

-- the items that a test keeps
pub each_filter : {X : Type 0} (P : X → Type 0) (p : X → Bool) (xs : List X) → AllByRecursion P xs → AllByRecursion P (filter p xs)
each_filter P p [] h = tt
each_filter P p (x ∷ xs) h =
    elim (p x) as (λ b. AllByRecursion P (cond b (x ∷ filter p xs) (filter p xs))) [ true ↦ (h.0, each_filter P p xs h.1) | false ↦ each_filter P p xs h.1 ]

-- an item put in the place of another
pub each_set : {X : Type 0} (P : X → Type 0) (xs : List X) (i : ℕ) (y : X) → P y → AllByRecursion P xs → AllByRecursion P (slice_set xs i y)
each_set P [] i y k h = tt
each_set P (x ∷ xs) zero y k h = (k, h.1)
each_set P (x ∷ xs) (suc i) y k h = (h.0, each_set P xs i y k h.1)

-- the item that a look-up finds
pub each_get : {X : Type 0} (P : X → Type 0) (xs : List X) (i : ℕ) (x : X) → AllByRecursion P xs → slice_get xs i ≡ Some x → P x
each_get P [] i x h e = cc
each_get P (y ∷ ys) zero x h e = subst P (some_is y x e) h.0
each_get P (y ∷ ys) (suc i) x h e = each_get P ys i x h.1 e

-- copies of one item
pub each_replicate : {X : Type 0} (P : X → Type 0) (n : ℕ) (x : X) → P x → AllByRecursion P (replicate n x)
each_replicate P zero x h = tt
each_replicate P (suc n) x h = (h, each_replicate P n x h)

-- the first items, and the items past them
pub each_take : {X : Type 0} (P : X → Type 0) (n : ℕ) (xs : List X) → AllByRecursion P xs → AllByRecursion P (take n xs)
each_take P zero xs h = tt
each_take P (suc n) [] h = tt
each_take P (suc n) (x ∷ xs) h = (h.0, each_take P n xs h.1)

pub each_drop : {X : Type 0} (P : X → Type 0) (n : ℕ) (xs : List X) → AllByRecursion P xs → AllByRecursion P (drop n xs)
each_drop P zero xs h = h
each_drop P (suc n) [] h = tt
each_drop P (suc n) (x ∷ xs) h = each_drop P n xs h.1

-- where a look-up finds an item, putting it there again changes nothing
pub set_same : {X : Type 0} (xs : List X) (i : ℕ) (x : X) → slice_get xs i ≡ Some x → slice_set xs i x ≡ xs
set_same [] i x e = refl
set_same (y ∷ ys) zero x e = ap (λ z. z ∷ ys) (sym (some_is y x e))
set_same (y ∷ ys) (suc i) x e = ap (λ zs. y ∷ zs) (set_same ys i x e)

-- a look-up that finds an item is within the list
pub get_within : {X : Type 0} (xs : List X) (i : ℕ) (x : X) → slice_get xs i ≡ Some x → i < length xs
get_within [] i x e = cc
get_within (y ∷ ys) zero x e = omega arith
get_within (y ∷ ys) (suc i) x e = let rest = get_within ys i x e in omega arith

-- a look-up within the list finds an item
pub get_found : {X : Type 0} (xs : List X) (i : ℕ) → i < length xs → (x : X) × (slice_get xs i ≡ Some x)
get_found [] i h = absurd (omega arith)
get_found (y ∷ ys) zero h = (y, refl)
get_found (y ∷ ys) (suc i) h = get_found ys i (omega arith)

-- the item that was put is found, and every other look-up stays
pub get_set_same : {X : Type 0} (xs : List X) (i : ℕ) (y : X) → i < length xs → slice_get (slice_set xs i y) i ≡ Some y
get_set_same [] i y h = absurd (omega arith)
get_set_same (x ∷ xs) zero y h = refl
get_set_same (x ∷ xs) (suc i) y h = get_set_same xs i y (omega arith)

pub get_set_other : {X : Type 0} (xs : List X) (i j : ℕ) (y : X) → (i ≡ j → ⊥) → slice_get (slice_set xs i y) j ≡ slice_get xs j
get_set_other [] i j y h = refl
get_set_other (x ∷ xs) zero zero y h = absurd (h refl)
get_set_other (x ∷ xs) zero (suc j) y h = refl
get_set_other (x ∷ xs) (suc i) zero y h = refl
get_set_other (x ∷ xs) (suc i) (suc j) y h = get_set_other xs i j y (λ e. h (ap suc e))

-- the list with an item's function put at its place is the mapped list up to there: the step of a loop that changes
-- each item in place
abbrev pub mapped_to : {X : Type 0} → (X → X) → ℕ → List X → List X
mapped_to f i xs = map f (take i xs) ++ drop i xs

pub mapped_none : {X : Type 0} (f : X → X) (xs : List X) → mapped_to f 0 xs ≡ xs
mapped_none f xs = refl

pub mapped_more : {X : Type 0} (f : X → X) (xs : List X) (i : ℕ) (x : X) → slice_get xs i ≡ Some x → slice_set (mapped_to f i xs) i (f x) ≡ mapped_to f (suc i) xs
mapped_more f [] i x e = cc
mapped_more f (y ∷ ys) zero x e = ap (λ z. f z ∷ ys) (sym (some_is y x e))
mapped_more f (y ∷ ys) (suc i) x e = ap (λ zs. f y ∷ zs) (mapped_more f ys i x e)

pub mapped_all : {X : Type 0} (f : X → X) (xs : List X) (i : ℕ) → length xs ≤ i → mapped_to f i xs ≡ map f xs
mapped_all f [] zero h = refl
mapped_all f [] (suc i) h = refl
mapped_all f (y ∷ ys) zero h = absurd (omega arith)
mapped_all f (y ∷ ys) (suc i) h = ap (λ zs. f y ∷ zs) (mapped_all f ys i (omega arith))
