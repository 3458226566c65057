-- Look-ups by halves: where the items of a list in its order stop to pass a test.
use Rattle.std.proofs.Common.{◌≡◌, ◌<◌, ◌≤◌, ◌+◌, ℕ, Bool, true, false, cond, not, zero, suc, length, nat_lt, get_or, List, [], ◌∷◌, ◌++◌, take, drop, Option, Some, None, refl, sym, ap, subst, ◌∙◌, arith, slice_get}
use Rattle.std.specs.List.{AllByRecursion, filter, position, position_or_len, prefix_len}
use Rattle.std.specs.List.Sorted.{IsPartitionedBy, IsPartitionPoint}
use Rattle.std.proofs.lemmas.Bool.{true≢false, lt-ltb}
use Rattle.std.proofs.lemmas.List.Sums.{prefix_len_is, prefix_len_passes, prefix_len_stops}
use Rattle.sprite_ids.proofs.ListLaws.{each_filter, each_weaken, get_within, some_is}
use Rattle.sprite_ids.proofs.OnceLaws.{found_is_any, get_is}
use Rattle.unix_calls.specs.Lawful.{holds}
use Rattle.unix_calls.proofs.ProcessLaws.{Compared, Same, Less, More, compared}
use Rattle.unix_world.specs.Places.{Ordered}
use Rattle.unix_world.proofs.OrderLaws.{is_false}
use Rattle.unix_world.proofs.PlaceLaws.{here, none_by, none_passes, ordered_pair}

-- ---- the place

parted_by : {X : Type 0} (R : X → X → Type 0) (p : X → Bool) (xs : List X) (i j : ℕ) (d : X) → ((x y : X) → R x y → p y ≡ true → p x ≡ true) → Ordered R xs → Compared i j → i ≤ j → j < length xs → p (get_or xs j d) ≡ true → p (get_or xs i d) ≡ true
parted_by R p xs i j d under h (Same e) most within is = subst (λ (n : ℕ). p (get_or xs n d) ≡ true) (sym e) is
parted_by R p xs i j d under h (Less e) most within is =
    under (get_or xs i d) (get_or xs j d) (ordered_pair R xs i j (get_or xs i d) (get_or xs j d) h e (here xs i d (omega (arith, e, within))) (here xs j d within)) is
parted_by R p xs i j d under h (More e) most within is = absurd (omega (arith, most, e))

-- the items up to a place pass
pub parted : {X : Type 0} (R : X → X → Type 0) (p : X → Bool) (xs : List X) → ((x y : X) → R x y → p y ≡ true → p x ≡ true) → Ordered R xs → IsPartitionedBy p xs
parted R p xs under h = λ i j d most within is. parted_by R p xs i j d under h (compared i j) most within is

-- which is found by halves
pub point_is : {X : Type 0} (p : X → Bool) (xs : List X) (i : ℕ) → i ≤ length xs → IsPartitionPoint (λ y. p y ≡ true) (λ y. p y ≡ false) xs i → i ≡ prefix_len p xs
point_is p [] i bound point = omega (arith, bound)
point_is p (x ∷ xs) i bound point =
    sym (prefix_len_is p (x ∷ xs) i x bound (λ k l. point.0 k x (omega arith) l) (λ l. point.1 i x (omega arith) l))

-- none of those behind it passes
pub fails_behind : {X : Type 0} (R : X → X → Type 0) (p : X → Bool) (xs : List X) → ((x y : X) → R x y → p y ≡ true → p x ≡ true) → Ordered R xs → AllByRecursion (λ x. p x ≡ false) (drop (prefix_len p xs) xs)
fails_behind R p [] under h = tt
fails_behind R p (x ∷ xs) under h = by (p x) refl (fails_behind R p xs under h.1)
  where
    by : (b : Bool) → p x ≡ b → AllByRecursion (λ y. p y ≡ false) (drop (prefix_len p xs) xs) → AllByRecursion (λ y. p y ≡ false) (drop (cond b (1 + prefix_len p xs) 0) (x ∷ xs))
    by true e rest =
        let on : suc (prefix_len p xs) ≡ 1 + prefix_len p xs = omega arith in
        subst (λ (n : ℕ). AllByRecursion (λ y. p y ≡ false) (drop n (x ∷ xs))) on rest
    by false e rest =
        (e, each_weaken (R x) (λ y. p y ≡ false) xs (λ y r. is_false (p y) (λ is. true≢false (sym (under x y r is) ∙ e))) h.0)

-- ---- one that is sought

-- a test that the items before those that are sought pass
pub record Seeks {X : Type 0} (R : X → X → Type 0) (p same : X → Bool) : Type 0 where
  pub under : (x y : X) → R x y → p y ≡ true → p x ≡ true
  pub apart : (x : X) → p x ≡ true → same x ≡ false
  pub past : (x y : X) → R x y → p x ≡ false → same x ≡ false → same y ≡ false

there_by : {X : Type 0} (R : X → X → Type 0) (p same : X → Bool) (xs : List X) (at : ℕ) (o : Option X) → Seeks R p same → at ≡ prefix_len p xs → slice_get xs at ≡ o → holds same o ≡ true → position same xs ≡ Some at
there_by R p same xs at None s is got found = absurd (true≢false (sym found))
there_by R p same xs at (Some x) s is got found =
    let within = get_within xs at x got in
    let first : position_or_len same xs ≡ at =
    prefix_len_is (λ y. not (same y)) xs at x (omega (arith, within)) (λ k l. ap not (s.apart (get_or xs k x) (prefix_len_passes p xs k x (subst (λ (n : ℕ). k < n) is l)))) (λ l. ap not (subst (λ y. same y ≡ true) (get_is xs at x got) found)) in
    ap (λ (n : ℕ). cond (nat_lt n (length xs)) (Some n) None) first ∙ ap (λ (b : Bool). cond b (Some at) None) (lt-ltb at (length xs) within)

-- what stands at the place and is sought is the first
pub sought_there : {X : Type 0} (R : X → X → Type 0) (p same : X → Bool) (xs : List X) (at : ℕ) → Seeks R p same → at ≡ prefix_len p xs → holds same (slice_get xs at) ≡ true → position same xs ≡ Some at
sought_there R p same xs at s is found = there_by R p same xs at (slice_get xs at) s is refl found

not_there : {X : Type 0} (R : X → X → Type 0) (p same : X → Bool) (xs : List X) (at i : ℕ) (x : X) → Seeks R p same → Ordered R xs → at ≡ prefix_len p xs → holds same (slice_get xs at) ≡ false → slice_get xs i ≡ Some x → Compared i at → same x ≡ false
not_there R p same xs at i x s h is missed got (Same e) = sym (ap (holds same) (ap (slice_get xs) (sym e) ∙ got)) ∙ missed
not_there R p same xs at i x s h is missed got (Less e) =
    s.apart x (subst (λ y. p y ≡ true) (sym (get_is xs i x got)) (prefix_len_passes p xs i x (subst (λ (n : ℕ). i < n) is e)))
not_there R p same xs at i x s h is missed got (More e) =
    let within : at < length xs = omega (arith, e, get_within xs i x got) in
    let there = here xs at x within in
    let stops = subst (λ (n : ℕ). p (get_or xs n x) ≡ false) (sym is) (prefix_len_stops p xs x (subst (λ (n : ℕ). n < length xs) is within)) in
    s.past (get_or xs at x) x (ordered_pair R xs at i (get_or xs at x) x h e there got) stops (sym (ap (holds same) there) ∙ missed)

held_by : {X : Type 0} (same : X → Bool) (xs : List X) (at : ℕ) (o : Option X) → slice_get xs at ≡ o → holds same o ≡ true → at < length xs
held_by same xs at None got found = absurd (true≢false (sym found))
held_by same xs at (Some x) got found = get_within xs at x got

-- which stands in the list
pub held_within : {X : Type 0} (same : X → Bool) (xs : List X) (at : ℕ) → holds same (slice_get xs at) ≡ true → at < length xs
held_within same xs at found = held_by same xs at (slice_get xs at) refl found

-- where it isn't there is none
pub sought_none : {X : Type 0} (R : X → X → Type 0) (p same : X → Bool) (xs : List X) (at : ℕ) → Seeks R p same → Ordered R xs → at ≡ prefix_len p xs → holds same (slice_get xs at) ≡ false → position same xs ≡ None
sought_none R p same xs at s h is missed =
    none_by (position same xs) (found_is_any same xs ∙ none_passes same xs (λ i x got. not_there R p same xs at i x s h is missed got (compared i at)))

-- ---- parts of a list in its order

pub ordered_drop : {X : Type 0} (R : X → X → Type 0) (n : ℕ) (xs : List X) → Ordered R xs → Ordered R (drop n xs)
ordered_drop R zero xs h = h
ordered_drop R (suc n) [] h = tt
ordered_drop R (suc n) (x ∷ xs) h = ordered_drop R n xs h.1

pub ordered_filter : {X : Type 0} (R : X → X → Type 0) (p : X → Bool) (xs : List X) → Ordered R xs → Ordered R (filter p xs)
ordered_filter R p [] h = tt
ordered_filter R p (x ∷ xs) h =
    elim (p x) as (λ b. Ordered R (cond b (x ∷ filter p xs) (filter p xs))) [ true ↦ (each_filter (R x) p xs h.0, ordered_filter R p xs h.1) | false ↦ ordered_filter R p xs h.1 ]

-- a list that is cut where an item is taken out
pub record Cut {X : Type 0} (xs : List X) (n : ℕ) (item : X) : Type 0 where
  pub rest : List X
  pub here : drop n xs ≡ item ∷ rest
  pub before : take n (take n xs ++ drop (suc n) xs) ≡ take n xs
  pub behind : drop n (take n xs ++ drop (suc n) xs) ≡ rest

pub cut : {X : Type 0} (xs : List X) (n : ℕ) (x : X) → slice_get xs n ≡ Some x → Cut xs n x
cut [] n x got = absurd (omega (arith, get_within [] n x got))
cut (y ∷ ys) zero x got = record { rest = ys; here = ap (λ z. z ∷ ys) (some_is y x got); before = refl; behind = refl }
cut (y ∷ ys) (suc n) x got =
    let one = cut ys n x got in
    record { rest = one.rest; here = one.here; before = ap (λ l. y ∷ l) one.before; behind = one.behind }

pub joined : {X : Type 0} (n : ℕ) (xs : List X) → take n xs ++ drop n xs ≡ xs
joined zero xs = refl
joined (suc n) [] = refl
joined (suc n) (x ∷ xs) = ap (λ l. x ∷ l) (joined n xs)
