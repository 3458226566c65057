-- The items that a test finds: the first one, put, changed or taken out; and lists in which each item stands once.
use Rattle.std.proofs.Common.{rules, tests, ◌≡◌, ℕ, zero, suc, ◌+◌, ◌<◌, nat_lt, Bool, true, false, ◌||◌, not, cond, List, [], ◌∷◌, ◌++◌, length, Option, Some, None, refl, sym, ap, ◌∙◌, arith, slice_get, slice_set, get_or, is_some}
use Rattle.std.specs.List.{filter, find, list_any, position, position_or_len, remove}
use Rattle.std.proofs.lemmas.List.Quantifiers.{position-Some}
use Rattle.std.proofs.lemmas.List.Edits.{remove-append_left}
use Rattle.sprite_ids.proofs.ListLaws.{some_is}
use Rattle.sprite_ids.specs.Lists.{put, changed, less, without, EachOnce}

-- neither of two is true where not one of them is
pub or_false : (a b : Bool) → (a || b) ≡ false → (a ≡ false) × (b ≡ false)
or_false true b h = absurd (cc)
or_false false b h = (refl, h)

-- what a filter does with its first item
pub dropped : {X : Type 0} (p : X → Bool) (x : X) (xs : List X) → p x ≡ true → without p (x ∷ xs) ≡ without p xs
dropped p x xs e = ap (λ b. cond (not b) (x ∷ without p xs) (without p xs)) e

pub stays : {X : Type 0} (p : X → Bool) (x : X) (xs : List X) → p x ≡ false → without p (x ∷ xs) ≡ x ∷ without p xs
stays p x xs e = ap (λ b. cond (not b) (x ∷ without p xs) (without p xs)) e

-- a test that passes nothing leaves the list
pub none_taken : {X : Type 0} (p : X → Bool) (xs : List X) → list_any p xs ≡ false → without p xs ≡ xs
none_taken p [] h = refl
none_taken p (x ∷ xs) h =
    let parts = or_false (p x) (list_any p xs) h in
    stays p x xs parts.0 ∙ ap (λ ys. x ∷ ys) (none_taken p xs parts.1)

-- at most one item passes the test
abbrev pub AtMostOne : {X : Type 0} → (X → Bool) → List X → Type 0
AtMostOne p [] = Unit {0}
AtMostOne p (x ∷ xs) = (p x ≡ true → list_any p xs ≡ false) × AtMostOne p xs

taken_at : {X : Type 0} (p : X → Bool) (xs : List X) (i : ℕ) (d : X) → AtMostOne p xs → i < length xs → p (get_or xs i d) ≡ true → ((k : ℕ) → k < i → p (get_or xs k d) ≡ false) → remove xs i ≡ without p xs
taken_at p [] i d o h t f = absurd (omega arith)
taken_at p (x ∷ xs) zero d o h t f = sym (dropped p x xs t ∙ none_taken p xs (o.0 t))
taken_at p (x ∷ xs) (suc i) d o h t f =
    ap (λ ys. x ∷ ys) (taken_at p xs i d o.1 (omega arith) t (λ k under. f (suc k) (omega arith))) ∙ sym (stays p x xs (f 0 (omega arith)))

-- the first item that passes is the one that the filter takes
pub taken : {X : Type 0} (p : X → Bool) (xs : List X) (i : ℕ) (d : X) → AtMostOne p xs → position p xs ≡ Some i → remove xs i ≡ without p xs
taken p xs i d o e =
    let found = position-Some p xs i d e in
    taken_at p xs i d o found.0 found.1 found.2

found_first : {X : Type 0} (p : X → Bool) (x : X) (n len : ℕ) (i : Option ℕ) (b : Bool) → i ≡ cond (nat_lt n len) (Some n) None → is_some (cond (nat_lt (cond (not b) (1 + n) 0) (suc len)) (Some (cond (not b) (1 + n) 0)) None) ≡ (b || is_some i)
found_first p x n len i true e = search (rules, tests, e)
found_first p x n len i false e = search (rules, tests, e)

-- a position is found exactly where an item passes
pub found_is_any : {X : Type 0} (p : X → Bool) (xs : List X) → is_some (position p xs) ≡ list_any p xs
found_is_any p [] = refl
found_is_any p (x ∷ xs) =
    found_first p x (position_or_len p xs) (length xs) (position p xs) (p x) refl ∙ ap (λ b. p x || b) (found_is_any p xs)

-- none is found where no item passes
pub none_found : {X : Type 0} (p : X → Bool) (xs : List X) → position p xs ≡ None → list_any p xs ≡ false
none_found p xs e = sym (found_is_any p xs) ∙ ap is_some e

found_at : {X : Type 0} (p : X → Bool) (xs : List X) (i : ℕ) (d : X) → i < length xs → p (get_or xs i d) ≡ true → ((k : ℕ) → k < i → p (get_or xs k d) ≡ false) → find p xs ≡ Some (get_or xs i d)
found_at p [] i d h t f = absurd (omega arith)
found_at p (x ∷ xs) zero d h t f = ap (λ b. cond b (Some x) (find p xs)) t
found_at p (x ∷ xs) (suc i) d h t f =
    ap (λ b. cond b (Some x) (find p xs)) (f 0 (omega arith)) ∙ found_at p xs i d (omega arith) t (λ k under. f (suc k) (omega arith))

-- the item at the position is the one that is found
pub found_there : {X : Type 0} (p : X → Bool) (xs : List X) (i : ℕ) (d : X) → position p xs ≡ Some i → find p xs ≡ Some (get_or xs i d)
found_there p xs i d e =
    let found = position-Some p xs i d e in
    found_at p xs i d found.0 found.1 found.2

pub nothing_found : {X : Type 0} (p : X → Bool) (xs : List X) → list_any p xs ≡ false → find p xs ≡ None
nothing_found p [] h = refl
nothing_found p (x ∷ xs) h =
    let parts = or_false (p x) (list_any p xs) h in
    ap (λ b. cond b (Some x) (find p xs)) parts.0 ∙ nothing_found p xs parts.1

put_there : {X : Type 0} (p : X → Bool) (new : X) (xs : List X) (i : ℕ) (d : X) → i < length xs → p (get_or xs i d) ≡ true → ((k : ℕ) → k < i → p (get_or xs k d) ≡ false) → slice_set xs i new ≡ put p new xs
put_there p new [] i d h t f = absurd (omega arith)
put_there p new (x ∷ xs) zero d h t f = sym (ap (λ b. cond b (new ∷ xs) (x ∷ put p new xs)) t)
put_there p new (x ∷ xs) (suc i) d h t f =
    ap (λ ys. x ∷ ys) (put_there p new xs i d (omega arith) t (λ k under. f (suc k) (omega arith))) ∙ sym (ap (λ b. cond b (new ∷ xs) (x ∷ put p new xs)) (f 0 (omega arith)))

-- an item goes to the place of the first that passes
pub put_here : {X : Type 0} (p : X → Bool) (new : X) (xs : List X) (i : ℕ) (d : X) → position p xs ≡ Some i → slice_set xs i new ≡ put p new xs
put_here p new xs i d e =
    let found = position-Some p xs i d e in
    put_there p new xs i d found.0 found.1 found.2

-- and to the end where none passes
pub put_last : {X : Type 0} (p : X → Bool) (new : X) (xs : List X) → list_any p xs ≡ false → put p new xs ≡ xs ++ new ∷ []
put_last p new [] h = refl
put_last p new (x ∷ xs) h =
    let parts = or_false (p x) (list_any p xs) h in
    ap (λ b. cond b (new ∷ xs) (x ∷ put p new xs)) parts.0 ∙ ap (λ ys. x ∷ ys) (put_last p new xs parts.1)

-- a test of a looked-up item
abbrev pub passes : {X : Type 0} → (X → Bool) → Option X → Bool
passes q (Some x) = q x
passes q None = false

or_turned : (a b c : Bool) → (a || (b || c)) ≡ (b || (a || c))
or_turned true true c = refl
or_turned true false c = refl
or_turned false true c = refl
or_turned false false c = refl

split_first : {X : Type 0} (p q : X → Bool) (x : X) (xs : List X) (b : Bool) → p x ≡ b → (p x ≡ true → list_any p xs ≡ false) → list_any q xs ≡ (passes q (find p xs) || list_any q (without p xs)) → list_any q (x ∷ xs) ≡ (passes q (find p (x ∷ xs)) || list_any q (without p (x ∷ xs)))
split_first p q x xs true e o h =
    let found : find p (x ∷ xs) ≡ Some x = ap (λ b. cond b (Some x) (find p xs)) e in
    let left : without p (x ∷ xs) ≡ xs = dropped p x xs e ∙ none_taken p xs (o e) in
    sym (ap (λ o. passes q o || list_any q (without p (x ∷ xs))) found ∙ ap (λ ys. q x || list_any q ys) left)
split_first p q x xs false e o h =
    let found : find p (x ∷ xs) ≡ find p xs = ap (λ b. cond b (Some x) (find p xs)) e in
    let left : without p (x ∷ xs) ≡ x ∷ without p xs = stays p x xs e in
    ap (λ b. q x || b) h ∙ or_turned (q x) (passes q (find p xs)) (list_any q (without p xs)) ∙ sym (ap (λ o. passes q o || list_any q (without p (x ∷ xs))) found ∙ ap (λ ys. passes q (find p xs) || list_any q ys) left)

-- an item passes where the one that is found does, or one of the others
pub any_split : {X : Type 0} (p q : X → Bool) (xs : List X) → AtMostOne p xs → list_any q xs ≡ (passes q (find p xs) || list_any q (without p xs))
any_split p q [] o = refl
any_split p q (x ∷ xs) o = split_first p q x xs (p x) refl o.0 (any_split p q xs o.1)

put_first : {X : Type 0} (p q : X → Bool) (new x : X) (xs : List X) (b : Bool) → p x ≡ b → (p x ≡ true → list_any p xs ≡ false) → list_any q (put p new xs) ≡ (q new || list_any q (without p xs)) → list_any q (put p new (x ∷ xs)) ≡ (q new || list_any q (without p (x ∷ xs)))
put_first p q new x xs true e o h =
    let there : put p new (x ∷ xs) ≡ new ∷ xs = ap (λ b. cond b (new ∷ xs) (x ∷ put p new xs)) e in
    let left : without p (x ∷ xs) ≡ xs = dropped p x xs e ∙ none_taken p xs (o e) in
    ap (list_any q) there ∙ sym (ap (λ ys. q new || list_any q ys) left)
put_first p q new x xs false e o h =
    let there : put p new (x ∷ xs) ≡ x ∷ put p new xs = ap (λ b. cond b (new ∷ xs) (x ∷ put p new xs)) e in
    let left : without p (x ∷ xs) ≡ x ∷ without p xs = stays p x xs e in
    ap (list_any q) there ∙ ap (λ b. q x || b) h ∙ or_turned (q x) (q new) (list_any q (without p xs)) ∙ sym (ap (λ ys. q new || list_any q ys) left)

-- after an item was put, one passes where it does, or one of the others
pub any_put : {X : Type 0} (p q : X → Bool) (new : X) (xs : List X) → AtMostOne p xs → list_any q (put p new xs) ≡ (q new || list_any q (without p xs))
any_put p q new [] o = refl
any_put p q new (x ∷ xs) o = put_first p q new x xs (p x) refl o.0 (any_put p q new xs o.1)

-- a test of one item of a list that changes
pub any_set : {X : Type 0} (q : X → Bool) (xs : List X) (i : ℕ) (x new : X) → slice_get xs i ≡ Some x → (list_any q (slice_set xs i new) || q x) ≡ (list_any q xs || q new)
any_set q [] i x new e = cc
any_set q (y ∷ ys) zero x new e = ap (λ z. (q new || list_any q ys) || q z) (sym (some_is y x e)) ∙ three (q new) (q y) (list_any q ys)
  where
    three : (a b c : Bool) → ((a || c) || b) ≡ ((b || c) || a)
    three true true c = refl
    three true false true = refl
    three true false false = refl
    three false true true = refl
    three false true false = refl
    three false false true = refl
    three false false false = refl
any_set q (y ∷ ys) (suc i) x new e = joined (q y) (list_any q (slice_set ys i new)) (q x) (list_any q ys) (q new) (any_set q ys i x new e)
  where
    joined : (a b c d f : Bool) → (b || c) ≡ (d || f) → ((a || b) || c) ≡ ((a || d) || f)
    joined true b c d f h = refl
    joined false b c d f h = h

-- what a test of two items for sameness is
pub record IsSameness {X : Type 0} (same : X → X → Bool) : Type 0 where
  pub joined : (x y : X) → same x y ≡ true → (z : X) → same x z ≡ same y z
  pub turned : (x y : X) → same x y ≡ same y x

any_same : {X : Type 0} (p q : X → Bool) (xs : List X) → ((x : X) → p x ≡ q x) → list_any p xs ≡ list_any q xs
any_same p q [] h = refl
any_same p q (x ∷ xs) h = ap (λ b. b || list_any p xs) (h x) ∙ ap (λ b. q x || b) (any_same p q xs h)

-- where each item stands once, at most one is the same as another
pub at_most_one : {X : Type 0} (same : X → X → Bool) (is : IsSameness same) (x : X) (xs : List X) → EachOnce same xs → AtMostOne (same x) xs
at_most_one same is x [] h = tt
at_most_one same is x (y ∷ ys) h = (λ e. any_same (same x) (same y) ys (is.joined x y e) ∙ h.0, at_most_one same is x ys h.1)

filtered_any : {X : Type 0} (q p : X → Bool) (xs : List X) → list_any q xs ≡ false → list_any q (filter p xs) ≡ false
filtered_any q p [] h = refl
filtered_any q p (x ∷ xs) h =
    let parts = or_false (q x) (list_any q xs) h in
    elim (p x) as (λ b. list_any q (cond b (x ∷ filter p xs) (filter p xs)) ≡ false) [ true ↦ ap (λ b. b || list_any q (filter p xs)) parts.0 ∙ filtered_any q p xs parts.1 | false ↦ filtered_any q p xs parts.1 ]

-- each item stands once among fewer
pub filtered_once : {X : Type 0} (same : X → X → Bool) (p : X → Bool) (xs : List X) → EachOnce same xs → EachOnce same (filter p xs)
filtered_once same p [] h = tt
filtered_once same p (x ∷ xs) h =
    elim (p x) as (λ b. EachOnce same (cond b (x ∷ filter p xs) (filter p xs))) [ true ↦ (filtered_any (same x) p xs h.0, filtered_once same p xs h.1) | false ↦ filtered_once same p xs h.1 ]

put_any : {X : Type 0} (q p : X → Bool) (new : X) (xs : List X) → q new ≡ false → list_any q xs ≡ false → list_any q (put p new xs) ≡ false
put_any q p new [] k h = ap (λ b. b || false) k
put_any q p new (x ∷ xs) k h =
    let parts = or_false (q x) (list_any q xs) h in
    elim (p x) as (λ b. list_any q (cond b (new ∷ xs) (x ∷ put p new xs)) ≡ false) [ true ↦ ap (λ b. b || list_any q xs) k ∙ parts.1 | false ↦ ap (λ b. b || list_any q (put p new xs)) parts.0 ∙ put_any q p new xs k parts.1 ]

once_first : {X : Type 0} (same : X → X → Bool) (is : IsSameness same) (new x : X) (xs : List X) (b : Bool) → same new x ≡ b → list_any (same x) xs ≡ false → EachOnce same xs → EachOnce same (put (same new) new xs) → EachOnce same (cond b (new ∷ xs) (x ∷ put (same new) new xs))
once_first same is new x xs true e h k r = (any_same (same new) (same x) xs (is.joined new x e) ∙ h, k)
once_first same is new x xs false e h k r = (put_any (same x) (same new) new xs (sym (is.turned new x) ∙ e) h, r)

-- each item stands once after one was put
pub put_once : {X : Type 0} (same : X → X → Bool) (is : IsSameness same) (new : X) (xs : List X) → EachOnce same xs → EachOnce same (put (same new) new xs)
put_once same is new [] h = (refl, tt)
put_once same is new (x ∷ xs) h = once_first same is new x xs (same new x) refl h.0 h.1 (put_once same is new xs h.1)

changed_there : {X : Type 0} (p : X → Bool) (f : X → X) (xs : List X) (i : ℕ) (d : X) → i < length xs → p (get_or xs i d) ≡ true → ((k : ℕ) → k < i → p (get_or xs k d) ≡ false) → changed p f xs ≡ slice_set xs i (f (get_or xs i d))
changed_there p f [] i d h t k = absurd (omega arith)
changed_there p f (x ∷ xs) zero d h t k = ap (λ b. cond b (f x ∷ xs) (x ∷ changed p f xs)) t
changed_there p f (x ∷ xs) (suc i) d h t k =
    ap (λ b. cond b (f x ∷ xs) (x ∷ changed p f xs)) (k 0 (omega arith)) ∙ ap (λ ys. x ∷ ys) (changed_there p f xs i d (omega arith) t (λ j under. k (suc j) (omega arith)))

-- the change is at the position
pub changed_here : {X : Type 0} (p : X → Bool) (f : X → X) (xs : List X) (i : ℕ) (d : X) → position p xs ≡ Some i → d ≡ get_or xs i d → slice_set xs i (f d) ≡ changed p f xs
changed_here p f xs i d e is =
    let found = position-Some p xs i d e in
    ap (λ s. slice_set xs i (f s)) is ∙ sym (changed_there p f xs i d found.0 found.1 found.2)

-- where nothing passes, nothing changes
pub unchanged : {X : Type 0} (p : X → Bool) (f : X → X) (xs : List X) → list_any p xs ≡ false → changed p f xs ≡ xs
unchanged p f [] h = refl
unchanged p f (x ∷ xs) h =
    let parts = or_false (p x) (list_any p xs) h in
    ap (λ b. cond b (f x ∷ xs) (x ∷ changed p f xs)) parts.0 ∙ ap (λ ys. x ∷ ys) (unchanged p f xs parts.1)

less_there : {X : Type 0} (p : X → Bool) (xs : List X) (i : ℕ) (d : X) → i < length xs → p (get_or xs i d) ≡ true → ((k : ℕ) → k < i → p (get_or xs k d) ≡ false) → less p xs ≡ remove xs i
less_there p [] i d h t k = absurd (omega arith)
less_there p (x ∷ xs) zero d h t k = ap (λ b. cond b xs (x ∷ less p xs)) t
less_there p (x ∷ xs) (suc i) d h t k =
    ap (λ b. cond b xs (x ∷ less p xs)) (k 0 (omega arith)) ∙ ap (λ ys. x ∷ ys) (less_there p xs i d (omega arith) t (λ j under. k (suc j) (omega arith)))

-- the item at the position is the one that is left out
pub less_here : {X : Type 0} (p : X → Bool) (xs : List X) (i : ℕ) (d : X) → position p xs ≡ Some i → remove xs i ≡ less p xs
less_here p xs i d e =
    let found = position-Some p xs i d e in
    sym (less_there p xs i d found.0 found.1 found.2)

-- where nothing passes, nothing is left out
pub not_less : {X : Type 0} (p : X → Bool) (xs : List X) → list_any p xs ≡ false → less p xs ≡ xs
not_less p [] h = refl
not_less p (x ∷ xs) h =
    let parts = or_false (p x) (list_any p xs) h in
    ap (λ b. cond b xs (x ∷ less p xs)) parts.0 ∙ ap (λ ys. x ∷ ys) (not_less p xs parts.1)

-- an item that a look-up finds
pub get_is : {X : Type 0} (xs : List X) (i : ℕ) (x : X) → slice_get xs i ≡ Some x → x ≡ get_or xs i x
get_is [] i x e = cc
get_is (y ∷ ys) zero x e = sym (some_is y x e)
get_is (y ∷ ys) (suc i) x e = get_is ys i x e

passes_by : {X : Type 0} (p : X → Bool) (x first : X) (rest : Option X) → (rest ≡ Some x → p x ≡ true) → (b : Bool) → p first ≡ b → cond b (Some first) rest ≡ Some x → p x ≡ true
passes_by p x first rest later true here e = ap p (sym (some_is first x e)) ∙ here
passes_by p x first rest later false here e = later e

-- what is found passes
pub found_passes : {X : Type 0} (p : X → Bool) (x : X) (xs : List X) → find p xs ≡ Some x → p x ≡ true
found_passes p x [] e = absurd (cc)
found_passes p x (first ∷ rest) e = passes_by p x first (find p rest) (found_passes p x rest) (p first) refl e

-- the test finds nothing in what it took the items from
none_left_first : {X : Type 0} (p : X → Bool) (x : X) (xs : List X) (b : Bool) → p x ≡ b → list_any p (without p xs) ≡ false → list_any p (without p (x ∷ xs)) ≡ false
none_left_first p x xs true e h = ap (list_any p) (dropped p x xs e) ∙ h
none_left_first p x xs false e h = ap (list_any p) (stays p x xs e) ∙ ap (λ b. b || list_any p (without p xs)) e ∙ h

pub none_left : {X : Type 0} (p : X → Bool) (xs : List X) → list_any p (without p xs) ≡ false
none_left p [] = refl
none_left p (x ∷ xs) = none_left_first p x xs (p x) refl (none_left p xs)

-- an item pushed at the end stays there when an earlier one is taken out
pub taken_before : {X : Type 0} (p : X → Bool) (xs : List X) (i : ℕ) (x : X) → AtMostOne p xs → position p xs ≡ Some i → remove (xs ++ x ∷ []) i ≡ without p xs ++ x ∷ []
taken_before p xs i x o e =
    remove-append_left xs (x ∷ []) i (position-Some p xs i x e).0 ∙ ap (λ ys. ys ++ x ∷ []) (taken p xs i x o e)

pushed_any : {X : Type 0} (q : X → Bool) (e : X) (xs : List X) → q e ≡ false → list_any q xs ≡ false → list_any q (xs ++ e ∷ []) ≡ false
pushed_any q e [] k h = ap (λ b. b || false) k
pushed_any q e (x ∷ xs) k h =
    let parts = or_false (q x) (list_any q xs) h in
    ap (λ b. b || list_any q (xs ++ e ∷ [])) parts.0 ∙ pushed_any q e xs k parts.1

-- each item stands once after a new one at the end
pub pushed_once : {X : Type 0} (same : X → X → Bool) (is : IsSameness same) (e : X) (xs : List X) → list_any (same e) xs ≡ false → EachOnce same xs → EachOnce same (xs ++ e ∷ [])
pushed_once same is e [] k h = (refl, tt)
pushed_once same is e (x ∷ xs) k h =
    let parts = or_false (same e x) (list_any (same e) xs) k in
    (pushed_any (same x) e xs (sym (is.turned e x) ∙ parts.0) h.0, pushed_once same is e xs parts.1 h.1)
