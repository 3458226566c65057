-- Opens and streams that are found, put and taken out, and room for one more grant.
use Rattle.std.proofs.Common.{rules, tests, ◌≡◌, ℕ, ◌-◌, ◌<◌, ◌≤◌, nat_le, Bool, true, false, ◌&&◌, cond, List, [], ◌∷◌, ◌++◌, Option, Some, None, refl, sym, ap, subst, ◌∙◌, arith, slice_get, slice_set}
use Rattle.std.specs.List.{find, list_all, position, remove}
use Rattle.std.proofs.lemmas.Bool.{and_parts}
use Rattle.sprite_ids.specs.declared.StreamNo.{StreamNo}
use Rattle.sprite_ids.proofs.ListLaws.{some_is}
use Rattle.version_table.specs.declared.opens.Open.{Open}
use Rattle.version_table.specs.declared.action.Action.{Action}
use Rattle.version_table.specs.declared.action.Action.TheVariants.{Opening, Moving}
use Rattle.sprite_ids.specs.Lists.{put, less}
use Rattle.version_table.specs.Opens.{is_at, open_at, count_in, taking, taken_off, left_by, are_roomy}
use Rattle.sprite_ids.proofs.OnceLaws.{found_there, nothing_found, none_found, put_here, put_last, less_here, not_less, get_is}

-- none is taken out where none passes
pub less_none : {X : Type 0} (p : X → Bool) (xs : List X) → position p xs ≡ None → less p xs ≡ xs
less_none p xs e = not_less p xs (none_found p xs e)

-- the item at the position is found
pub found_get : {X : Type 0} (p : X → Bool) (xs : List X) (i : ℕ) (x : X) → position p xs ≡ Some i → slice_get xs i ≡ Some x → find p xs ≡ Some x
found_get p xs i x e is = found_there p xs i x e ∙ ap Some (sym (get_is xs i x is))

-- nothing is found without a position
pub found_none : {X : Type 0} (p : X → Bool) (xs : List X) → position p xs ≡ None → find p xs ≡ None
found_none p xs e = nothing_found p xs (none_found p xs e)

-- an item is put at the end without a position
pub put_end : {X : Type 0} (p : X → Bool) (new : X) (xs : List X) → position p xs ≡ None → put p new xs ≡ xs ++ new ∷ []
put_end p new xs e = put_last p new xs (none_found p xs e)

found_by : {X : Type 0} (q p : X → Bool) (y : X) (ys : List X) (x : X) (b : Bool) → q y ≡ true → (find p ys ≡ Some x → q x ≡ true) → cond b (Some y) (find p ys) ≡ Some x → q x ≡ true
found_by q p y ys x true h k e = subst (λ z. q z ≡ true) (some_is y x e) h
found_by q p y ys x false h k e = k e

pub all_found : {X : Type 0} (q p : X → Bool) (xs : List X) (x : X) → list_all q xs ≡ true → find p xs ≡ Some x → q x ≡ true
all_found q p [] x h e = cc
all_found q p (y ∷ ys) x h e =
    let parts = and_parts (q y) (list_all q ys) h in
    found_by q p y ys x (p y) parts.0 (all_found q p ys x parts.1) e

all_less : {X : Type 0} (q p : X → Bool) (xs : List X) → list_all q xs ≡ true → list_all q (less p xs) ≡ true
all_less q p [] h = h
all_less q p (x ∷ xs) h =
    let parts = and_parts (q x) (list_all q xs) h in
    elim (p x) as (λ b. list_all q (cond b xs (x ∷ less p xs)) ≡ true) [ true ↦ parts.1 | false ↦ ap (λ b. b && list_all q (less p xs)) parts.0 ∙ all_less q p xs parts.1 ]

all_put : {X : Type 0} (q p : X → Bool) (new : X) (xs : List X) → q new ≡ true → list_all q xs ≡ true → list_all q (put p new xs) ≡ true
all_put q p new [] k h = ap (λ b. b && true) k
all_put q p new (x ∷ xs) k h =
    let parts = and_parts (q x) (list_all q xs) h in
    elim (p x) as (λ b. list_all q (cond b (new ∷ xs) (x ∷ put p new xs)) ≡ true) [ true ↦ ap (λ b. b && list_all q xs) k ∙ parts.1 | false ↦ ap (λ b. b && list_all q (put p new xs)) parts.0 ∙ all_put q p new xs k parts.1 ]

few : (a b : ℕ) → nat_le a 2000000000 ≡ true → nat_le (a - b) 2000000000 ≡ true
few a b h = search (rules, tests, h)

pub is_few : (a : ℕ) → nat_le a 2000000000 ≡ true → a ≤ 2000000000
is_few a h = search (rules, tests, h)

counted_few : (opens : List Open) (stream : StreamNo) (kernel : ℕ) (o : Option Open) → open_at opens stream kernel ≡ o → are_roomy opens ≡ true → count_in o ≤ 2000000000
counted_few opens stream kernel (Some one) e h = is_few one.count (all_found (λ (x : Open). nat_le x.count 2000000000) (is_at stream kernel) opens one h e)
counted_few opens stream kernel None e h = omega arith

-- one more grant of a stream may be counted
pub count_few : (opens : List Open) (stream : StreamNo) (kernel : ℕ) → are_roomy opens ≡ true → count_in (open_at opens stream kernel) ≤ 2000000000
count_few opens stream kernel h = counted_few opens stream kernel (open_at opens stream kernel) refl h

taking_roomy : (opens : List Open) (stream : StreamNo) (kernel grants : ℕ) (o : Option Open) → open_at opens stream kernel ≡ o → are_roomy opens ≡ true → are_roomy (taking opens stream kernel grants o) ≡ true
taking_roomy opens stream kernel grants None e h = h
taking_roomy opens stream kernel grants (Some one) e h =
    let q : Open → Bool = λ x. nat_le x.count 2000000000 in
    let p = is_at stream kernel in
    let one_few = all_found q p opens one h e in
    elim (nat_le one.count grants) as (λ b. are_roomy (cond b (less p opens) (put p (record one { count = one.count - grants }) opens)) ≡ true) [ true ↦ all_less q p opens h | false ↦ all_put q p (record one { count = one.count - grants }) opens (few one.count grants one_few) h ]

-- also after grants were taken off
pub left_roomy : (opens : List Open) (action : Action) → are_roomy opens ≡ true → are_roomy (left_by opens action) ≡ true
left_roomy opens (Opening kernel stream mode truncate) h = h
left_roomy opens (Moving stream source target true grants) h = h
left_roomy opens (Moving stream source target false grants) h = taking_roomy opens stream source grants (open_at opens stream source) refl h

within : (a b : ℕ) → a ≤ b → nat_le a b ≡ true
within a b h = search (rules, tests, h)

past : (a b : ℕ) → b < a → nat_le a b ≡ false
past a b h = search (rules, tests, h)

-- an open whose grants are all taken off goes
pub all_off : (opens : List Open) (stream : StreamNo) (kernel grants i : ℕ) (one : Open) → position (is_at stream kernel) opens ≡ Some i → slice_get opens i ≡ Some one → one.count ≤ grants → remove opens i ≡ taken_off opens stream kernel grants
all_off opens stream kernel grants i one e is h =
    let p = is_at stream kernel in
    let found = ap (taking opens stream kernel grants) (found_get p opens i one e is) in
    let test = ap (λ b. cond b (less p opens) (put p (record one { count = one.count - grants }) opens)) (within one.count grants h) in
    less_here p opens i one e ∙ sym (found ∙ test)

-- and another has fewer
pub some_off : (opens : List Open) (stream : StreamNo) (kernel grants i : ℕ) (one : Open) → position (is_at stream kernel) opens ≡ Some i → slice_get opens i ≡ Some one → grants < one.count → slice_set opens i (record one { count = one.count - grants }) ≡ taken_off opens stream kernel grants
some_off opens stream kernel grants i one e is h =
    let p = is_at stream kernel in
    let found = ap (taking opens stream kernel grants) (found_get p opens i one e is) in
    let test = ap (λ b. cond b (less p opens) (put p (record one { count = one.count - grants }) opens)) (past one.count grants h) in
    put_here p (record one { count = one.count - grants }) opens i one e ∙ sym (found ∙ test)

-- nothing is taken off where nothing is open
pub none_off : (opens : List Open) (stream : StreamNo) (kernel grants : ℕ) → position (is_at stream kernel) opens ≡ None → opens ≡ taken_off opens stream kernel grants
none_off opens stream kernel grants e = sym (ap (taking opens stream kernel grants) (found_none (is_at stream kernel) opens e))
