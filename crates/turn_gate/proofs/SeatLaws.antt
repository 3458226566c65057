-- Rows of seats: how they are made, and how they are joined.
use Rattle.std.proofs.Common.{◌≡◌, ℕ, zero, suc, ◌+◌, ◌<◌, ◌≤◌, List, [], ◌∷◌, ◌++◌, map, length, slice_index_or, All, Option, Some, sym, refl, ap, ap₂, ◌∙◌, subst, arith, length-append}
use Rattle.atomic_table.specs.Table.{Me, Splits, Joins}
use Rattle.turn_gate.specs.declared.view.View.{View}
use Rattle.turn_gate.specs.Rule.{items_of}
use Rattle.turn_gate.specs.Steps.{dealer, dealt, joined, spent_view, IsIdle, IsPlain, Later}
use Rattle.turn_gate.specs.Ended.{Ordered, IsAll, opener, newcomer, newcomers, seats_of}
use Rattle.turn_gate.proofs.SmallLaws.{some_not, items_append, items_all}
use Rattle.turn_gate.proofs.RuleLaws.{K}
use Rattle.turn_gate.proofs.DealLaws.{deals, joins}

-- one more seat
pub newcomers_more : {O I : Type 0} (o : O) (op : List (ℕ × I)) (n more : ℕ) → newcomers o op n (suc more) ≡ newcomers o op n more ++ newcomer o op (suc (more + n)) ∷ []
newcomers_more o op n zero = ap (λ k. newcomer o op (suc k) ∷ []) (let e : n ≡ 0 + n = omega arith in e)
newcomers_more o op n (suc more) = ap (λ l. newcomer o op (suc n) ∷ l) (newcomers_more o op (suc n) more ∙ ap (λ k. newcomers o op (suc n) more ++ newcomer o op (suc k) ∷ []) (let e : more + suc n ≡ suc more + n = omega arith in e))

map_more : {A B : Type 0} (f : A → B) (xs : List A) (x : A) → map f (xs ++ x ∷ []) ≡ map f xs ++ f x ∷ []
map_more f [] x = refl
map_more f (y ∷ xs) x = ap (λ l. f y ∷ l) (map_more f xs x)

pub row_pushed : {A O I : Type 0} (f : A → View O I) (o : O) (op : List (ℕ × I)) (xs : List A) (x : A) (n : ℕ) → map f xs ≡ newcomers o op 1 (length xs) → length xs + 1 ≡ n → f x ≡ newcomer o op (suc n)
    → map f (xs ++ x ∷ []) ≡ newcomers o op 1 (length (xs ++ x ∷ []))
row_pushed f o op xs x n row long new = map_more f xs x ∙ ap₂ (λ l v. l ++ v ∷ []) row (new ∙ ap (λ k. newcomer o op (suc k)) (sym long)) ∙ sym (newcomers_more o op 1 (length xs))
    ∙ ap (λ k. newcomers o op 1 k) (let e : suc (length xs) ≡ length xs + 1 = omega arith in e ∙ sym (length-append xs (x ∷ [])))

pub row_full : {A O I : Type 0} (f : A → View O I) (o : O) (op : List (ℕ × I)) (xs : List A) (x : A) (n : ℕ) → map f xs ≡ newcomers o op 1 (length xs) → length xs + 1 ≡ n → f x ≡ opener o op n → map f (x ∷ xs) ≡ seats_of o op n
row_full f o op xs x n row long first = ap₂ (λ v l. v ∷ l) (first ∙ ap (λ k. opener o op k) n_is) row ∙ ap (λ k. seats_of o op k) (sym n_is)
  where
    n_is : n ≡ suc (length xs)
    n_is = sym long ∙ (omega arith)

length-newcomers : {O I : Type 0} (o : O) (op : List (ℕ × I)) (n more : ℕ) → length (newcomers o op n more) ≡ more
length-newcomers o op n zero = refl
length-newcomers o op n (suc more) = ap (λ k. suc k) (length-newcomers o op (suc n) more)

ordered_newcomers : {O I : Type 0} (o : O) (op : List (ℕ × I)) (n more : ℕ) → Ordered n (newcomers o op n more)
ordered_newcomers o op n zero = tt
ordered_newcomers o op n (suc more) = ((refl, refl, refl), ordered_newcomers o op (suc n) more)

-- the seats of a new gate are all its seats
pub all_seats : {O I : Type 0} (o : O) (op : List (ℕ × I)) (n : ℕ) → 1 ≤ n → IsAll (seats_of o op n)
all_seats o op zero h = absurd (omega arith)
all_seats o op (suc more) h = (((refl, refl, refl), ordered_newcomers o op 1 more), ap (λ k. Some (suc k)) (sym (length-newcomers o op 1 more)))

pub every_head : {A : Type 0} (P : A → Type 0) (xs ys : List A) (y : A) → xs ≡ y ∷ ys → All P xs → P y
every_head P xs ys y e all = (subst (λ l. All P l) e all) zero y (omega arith)

pub every_tail : {A : Type 0} (P : A → Type 0) (xs ys : List A) (y : A) → xs ≡ y ∷ ys → All P xs → All P ys
every_tail P xs ys y e all = λ k d low. (subst (λ l. All P l) e all) (suc k) d (omega arith)

pub deals_as : {V O I : Type 0} (origin : V → O) (logof : V → List (ℕ × I)) (holds : V → Type 0) (o : O) (op : List (ℕ × I)) (id : ℕ) (v : View O I) (n : ℕ) → v ≡ opener o op n → n < 16 → Splits (K origin logof holds o op) id v (dealer v) (dealt v)
deals_as {V} {O} {I} origin logof holds o op id v n e room = subst (λ (z : View O I). Splits (K origin logof holds o op) id z (dealer z) (dealt z)) (sym e) (deals origin logof holds o op id (opener o op n) n (some_not o) refl refl refl room)

-- the seat after all have joined so far, and one more
pub joins_as : {V O I : Type 0} (origin : V → O) (logof : V → List (ℕ × I)) (holds : V → Type 0) (o : O) (op : List (ℕ × I)) (id : ℕ) (me : Me (Option V) (View O I)) (other : ℕ) (him : Me (Option V) (View O I)) → IsIdle me → IsIdle him
    → Joins (K origin logof holds o op) id me.0 other him.0 (joined me.0 him.0) spent_view
joins_as origin logof holds o op id me other him idle his = joins origin logof holds o op id me.0 other him.0 idle.0 idle.2 his.1 his.2

pub idle_joined : {S O I : Type 0} (me after : Me S (View O I)) (w : View O I) → IsIdle me → after ≡ (joined me.0 w, me.1) → IsIdle after
idle_joined {S} {O} {I} me after w idle e = subst (λ (m : Me S (View O I)). IsIdle m) (sym e) idle

pub row_pushed_as : {A O I : Type 0} (f : A → View O I) (o : O) (op : List (ℕ × I)) (xs after : List A) (x : A) (n : ℕ) → map f xs ≡ newcomers o op 1 (length xs) → length xs + 1 ≡ n → f x ≡ newcomer o op (suc n) → after ≡ xs ++ x ∷ []
    → map f after ≡ newcomers o op 1 (length after)
row_pushed_as f o op xs after x n row long new e = subst (λ l. map f l ≡ newcomers o op 1 (length l)) (sym e) (row_pushed f o op xs x n row long new)

pub dealer_as : {S O I : Type 0} (o : O) (op : List (ℕ × I)) (me m : Me S (View O I)) (n : ℕ) → me ≡ (opener o op n, []) → m ≡ (dealer me.0, me.1) → m ≡ (opener o op (n + 1), [])
dealer_as {S} {O} {I} o op me m n e is = is ∙ (ap (λ (z : Me S (View O I)). (dealer z.0, z.1)) e ∙ ap (λ k. (opener o op k, [])) (let p : suc n ≡ n + 1 = omega arith in p))

pub dealt_as : {S O I : Type 0} (o : O) (op : List (ℕ × I)) (me m : Me S (View O I)) (n : ℕ) → me ≡ (opener o op n, []) → m ≡ (dealt me.0, []) → m.0 ≡ newcomer o op (suc n)
dealt_as {S} {O} {I} o op me m n e is = ap (λ (z : Me S (View O I)). z.0) is ∙ ap (λ (z : Me S (View O I)). dealt z.0) e

plain_later : {O I : Type 0} (n : ℕ) (v w : View O I) → IsPlain n v → Later v w → IsPlain n w
plain_later n v w plain later =
    let number : v.number ≡ n = plain.0 in
    let new : List _ = later.items.0 in
    let all : items_of n new ≡ new = ap (λ k. items_of k new) (sym number) ∙ items_all v.number new later.items.2 in
    let whole : items_of n (v.items ++ new) ≡ v.items ++ new = items_append n v.items new ∙ ap₂ (λ a b. a ++ b) plain.2 all in
    (later.number ∙ number, later.keeps ∙ plain.1, subst (λ l. items_of n l ≡ l) (sym later.items.1) whole)

ordered_later : {A O I : Type 0} (f : A → View O I) (n : ℕ) (xs ys : List A) → Ordered n (map f xs) → length ys ≡ length xs → ((i : ℕ) (d : A) → i < length xs → Later (f (slice_index_or xs i d)) (f (slice_index_or ys i d))) → Ordered n (map f ys)
ordered_later f n [] [] ord long later = tt
ordered_later f n [] (y ∷ ys) ord long later = absurd (omega arith)
ordered_later f n (x ∷ xs) [] ord long later = absurd (omega arith)
ordered_later f n (x ∷ xs) (y ∷ ys) ord long later = (plain_later (suc n) (f x) (f y) ord.0 (later 0 x (omega arith)), ordered_later f (suc n) xs ys ord.1 (omega arith) (λ i d low. later (suc i) d (omega arith)))

length-map : {A B : Type 0} (f : A → B) (xs : List A) → length (map f xs) ≡ length xs
length-map f [] = refl
length-map f (x ∷ xs) = ap (λ k. suc k) (length-map f xs)

-- all seats, some turns later, are all seats
pub all_later : {A O I : Type 0} (f : A → View O I) (xs ys : List A) → IsAll (map f xs) → length ys ≡ length xs → ((i : ℕ) (d : A) → i < length xs → Later (f (slice_index_or xs i d)) (f (slice_index_or ys i d))) → IsAll (map f ys)
all_later f [] ys all long later = absurd all
all_later f (x ∷ xs) [] all long later = absurd (omega arith)
all_later f (x ∷ xs) (y ∷ ys) all long later =
    let same : length ys ≡ length xs = omega arith in
    (ordered_later f 0 (x ∷ xs) (y ∷ ys) all.0 long later, (later 0 x (omega arith)).tally ∙ all.1 ∙ ap (λ k. Some (suc k)) (length-map f xs ∙ sym same ∙ sym (length-map f ys)))
