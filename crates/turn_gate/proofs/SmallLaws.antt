-- Small facts about lists, sums and items by number.
use Rattle.std.proofs.Common.{◌≡◌, ℕ, zero, suc, ◌+◌, ◌%◌, ◌^◌, ◌<◌, ◌≤◌, eqb, ◌≢◌, ◌⊎◌, ◌==◌, cond, List, [], ◌∷◌, ◌++◌, length, drop, set, Option, Some, None, sym, refl, ap, ◌∙◌, inl, inr, ⊎_elim, arith, eq-eqb, ne_eqb}
use Rattle.std.proofs.lemmas.List.Elements.{filter-append}
use mathlib.Core.Option.{some, some-injective, some-ne-none}
use mathlib.Core.Logic.{dite}
use native.Mathlib.Decide.{ℕ_discrete}
use lib.ListN.{get_elem?}
use Rattle.turn_gate.specs.declared.view.View.{View}
use Rattle.turn_gate.specs.Rule.{In, items_of, one, one_or, total, ticketed, living}
use Rattle.turn_gate.specs.Steps.{AllBy, or_else}

-- the sum after one change
pub total_set : {A : Type 0} (f : A → ℕ) (xs : List A) (i : ℕ) (a b : A) → get_elem? xs i ≡ some a → total f (set xs i b) + f a ≡ total f xs + f b
total_set f [] i a b e = absurd (some-ne-none a (sym e))
total_set f (x ∷ xs) zero a b e = let q : f x ≡ f a = ap f (some-injective x a e) in omega arith
total_set f (x ∷ xs) (suc i) a b e = let h = total_set f xs i a b e in omega arith

pub total_snoc : {A : Type 0} (f : A → ℕ) (xs : List A) (a : A) → total f (xs ++ a ∷ []) ≡ total f xs + f a
total_snoc f [] a = omega arith
total_snoc f (x ∷ xs) a = let h = total_snoc f xs a in omega arith

-- each counts in the sum
pub total_there : {A : Type 0} (f : A → ℕ) (xs : List A) (i : ℕ) (a : A) → get_elem? xs i ≡ some a → f a ≤ total f xs
total_there f [] i a e = absurd (some-ne-none a (sym e))
total_there f (x ∷ xs) zero a e = let q : f x ≡ f a = ap f (some-injective x a e) in omega arith
total_there f (x ∷ xs) (suc i) a e = let h = total_there f xs i a e in omega arith

one_below : {A B : Type 0} (t : Option A) (b : Option B) → one t ≤ one_or t (one b)
one_below (Some x) b = omega arith
one_below None b = omega arith

-- whoever has a ticket is not spent
pub ticketed_below : {O I : Type 0} (views : List (View O I)) → total ticketed views ≤ total living views
ticketed_below [] = omega arith
ticketed_below (v ∷ vs) = let h = ticketed_below vs in let a : ticketed v ≤ living v = one_below v.ticket v.origin in let b : total ticketed vs ≤ total living vs = h in omega arith

pub set_at : {A : Type 0} (xs : List A) (i : ℕ) (a b : A) → get_elem? xs i ≡ some a → get_elem? (set xs i b) i ≡ some b
set_at [] i a b e = absurd (some-ne-none a (sym e))
set_at (x ∷ xs) zero a b e = refl
set_at (x ∷ xs) (suc i) a b e = set_at xs i a b e

-- what stands in a list with one more
pub at_end : {A : Type 0} (xs : List A) (a b : A) (j : ℕ) → get_elem? (xs ++ a ∷ []) j ≡ some b → (get_elem? xs j ≡ some b) ⊎ ((j ≡ length xs) × (a ≡ b))
at_end [] a b zero e = inr (refl, some-injective a b e)
at_end [] a b (suc j) e = absurd (some-ne-none b (sym e))
at_end (x ∷ xs) a b zero e = inl e
at_end (x ∷ xs) a b (suc j) e = ⊎_elim (λ t. inl t) (λ t. inr (ap suc t.0, t.1)) (at_end xs a b j e)

pub there_below : {A : Type 0} (xs : List A) (i : ℕ) (a : A) → get_elem? xs i ≡ some a → i < length xs
there_below [] i a e = absurd (some-ne-none a (sym e))
there_below (x ∷ xs) zero a e = omega arith
there_below (x ∷ xs) (suc i) a e = let h = there_below xs i a e in omega arith

-- a function changed at one place
abbrev pub put : (ℕ → ℕ) → ℕ → ℕ → ℕ → ℕ
put f i b j = cond (eqb j i) b (f j)

pub put_here : (f : ℕ → ℕ) (i b : ℕ) → put f i b i ≡ b
put_here f i b = ap (λ c. cond c b (f i)) (eq-eqb i i refl)

pub put_else : (f : ℕ → ℕ) (i b j : ℕ) → j ≢ i → put f i b j ≡ f j
put_else f i b j n = ap (λ c. cond c b (f j)) (ne_eqb j i n)

-- the number a, but c where it is b
abbrev pub moved : ℕ → ℕ → ℕ → ℕ
moved a b c = cond (eqb a b) c a

pub moved_here : (a b c : ℕ) → a ≡ b → moved a b c ≡ c
moved_here a b c e = ap (λ d. cond d c a) (eq-eqb a b e)

pub moved_else : (a b c : ℕ) → a ≢ b → moved a b c ≡ a
moved_else a b c n = ap (λ d. cond d c a) (ne_eqb a b n)

pub in_append : (n : ℕ) (xs ys : List ℕ) → In n (xs ++ ys) → In n xs ⊎ In n ys
in_append n [] ys h = inr h
in_append n (x ∷ xs) ys h = ⊎_elim (λ e. inl (inl e)) (λ t. ⊎_elim (λ a. inl (inr a)) (λ b. inr b) (in_append n xs ys t)) h

pub in_front : (n : ℕ) (xs ys : List ℕ) → In n xs → In n (xs ++ ys)
in_front n [] ys h = absurd h
in_front n (x ∷ xs) ys h = ⊎_elim (λ e. inl e) (λ t. inr (in_front n xs ys t)) h

pub in_back : (n : ℕ) (xs ys : List ℕ) → In n ys → In n (xs ++ ys)
in_back n [] ys h = h
in_back n (x ∷ xs) ys h = inr (in_back n xs ys h)

pub in_one : (n m : ℕ) → In n (m ∷ []) → n ≡ m
in_one n m h = ⊎_elim (λ e. e) (λ z. absurd z) h

pub is_in : (n : ℕ) (ms : List ℕ) → Dec (In n ms)
is_in n [] = no (λ h. h)
is_in n (m ∷ ms) = dite (ℕ_discrete n m) (λ e. yes (inl e)) (λ ne. dite (is_in n ms) (λ h. yes (inr h)) (λ nh. no (λ h. ⊎_elim (λ e. ne e) (λ t. nh t) h)))

pub items_append : {I : Type 0} (n : ℕ) (xs ys : List (ℕ × I)) → items_of n (xs ++ ys) ≡ items_of n xs ++ items_of n ys
items_append n xs ys = filter-append (λ x. x.0 == n) xs ys

-- items by one number are all of that number
pub items_all : {I : Type 0} (n : ℕ) (xs : List (ℕ × I)) → AllBy n xs → items_of n xs ≡ xs
items_all n [] h = refl
items_all n (x ∷ xs) h = ap (λ c. cond c (x ∷ items_of n xs) (items_of n xs)) (eq-eqb x.0 n h.0) ∙ ap (λ (l : List _). x ∷ l) (items_all n xs h.1)

pub items_else : {I : Type 0} (n m : ℕ) (xs : List (ℕ × I)) → AllBy n xs → m ≢ n → items_of m xs ≡ []
items_else n m [] h ne = refl
items_else n m (x ∷ xs) h ne = ap (λ c. cond c (x ∷ items_of m xs) (items_of m xs)) (ne_eqb x.0 m (λ e. ne (sym e ∙ h.0))) ∙ items_else n m xs h.1 ne

items_twice : {I : Type 0} (n m : ℕ) (xs : List (ℕ × I)) → m ≢ n → items_of m (items_of n xs) ≡ []
items_twice n m [] ne = refl
items_twice n m (x ∷ xs) ne = dite (ℕ_discrete x.0 n)
    (λ e. ap (λ c. items_of m (cond c (x ∷ items_of n xs) (items_of n xs))) (eq-eqb x.0 n e)
    ∙ (ap (λ c. cond c (x ∷ items_of m (items_of n xs)) (items_of m (items_of n xs))) (ne_eqb x.0 m (λ f. ne (sym f ∙ e))) ∙ items_twice n m xs ne))
    (λ d. ap (λ c. items_of m (cond c (x ∷ items_of n xs) (items_of n xs))) (ne_eqb x.0 n d) ∙ items_twice n m xs ne)

-- items that are all of a number are none of another
pub items_none : {I : Type 0} (n m : ℕ) (xs : List (ℕ × I)) → items_of n xs ≡ xs → m ≢ n → items_of m xs ≡ []
items_none n m xs e ne = ap (λ l. items_of m l) (sym e) ∙ items_twice n m xs ne

pub drop_front : {A : Type 0} (xs ys : List A) → drop (length xs) (xs ++ ys) ≡ ys
drop_front [] ys = refl
drop_front (x ∷ xs) ys = drop_front xs ys

pub some_is : {A : Type 0} (x y : A) → Some x ≡ Some y → x ≡ y
some_is x y e = cc

pub one_some : {A : Type 0} (o : Option A) → o ≢ None → one o ≡ 1
one_some (Some x) h = refl
one_some None h = absurd (h refl)

pub next_word : (n : ℕ) → (n % 2 ^ 64 + 1) % 2 ^ 64 ≡ suc n % 2 ^ 64
next_word n = omega arith

pub more_word : (n m k : ℕ) → n + m ≡ k → (n % 2 ^ 64 + m) % 2 ^ 64 ≡ k % 2 ^ 64
more_word n m k e = omega arith

pub some_not : {A : Type 0} (x : A) → Some x ≢ None
some_not x e = cc

pub none_not : {A : Type 0} (x : A) → None ≢ Some x
none_not x e = cc

-- the value of the first slot that is held
abbrev pub or_this : {A : Type 0} → Option A → A → A
or_this (Some x) d = x
or_this None d = d

abbrev pub value_in : {A : Type 0} → List (ℕ × Option A) → A → A
value_in [] d = d
value_in (y ∷ ys) d = or_this y.1 d

pub same_value : {A : Type 0} (c : List (ℕ × Option A)) (x y : A) → c ≡ (0, Some x) ∷ [] → c ≡ (0, Some y) ∷ [] → x ≡ y
same_value c x y e f = ap (λ l. value_in l x) (sym e ∙ f)

pub or_else_is : {A : Type 0} (a b : Option A) (x : A) → or_else a b ≡ Some x → (a ≡ Some x) ⊎ (b ≡ Some x)
or_else_is (Some y) b x e = inl e
or_else_is None b x e = inr e
