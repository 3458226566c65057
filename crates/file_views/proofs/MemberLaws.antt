-- What stands in a list after its edits, and lists in which each item stands once.
use Rattle.std.proofs.Common.{◌≡◌, ◌≢◌, ◌⊎◌, ap₂, ℕ, ◌==◌, Bool, true, false, cond, not, List, [], ◌∷◌, ◌++◌, map, filter, Some, refl, sym, ap, ◌∙◌, subst, inl, inr, eqb-true, eq-eqb, ne_eqb}
use Rattle.std.proofs.lemmas.Bool.Decides.{eqb_tells}
use Rattle.file_views.specs.declared.call.FileCall.{FileCall}
use Rattle.file_views.specs.declared.client.Held.{Held}
use Rattle.file_views.specs.declared.call.Carry.{Carry}
use Rattle.file_views.specs.Views.{find_call, without_call, with_call, find_carried}
use Rattle.file_views.specs.Clients.{held}
use Rattle.file_views.specs.Here.{In, Unique}
use Rattle.file_views.specs.SoundShapes.{numbers}

-- both parts of a list
pub in_left : {X : Type 0} (x : X) (xs ys : List X) → In x xs → In x (xs ++ ys)
in_left x [] ys m = absurd m
in_left x (y ∷ xs) ys (inl e) = inl e
in_left x (y ∷ xs) ys (inr m) = inr (in_left x xs ys m)

pub in_right : {X : Type 0} (x : X) (xs ys : List X) → In x ys → In x (xs ++ ys)
in_right x [] ys m = m
in_right x (y ∷ xs) ys m = inr (in_right x xs ys m)

in_join_first : {X : Type 0} (x y : X) (xs ys : List X) → In x xs ⊎ In x ys → In x (y ∷ xs) ⊎ In x ys
in_join_first x y xs ys (inl m) = inl (inr m)
in_join_first x y xs ys (inr m) = inr m

pub in_join : {X : Type 0} (x : X) (xs ys : List X) → In x (xs ++ ys) → In x xs ⊎ In x ys
in_join x [] ys m = inr m
in_join x (y ∷ xs) ys (inl e) = inl (inl e)
in_join x (y ∷ xs) ys (inr m) = in_join_first x y xs ys (in_join x xs ys m)

-- one more at the end
pub in_last : {X : Type 0} (x y : X) (xs : List X) → In x (xs ++ y ∷ []) → In x xs ⊎ (x ≡ y)
in_last x y [] (inl e) = inr e
in_last x y [] (inr m) = absurd m
in_last x y (z ∷ xs) (inl e) = inl (inl e)
in_last x y (z ∷ xs) (inr m) = in_last_first (in_last x y xs m)
  where
    in_last_first : In x xs ⊎ (x ≡ y) → In x (z ∷ xs) ⊎ (x ≡ y)
    in_last_first (inl k) = inl (inr k)
    in_last_first (inr e) = inr e

pub last_in : {X : Type 0} (y : X) (xs : List X) → In y (xs ++ y ∷ [])
last_in y xs = in_right y xs (y ∷ []) (inl refl)

-- what a test keeps
in_filter_first : {X : Type 0} (p : X → Bool) (x y : X) (ys : List X) (b : Bool) → p y ≡ b → (In x (filter p ys) → In x ys × (p x ≡ true)) → In x (cond b (y ∷ filter p ys) (filter p ys)) → In x (y ∷ ys) × (p x ≡ true)
in_filter_first p x y ys true e f (inl q) = (inl q, ap p q ∙ e)
in_filter_first p x y ys true e f (inr m) = let r = f m in (inr r.0, r.1)
in_filter_first p x y ys false e f m = let r = f m in (inr r.0, r.1)

pub in_filter : {X : Type 0} (p : X → Bool) (x : X) (xs : List X) → In x (filter p xs) → In x xs × (p x ≡ true)
in_filter p x [] m = absurd m
in_filter p x (y ∷ ys) m = in_filter_first p x y ys (p y) refl (in_filter p x ys) m

filter_in_first : {X : Type 0} (p : X → Bool) (x y : X) (ys : List X) (b : Bool) → p y ≡ b → p x ≡ true → (In x ys → In x (filter p ys)) → In x (y ∷ ys) → In x (cond b (y ∷ filter p ys) (filter p ys))
filter_in_first p x y ys true e k f (inl q) = inl q
filter_in_first p x y ys true e k f (inr m) = inr (f m)
filter_in_first p x y ys false e k f (inl q) = absurd (cc (q, e, k))
filter_in_first p x y ys false e k f (inr m) = f m

pub filter_in : {X : Type 0} (p : X → Bool) (x : X) (xs : List X) → In x xs → p x ≡ true → In x (filter p xs)
filter_in p x [] m k = absurd m
filter_in p x (y ∷ ys) m k = filter_in_first p x y ys (p y) refl k (λ n. filter_in p x ys n k) m

-- what a function makes
pub record Made {X Y : Type 0} (f : X → Y) (y : Y) (xs : List X) : Type 0 where
  pub x : X
  pub there : In x xs
  pub makes : y ≡ f x

pub in_map : {X Y : Type 0} (f : X → Y) (y : Y) (xs : List X) → In y (map f xs) → Made f y xs
in_map f y [] m = absurd m
in_map f y (x ∷ xs) (inl e) = record { x = x; there = inl refl; makes = e }
in_map f y (x ∷ xs) (inr m) = let r = in_map f y xs m in record { x = r.x; there = inr r.there; makes = r.makes }

pub map_in : {X Y : Type 0} (f : X → Y) (x : X) (xs : List X) → In x xs → In (f x) (map f xs)
map_in f x [] m = absurd m
map_in f x (y ∷ ys) (inl e) = inl (ap f e)
map_in f x (y ∷ ys) (inr m) = inr (map_in f x ys m)

-- a list in which each item stands once, in parts
pub unique_left : {X : Type 0} (xs ys : List X) → Unique (xs ++ ys) → Unique xs
unique_left [] ys u = tt
unique_left (x ∷ xs) ys u = (λ m. u.0 (in_left x xs ys m), unique_left xs ys u.1)

pub unique_right : {X : Type 0} (xs ys : List X) → Unique (xs ++ ys) → Unique ys
unique_right [] ys u = u
unique_right (x ∷ xs) ys u = unique_right xs ys u.1

pub unique_apart : {X : Type 0} (x : X) (xs ys : List X) → Unique (xs ++ ys) → In x xs → In x ys → ⊥
unique_apart x [] ys u m n = m
unique_apart x (y ∷ xs) ys u (inl e) n = u.0 (subst (λ z. In z (xs ++ ys)) e (in_right x xs ys n))
unique_apart x (y ∷ xs) ys u (inr m) n = unique_apart x xs ys u.1 m n

pub unique_join : {X : Type 0} (xs ys : List X) → Unique xs → Unique ys → ((x : X) → In x xs → In x ys → ⊥) → Unique (xs ++ ys)
unique_join [] ys u w f = w
unique_join (x ∷ xs) ys u w f = (λ m. outside (in_join x xs ys m), unique_join xs ys u.1 w (λ z n. f z (inr n)))
  where
    outside : In x xs ⊎ In x ys → ⊥
    outside (inl m) = u.0 m
    outside (inr m) = f x (inl refl) m

-- one more at the end
pub unique_append : {X : Type 0} (xs : List X) (x : X) → Unique xs → (In x xs → ⊥) → Unique (xs ++ x ∷ [])
unique_append {X} xs x u f = unique_join xs (x ∷ []) u ((λ m. m), tt) (λ z m n. meets z m n)
  where
    meets : (z : X) → In z xs → In z (x ∷ []) → ⊥
    meets z m (inl e) = f (subst (λ w. In w xs) e m)
    meets z m (inr n) = n

-- fewer of them
in_numbers_filter : {X Y : Type 0} (f : X → Y) (p : X → Bool) (y : Y) (xs : List X) → In y (map f (filter p xs)) → In y (map f xs)
in_numbers_filter f p y xs m =
    let r : Made f y (filter p xs) = in_map f y (filter p xs) m in
    subst (λ z. In z (map f xs)) (sym r.makes) (map_in f r.x xs (in_filter p r.x xs r.there).0)

unique_filter_first : {X Y : Type 0} (f : X → Y) (p : X → Bool) (x : X) (xs : List X) (b : Bool) → (In (f x) (map f xs) → ⊥) → Unique (map f (filter p xs)) → Unique (map f (cond b (x ∷ filter p xs) (filter p xs)))
unique_filter_first f p x xs true k u = (λ m. k (in_numbers_filter f p (f x) xs m), u)
unique_filter_first f p x xs false k u = u

pub unique_filter : {X Y : Type 0} (f : X → Y) (p : X → Bool) (xs : List X) → Unique (map f xs) → Unique (map f (filter p xs))
unique_filter f p [] u = tt
unique_filter f p (x ∷ xs) u = unique_filter_first f p x xs (p x) u.0 (unique_filter f p xs u.1)

-- items with one key are one
pub same_key : {X Y : Type 0} (f : X → Y) (xs : List X) (x y : X) → Unique (map f xs) → In x xs → In y xs → f x ≡ f y → x ≡ y
same_key f [] x y u m n e = absurd m
same_key f (z ∷ zs) x y u (inl a) (inl b) e = a ∙ sym b
same_key f (z ∷ zs) x y u (inl a) (inr n) e = absurd (u.0 (subst (λ w. In w (map f zs)) (sym e ∙ ap f a) (map_in f y zs n)))
same_key f (z ∷ zs) x y u (inr m) (inl b) e = absurd (u.0 (subst (λ w. In w (map f zs)) (e ∙ ap f b) (map_in f x zs m)))
same_key f (z ∷ zs) x y u (inr m) (inr n) e = same_key f zs x y u.1 m n e

pub same_call : (calls : List FileCall) (one other : FileCall) → Unique (numbers calls) → In one calls → In other calls → one.number ≡ other.number → one ≡ other
same_call calls one other u m n e = same_key (λ (c : FileCall). c.number) calls one other u m n e

-- calls without one
not_true : (b : Bool) → not b ≡ true → b ≡ false
not_true true e = absurd (cc)
not_true false e = refl

pub in_without : (number : ℕ) (one : FileCall) (calls : List FileCall) → In one (without_call number calls) → In one calls × (one.number ≢ number)
in_without number one calls m =
    let r = in_filter (λ (c : FileCall). not (c.number == number)) one calls m in
    (r.0, λ e. differs e (not_true (one.number == number) r.1))
  where
    differs : one.number ≡ number → (one.number == number) ≡ false → ⊥
    differs e k = elim (eqb_tells one.number number) [ inl a ↦ absurd (cc (a.0, k)) | inr b ↦ b.1 e ]

pub without_in : (number : ℕ) (one : FileCall) (calls : List FileCall) → In one calls → one.number ≢ number → In one (without_call number calls)
without_in number one calls m k = filter_in (λ (c : FileCall). not (c.number == number)) one calls m (ap not (ne_eqb one.number number k))

-- calls with one in the place of that with its number
with_first : (new c : FileCall) (b : Bool) → (c.number == new.number) ≡ b → (one : FileCall) → one ≡ cond b new c → ((one ≡ c) × (one.number ≢ new.number)) ⊎ (one ≡ new)
with_first new c true e one q = inr q
with_first new c false e one q = inl (q, λ k. elim (eqb_tells c.number new.number) [ inl a ↦ absurd (cc (a.0, e)) | inr d ↦ d.1 (sym (ap (λ (x : FileCall). x.number) q) ∙ k) ])

pub in_with : (new one : FileCall) (calls : List FileCall) → In one (with_call new calls) → (In one calls × (one.number ≢ new.number)) ⊎ (one ≡ new)
in_with new one [] m = absurd m
in_with new one (c ∷ calls) (inl e) = place (with_first new c (c.number == new.number) refl one e)
  where
    place : ((one ≡ c) × (one.number ≢ new.number)) ⊎ (one ≡ new) → (In one (c ∷ calls) × (one.number ≢ new.number)) ⊎ (one ≡ new)
    place (inl a) = inl (inl a.0, a.1)
    place (inr e) = inr e
in_with new one (c ∷ calls) (inr m) = further (in_with new one calls m)
  where
    further : (In one calls × (one.number ≢ new.number)) ⊎ (one ≡ new) → (In one (c ∷ calls) × (one.number ≢ new.number)) ⊎ (one ≡ new)
    further (inl a) = inl (inr a.0, a.1)
    further (inr e) = inr e

pub with_in : (new one : FileCall) (calls : List FileCall) → In one calls → one.number ≢ new.number → In one (with_call new calls)
with_in new one [] m k = absurd m
with_in new one (c ∷ calls) (inl e) k = inl (e ∙ sym (ap (λ b. cond b new c) (ne_eqb c.number new.number (λ q. k (ap (λ (x : FileCall). x.number) e ∙ q)))))
with_in new one (c ∷ calls) (inr m) k = inr (with_in new one calls m k)

-- the one that is put there stands there
pub with_new : (new one : FileCall) (calls : List FileCall) → new.number ≡ one.number → In one calls → In new (with_call new calls)
with_new new one [] e m = absurd m
with_new new one (c ∷ calls) e (inl q) = inl (sym (ap (λ b. cond b new c) (eq-eqb c.number new.number (ap (λ (x : FileCall). x.number) (sym q) ∙ sym e))))
with_new new one (c ∷ calls) e (inr m) = inr (with_new new one calls e m)

-- the numbers stay
pub numbers_with : (new : FileCall) (calls : List FileCall) → numbers (with_call new calls) ≡ numbers calls
numbers_with new [] = refl
numbers_with new (c ∷ calls) = ap₂ (λ a b. a ∷ b) (same_there (c.number == new.number) refl) (numbers_with new calls)
  where
    same_there : (b : Bool) → (c.number == new.number) ≡ b → (cond b new c).number ≡ c.number
    same_there true e = sym (eqb-true c.number new.number e)
    same_there false e = refl

-- a call that is found
found_first : (one c : FileCall) (calls : List FileCall) (number : ℕ) (b : Bool) → (c.number == number) ≡ b → (find_call calls number ≡ Some one → In one calls × (one.number ≡ number)) → cond b (Some c) (find_call calls number) ≡ Some one → In one (c ∷ calls) × (one.number ≡ number)
found_first one c calls number true e f q = let same : c ≡ one = cc in (inl (sym same), ap (λ (x : FileCall). x.number) (sym same) ∙ eqb-true c.number number e)
found_first one c calls number false e f q = let r = f q in (inr r.0, r.1)

pub found : (calls : List FileCall) (number : ℕ) (one : FileCall) → find_call calls number ≡ Some one → In one calls × (one.number ≡ number)
found [] number one e = absurd (cc)
found (c ∷ calls) number one e = found_first one c calls number (c.number == number) refl (found calls number one) e

carried_first : (one c : Carry) (carried : List Carry) (number : ℕ) (b : Bool) → (c.call == number) ≡ b → (find_carried carried number ≡ Some one → In one carried × (one.call ≡ number)) → cond b (Some c) (find_carried carried number) ≡ Some one → In one (c ∷ carried) × (one.call ≡ number)
carried_first one c carried number true e f q = let same : c ≡ one = cc in (inl (sym same), ap (λ (x : Carry). x.call) (sym same) ∙ eqb-true c.call number e)
carried_first one c carried number false e f q = let r = f q in (inr r.0, r.1)

pub carried_found : (carried : List Carry) (number : ℕ) (one : Carry) → find_carried carried number ≡ Some one → In one carried × (one.call ≡ number)
carried_found [] number one e = absurd (cc)
carried_found (c ∷ carried) number one e = carried_first one c carried number (c.call == number) refl (carried_found carried number one) e

-- a block that is held
held_first : (one h : Held) (blocks : List Held) (number : ℕ) (b : Bool) → (h.block.0 == number) ≡ b → (held blocks number ≡ Some one → In one blocks × (one.block.0 ≡ number)) → cond b (Some h) (held blocks number) ≡ Some one → In one (h ∷ blocks) × (one.block.0 ≡ number)
held_first one h blocks number true e f q = let same : h ≡ one = cc in (inl (sym same), ap (λ (x : Held). x.block.0) (sym same) ∙ eqb-true h.block.0 number e)
held_first one h blocks number false e f q = let r = f q in (inr r.0, r.1)

pub held_found : (blocks : List Held) (number : ℕ) (one : Held) → held blocks number ≡ Some one → In one blocks × (one.block.0 ≡ number)
held_found [] number one e = absurd (cc)
held_found (h ∷ blocks) number one e = held_first one h blocks number (h.block.0 == number) refl (held_found blocks number one) e

-- a test commutes with the edits
swap_first : {X : Type 0} (p q : X → Bool) (x : X) (xs : List X) (a b : Bool) → p x ≡ a → q x ≡ b → filter p (filter q xs) ≡ filter q (filter p xs) → filter p (cond b (x ∷ filter q xs) (filter q xs)) ≡ filter q (cond a (x ∷ filter p xs) (filter p xs))
swap_first p q x xs true true e k h = ap (λ c. cond c (x ∷ filter p (filter q xs)) (filter p (filter q xs))) e ∙ ap (λ ys. x ∷ ys) h ∙ sym (ap (λ c. cond c (x ∷ filter q (filter p xs)) (filter q (filter p xs))) k)
swap_first p q x xs true false e k h = h ∙ sym (ap (λ c. cond c (x ∷ filter q (filter p xs)) (filter q (filter p xs))) k)
swap_first p q x xs false true e k h = ap (λ c. cond c (x ∷ filter p (filter q xs)) (filter p (filter q xs))) e ∙ h
swap_first p q x xs false false e k h = h

pub filter_swap : {X : Type 0} (p q : X → Bool) (xs : List X) → filter p (filter q xs) ≡ filter q (filter p xs)
filter_swap p q [] = refl
filter_swap p q (x ∷ xs) = swap_first p q x xs (p x) (q x) refl refl (filter_swap p q xs)

-- a test that all pass, and that none passes
pub filter_all : {X : Type 0} (p : X → Bool) (xs : List X) → ((x : X) → In x xs → p x ≡ true) → filter p xs ≡ xs
filter_all p [] f = refl
filter_all p (x ∷ xs) f = ap (λ b. cond b (x ∷ filter p xs) (filter p xs)) (f x (inl refl)) ∙ ap (λ ys. x ∷ ys) (filter_all p xs (λ y m. f y (inr m)))

pub without_absent : (number : ℕ) (calls : List FileCall) → ((one : FileCall) → In one calls → one.number ≢ number) → without_call number calls ≡ calls
without_absent number calls f = filter_all (λ (c : FileCall). not (c.number == number)) calls (λ one m. ap not (ne_eqb one.number number (f one m)))

pub with_absent : (new : FileCall) (calls : List FileCall) → ((one : FileCall) → In one calls → one.number ≢ new.number) → with_call new calls ≡ calls
with_absent new [] f = refl
with_absent new (c ∷ calls) f = ap₂ (λ a b. a ∷ b) (ap (λ b. cond b new c) (ne_eqb c.number new.number (f c (inl refl)))) (with_absent new calls (λ one m. f one (inr m)))

pub filter_with : (p : FileCall → Bool) (new : FileCall) (calls : List FileCall) → ((one : FileCall) → In one calls → one.number ≡ new.number → p one ≡ p new) → filter p (with_call new calls) ≡ with_call new (filter p calls)
filter_with p new [] f = refl
filter_with p new (c ∷ calls) f = first (c.number == new.number) (p c) refl refl (filter_with p new calls (λ one m. f one (inr m)))
  where
    first : (b d : Bool) → (c.number == new.number) ≡ b → p c ≡ d → filter p (with_call new calls) ≡ with_call new (filter p calls) → filter p (cond b new c ∷ with_call new calls) ≡ with_call new (cond d (c ∷ filter p calls) (filter p calls))
    first true true e k h = ap (λ z. cond z (new ∷ filter p (with_call new calls)) (filter p (with_call new calls))) (sym (f c (inl refl) (eqb-true c.number new.number e)) ∙ k) ∙ ap (λ ys. new ∷ ys) h ∙ sym (ap (λ z. cond z new c ∷ with_call new (filter p calls)) e)
    first true false e k h = ap (λ z. cond z (new ∷ filter p (with_call new calls)) (filter p (with_call new calls))) (sym (f c (inl refl) (eqb-true c.number new.number e)) ∙ k) ∙ h
    first false true e k h = ap (λ z. cond z (c ∷ filter p (with_call new calls)) (filter p (with_call new calls))) k ∙ ap (λ ys. c ∷ ys) h ∙ sym (ap (λ z. cond z new c ∷ with_call new (filter p calls)) e)
    first false false e k h = ap (λ z. cond z (c ∷ filter p (with_call new calls)) (filter p (with_call new calls))) k ∙ h
