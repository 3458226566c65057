-- What the smallest changes of a view make of one kernel's part of it.
use Rattle.std.proofs.Common.{◌≡◌, ◌≢◌, ◌≤◌, ℕ, ◌-◌, ◌==◌, Bool, true, false, cond, not, List, [], ◌∷◌, ◌++◌, length, map, filter, Option, refl, sym, ap, ap₂, ◌∙◌, subst, inl, inr, arith, append_assoc, append-nil, length-set, get_or-set_same, get_or-set_other}
use Rattle.std.proofs.lemmas.List.Elements.{filter-append}
use Rattle.std.proofs.lemmas.List.{map-append}
use Rattle.std.proofs.lemmas.Bool.Decides.{eqb_tells}
use Rattle.file_views.specs.declared.body.FileBody.{FileBody}
use Rattle.file_views.specs.declared.client.Client.{Client}
use Rattle.file_views.specs.declared.call.FileCall.{FileCall}
use Rattle.file_views.specs.declared.call.Carry.{Carry}
use Rattle.file_views.specs.declared.view.View.{View}
use Rattle.file_views.specs.Clients.{new_client}
use Rattle.file_views.specs.Views.{client, set_client, without_call, with_call, without_carried, as_call, things, new_call, begin, remove_call}
use Rattle.file_views.specs.Here.{In, Unique, IsClient, about, Here, at_kernel}
use Rattle.file_views.specs.SoundShapes.{numbers}
use Rattle.file_views.proofs.MemberLaws.{in_right, map_in, in_filter, filter_swap, filter_with, unique_apart, without_absent, with_absent}

-- a part with another client, and with other calls
abbrev pub put_client : Here → Client → Here
put_client here c = record here { client = c }

abbrev pub put_calls : Here → List FileCall → Here
put_calls here calls = record here { calls = calls }

-- a fact of each client's part of a view
abbrev pub EachHere : (Here → Type 0) → View → Type 0
EachHere P v = (kernel : ℕ) → IsClient (length v.clients) kernel → P (at_kernel v kernel)

-- the numbers of calls and of carried streams differ
abbrev pub Apart : View → Type 0
Apart v = Unique (numbers (things v))

-- places of two kernels
pub places_apart : (kernel other : ℕ) → 1 ≤ kernel → 1 ≤ other → other ≢ kernel → other - 1 ≢ kernel - 1
places_apart kernel other a b d e = d (omega (arith, a, b, e))

-- a client that changes
pub set_here : (v : View) (kernel : ℕ) (c : Client) → IsClient (length v.clients) kernel → at_kernel (set_client v kernel c) kernel ≡ put_client (at_kernel v kernel) c
set_here v kernel c i = ap (put_client (at_kernel v kernel)) (get_or-set_same v.clients (kernel - 1) c new_client (omega (arith, i.0, i.1)))

pub set_other : (v : View) (kernel other : ℕ) (c : Client) → 1 ≤ kernel → 1 ≤ other → other ≢ kernel → at_kernel (set_client v kernel c) other ≡ at_kernel v other
set_other v kernel other c a b d = ap (put_client (at_kernel v other)) (get_or-set_other v.clients (kernel - 1) (other - 1) c new_client (places_apart kernel other a b d))

pub client_set : (v : View) (kernel : ℕ) (c : Client) → IsClient (length v.clients) kernel → client (set_client v kernel c) kernel ≡ c
client_set v kernel c i = get_or-set_same v.clients (kernel - 1) c new_client (omega (arith, i.0, i.1))

pub client_other : (v : View) (kernel other : ℕ) (c : Client) → 1 ≤ kernel → 1 ≤ other → other ≢ kernel → client (set_client v kernel c) other ≡ client v other
client_other v kernel other c a b d = get_or-set_other v.clients (kernel - 1) (other - 1) c new_client (places_apart kernel other a b d)

pub count_set : (v : View) (kernel : ℕ) (c : Client) → length (set_client v kernel c).clients ≡ length v.clients
count_set v kernel c = length-set v.clients (kernel - 1) c

-- a fact of one kernel, and of the others
pub by_kernel : (P : ℕ → Type 0) (kernel other : ℕ) → P kernel → (other ≢ kernel → P other) → P other
by_kernel P kernel other p f = elim (eqb_tells other kernel) [ inl a ↦ subst P (sym a.1) p | inr b ↦ f b.1 ]

pub each_set_client : (P : Here → Type 0) (v : View) (kernel : ℕ) (c : Client) → IsClient (length v.clients) kernel → EachHere P v → P (put_client (at_kernel v kernel) c) → EachHere P (set_client v kernel c)
each_set_client P v kernel c i each p other j =
    let within : IsClient (length v.clients) other = subst (λ n. IsClient n other) (count_set v kernel c) j in
    by_kernel (λ k. P (at_kernel (set_client v kernel c) k)) kernel other
    (subst P (sym (set_here v kernel c i)) p)
    (λ d. subst P (sym (set_other v kernel other c i.0 j.0 d)) (each other within))

-- a call that begins
pub things_begin : (v : View) (source to : ℕ) (body : FileBody) (dirty : Option ℕ) → things (begin v source to body dirty) ≡ things v ++ new_call v source to body dirty ∷ []
things_begin v source to body dirty = sym (append_assoc (map as_call v.carried) v.calls (new_call v source to body dirty ∷ []))

pub filter_last : {X : Type 0} (p : X → Bool) (xs : List X) (x : X) (b : Bool) → p x ≡ b → filter p (xs ++ x ∷ []) ≡ filter p xs ++ cond b (x ∷ []) []
filter_last p xs x b e = filter-append p xs (x ∷ []) ∙ ap (λ z. filter p xs ++ cond z (x ∷ []) []) e

pub begin_here : (v : View) (kernel source to : ℕ) (body : FileBody) (dirty : Option ℕ) → about kernel (new_call v source to body dirty) ≡ true → at_kernel (begin v source to body dirty) kernel ≡ put_calls (at_kernel v kernel) ((at_kernel v kernel).calls ++ new_call v source to body dirty ∷ [])
begin_here v kernel source to body dirty e = ap (put_calls (at_kernel v kernel)) (ap (filter (about kernel)) (things_begin v source to body dirty) ∙ filter_last (about kernel) (things v) (new_call v source to body dirty) true e)

pub begin_other : (v : View) (kernel source to : ℕ) (body : FileBody) (dirty : Option ℕ) → about kernel (new_call v source to body dirty) ≡ false → at_kernel (begin v source to body dirty) kernel ≡ at_kernel v kernel
begin_other v kernel source to body dirty e = ap (put_calls (at_kernel v kernel)) (ap (filter (about kernel)) (things_begin v source to body dirty) ∙ filter_last (about kernel) (things v) (new_call v source to body dirty) false e ∙ append-nil (filter (about kernel) (things v)))

pub each_begin : (P : Here → Type 0) (v : View) (source to : ℕ) (body : FileBody) (dirty : Option ℕ) →
    ((kernel : ℕ) → IsClient (length v.clients) kernel → about kernel (new_call v source to body dirty) ≡ false → P (at_kernel v kernel)) →
    ((kernel : ℕ) → IsClient (length v.clients) kernel → about kernel (new_call v source to body dirty) ≡ true → P (put_calls (at_kernel v kernel) ((at_kernel v kernel).calls ++ new_call v source to body dirty ∷ []))) →
    EachHere P (begin v source to body dirty)
each_begin P v source to body dirty out within kernel i = by_test (about kernel (new_call v source to body dirty)) refl
  where
    by_test : (b : Bool) → about kernel (new_call v source to body dirty) ≡ b → P (at_kernel (begin v source to body dirty) kernel)
    by_test true e = subst P (sym (begin_here v kernel source to body dirty e)) (within kernel i e)
    by_test false e = subst P (sym (begin_other v kernel source to body dirty e)) (out kernel i e)

-- the calls of a view, exchanged
abbrev pub put_all : View → List FileCall → View
put_all v calls = record v { calls = calls }

-- a call is no carried stream
pub carried_apart : (v : View) → Apart v → (one : FileCall) → In one v.calls → (other : FileCall) → In other (map as_call v.carried) → other.number ≢ one.number
carried_apart v u one m other n e =
    unique_apart one.number (numbers (map as_call v.carried)) (numbers v.calls) (subst Unique (map-append (λ (c : FileCall). c.number) (map as_call v.carried) v.calls) u)
    (subst (λ k. In k (numbers (map as_call v.carried))) e (map_in (λ (c : FileCall). c.number) other (map as_call v.carried) n))
    (map_in (λ (c : FileCall). c.number) one v.calls m)

with_append : (new : FileCall) (xs ys : List FileCall) → with_call new (xs ++ ys) ≡ with_call new xs ++ with_call new ys
with_append new xs ys = map-append (λ (one : FileCall). cond (one.number == new.number) new one) xs ys

-- a call that is exchanged for one with its number
pub things_with : (v : View) (one new : FileCall) → Apart v → In one v.calls → new.number ≡ one.number → things (put_all v (with_call new v.calls)) ≡ with_call new (things v)
things_with v one new u m e =
    sym (with_append new (map as_call v.carried) v.calls ∙ ap (λ xs. xs ++ with_call new v.calls) (with_absent new (map as_call v.carried) (λ other n q. carried_apart v u one m other n (q ∙ e))))

pub call_in_things : (v : View) (one : FileCall) → In one v.calls → In one (things v)
call_in_things v one m = in_right one (map as_call v.carried) v.calls m

-- what stands among the calls under its number is that call
pub same_thing : (v : View) (one other : FileCall) → Apart v → In one (things v) → In other (things v) → one.number ≡ other.number → one ≡ other
same_thing v one other u m n e = same_key_of (things v) one other u m n e
  where
    same_key_of : (xs : List FileCall) (x y : FileCall) → Unique (numbers xs) → In x xs → In y xs → x.number ≡ y.number → x ≡ y
    same_key_of [] x y w a b q = absurd a
    same_key_of (z ∷ zs) x y w (inl a) (inl b) q = a ∙ sym b
    same_key_of (z ∷ zs) x y w (inl a) (inr b) q = absurd (w.0 (subst (λ k. In k (numbers zs)) (sym q ∙ ap (λ (c : FileCall). c.number) a) (map_in (λ (c : FileCall). c.number) y zs b)))
    same_key_of (z ∷ zs) x y w (inr a) (inl b) q = absurd (w.0 (subst (λ k. In k (numbers zs)) (q ∙ ap (λ (c : FileCall). c.number) b) (map_in (λ (c : FileCall). c.number) x zs a)))
    same_key_of (z ∷ zs) x y w (inr a) (inr b) q = same_key_of zs x y w.1 a b q

pub with_here : (v : View) (kernel : ℕ) (one new : FileCall) → Apart v → In one v.calls → new.number ≡ one.number → about kernel new ≡ about kernel one → at_kernel (put_all v (with_call new v.calls)) kernel ≡ put_calls (at_kernel v kernel) (with_call new (at_kernel v kernel).calls)
with_here v kernel one new u m e a =
    ap (put_calls (at_kernel v kernel)) (ap (filter (about kernel)) (things_with v one new u m e) ∙ filter_with (about kernel) new (things v) (λ other n q. ap (about kernel) (same_thing v other one u n (call_in_things v one m) (q ∙ e)) ∙ sym a))

pub with_other : (v : View) (kernel : ℕ) (one new : FileCall) → Apart v → In one v.calls → new.number ≡ one.number → about kernel new ≡ about kernel one → about kernel one ≡ false → at_kernel (put_all v (with_call new v.calls)) kernel ≡ at_kernel v kernel
with_other v kernel one new u m e a b =
    with_here v kernel one new u m e a ∙ ap (put_calls (at_kernel v kernel)) (with_absent new (filter (about kernel) (things v)) (λ other n q. elsewhere other (in_filter (about kernel) other (things v) n) q))
  where
    elsewhere : (other : FileCall) → In other (things v) × (about kernel other ≡ true) → other.number ≡ new.number → ⊥
    elsewhere other r q = let same : other ≡ one = same_thing v other one u r.0 (call_in_things v one m) (q ∙ e) in cc (r.1, b, ap (about kernel) same)

-- a call that is finished, and one that stands behind the others
pub things_without : (v : View) (one : FileCall) → Apart v → In one v.calls → things (put_all v (without_call one.number v.calls)) ≡ without_call one.number (things v)
things_without v one u m =
    sym (filter-append (λ (c : FileCall). not (c.number == one.number)) (map as_call v.carried) v.calls ∙ ap (λ xs. xs ++ without_call one.number v.calls) (without_absent one.number (map as_call v.carried) (carried_apart v u one m)))

pub without_here : (v : View) (kernel : ℕ) (one : FileCall) → Apart v → In one v.calls → at_kernel (remove_call v one.number) kernel ≡ put_calls (at_kernel v kernel) (without_call one.number (at_kernel v kernel).calls)
without_here v kernel one u m =
    ap (put_calls (at_kernel v kernel)) (ap (filter (about kernel)) (things_without v one u m) ∙ filter_swap (about kernel) (λ (c : FileCall). not (c.number == one.number)) (things v))

pub elsewhere_without : (v : View) (kernel : ℕ) (one : FileCall) → Apart v → In one v.calls → about kernel one ≡ false → without_call one.number (at_kernel v kernel).calls ≡ (at_kernel v kernel).calls
elsewhere_without v kernel one u m b = without_absent one.number (filter (about kernel) (things v)) (λ other n q. elsewhere other (in_filter (about kernel) other (things v) n) q)
  where
    elsewhere : (other : FileCall) → In other (things v) × (about kernel other ≡ true) → other.number ≡ one.number → ⊥
    elsewhere other r q = let same : other ≡ one = same_thing v other one u r.0 (call_in_things v one m) q in cc (r.1, b, ap (about kernel) same)

pub without_other : (v : View) (kernel : ℕ) (one : FileCall) → Apart v → In one v.calls → about kernel one ≡ false → at_kernel (remove_call v one.number) kernel ≡ at_kernel v kernel
without_other v kernel one u m b = without_here v kernel one u m ∙ ap (put_calls (at_kernel v kernel)) (elsewhere_without v kernel one u m b)

-- a carried stream that came
as_calls_first : (number : ℕ) (c : Carry) (carried : List Carry) (b : Bool) → map as_call (without_carried number carried) ≡ without_call number (map as_call carried) → map as_call (cond (not b) (c ∷ without_carried number carried) (without_carried number carried)) ≡ cond (not b) (as_call c ∷ without_call number (map as_call carried)) (without_call number (map as_call carried))
as_calls_first number c carried true h = h
as_calls_first number c carried false h = ap (λ xs. as_call c ∷ xs) h

as_calls_without : (number : ℕ) (carried : List Carry) → map as_call (without_carried number carried) ≡ without_call number (map as_call carried)
as_calls_without number [] = refl
as_calls_without number (c ∷ carried) = as_calls_first number c carried (c.call == number) (as_calls_without number carried)

pub things_uncarried : (v : View) (one : Carry) → Apart v → In one v.carried → things (record v { carried = without_carried one.call v.carried }) ≡ without_call one.call (things v)
things_uncarried v one u m =
    ap₂ (λ xs ys. xs ++ ys) (as_calls_without one.call v.carried) (sym (without_absent one.call v.calls (λ other n q. carried_apart v u other n (as_call one) (map_in as_call one v.carried m) (sym q))))
    ∙ sym (filter-append (λ (c : FileCall). not (c.number == one.call)) (map as_call v.carried) v.calls)

pub uncarried_here : (v : View) (kernel : ℕ) (one : Carry) → Apart v → In one v.carried → at_kernel (record v { carried = without_carried one.call v.carried }) kernel ≡ put_calls (at_kernel v kernel) (without_call one.call (at_kernel v kernel).calls)
uncarried_here v kernel one u m =
    ap (put_calls (at_kernel v kernel)) (ap (filter (about kernel)) (things_uncarried v one u m) ∙ filter_swap (about kernel) (λ (c : FileCall). not (c.number == one.call)) (things v))
