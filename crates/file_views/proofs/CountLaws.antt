-- Sums over lists, streams, and who has them open.
use Rattle.std.proofs.Common.{◌≡◌, ◌≢◌, ◌≤◌, ◌⊎◌, ℕ, ◌+◌, ◌==◌, Bool, true, false, cond, not, ◌&&◌, ◌||◌, List, [], ◌∷◌, ◌++◌, filter, refl, sym, ap, ap₂, ◌∙◌, subst, inl, inr, arith, eqb-true, eq-eqb, ne_eqb}
use Rattle.std.proofs.lemmas.Bool.{and_parts}
use Rattle.sprite_ids.specs.Lists.{total}
use Rattle.sprite_ids.specs.declared.StreamNo.{StreamNo}
use Rattle.file_views.specs.declared.call.FileCall.{FileCall}
use Rattle.file_views.specs.Streams.{same_stream, has_stream, one_of, copies}
use Rattle.file_views.specs.Views.{without_call, with_call}
use Rattle.file_views.specs.Here.{In, Unique}
use Rattle.file_views.specs.SoundShapes.{numbers}
use Rattle.file_views.proofs.MemberLaws.{in_filter, map_in, without_absent, with_absent}

-- sums
pub total_join : {X : Type 0} (f : X → ℕ) (xs ys : List X) → total f (xs ++ ys) ≡ total f xs + total f ys
total_join f [] ys = omega arith
total_join f (x ∷ xs) ys = let h : total f (xs ++ ys) ≡ total f xs + total f ys = total_join f xs ys in omega (arith, h)

pub total_last : {X : Type 0} (f : X → ℕ) (xs : List X) (y : X) → total f (xs ++ y ∷ []) ≡ total f xs + f y
total_last f xs y = let h = total_join f xs (y ∷ []) in omega (arith, h)

total_filter_first : {X : Type 0} (f : X → ℕ) (p : X → Bool) (x : X) (xs : List X) (b : Bool) → (b ≡ false → f x ≡ 0) → total f (filter p xs) ≡ total f xs → total f (cond b (x ∷ filter p xs) (filter p xs)) ≡ f x + total f xs
total_filter_first f p x xs true k h = ap (λ n. f x + n) h
total_filter_first f p x xs false k h = let e = k refl in omega (arith, e, h)

-- what is left out counts for nothing
pub total_filter : {X : Type 0} (f : X → ℕ) (p : X → Bool) (xs : List X) → ((x : X) → In x xs → p x ≡ false → f x ≡ 0) → total f (filter p xs) ≡ total f xs
total_filter f p [] k = refl
total_filter f p (x ∷ xs) k = total_filter_first f p x xs (p x) (k x (inl refl)) (total_filter f p xs (λ y m. k y (inr m)))

pub total_none : {X : Type 0} (f : X → ℕ) (xs : List X) → ((x : X) → In x xs → f x ≡ 0) → total f xs ≡ 0
total_none f [] k = refl
total_none f (x ∷ xs) k = let e = k x (inl refl) in let h = total_none f xs (λ y m. k y (inr m)) in omega (arith, e, h)

pub total_same : {X : Type 0} (f g : X → ℕ) (xs : List X) → ((x : X) → In x xs → f x ≡ g x) → total f xs ≡ total g xs
total_same f g [] k = refl
total_same f g (x ∷ xs) k = ap₂ (λ a b. a + b) (k x (inl refl)) (total_same f g xs (λ y m. k y (inr m)))

others_apart : (y : FileCall) (ys : List FileCall) → Unique (numbers (y ∷ ys)) → (c : FileCall) → In c ys → c.number ≢ y.number
others_apart y ys u c m e = u.0 (subst (λ n. In n (numbers ys)) e (map_in (λ (x : FileCall). x.number) c ys m))

-- a call taken out, and one exchanged
pub total_without : (f : FileCall → ℕ) (calls : List FileCall) (one : FileCall) → Unique (numbers calls) → In one calls → total f calls ≡ f one + total f (without_call one.number calls)
total_without f [] one u m = absurd m
total_without f (y ∷ ys) one u (inl e) =
    let gone : without_call one.number (y ∷ ys) ≡ ys = ap (λ b. cond (not b) (y ∷ without_call one.number ys) (without_call one.number ys)) (eq-eqb y.number one.number (sym (ap (λ (x : FileCall). x.number) e))) ∙ without_absent one.number ys (λ c n q. others_apart y ys u c n (q ∙ ap (λ (x : FileCall). x.number) e)) in
    ap₂ (λ a b. a + b) (sym (ap f e)) (ap (total f) (sym gone))
total_without f (y ∷ ys) one u (inr m) =
    let h : total f ys ≡ f one + total f (without_call one.number ys) = total_without f ys one u.1 m in
    let stays : total f (without_call one.number (y ∷ ys)) ≡ f y + total f (without_call one.number ys) = ap (λ b. total f (cond (not b) (y ∷ without_call one.number ys) (without_call one.number ys))) (ne_eqb y.number one.number (λ q. others_apart y ys u one m (sym q))) in
    omega (arith, h, stays)

pub total_with : (f : FileCall → ℕ) (calls : List FileCall) (one new : FileCall) → Unique (numbers calls) → In one calls → new.number ≡ one.number → total f (with_call new calls) + f one ≡ total f calls + f new
total_with f [] one new u m e = absurd m
total_with f (y ∷ ys) one new u (inl q) e =
    let rest : with_call new ys ≡ ys = with_absent new ys (λ c n k. others_apart y ys u c n (k ∙ e ∙ ap (λ (x : FileCall). x.number) q)) in
    let here : cond (y.number == new.number) new y ≡ new = ap (λ b. cond b new y) (eq-eqb y.number new.number (sym (e ∙ ap (λ (x : FileCall). x.number) q))) in
    let a : total f (with_call new (y ∷ ys)) ≡ f new + total f ys = ap₂ (λ x xs. f x + total f xs) here rest in
    let b : f one ≡ f y = ap f q in
    omega (arith, a, b)
total_with f (y ∷ ys) one new u (inr m) e =
    let h : total f (with_call new ys) + f one ≡ total f ys + f new = total_with f ys one new u.1 m e in
    let here : cond (y.number == new.number) new y ≡ y = ap (λ b. cond b new y) (ne_eqb y.number new.number (λ k. others_apart y ys u one m (sym e ∙ sym k))) in
    let a : total f (with_call new (y ∷ ys)) ≡ f y + total f (with_call new ys) = ap (λ x. f x + total f (with_call new ys)) here in
    omega (arith, h, a)

-- streams
pub same_is : (stream other : StreamNo) → same_stream stream other ≡ true → stream ≡ other
same_is stream other e = let p = and_parts (stream.kernel == other.kernel) (stream.number == other.number) e in ap₂ stream_with (eqb-true stream.kernel other.kernel p.0) (eqb-true stream.number other.number p.1)
  where
    stream_with : ℕ → ℕ → StreamNo
    stream_with kernel number = record { kernel = kernel; number = number }

pub same_self : (stream : StreamNo) → same_stream stream stream ≡ true
same_self stream = ap₂ (λ a b. a && b) (eq-eqb stream.kernel stream.kernel refl) (eq-eqb stream.number stream.number refl)

pub same_by : (stream other : StreamNo) → stream ≡ other → same_stream stream other ≡ true
same_by stream other e = ap (same_stream stream) (sym e) ∙ same_self stream

-- the two cases of a test
pub bool_cases : (b : Bool) → (b ≡ true) ⊎ (b ≡ false)
bool_cases true = inl refl
bool_cases false = inr refl

pub or_left : (a b : Bool) → a ≡ true → (a || b) ≡ true
or_left true b e = refl
or_left false b e = absurd (cc (e))

pub or_right : (a b : Bool) → b ≡ true → (a || b) ≡ true
or_right true b e = refl
or_right false b e = e

pub or_is : (a b : Bool) → (a || b) ≡ true → (a ≡ true) ⊎ (b ≡ true)
or_is true b e = inl refl
or_is false b e = inr e

pub neither : (a b : Bool) → (a || b) ≡ false → (a ≡ false) × (b ≡ false)
neither true b e = absurd (cc (e))
neither false b e = (refl, e)

-- grants of a stream among installed ones
pub copies_last : (stream other : StreamNo) (streams : List StreamNo) → copies stream (streams ++ other ∷ []) ≡ copies stream streams + one_of stream other
copies_last stream other streams = total_last (one_of stream) streams other

one_same : (stream other : StreamNo) → same_stream stream other ≡ true → one_of stream other ≡ 1
one_same stream other e = ap (λ b. cond b 1 0) e

one_other : (stream other : StreamNo) → same_stream stream other ≡ false → one_of stream other ≡ 0
one_other stream other e = ap (λ b. cond b 1 0) e

some_first : (stream x : StreamNo) (xs : List StreamNo) → (same_stream stream x ≡ true) ⊎ (1 ≤ copies stream xs) → 1 ≤ one_of stream x + copies stream xs
some_first stream x xs (inl a) = let h = one_same stream x a in omega (arith, h)
some_first stream x xs (inr b) = omega (arith, b)

pub has_some : (stream : StreamNo) (streams : List StreamNo) → has_stream stream streams ≡ true → 1 ≤ copies stream streams
has_some stream [] e = absurd (cc (e))
has_some stream (x ∷ xs) e = some_first stream x xs (elim (or_is (same_stream stream x) (has_stream stream xs) e) [ inl a ↦ inl a | inr b ↦ inr (has_some stream xs b) ])

pub has_no_copies : (stream : StreamNo) (streams : List StreamNo) → has_stream stream streams ≡ false → copies stream streams ≡ 0
has_no_copies stream [] e = refl
has_no_copies stream (x ∷ xs) e = let p = neither (same_stream stream x) (has_stream stream xs) e in let a = one_other stream x p.0 in let h = has_no_copies stream xs p.1 in omega (arith, a, h)

-- a stream that is installed no more
not_same : (stream x : StreamNo) → not (same_stream stream x) ≡ true → same_stream stream x ≡ false
not_same stream x e = by_test (same_stream stream x) e
  where
    by_test : (b : Bool) → not b ≡ true → b ≡ false
    by_test true h = absurd (cc (h))
    by_test false h = refl

pub uninstalled_same : (stream : StreamNo) (streams : List StreamNo) → copies stream (filter (λ x. not (same_stream stream x)) streams) ≡ 0
uninstalled_same stream streams = total_none (one_of stream) (filter (λ x. not (same_stream stream x)) streams) (λ x m. one_other stream x (not_same stream x (in_filter (λ y. not (same_stream stream y)) x streams m).1))

pub uninstalled_other : (other stream : StreamNo) (streams : List StreamNo) → same_stream other stream ≡ false → copies other (filter (λ x. not (same_stream stream x)) streams) ≡ copies other streams
uninstalled_other other stream streams e = total_filter (one_of other) (λ x. not (same_stream stream x)) streams (λ x m k. one_other other x (differs x k))
  where
    differs : (x : StreamNo) → not (same_stream stream x) ≡ false → same_stream other x ≡ false
    differs x k = by_test (same_stream stream x) refl k
      where
        by_test : (b : Bool) → same_stream stream x ≡ b → not b ≡ false → same_stream other x ≡ false
        by_test true q h = ap (same_stream other) (sym (same_is stream x q)) ∙ e
        by_test false q h = absurd (cc (h))

-- what is installed among others
pub has_last : (stream other : StreamNo) (streams : List StreamNo) → has_stream stream streams ≡ true → has_stream stream (streams ++ other ∷ []) ≡ true
has_last stream other [] e = absurd (cc (e))
has_last stream other (x ∷ xs) e = elim (or_is (same_stream stream x) (has_stream stream xs) e) [ inl a ↦ or_left (same_stream stream x) _ a | inr b ↦ or_right (same_stream stream x) _ (has_last stream other xs b) ]

pub has_not_last : (stream other : StreamNo) (streams : List StreamNo) → has_stream stream streams ≡ false → same_stream stream other ≡ false → has_stream stream (streams ++ other ∷ []) ≡ false
has_not_last stream other [] e k = ap (λ b. b || false) k
has_not_last stream other (x ∷ xs) e k = let p = neither (same_stream stream x) (has_stream stream xs) e in ap₂ (λ a b. a || b) p.0 (has_not_last stream other xs p.1 k)

has_fewer_first : (stream other x : StreamNo) (xs : List StreamNo) (b : Bool) → same_stream other x ≡ b → same_stream stream other ≡ false → has_stream stream (filter (λ y. not (same_stream other y)) xs) ≡ has_stream stream xs → has_stream stream (cond (not b) (x ∷ filter (λ y. not (same_stream other y)) xs) (filter (λ y. not (same_stream other y)) xs)) ≡ (same_stream stream x || has_stream stream xs)
has_fewer_first stream other x xs true q e h = h ∙ sym (ap (λ b. b || has_stream stream xs) (ap (same_stream stream) (sym (same_is other x q)) ∙ e))
has_fewer_first stream other x xs false q e h = ap (λ b. same_stream stream x || b) h

pub has_fewer : (stream other : StreamNo) (streams : List StreamNo) → same_stream stream other ≡ false → has_stream stream (filter (λ y. not (same_stream other y)) streams) ≡ has_stream stream streams
has_fewer stream other [] e = refl
has_fewer stream other (x ∷ xs) e = has_fewer_first stream other x xs (same_stream other x) refl e (has_fewer stream other xs e)

has_none_first : (stream other x : StreamNo) (xs : List StreamNo) (b : Bool) → same_stream stream x ≡ false → has_stream stream (filter (λ y. not (same_stream other y)) xs) ≡ false → has_stream stream (cond b (x ∷ filter (λ y. not (same_stream other y)) xs) (filter (λ y. not (same_stream other y)) xs)) ≡ false
has_none_first stream other x xs true q h = ap₂ (λ a b. a || b) q h
has_none_first stream other x xs false q h = h

pub has_none_fewer : (stream other : StreamNo) (streams : List StreamNo) → has_stream stream streams ≡ false → has_stream stream (filter (λ y. not (same_stream other y)) streams) ≡ false
has_none_fewer stream other [] e = refl
has_none_fewer stream other (x ∷ xs) e = let p = neither (same_stream stream x) (has_stream stream xs) e in has_none_first stream other x xs (not (same_stream other x)) p.0 (has_none_fewer stream other xs p.1)
