-- Who has streams open, after one more grant and after some are taken off.
use Rattle.std.proofs.Common.{◌≡◌, ◌≤◌, ◌⊎◌, ℕ, ◌+◌, ◌-◌, ◌==◌, nat_le, Bool, true, false, cond, not, ◌&&◌, List, [], ◌∷◌, map, filter, Some, refl, sym, ap, ap₂, ◌∙◌, subst, subst₂, inl, inr, arith, eqb-true, eq-eqb, leb-true, leb-false}
use Rattle.std.proofs.lemmas.Bool.{and_parts}
use Rattle.std.proofs.lemmas.List.{map-append}
use Rattle.sprite_ids.specs.Lists.{total}
use Rattle.sprite_ids.specs.declared.StreamNo.{StreamNo}
use Rattle.sprite_ids.specs.declared.Mode.{Mode}
use Rattle.file_views.specs.declared.opens.Open.{Open}
use Rattle.file_views.specs.Streams.{same_stream, is_open, counted, open_count, add_open, with_fewer, take_off, stream_mode, or_reading, mode_of_stream}
use Rattle.file_views.specs.Here.{In, Unique, IsClient}
use Rattle.file_views.specs.SoundStreams.{open_key, OpensShaped}
use Rattle.file_views.proofs.MemberLaws.{Made, in_filter, in_map, map_in, in_last, unique_append, unique_filter}
use Rattle.file_views.proofs.CountLaws.{total_last, total_filter, total_none, same_is, same_by, bool_cases}

-- an open of that stream at that kernel
pub is_open_is : (stream : StreamNo) (kernel : ℕ) (one : Open) → is_open stream kernel one ≡ true → (stream ≡ one.stream) × (one.kernel ≡ kernel)
is_open_is stream kernel one e = let p = and_parts (same_stream stream one.stream) (one.kernel == kernel) e in (same_is stream one.stream p.0, eqb-true one.kernel kernel p.1)

pub is_open_by : (stream : StreamNo) (kernel : ℕ) (one : Open) → stream ≡ one.stream → one.kernel ≡ kernel → is_open stream kernel one ≡ true
is_open_by stream kernel one e k = ap₂ (λ a b. a && b) (same_by stream one.stream e) (eq-eqb one.kernel kernel k)

pub counted_is : (stream : StreamNo) (kernel : ℕ) (one : Open) → is_open stream kernel one ≡ true → counted stream kernel one ≡ one.count
counted_is stream kernel one e = ap (λ b. cond b one.count 0) e

pub counted_not : (stream : StreamNo) (kernel : ℕ) (one : Open) → is_open stream kernel one ≡ false → counted stream kernel one ≡ 0
counted_not stream kernel one e = ap (λ b. cond b one.count 0) e

-- where grants are counted, there is an open
pub record OpenAt (stream : StreamNo) (kernel : ℕ) (opens : List Open) : Type 0 where
  pub one : Open
  pub there : In one opens
  pub stream_is : stream ≡ one.stream
  pub kernel_is : one.kernel ≡ kernel

open_first : (stream : StreamNo) (kernel : ℕ) (o : Open) (opens : List Open) → (is_open stream kernel o ≡ true) ⊎ (is_open stream kernel o ≡ false) → 1 ≤ counted stream kernel o + open_count opens stream kernel → (1 ≤ open_count opens stream kernel → OpenAt stream kernel opens) → OpenAt stream kernel (o ∷ opens)
open_first stream kernel o opens (inl a) l f = let p = is_open_is stream kernel o a in record { one = o; there = inl refl; stream_is = p.0; kernel_is = p.1 }
open_first stream kernel o opens (inr b) l f = let c = counted_not stream kernel o b in let r : OpenAt stream kernel opens = f (omega (arith, l, c)) in record { one = r.one; there = inr r.there; stream_is = r.stream_is; kernel_is = r.kernel_is }

pub open_there : (stream : StreamNo) (kernel : ℕ) (opens : List Open) → 1 ≤ open_count opens stream kernel → OpenAt stream kernel opens
open_there stream kernel [] l = absurd (omega (arith, l))
open_there stream kernel (o ∷ opens) l = open_first stream kernel o opens (bool_cases (is_open stream kernel o)) l (open_there stream kernel opens)

-- a stream's mode is that of each of its opens
mode_first : (stream : StreamNo) (o one : Open) (opens : List Open) (b : Bool) → same_stream stream o.stream ≡ b → (b ≡ true → o.mode ≡ one.mode) → (b ≡ false → or_reading (stream_mode opens stream) ≡ one.mode) → or_reading (cond b (Some o.mode) (stream_mode opens stream)) ≡ one.mode
mode_first stream o one opens true e f g = f refl
mode_first stream o one opens false e f g = g refl

pub mode_is : (stream : StreamNo) (one : Open) (opens : List Open) → ((x y : Open) → In x opens → In y opens → x.stream ≡ y.stream → x.mode ≡ y.mode) → In one opens → stream ≡ one.stream → mode_of_stream opens stream ≡ one.mode
mode_is stream one [] f m e = absurd m
mode_is stream one (o ∷ opens) f (inl q) e = mode_first stream o one opens (same_stream stream o.stream) refl (λ b. ap (λ (x : Open). x.mode) (sym q)) (λ b. absurd (cc (b, same_by stream o.stream (e ∙ ap (λ (x : Open). x.stream) q))))
mode_is stream one (o ∷ opens) f (inr m) e = mode_first stream o one opens (same_stream stream o.stream) refl (λ b. f o one (inl refl) (inr m) (sym (same_is stream o.stream b) ∙ e)) (λ b. mode_is stream one opens (λ x y n k. f x y (inr n) (inr k)) m e)

-- one more grant
added_same : (stream : StreamNo) (kernel : ℕ) (mode : Mode) (opens : List Open) → open_count (add_open opens stream kernel mode) stream kernel ≡ open_count opens stream kernel + 1
added_same stream kernel mode opens =
    let new : Open = record { stream = stream; kernel = kernel; mode = mode; count = open_count opens stream kernel + 1 } in
    let a = total_last (counted stream kernel) (filter (λ one. not (is_open stream kernel one)) opens) new in
    let b = counted_is stream kernel new (is_open_by stream kernel new refl refl) in
    let c = total_none (counted stream kernel) (filter (λ one. not (is_open stream kernel one)) opens) (λ one m. counted_not stream kernel one (not_true (is_open stream kernel one) (in_filter (λ x. not (is_open stream kernel x)) one opens m).1)) in
    omega (arith, a, b, c)
  where
    not_true : (b : Bool) → not b ≡ true → b ≡ false
    not_true true h = absurd (cc (h))
    not_true false h = refl

added_other : (stream other : StreamNo) (kernel place : ℕ) (mode : Mode) (opens : List Open) → ((one : Open) → is_open stream kernel one ≡ true → is_open other place one ≡ false) → open_count (add_open opens stream kernel mode) other place ≡ open_count opens other place
added_other stream other kernel place mode opens f =
    let new : Open = record { stream = stream; kernel = kernel; mode = mode; count = open_count opens stream kernel + 1 } in
    let a = total_last (counted other place) (filter (λ one. not (is_open stream kernel one)) opens) new in
    let b = counted_not other place new (f new (is_open_by stream kernel new refl refl)) in
    let c = total_filter (counted other place) (λ one. not (is_open stream kernel one)) opens (λ one m k. counted_not other place one (f one (not_false (is_open stream kernel one) k))) in
    omega (arith, a, b, c)
  where
    not_false : (b : Bool) → not b ≡ false → b ≡ true
    not_false true h = refl
    not_false false h = absurd (cc (h))

-- 1 where both are those
abbrev pub one_at : StreamNo → StreamNo → ℕ → ℕ → ℕ
one_at stream other kernel place = cond ((place == kernel) && same_stream stream other) 1 0

other_stream : (stream other : StreamNo) (kernel place : ℕ) → same_stream stream other ≡ false → (one : Open) → is_open other place one ≡ true → is_open stream kernel one ≡ false
other_stream stream other kernel place q one e = by_test (is_open stream kernel one) refl
  where
    by_test : (b : Bool) → is_open stream kernel one ≡ b → b ≡ false
    by_test true h = absurd (cc (q, same_by stream other ((is_open_is stream kernel one h).0 ∙ sym (is_open_is other place one e).0)))
    by_test false h = refl

other_place : (stream other : StreamNo) (kernel place : ℕ) → (place == kernel) ≡ false → (one : Open) → is_open other place one ≡ true → is_open stream kernel one ≡ false
other_place stream other kernel place p one e = by_test (is_open stream kernel one) refl
  where
    by_test : (b : Bool) → is_open stream kernel one ≡ b → b ≡ false
    by_test true h = absurd (cc (p, eq-eqb place kernel (sym (is_open_is other place one e).1 ∙ (is_open_is stream kernel one h).1)))
    by_test false h = refl

-- no open of one is one of the other
pub opens_differ : (stream other : StreamNo) (kernel place : ℕ) → ((place == kernel) && same_stream stream other) ≡ false → (one : Open) → is_open other place one ≡ true → is_open stream kernel one ≡ false
opens_differ stream other kernel place e = by_cases (place == kernel) (same_stream stream other) refl refl e
  where
    by_cases : (a b : Bool) → (place == kernel) ≡ a → same_stream stream other ≡ b → (a && b) ≡ false → (one : Open) → is_open other place one ≡ true → is_open stream kernel one ≡ false
    by_cases true true p q h = absurd (cc (h))
    by_cases true false p q h = other_stream stream other kernel place q
    by_cases false b p q h = other_place stream other kernel place p

added_by : (stream other : StreamNo) (kernel place : ℕ) (mode : Mode) (opens : List Open) (b : Bool) → ((place == kernel) && same_stream stream other) ≡ b → open_count (add_open opens other place mode) stream kernel ≡ open_count opens stream kernel + cond b 1 0
added_by stream other kernel place mode opens true e =
    let p = and_parts (place == kernel) (same_stream stream other) e in
    subst₂ (λ s k. open_count (add_open opens s k mode) stream kernel ≡ open_count opens stream kernel + 1) (same_is stream other p.1) (sym (eqb-true place kernel p.0)) (added_same stream kernel mode opens)
added_by stream other kernel place mode opens false e = added_other other stream place kernel mode opens (opens_differ stream other kernel place e) ∙ omega arith

pub added_count : (stream other : StreamNo) (kernel place : ℕ) (mode : Mode) (opens : List Open) → open_count (add_open opens other place mode) stream kernel ≡ open_count opens stream kernel + one_at stream other kernel place
added_count stream other kernel place mode opens = added_by stream other kernel place mode opens ((place == kernel) && same_stream stream other) refl

-- some taken off
pub record Left (one : Open) (opens : List Open) : Type 0 where
  pub before : Open
  pub there : In before opens
  pub stream_is : one.stream ≡ before.stream
  pub kernel_is : one.kernel ≡ before.kernel
  pub mode_is : one.mode ≡ before.mode
  pub counts : 1 ≤ before.count → 1 ≤ one.count

further : (one o : Open) (opens : List Open) → Left one opens → Left one (o ∷ opens)
further one o opens l = record { before = l.before; there = inr l.there; stream_is = l.stream_is; kernel_is = l.kernel_is; mode_is = l.mode_is; counts = l.counts }

itself : (one o : Open) (opens : List Open) → one ≡ o → Left one (o ∷ opens)
itself one o opens e = record { before = o; there = inl refl; stream_is = ap (λ (x : Open). x.stream) e; kernel_is = ap (λ (x : Open). x.kernel) e; mode_is = ap (λ (x : Open). x.mode) e; counts = λ l. subst (λ (x : Open). 1 ≤ x.count) (sym e) l }

less_one : (one o : Open) (opens : List Open) (grants : ℕ) → nat_le o.count grants ≡ false → one ≡ record o { count = o.count - grants } → Left one (o ∷ opens)
less_one one o opens grants k e = record { before = o; there = inl refl; stream_is = ap (λ (x : Open). x.stream) e; kernel_is = ap (λ (x : Open). x.kernel) e; mode_is = ap (λ (x : Open). x.mode) e; counts = λ l. subst (λ (x : Open). 1 ≤ x.count) (sym e) (let h = leb-false o.count grants k in omega (arith, h)) }

left_first : (one o : Open) (opens : List Open) (stream : StreamNo) (kernel grants : ℕ) (b c : Bool) → nat_le o.count grants ≡ c → (In one (take_off opens stream kernel grants) → Left one opens) → In one (cond b (cond c (take_off opens stream kernel grants) (record o { count = o.count - grants } ∷ take_off opens stream kernel grants)) (o ∷ take_off opens stream kernel grants)) → Left one (o ∷ opens)
left_first one o opens stream kernel grants true true k f m = further one o opens (f m)
left_first one o opens stream kernel grants true false k f (inl e) = less_one one o opens grants k e
left_first one o opens stream kernel grants true false k f (inr m) = further one o opens (f m)
left_first one o opens stream kernel grants false c k f (inl e) = itself one o opens e
left_first one o opens stream kernel grants false c k f (inr m) = further one o opens (f m)

pub left_in : (opens : List Open) (stream : StreamNo) (kernel grants : ℕ) (one : Open) → In one (take_off opens stream kernel grants) → Left one opens
left_in [] stream kernel grants one m = absurd m
left_in (o ∷ opens) stream kernel grants one m = left_first one o opens stream kernel grants (is_open stream kernel o) (nat_le o.count grants) refl (left_in opens stream kernel grants one) m

-- other opens stay
taken_first : (stream other : StreamNo) (kernel place grants : ℕ) (o : Open) (opens : List Open) (b c : Bool) → is_open other place o ≡ b → ((one : Open) → is_open other place one ≡ true → is_open stream kernel one ≡ false) → open_count (take_off opens other place grants) stream kernel ≡ open_count opens stream kernel → open_count (cond b (cond c (take_off opens other place grants) (record o { count = o.count - grants } ∷ take_off opens other place grants)) (o ∷ take_off opens other place grants)) stream kernel ≡ counted stream kernel o + open_count opens stream kernel
taken_first stream other kernel place grants o opens true true e f h = let k = counted_not stream kernel o (f o e) in omega (arith, h, k)
taken_first stream other kernel place grants o opens true false e f h = let k = counted_not stream kernel o (f o e) in let l = counted_not stream kernel (record o { count = o.count - grants }) (f o e) in omega (arith, h, k, l)
taken_first stream other kernel place grants o opens false c e f h = ap (λ n. counted stream kernel o + n) h

pub taken_other : (stream other : StreamNo) (kernel place grants : ℕ) (opens : List Open) → ((one : Open) → is_open other place one ≡ true → is_open stream kernel one ≡ false) → open_count (take_off opens other place grants) stream kernel ≡ open_count opens stream kernel
taken_other stream other kernel place grants [] f = refl
taken_other stream other kernel place grants (o ∷ opens) f = taken_first stream other kernel place grants o opens (is_open other place o) (nat_le o.count grants) refl f (taken_other stream other kernel place grants opens f)

-- and it has that many fewer
no_more : (stream : StreamNo) (kernel : ℕ) (o : Open) (opens : List Open) → Unique (map open_key (o ∷ opens)) → is_open stream kernel o ≡ true → (one : Open) → In one opens → is_open stream kernel one ≡ false
no_more stream kernel o opens u e one m = by_test (is_open stream kernel one) refl
  where
    by_test : (b : Bool) → is_open stream kernel one ≡ b → b ≡ false
    by_test true h =
        let p = is_open_is stream kernel o e in
        let q = is_open_is stream kernel one h in
        absurd (u.0 (subst (λ k. In k (map open_key opens)) (ap₂ (λ s k. (s, k)) (sym q.0 ∙ p.0) (q.1 ∙ sym p.1)) (map_in open_key one opens m)))
    by_test false h = refl

fewer_none : (stream : StreamNo) (kernel grants : ℕ) (opens : List Open) → ((one : Open) → In one opens → is_open stream kernel one ≡ false) → take_off opens stream kernel grants ≡ opens
fewer_none stream kernel grants [] f = refl
fewer_none stream kernel grants (o ∷ opens) f = ap (λ b. cond b (with_fewer grants o (take_off opens stream kernel grants)) (o ∷ take_off opens stream kernel grants)) (f o (inl refl)) ∙ ap (λ xs. o ∷ xs) (fewer_none stream kernel grants opens (λ one m. f one (inr m)))

fewer_first : (stream : StreamNo) (kernel grants : ℕ) (o : Open) (opens : List Open) (b c : Bool) → is_open stream kernel o ≡ b → nat_le o.count grants ≡ c → Unique (map open_key (o ∷ opens)) → grants ≤ counted stream kernel o + open_count opens stream kernel → (grants ≤ open_count opens stream kernel → open_count (take_off opens stream kernel grants) stream kernel + grants ≡ open_count opens stream kernel) → open_count (cond b (cond c (take_off opens stream kernel grants) (record o { count = o.count - grants } ∷ take_off opens stream kernel grants)) (o ∷ take_off opens stream kernel grants)) stream kernel + grants ≡ counted stream kernel o + open_count opens stream kernel
fewer_first stream kernel grants o opens true true e k u l h =
    let none : open_count opens stream kernel ≡ 0 = total_none (counted stream kernel) opens (λ one m. counted_not stream kernel one (no_more stream kernel o opens u e one m)) in
    let rest : open_count (take_off opens stream kernel grants) stream kernel ≡ open_count opens stream kernel = ap (total (counted stream kernel)) (fewer_none stream kernel grants opens (no_more stream kernel o opens u e)) in
    let here = counted_is stream kernel o e in
    let low = leb-true o.count grants k in
    omega (arith, none, rest, here, low, l)
fewer_first stream kernel grants o opens true false e k u l h =
    let rest : open_count (take_off opens stream kernel grants) stream kernel ≡ open_count opens stream kernel = ap (total (counted stream kernel)) (fewer_none stream kernel grants opens (no_more stream kernel o opens u e)) in
    let here = counted_is stream kernel o e in
    let now = counted_is stream kernel (record o { count = o.count - grants }) e in
    let high = leb-false o.count grants k in
    omega (arith, rest, here, now, high)
fewer_first stream kernel grants o opens false c e k u l h = let none = counted_not stream kernel o e in let r = h (omega (arith, l, none)) in omega (arith, r, none)

pub taken_count : (stream : StreamNo) (kernel grants : ℕ) (opens : List Open) → Unique (map open_key opens) → grants ≤ open_count opens stream kernel → open_count (take_off opens stream kernel grants) stream kernel + grants ≡ open_count opens stream kernel
taken_count stream kernel grants [] u l = omega (arith, l)
taken_count stream kernel grants (o ∷ opens) u l = fewer_first stream kernel grants o opens (is_open stream kernel o) (nat_le o.count grants) refl refl u l (taken_count stream kernel grants opens u.1)

-- the keys differ still
key_stays : (opens : List Open) (stream : StreamNo) (kernel grants : ℕ) (key : StreamNo × ℕ) → In key (map open_key (take_off opens stream kernel grants)) → In key (map open_key opens)
key_stays opens stream kernel grants key m =
    let r : Made open_key key (take_off opens stream kernel grants) = in_map open_key key (take_off opens stream kernel grants) m in
    let l : Left r.x opens = left_in opens stream kernel grants r.x r.there in
    subst (λ k. In k (map open_key opens)) (sym (r.makes ∙ ap₂ (λ s k. (s, k)) l.stream_is l.kernel_is)) (map_in open_key l.before opens l.there)

unique_first : (o : Open) (opens : List Open) (stream : StreamNo) (kernel grants : ℕ) (b c : Bool) → Unique (map open_key (o ∷ opens)) → Unique (map open_key (take_off opens stream kernel grants)) → Unique (map open_key (cond b (cond c (take_off opens stream kernel grants) (record o { count = o.count - grants } ∷ take_off opens stream kernel grants)) (o ∷ take_off opens stream kernel grants)))
unique_first o opens stream kernel grants true true u h = h
unique_first o opens stream kernel grants true false u h = (λ m. u.0 (key_stays opens stream kernel grants (open_key o) m), h)
unique_first o opens stream kernel grants false c u h = (λ m. u.0 (key_stays opens stream kernel grants (open_key o) m), h)

unique_taken : (opens : List Open) (stream : StreamNo) (kernel grants : ℕ) → Unique (map open_key opens) → Unique (map open_key (take_off opens stream kernel grants))
unique_taken [] stream kernel grants u = tt
unique_taken (o ∷ opens) stream kernel grants u = unique_first o opens stream kernel grants (is_open stream kernel o) (nat_le o.count grants) u (unique_taken opens stream kernel grants u.1)

pub shaped_taken : (count : ℕ) (opens : List Open) (stream : StreamNo) (kernel grants : ℕ) → OpensShaped count opens → OpensShaped count (take_off opens stream kernel grants)
shaped_taken count opens stream kernel grants s = record {
  differ = unique_taken opens stream kernel grants s.differ;
  client = λ one m. let l : Left one opens = left_in opens stream kernel grants one m in subst (IsClient count) (sym l.kernel_is) (s.client l.before l.there);
  counts = λ one m. let l : Left one opens = left_in opens stream kernel grants one m in l.counts (s.counts l.before l.there);
  modes = λ one other m n e. let l : Left one opens = left_in opens stream kernel grants one m in let r : Left other opens = left_in opens stream kernel grants other n in l.mode_is ∙ s.modes l.before r.before l.there r.there (sym l.stream_is ∙ e ∙ r.stream_is) ∙ sym r.mode_is;
}

-- one more open, in the mode of the others of its stream
pub in_added : (opens : List Open) (stream : StreamNo) (kernel : ℕ) (mode : Mode) (one : Open) → In one (add_open opens stream kernel mode) → In one opens ⊎ ((one.stream ≡ stream) × (one.kernel ≡ kernel) × (one.mode ≡ mode))
in_added opens stream kernel mode one m = by_place (in_last one (record { stream = stream; kernel = kernel; mode = mode; count = open_count opens stream kernel + 1 }) (filter (λ x. not (is_open stream kernel x)) opens) m)
  where
    by_place : In one (filter (λ x. not (is_open stream kernel x)) opens) ⊎ (one ≡ record { stream = stream; kernel = kernel; mode = mode; count = open_count opens stream kernel + 1 }) → In one opens ⊎ ((one.stream ≡ stream) × (one.kernel ≡ kernel) × (one.mode ≡ mode))
    by_place (inl n) = inl (in_filter (λ x. not (is_open stream kernel x)) one opens n).0
    by_place (inr e) = inr (ap (λ (x : Open). x.stream) e, ap (λ (x : Open). x.kernel) e, ap (λ (x : Open). x.mode) e)

key_free : (opens : List Open) (stream : StreamNo) (kernel : ℕ) → In (stream, kernel) (map open_key (filter (λ x. not (is_open stream kernel x)) opens)) → ⊥
key_free opens stream kernel m =
    let r : Made open_key (stream, kernel) (filter (λ x. not (is_open stream kernel x)) opens) = in_map open_key (stream, kernel) (filter (λ x. not (is_open stream kernel x)) opens) m in
    cc ((in_filter (λ x. not (is_open stream kernel x)) r.x opens r.there).1, ap not (is_open_by stream kernel r.x (ap (λ (k : StreamNo × ℕ). k.0) r.makes) (sym (ap (λ (k : StreamNo × ℕ). k.1) r.makes))))

counts_added : (opens : List Open) (stream : StreamNo) (kernel : ℕ) (mode : Mode) (one : Open) → ((x : Open) → In x opens → 1 ≤ x.count) → In one (filter (λ x. not (is_open stream kernel x)) opens) ⊎ (one ≡ record { stream = stream; kernel = kernel; mode = mode; count = open_count opens stream kernel + 1 }) → 1 ≤ one.count
counts_added opens stream kernel mode one f (inl n) = f one (in_filter (λ x. not (is_open stream kernel x)) one opens n).0
counts_added opens stream kernel mode one f (inr e) = subst (λ (x : Open). 1 ≤ x.count) (sym e) (omega arith)

pub shaped_added : (count : ℕ) (opens : List Open) (stream : StreamNo) (kernel : ℕ) (mode : Mode) → OpensShaped count opens → IsClient count kernel → ((one : Open) → In one opens → one.stream ≡ stream → one.mode ≡ mode) → OpensShaped count (add_open opens stream kernel mode)
shaped_added count opens stream kernel mode s i f = record {
  differ = subst Unique (sym (map-append open_key (filter (λ x. not (is_open stream kernel x)) opens) (record { stream = stream; kernel = kernel; mode = mode; count = open_count opens stream kernel + 1 } ∷ []))) (unique_append (map open_key (filter (λ x. not (is_open stream kernel x)) opens)) (stream, kernel) (unique_filter open_key (λ x. not (is_open stream kernel x)) opens s.differ) (key_free opens stream kernel));
  client = λ one m. placed one (in_added opens stream kernel mode one m);
  counts = λ one m. counts_added opens stream kernel mode one s.counts (in_last one (record { stream = stream; kernel = kernel; mode = mode; count = open_count opens stream kernel + 1 }) (filter (λ x. not (is_open stream kernel x)) opens) m);
  modes = λ one other m n e. alike one other e (in_added opens stream kernel mode one m) (in_added opens stream kernel mode other n);
}
  where
    placed : (one : Open) → In one opens ⊎ ((one.stream ≡ stream) × (one.kernel ≡ kernel) × (one.mode ≡ mode)) → IsClient count one.kernel
    placed one (inl n) = s.client one n
    placed one (inr e) = subst (IsClient count) (sym e.1) i

    alike : (one other : Open) → one.stream ≡ other.stream → In one opens ⊎ ((one.stream ≡ stream) × (one.kernel ≡ kernel) × (one.mode ≡ mode)) → In other opens ⊎ ((other.stream ≡ stream) × (other.kernel ≡ kernel) × (other.mode ≡ mode)) → one.mode ≡ other.mode
    alike one other e (inl a) (inl b) = s.modes one other a b e
    alike one other e (inl a) (inr b) = f one a (e ∙ b.0) ∙ sym b.2
    alike one other e (inr a) (inl b) = a.2 ∙ sym (f other b (sym e ∙ a.0))
    alike one other e (inr a) (inr b) = a.2 ∙ sym b.2
