-- Each shared stream is kept once, and is found and changed at one place.
use Rattle.std.proofs.Common.{add-one, fold, rules, tests, ◌≡◌, ℕ, zero, suc, ◌+◌, ◌-◌, ◌≤◌, ◌<◌, ◌==◌, Bool, true, false, ◌&&◌, ◌||◌, not, cond, List, [], ◌∷◌, length, take, Some, refl, sym, ap, ◌∙◌, arith, slice_index, slice_set, get_or}
use Rattle.std.specs.List.{AllByRecursion, find, list_any, position}
use Rattle.std.proofs.lemmas.List.Quantifiers.{position-Some}
use Rattle.std.proofs.lemmas.Bool.{and_parts, eqb-true}
use Rattle.std.proofs.lemmas.Bool.Decides.{eqb_tells}
use Rattle.sprite_ids.specs.declared.StreamNo.{StreamNo}
use Rattle.sprite_ids.proofs.ListLaws.{each_set, each_weaken}
use Rattle.sprite_ids.specs.Lists.{changed, without, EachOnce}
use Rattle.sprite_ids.proofs.OnceLaws.{IsSameness, AtMostOne, at_most_one, filtered_once, none_left, pushed_once}
use Rattle.shadow_streams.specs.declared.shadow.Shadow.{Shadow}
use Rattle.shadow_streams.specs.Shadows.{count_of, raised, is_of, lowered, share, is_closed, close, same_stream}

-- entries of one stream
joined : (x y : Shadow) → same_stream x y ≡ true → (z : Shadow) → same_stream x z ≡ same_stream y z
joined x y h z =
    let parts = and_parts (y.stream.kernel == x.stream.kernel) (y.stream.number == x.stream.number) h in
    let kernel = eqb-true y.stream.kernel x.stream.kernel parts.0 in
    let number = eqb-true y.stream.number x.stream.number parts.1 in
    rw (kernel, number) refl

eq_turned : (a b : ℕ) → (a == b) ≡ (b == a)
eq_turned a b = search (rules, tests, eqb_tells a b, eqb_tells b a)

streams_same : IsSameness same_stream
streams_same = record { joined = joined; turned = λ x y. rw (eq_turned x.stream.kernel y.stream.kernel, eq_turned x.stream.number y.stream.number) refl }

-- each stream once is at most one entry of a stream
pub one_entry : (stream : StreamNo) (xs : List Shadow) → EachOnce same_stream xs → AtMostOne (is_of stream) xs
one_entry stream xs h = at_most_one same_stream streams_same (record { stream = stream; offset = 0; grants = [] }) xs h

-- without a stream the others are each there once
pub without_once : (stream : StreamNo) (xs : List Shadow) → EachOnce same_stream xs → EachOnce same_stream (without (is_of stream) xs)
without_once stream xs h = filtered_once same_stream (λ shadow. not (is_of stream shadow)) xs h

-- also with one that became shared
pub share_once : (stream : StreamNo) (offset : ℕ) (kernels : List ℕ) (xs : List Shadow) → EachOnce same_stream xs → EachOnce same_stream (share xs stream offset kernels)
share_once stream offset kernels xs h =
    pushed_once same_stream streams_same _ (without (is_of stream) xs) (none_left (is_of stream) xs) (without_once stream xs h)

changed_any : (f : Shadow → Shadow) → ((s : Shadow) → (f s).stream ≡ s.stream) → (key stream : StreamNo) (xs : List Shadow) → list_any (is_of key) (changed (is_of stream) f xs) ≡ list_any (is_of key) xs
changed_any f same key stream [] = refl
changed_any f same key stream (x ∷ xs) =
    elim (is_of stream x) as (λ b. list_any (is_of key) (cond b (f x ∷ xs) (x ∷ changed (is_of stream) f xs)) ≡ list_any (is_of key) (x ∷ xs)) [ true ↦ ap (λ (s : StreamNo). ((s.kernel == key.kernel) && (s.number == key.number)) || list_any (is_of key) xs) (same x) | false ↦ ap (λ b. is_of key x || b) (changed_any f same key stream xs) ]

-- a change that keeps the stream's number keeps each stream once
pub changed_once : (f : Shadow → Shadow) → ((s : Shadow) → (f s).stream ≡ s.stream) → (stream : StreamNo) (xs : List Shadow) → EachOnce same_stream xs → EachOnce same_stream (changed (is_of stream) f xs)
changed_once f same stream [] h = tt
changed_once f same stream (x ∷ xs) h =
    elim (is_of stream x) as (λ b. EachOnce same_stream (cond b (f x ∷ xs) (x ∷ changed (is_of stream) f xs))) [ true ↦ (ap (λ (s : StreamNo). list_any (is_of s) xs) (same x) ∙ h.0, h.1) | false ↦ (changed_any f same x.stream stream xs ∙ h.0, changed_once f same stream xs h.1) ]

-- a count is within the bound of all
pub count_within : (bound : ℕ) (grants : List ℕ) (i : ℕ) → AllByRecursion (λ n. n ≤ bound) grants → slice_index grants i ≤ bound
count_within bound [] i h = omega arith
count_within bound (n ∷ grants) zero h = h.0
count_within bound (n ∷ grants) (suc i) h = count_within bound grants i h.1

-- and one grant more is within the next bound
pub raised_within : (bound kernel : ℕ) (grants : List ℕ) → AllByRecursion (λ n. n ≤ bound) grants → AllByRecursion (λ n. n ≤ bound + 1) (raised kernel grants)
raised_within bound kernel grants h =
    let within = count_within bound grants (kernel - 1) h in
    each_set (λ n. n ≤ bound + 1) grants (kernel - 1) (count_of kernel grants + 1) (omega (arith, within)) (each_weaken (λ n. n ≤ bound) (λ n. n ≤ bound + 1) grants (λ n k. omega (arith, k)) h)

found_put : (p : Shadow → Bool) (xs : List Shadow) (i : ℕ) (d y : Shadow) → p y ≡ true → i < length xs → ((k : ℕ) → k < i → p (get_or xs k d) ≡ false) → find p (slice_set xs i y) ≡ Some y
found_put p [] i d y t h k = absurd (omega arith)
found_put p (x ∷ xs) zero d y t h k = ap (λ b. cond b (Some y) (find p xs)) t
found_put p (x ∷ xs) (suc i) d y t h k =
    ap (λ b. cond b (Some x) (find p (slice_set xs i y))) (k 0 (omega arith)) ∙ found_put p xs i d y t (omega arith) (λ j under. k (suc j) (omega arith))

-- the entry that was put at the position of its stream is found
pub found_changed : (stream : StreamNo) (xs : List Shadow) (i : ℕ) (d y : Shadow) → position (is_of stream) xs ≡ Some i → d ≡ get_or xs i d → y.stream ≡ d.stream → find (is_of stream) (slice_set xs i y) ≡ Some y
found_changed stream xs i d y e is same =
    let found = position-Some (is_of stream) xs i d e in
    let passes : is_of stream y ≡ true = ap (λ (s : StreamNo). (s.kernel == stream.kernel) && (s.number == stream.number)) same ∙ ap (is_of stream) is ∙ found.1 in
    found_put (is_of stream) xs i d y passes found.0 found.2

-- what close does, by whether a grant is left
pub closes : (xs : List Shadow) (stream : StreamNo) (kernel fewer : ℕ) → is_closed xs stream kernel fewer ≡ true → close xs stream kernel fewer ≡ without (is_of stream) xs
closes xs stream kernel fewer e = ap (λ b. cond b (without (is_of stream) xs) (changed (is_of stream) (λ shadow. record shadow { grants = lowered kernel fewer shadow.grants }) xs)) e

pub lowers : (xs : List Shadow) (stream : StreamNo) (kernel fewer : ℕ) → is_closed xs stream kernel fewer ≡ false → close xs stream kernel fewer ≡ changed (is_of stream) (λ shadow. record shadow { grants = lowered kernel fewer shadow.grants }) xs
lowers xs stream kernel fewer e = ap (λ b. cond b (without (is_of stream) xs) (changed (is_of stream) (λ shadow. record shadow { grants = lowered kernel fewer shadow.grants }) xs)) e

-- one kernel more is counted
pub counted_more : (f : List ℕ → ℕ → List ℕ) (start : List ℕ) (xs : List ℕ) (i d : ℕ) → i < length xs → fold f start (take (suc i) xs) ≡ f (fold f start (take i xs)) (get_or xs i d)
counted_more f start [] i d h = absurd (omega arith)
counted_more f start (x ∷ xs) zero d h = refl
counted_more f start (x ∷ xs) (suc i) d h = counted_more f (f start x) xs i d (omega arith)

pub counted_next : (f : List ℕ → ℕ → List ℕ) (start : List ℕ) (xs : List ℕ) (i d : ℕ) → i < length xs → d ≡ get_or xs i d → fold f start (take (i + 1) xs) ≡ f (fold f start (take i xs)) d
counted_next f start xs i d h is = rw add-one (counted_more f start xs i d h ∙ ap (f (fold f start (take i xs))) (sym is))
