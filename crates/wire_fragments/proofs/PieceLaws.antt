-- The bytes of a message in part, and how many of its frames are missing.
use Rattle.std.proofs.Common.{◌≡◌, ◌≢◌, ◌≤◌, ◌<◌, ◌⊎◌, inl, inr, ℕ, zero, suc, ◌+◌, ◌-◌, ◌*◌, ◌/◌, ◌%◌, ◌==◌, Bool, true, false, ◌&&◌, not, cond, List, [], ◌∷◌, ◌++◌, length, take, drop, min, replicate, slice_index_or, slice_set, refl, sym, ap, ◌∙◌, subst, arith, count_by, true≢false, eqb-true, ne_eqb}
use Rattle.std.proofs.lemmas.Bool.{cases_lt, cases_eq, eqb-false}
use Rattle.std.proofs.lemmas.List.{length-append, length-take, length-drop, length-replicate, get_or-take, get_or-drop, get_or_append_left, get_or-append_right, get_or-set_other, ext_get_or}
use Rattle.std.proofs.lemmas.List.Sums.{sum_by-cons}
use Rattle.std.specs.List.{list_all}
use Rattle.wire_fragments.specs.Frames.{piece}
use Rattle.wire_fragments.specs.Pieces.{written}

-- ---- bytes that are written over others

abbrev pub front : List ℕ → ℕ → List ℕ → List ℕ
front bytes from new = take from (bytes ++ replicate (from + length new - length bytes) 0) ++ new

front_long : (bytes : List ℕ) (from : ℕ) (new : List ℕ) → length (front bytes from new) ≡ from + length new
front_long bytes from new =
    let zeros : List ℕ = replicate (from + length new - length bytes) 0 in
    let one = length-append (take from (bytes ++ zeros)) new in
    let two = length-take from (bytes ++ zeros) in
    let three = length-append bytes zeros in
    let four = length-replicate {A = ℕ} (from + length new - length bytes) 0 in
    omega (arith, one, two, three, four)

-- as far as they end, and as far as the old ones did
pub written_long : (bytes : List ℕ) (from : ℕ) (new : List ℕ) → length (written bytes from new) ≡ from + length new + (length bytes - (from + length new))
written_long bytes from new =
    let one = length-append (front bytes from new) (drop (from + length new) bytes) in
    let two = front_long bytes from new in
    let three = length-drop (from + length new) bytes in
    omega (arith, one, two, three)

head_long : (bytes : List ℕ) (from : ℕ) (new : List ℕ) → length (take from (bytes ++ replicate (from + length new - length bytes) 0)) ≡ from
head_long bytes from new =
    let zeros : List ℕ = replicate (from + length new - length bytes) 0 in
    let two = length-take from (bytes ++ zeros) in
    let three = length-append bytes zeros in
    let four = length-replicate {A = ℕ} (from + length new - length bytes) 0 in
    omega (arith, two, three, four)

-- the new ones
pub new_there : (bytes : List ℕ) (from : ℕ) (new : List ℕ) (k : ℕ) → k < length new → slice_index_or (written bytes from new) (from + k) 0 ≡ slice_index_or new k 0
new_there bytes from new k less =
    let long = front_long bytes from new in
    let kept = get_or_append_left (front bytes from new) (drop (from + length new) bytes) 0 (from + k) (omega (arith, less, long)) in
    let found = get_or-append_right (take from (bytes ++ replicate (from + length new - length bytes) 0)) new from (from + k) 0 (head_long bytes from new) (omega arith) in
    let same : from + k - from ≡ k = omega arith in
    kept ∙ found ∙ ap (λ n. slice_index_or new n 0) same

-- those before
pub before_there : (bytes : List ℕ) (from : ℕ) (new : List ℕ) (k : ℕ) → k < from → k < length bytes → slice_index_or (written bytes from new) k 0 ≡ slice_index_or bytes k 0
before_there bytes from new k less within =
    let zeros : List ℕ = replicate (from + length new - length bytes) 0 in
    let long = front_long bytes from new in
    let start = head_long bytes from new in
    get_or_append_left (front bytes from new) (drop (from + length new) bytes) 0 k (omega (arith, less, long))
    ∙ get_or_append_left (take from (bytes ++ zeros)) new 0 k (omega (arith, less, start))
    ∙ get_or-take from (bytes ++ zeros) k 0 less
    ∙ get_or_append_left bytes zeros 0 k within

-- those behind
pub behind_there : (bytes : List ℕ) (from : ℕ) (new : List ℕ) (k : ℕ) → from + length new ≤ k → slice_index_or (written bytes from new) k 0 ≡ slice_index_or bytes k 0
behind_there bytes from new k most =
    let same : from + length new + (k - (from + length new)) ≡ k = omega (arith, most) in
    get_or-append_right (front bytes from new) (drop (from + length new) bytes) (from + length new) k 0 (front_long bytes from new) most
    ∙ get_or-drop (from + length new) bytes (k - (from + length new)) 0
    ∙ ap (λ n. slice_index_or bytes n 0) same

-- ---- the bytes of a message in part

-- they are the message's where its frames have come
pub record Holds (message : List ℕ) (came : List Bool) (bytes : List ℕ) : Type 0 where
  pub short : length bytes ≤ length message
  pub same : (i r : ℕ) → r < 1488 → 1488 * i + r < length message → slice_index_or came i false ≡ true → (1488 * i + r < length bytes) × (slice_index_or bytes (1488 * i + r) 0 ≡ slice_index_or message (1488 * i + r) 0)

-- of a message of which nothing has come
pub holds_none : (message : List ℕ) (came : List Bool) → ((i : ℕ) → slice_index_or came i false ≡ false) → Holds message came []
holds_none message came none = record { short = omega arith; same = λ i r less within is. absurd (true≢false (sym is ∙ none i)) }

piece_long : (message : List ℕ) (j : ℕ) → length (piece message j) ≡ min 1488 (length message - 1488 * j)
piece_long message j = length-take 1488 (drop (1488 * j) message) ∙ ap (min 1488) (length-drop (1488 * j) message)

piece_there : (message : List ℕ) (j r : ℕ) → r < 1488 → slice_index_or (piece message j) r 0 ≡ slice_index_or message (1488 * j + r) 0
piece_there message j r less = get_or-take 1488 (drop (1488 * j) message) r 0 less ∙ get_or-drop (1488 * j) message r 0

-- and still where one more comes
pub holds_more : (message : List ℕ) (came : List Bool) (bytes : List ℕ) (j : ℕ) → Holds message came bytes → j < length came → 1488 * j ≤ length message → Holds message (slice_set came j true) (written bytes (1488 * j) (piece message j))
holds_more message came bytes j holds within most = record {
  short = (let long = written_long bytes (1488 * j) (piece message j) in let part = piece_long message j in let before = holds.short in omega (arith, long, part, before, most));
  same = λ i r less there is. at i r less there is (cases_eq i j);
}
  where
    here : (r : ℕ) → r < 1488 → 1488 * j + r < length message → (1488 * j + r < length (written bytes (1488 * j) (piece message j))) × (slice_index_or (written bytes (1488 * j) (piece message j)) (1488 * j + r) 0 ≡ slice_index_or message (1488 * j + r) 0)
    here r less there =
        let part = piece_long message j in
        let long = written_long bytes (1488 * j) (piece message j) in
        (omega (arith, long, part, less, there), new_there bytes (1488 * j) (piece message j) r (omega (arith, part, less, there)) ∙ piece_there message j r less)

    apart : (i r : ℕ) → r < 1488 → (i ≡ j → ⊥) → (1488 * i + r < length bytes) × (slice_index_or bytes (1488 * i + r) 0 ≡ slice_index_or message (1488 * i + r) 0) → (i < j) ⊎ (j ≤ i)
        → (1488 * i + r < length (written bytes (1488 * j) (piece message j))) × (slice_index_or (written bytes (1488 * j) (piece message j)) (1488 * i + r) 0 ≡ slice_index_or message (1488 * i + r) 0)
    apart i r less other was (inl low) =
        let long = written_long bytes (1488 * j) (piece message j) in
        let in_old = was.0 in
        (omega (arith, long, in_old), before_there bytes (1488 * j) (piece message j) (1488 * i + r) (omega (arith, low, less)) in_old ∙ was.1)
    apart i r less other was (inr high) =
        let long = written_long bytes (1488 * j) (piece message j) in
        let part = piece_long message j in
        let in_old = was.0 in
        (omega (arith, long, in_old), behind_there bytes (1488 * j) (piece message j) (1488 * i + r) (omega (arith, high, other, part)) ∙ was.1)

    at : (i r : ℕ) → r < 1488 → 1488 * i + r < length message → slice_index_or (slice_set came j true) i false ≡ true → (i ≡ j) ⊎ (i ≡ j → ⊥)
        → (1488 * i + r < length (written bytes (1488 * j) (piece message j))) × (slice_index_or (written bytes (1488 * j) (piece message j)) (1488 * i + r) 0 ≡ slice_index_or message (1488 * i + r) 0)
    at i r less there is (inl e) =
        subst (λ (n : ℕ). (1488 * n + r < length (written bytes (1488 * j) (piece message j))) × (slice_index_or (written bytes (1488 * j) (piece message j)) (1488 * n + r) 0 ≡ slice_index_or message (1488 * n + r) 0)) (sym e)
        (here r less (subst (λ (n : ℕ). 1488 * n + r < length message) e there))
    at i r less there is (inr other) = apart i r less other (holds.same i r less there (sym (get_or-set_other came j i true false other) ∙ is)) (cases_lt i j)

-- where all have come they are the message
pub holds_all : (message : List ℕ) (came : List Bool) (bytes : List ℕ) → Holds message came bytes → length message ≤ 1488 * length came → ((i : ℕ) → i < length came → slice_index_or came i false ≡ true) → bytes ≡ message
holds_all message came bytes holds enough all = ext_get_or 0 bytes message (equal (length message == 0) refl) (λ k within. (found k (omega (arith, within, holds_short))).1)
  where
    holds_short : length bytes ≤ length message
    holds_short = holds.short

    found : (k : ℕ) → k < length message → (k < length bytes) × (slice_index_or bytes k 0 ≡ slice_index_or message k 0)
    found k within =
        let parts : 1488 * (k / 1488) + k % 1488 ≡ k = omega arith in
        let less : k % 1488 < 1488 = omega arith in
        let there : 1488 * (k / 1488) + k % 1488 < length message = omega (arith, within) in
        let few : k / 1488 < length came = omega (arith, within, enough) in
        subst (λ (n : ℕ). (n < length bytes) × (slice_index_or bytes n 0 ≡ slice_index_or message n 0)) parts (holds.same (k / 1488) (k % 1488) less there (all (k / 1488) few))

    equal : (b : Bool) → (length message == 0) ≡ b → length bytes ≡ length message
    equal true e = let none = eqb-true (length message) 0 e in let short = holds_short in omega (arith, none, short)
    equal false e =
        let some : length message ≢ 0 = eqb-false (length message) 0 e in
        let last = (found (length message - 1) (omega (arith, some))).0 in
        let short = holds_short in
        omega (arith, last, short, some)

-- ---- which frames have come

abbrev pub all : List Bool → Bool
all came = list_all (λ (b : Bool). b) came

all_by : (x : Bool) (xs : List Bool) → all xs ≡ (count_by not xs == 0) → (x && all xs) ≡ (cond (not x) 1 0 + count_by not xs == 0)
all_by true xs e = let same : count_by not xs ≡ 0 + count_by not xs = omega arith in e ∙ ap (λ n. n == 0) same
all_by false xs e = sym (ne_eqb (1 + count_by not xs) 0 (λ it. absurd (omega (arith, it))))

-- all have come exactly where none is missing
pub all_is : (xs : List Bool) → all xs ≡ (count_by not xs == 0)
all_is [] = refl
all_is (x ∷ xs) = all_by x xs (all_is xs) ∙ ap (λ n. n == 0) (sym (sum_by-cons (λ (b : Bool). cond (not b) 1 0) x xs))

-- one that was missing comes
pub one_less : (xs : List Bool) (j : ℕ) → j < length xs → slice_index_or xs j false ≡ false → suc (count_by not (slice_set xs j true)) ≡ count_by not xs
one_less [] j within is = absurd (omega (arith, within))
one_less (x ∷ xs) zero within is =
    let one = sum_by-cons (λ (b : Bool). cond (not b) 1 0) true xs in
    let two = sum_by-cons (λ (b : Bool). cond (not b) 1 0) x xs in
    let three : ◌≡◌ {A = ℕ} (cond (not x) 1 0) 1 = ap (λ (b : Bool). cond (not b) 1 0) is in
    omega (arith, one, two, three)
one_less (x ∷ xs) (suc j) within is =
    let one = sum_by-cons (λ (b : Bool). cond (not b) 1 0) x (slice_set xs j true) in
    let two = sum_by-cons (λ (b : Bool). cond (not b) 1 0) x xs in
    let rest = one_less xs j (omega (arith, within)) is in
    omega (arith, one, two, rest)

-- each has come where all have
all_at_by : (x : Bool) (xs : List Bool) (i : ℕ) → (x && all xs) ≡ true → i < suc (length xs) → (all xs ≡ true → (k : ℕ) → k < length xs → slice_index_or xs k false ≡ true) → slice_index_or (x ∷ xs) i false ≡ true
all_at_by true xs zero e within rest = refl
all_at_by true xs (suc i) e within rest = rest e i (omega (arith, within))
all_at_by false xs i e within rest = absurd (true≢false (sym e))

pub all_at : (xs : List Bool) → all xs ≡ true → (i : ℕ) → i < length xs → slice_index_or xs i false ≡ true
all_at [] e i within = absurd (omega (arith, within))
all_at (x ∷ xs) e i within = all_at_by x xs i e within (λ f k less. all_at xs f k less)

pub none_there : (n i : ℕ) → slice_index_or (replicate n false) i false ≡ false
none_there zero i = refl
none_there (suc n) zero = refl
none_there (suc n) (suc i) = none_there n i

pub none_counted : (n : ℕ) → count_by not (replicate n false) ≡ n
none_counted zero = refl
none_counted (suc n) =
    let one = sum_by-cons (λ (b : Bool). cond (not b) 1 0) false (replicate n false) in
    let rest = none_counted n in
    omega (arith, one, rest)

-- a frame that came before changes nothing
pub set_again : (xs : List Bool) (j : ℕ) → slice_index_or xs j false ≡ true → slice_set xs j true ≡ xs
set_again [] j is = refl
set_again (x ∷ xs) zero is = ap (λ (b : Bool). b ∷ xs) (sym is)
set_again (x ∷ xs) (suc j) is = ap (λ (ys : List Bool). x ∷ ys) (set_again xs j is)
