-- A file's bytes, one by one: of its blocks, and after writes.
use Rattle.std.proofs.Common.{◌≡◌, ◌≢◌, ◌≤◌, ◌<◌, ◌⊎◌, ℕ, ◌+◌, ◌-◌, ◌*◌, ◌/◌, ◌%◌, cond, List, [], ◌∷◌, ◌++◌, length, take, drop, get_or, max, min, refl, sym, ap, ◌∙◌, subst, inl, inr, arith, length-append, length-take, length-drop, lt-ltb}
use Rattle.std.proofs.lemmas.List.{length-replicate, get_or-take, get_or-drop, get_or_append_left, get_or-append_right, get_or-replicate, ext_get_or, get_or_past}
use Rattle.std.proofs.lemmas.Nat.{le-div, div-mul-add, mod_below, div-add-mod'}
use Rattle.std.proofs.Math.Nat.{mul-le-mul_right, add-mul}
use Rattle.file_views.specs.Setting.{Setting}
use Rattle.file_views.specs.Contents.{zeros, grown, whole, part, cut, overlay, put_block, numbers_from, blocks_between}
use Rattle.file_views.specs.Clients.{block_written}
use Rattle.file_views.specs.Here.{In}
use Rattle.file_views.proofs.HolderTakeLaws.{order}
use Rattle.file_views.proofs.BlockLaws.{numbers_in, div_below}
use Rattle.file_views.proofs.SizeLaws.{length_grown, length_before}

-- zeros, and bytes with zeros behind
zero_byte : (count i : ℕ) → get_or (zeros count) i 0 ≡ 0
zero_byte count i = elim (order i count) [ inl l ↦ get_or-replicate count i 0 0 l | inr l ↦ get_or_past (zeros count) i 0 (let e : length (zeros count) ≡ count = length-replicate count 0 in omega (arith, e, l)) ]

pub grown_byte : (xs : List ℕ) (size i : ℕ) → get_or (grown xs size) i 0 ≡ get_or xs i 0
grown_byte xs size i = elim (order i (length xs)) [
  | inl l ↦ get_or_append_left xs (zeros (size - length xs)) 0 i l
  | inr l ↦ get_or-append_right xs (zeros (size - length xs)) (length xs) i 0 refl l ∙ zero_byte (size - length xs) (i - length xs) ∙ sym (get_or_past xs i 0 l)
]

taken_past : (count : ℕ) (xs : List ℕ) (i : ℕ) → count ≤ i → get_or (take count xs) i 0 ≡ 0
taken_past count xs i l = get_or_past (take count xs) i 0 (let e = length-take count xs in omega (arith, e, l))

-- a block
pub part_byte : (z : Setting) (xs : List ℕ) (number j : ℕ) → j < z.block → get_or (part z xs number) j 0 ≡ get_or xs (number * z.block + j) 0
part_byte z xs number j l = grown_byte (take z.block (drop (number * z.block) xs)) z.block j ∙ get_or-take z.block (drop (number * z.block) xs) j 0 l ∙ get_or-drop (number * z.block) xs j 0

pub whole_length : (z : Setting) (piece : List ℕ) → length piece ≤ z.block → length (whole z piece) ≡ z.block
whole_length z piece l = let e = length_grown piece z.block in omega (arith, e, l)

pub part_length : (z : Setting) (xs : List ℕ) (number : ℕ) → length (part z xs number) ≡ z.block
part_length z xs number = whole_length z (take z.block (drop (number * z.block) xs)) (let e = length-take z.block (drop (number * z.block) xs) in omega (arith, e))

-- a whole block is one of these bytes where each byte is
pub is_part : (z : Setting) (block xs : List ℕ) (number : ℕ) → length block ≡ z.block → ((j : ℕ) → j < z.block → get_or block j 0 ≡ get_or xs (number * z.block + j) 0) → block ≡ part z xs number
is_part z block xs number e f = ext_get_or 0 block (part z xs number) (e ∙ sym (part_length z xs number)) (λ j l. let k = within l in f j k ∙ sym (part_byte z xs number j k))
  where
    within : {j : ℕ} → j < length block → j < z.block
    within l = omega (arith, l, e)

pub part_same : (z : Setting) (xs ys : List ℕ) (number : ℕ) → ((j : ℕ) → j < z.block → get_or xs (number * z.block + j) 0 ≡ get_or ys (number * z.block + j) 0) → part z xs number ≡ part z ys number
part_same z xs ys number f = is_part z (part z xs number) ys number (part_length z xs number) (λ j l. part_byte z xs number j l ∙ f j l)

part_bytes : (z : Setting) (xs ys : List ℕ) (number j : ℕ) → part z xs number ≡ part z ys number → j < z.block → get_or xs (number * z.block + j) 0 ≡ get_or ys (number * z.block + j) 0
part_bytes z xs ys number j e l = sym (part_byte z xs number j l) ∙ ap (λ b. get_or b j 0) e ∙ part_byte z ys number j l

-- bytes of one length with the same blocks are the same
pub by_parts : (z : Setting) (xs ys : List ℕ) → 0 < z.block → length xs ≡ length ys → ((number : ℕ) → part z xs number ≡ part z ys number) → xs ≡ ys
by_parts z xs ys p l f = ext_get_or 0 xs ys l (λ i h. at i)
  where
    at : (i : ℕ) → get_or xs i 0 ≡ get_or ys i 0
    at i =
        let r : i % z.block < z.block = mod_below i z.block p in
        let e : i ≡ i / z.block * z.block + i % z.block = sym (div-add-mod' i z.block) in
        ap (λ k. get_or xs k 0) e ∙ (sym (part_byte z xs (i / z.block) (i % z.block) r) ∙ (ap (λ b. get_or b (i % z.block) 0) (f (i / z.block)) ∙ (part_byte z ys (i / z.block) (i % z.block) r ∙ ap (λ k. get_or ys k 0) (sym e))))

-- a block past the end is of zeros
pub part_past : (z : Setting) (xs : List ℕ) (number : ℕ) → length xs ≤ number * z.block → zeros z.block ≡ part z xs number
part_past z xs number l = is_part z (zeros z.block) xs number (length-replicate z.block 0) (λ j k. zero_byte z.block j ∙ sym (get_or_past xs (number * z.block + j) 0 (omega (arith, l))))

-- a block that is cut at the end is whole again with zeros
pub whole_cut : (z : Setting) (xs : List ℕ) (number size : ℕ) → length xs ≤ size → whole z (cut z (part z xs number) number size) ≡ part z xs number
whole_cut z xs number size l = is_part z (whole z (cut z (part z xs number) number size)) xs number
    (whole_length z (cut z (part z xs number) number size) (let a = length-take (size - number * z.block) (part z xs number) in let b = part_length z xs number in omega (arith, a, b)))
    (λ j k. grown_byte (cut z (part z xs number) number size) z.block j ∙ elim (order j (size - number * z.block)) [
      | inl m ↦ get_or-take (size - number * z.block) (part z xs number) j 0 m ∙ part_byte z xs number j k
      | inr m ↦ taken_past (size - number * z.block) (part z xs number) j m ∙ sym (get_or_past xs (number * z.block + j) 0 (omega (arith, l, m)))
    ])

-- bytes over others
pub overlay_inside : (xs : List ℕ) (at : ℕ) (new : List ℕ) (i : ℕ) → at ≤ i → i < at + length new → get_or (overlay xs at new) i 0 ≡ get_or new (i - at) 0
overlay_inside xs at [] i l h = absurd (omega (arith, l, h))
overlay_inside xs at (first ∷ rest) i l h =
    let a = length_before xs at in
    let b = length-append (take at (grown xs at)) (first ∷ rest) in
    get_or_append_left (take at (grown xs at) ++ (first ∷ rest)) (drop (at + length (first ∷ rest)) xs) 0 i (omega (arith, a, b, h)) ∙ get_or-append_right (take at (grown xs at)) (first ∷ rest) at i 0 a l

pub overlay_outside : (xs : List ℕ) (at : ℕ) (new : List ℕ) (i : ℕ) → (i < at) ⊎ (at + length new ≤ i) → get_or (overlay xs at new) i 0 ≡ get_or xs i 0
overlay_outside xs at [] i o = refl
overlay_outside xs at (first ∷ rest) i (inl l) =
    let a = length_before xs at in
    let b = length-append (take at (grown xs at)) (first ∷ rest) in
    get_or_append_left (take at (grown xs at) ++ (first ∷ rest)) (drop (at + length (first ∷ rest)) xs) 0 i (omega (arith, a, b, l))
    ∙ get_or_append_left (take at (grown xs at)) (first ∷ rest) 0 i (omega (arith, a, l)) ∙ get_or-take at (grown xs at) i 0 l ∙ grown_byte xs at i
overlay_outside xs at (first ∷ rest) i (inr l) =
    let a = length_before xs at in
    let b = length-append (take at (grown xs at)) (first ∷ rest) in
    let e : at + length (first ∷ rest) + (i - (at + length (first ∷ rest))) ≡ i = omega (arith, l) in
    get_or-append_right (take at (grown xs at) ++ (first ∷ rest)) (drop (at + length (first ∷ rest)) xs) (at + length (first ∷ rest)) i 0 (omega (arith, a, b)) l
    ∙ get_or-drop (at + length (first ∷ rest)) xs (i - (at + length (first ∷ rest))) 0 ∙ ap (λ n. get_or xs n 0) e

-- a block that is put at its place
block_after : (z : Setting) (number other : ℕ) → number < other → number * z.block + z.block ≤ other * z.block
block_after z number other l = let a = mul-le-mul_right {m = number + 1} {n = other} z.block (omega (arith, l)) in let b = add-mul number 1 z.block in omega (arith, a, b)

pub put_elsewhere : (z : Setting) (xs : List ℕ) (number size : ℕ) (piece : List ℕ) (other : ℕ) → length piece ≤ z.block → other ≢ number → part z (put_block z xs number size piece) other ≡ part z xs other
put_elsewhere z xs number size piece other l d = part_same z (put_block z xs number size piece) xs other (λ j k. overlay_outside (grown xs size) (number * z.block) piece (other * z.block + j) (elim (order other number) [
  | inl m ↦ inl (let a = block_after z other number m in omega (arith, a, k))
  | inr m ↦ inr (let a = block_after z number other (above m) in omega (arith, a, l))
]) ∙ grown_byte xs size (other * z.block + j))
  where
    above : number ≤ other → number < other
    above m = elim (order number other) [ inl k ↦ k | inr k ↦ absurd (d (omega (arith, k, m))) ]

put_byte : (z : Setting) (xs : List ℕ) (number size : ℕ) (piece : List ℕ) (j : ℕ) → j < length piece → get_or (put_block z xs number size piece) (number * z.block + j) 0 ≡ get_or piece j 0
put_byte z xs number size piece j l = overlay_inside (grown xs size) (number * z.block) piece (number * z.block + j) (omega arith) (omega (arith, l)) ∙ ap (λ n. get_or piece n 0) (place (number * z.block) j)
  where
    place : (a b : ℕ) → a + b - a ≡ b
    place a b = omega arith

put_behind : (z : Setting) (xs : List ℕ) (number size : ℕ) (piece : List ℕ) (j : ℕ) → length piece ≤ j → get_or (put_block z xs number size piece) (number * z.block + j) 0 ≡ get_or xs (number * z.block + j) 0
put_behind z xs number size piece j l = overlay_outside (grown xs size) (number * z.block) piece (number * z.block + j) (inr (omega (arith, l))) ∙ grown_byte xs size (number * z.block + j)

pub put_alike : (z : Setting) (xs ys : List ℕ) (number size : ℕ) (piece : List ℕ) → part z xs number ≡ part z ys number → part z (put_block z xs number size piece) number ≡ part z (put_block z ys number size piece) number
put_alike z xs ys number size piece e = part_same z (put_block z xs number size piece) (put_block z ys number size piece) number (λ j k. elim (order j (length piece)) [
  | inl l ↦ put_byte z xs number size piece j l ∙ sym (put_byte z ys number size piece j l)
  | inr l ↦ put_behind z xs number size piece j l ∙ part_bytes z xs ys number j e k ∙ sym (put_behind z ys number size piece j l)
])

-- the same put twice
pub put_twice : (z : Setting) (xs : List ℕ) (number size : ℕ) (piece : List ℕ) → part z (put_block z (put_block z xs number size piece) number size piece) number ≡ part z (put_block z xs number size piece) number
put_twice z xs number size piece = part_same z (put_block z (put_block z xs number size piece) number size piece) (put_block z xs number size piece) number (λ j k. elim (order j (length piece)) [
  | inl l ↦ put_byte z (put_block z xs number size piece) number size piece j l ∙ sym (put_byte z xs number size piece j l)
  | inr l ↦ put_behind z (put_block z xs number size piece) number size piece j l
])

pub put_cut : (z : Setting) (xs stood : List ℕ) (number size : ℕ) → length stood ≤ size → length xs ≤ size → part z (put_block z xs number size (cut z (part z stood number) number size)) number ≡ part z stood number
put_cut z xs stood number size l h = part_same z (put_block z xs number size (cut z (part z stood number) number size)) stood number (λ j k. elim (order j (length (cut z (part z stood number) number size))) [
  | inl m ↦ put_byte z xs number size (cut z (part z stood number) number size) j m ∙ get_or-take (size - number * z.block) (part z stood number) j 0 (before j m) ∙ part_byte z stood number j k
  | inr m ↦ put_behind z xs number size (cut z (part z stood number) number size) j m ∙ get_or_past xs (number * z.block + j) 0 (let a = behind j k m in omega (arith, a, h)) ∙ sym (get_or_past stood (number * z.block + j) 0 (let a = behind j k m in omega (arith, a, l)))
])
  where
    many : length (cut z (part z stood number) number size) ≡ min (size - number * z.block) (length (part z stood number))
    many = length-take (size - number * z.block) (part z stood number)

    before : (j : ℕ) → j < length (cut z (part z stood number) number size) → j < size - number * z.block
    before j m = omega (arith, m, many)

    behind : (j : ℕ) → j < z.block → length (cut z (part z stood number) number size) ≤ j → size ≤ number * z.block + j
    behind j k m = let b = part_length z stood number in omega (arith, k, m, many, b)

-- a write leaves the blocks that it doesn't touch
pub touches : (z : Setting) (low high number j : ℕ) → j < z.block → low ≤ number * z.block + j → number * z.block + j < high → In number (blocks_between z low high)
touches z low high number j k l h = subst (λ b. In number (cond b (numbers_from (low / z.block) ((high - 1) / z.block + 1 - low / z.block)) [])) (sym (lt-ltb low high (omega (arith, l, h)))) (numbers_in (low / z.block) ((high - 1) / z.block + 1 - low / z.block) number first (omega (arith, first, last)))
  where
    first : low / z.block ≤ number
    first = let a = div_below low (number * z.block + j) z.block l in let b = div-mul-add number z.block j k in omega (arith, a, b)

    last : number ≤ (high - 1) / z.block
    last = le-div number (high - 1) z.block (omega (arith, k)) (omega (arith, h))

pub written_elsewhere : (z : Setting) (stood : List ℕ) (low : ℕ) (new : List ℕ) (number : ℕ) → (In number (blocks_between z low (low + length new)) → ⊥) → part z (overlay stood low new) number ≡ part z stood number
written_elsewhere z stood low new number out = part_same z (overlay stood low new) stood number (λ j k. overlay_outside stood low new (number * z.block + j) (place j k))
  where
    place : (j : ℕ) → j < z.block → (number * z.block + j < low) ⊎ (low + length new ≤ number * z.block + j)
    place j k = elim (order (number * z.block + j) low) [
      | inl l ↦ inl l
      | inr l ↦ elim (order (number * z.block + j) (low + length new)) [ inl h ↦ absurd (out (touches z low (low + length new) number j k l h)) | inr h ↦ inr h ]
    ]

-- and writes those that it touches
mid_length : (a b : ℕ) (old mid : List ℕ) → a ≤ b → b ≤ length old → length mid ≡ b - a → length ((take a old ++ mid) ++ drop b old) ≡ length old
mid_length a b old mid l h e =
    let p = length-append (take a old ++ mid) (drop b old) in
    let q = length-append (take a old) mid in
    let r = length-take a old in
    let s = length-drop b old in
    omega (arith, p, q, r, s, l, h, e)

mid_byte : (a b : ℕ) (old mid : List ℕ) (j : ℕ) → a ≤ b → b ≤ length old → length mid ≡ b - a → (((j < a) ⊎ (b ≤ j)) × (get_or ((take a old ++ mid) ++ drop b old) j 0 ≡ get_or old j 0)) ⊎ ((a ≤ j) × (j < b) × (get_or ((take a old ++ mid) ++ drop b old) j 0 ≡ get_or mid (j - a) 0))
mid_byte a b old mid j l h e = elim (order j a) [
  | inl k ↦ inl (inl k, get_or_append_left (take a old ++ mid) (drop b old) 0 j (let p = joined in let q = front in omega (arith, p, q, k, l, e)) ∙ get_or_append_left (take a old) mid 0 j (let q = front in omega (arith, q, k)) ∙ get_or-take a old j 0 k)
  | inr k ↦ elim (order j b) [
    | inl m ↦ inr (k, m, get_or_append_left (take a old ++ mid) (drop b old) 0 j (let p = joined in let q = front in omega (arith, p, q, m, l, e)) ∙ get_or-append_right (take a old) mid a j 0 front k)
    | inr m ↦ inl (inr m, get_or-append_right (take a old ++ mid) (drop b old) b j 0 (let p = joined in let q = front in omega (arith, p, q, l, e)) m ∙ get_or-drop b old (j - b) 0 ∙ ap (λ n. get_or old n 0) (again m))
  ]
]
  where
    front : length (take a old) ≡ a
    front = let r = length-take a old in omega (arith, r, l, h)

    joined : length (take a old ++ mid) ≡ length (take a old) + length mid
    joined = length-append (take a old) mid

    again : b ≤ j → b + (j - b) ≡ j
    again m = omega (arith, m)

pub written_here : (z : Setting) (stood : List ℕ) (low : ℕ) (new : List ℕ) (number dirty : ℕ) → low < number * z.block + z.block → number * z.block < low + length new → 0 < length new → (block_written z (part z stood number) number low new dirty).bytes ≡ part z (overlay stood low new) number
written_here z stood low new number dirty l h some = is_part z _ (overlay stood low new) number (mid_length a b old mid under over many ∙ part_length z stood number) (λ j k. by_place j k (mid_byte a b old mid j under over many))
  where
    start : ℕ
    start = number * z.block

    old : List ℕ
    old = part z stood number

    a : ℕ
    a = max low start - start

    b : ℕ
    b = min (low + length new) (start + z.block) - start

    mid : List ℕ
    mid = take (b - a) (drop (start - low) new)

    under : a ≤ b
    under = omega (arith, l, h, some)

    over : b ≤ length old
    over = let p = part_length z stood number in omega (arith, p)

    many : length mid ≡ b - a
    many = let p = length-take (b - a) (drop (start - low) new) in let q = length-drop (start - low) new in omega (arith, p, q, l, h, some)

    new_at : (j : ℕ) → a ≤ j → j < b → get_or mid (j - a) 0 ≡ get_or new (start + j - low) 0
    new_at j p q = get_or-take (b - a) (drop (start - low) new) (j - a) 0 (omega (arith, p, q)) ∙ get_or-drop (start - low) new (j - a) 0 ∙ ap (λ n. get_or new n 0) (omega (arith, p, q, l, h))

    by_place : (j : ℕ) → j < z.block → (((j < a) ⊎ (b ≤ j)) × (get_or ((take a old ++ mid) ++ drop b old) j 0 ≡ get_or old j 0)) ⊎ ((a ≤ j) × (j < b) × (get_or ((take a old ++ mid) ++ drop b old) j 0 ≡ get_or mid (j - a) 0)) → get_or ((take a old ++ mid) ++ drop b old) j 0 ≡ get_or (overlay stood low new) (start + j) 0
    by_place j k (inl (inl m, e)) = e ∙ part_byte z stood number j k ∙ sym (overlay_outside stood low new (start + j) (inl (omega (arith, m))))
    by_place j k (inl (inr m, e)) = e ∙ part_byte z stood number j k ∙ sym (overlay_outside stood low new (start + j) (inr (omega (arith, m, k))))
    by_place j k (inr p) = p.2 ∙ new_at j p.0 p.1 ∙ sym (overlay_inside stood low new (start + j) (let m = p.0 in omega (arith, m)) (let m = p.1 in omega (arith, m)))
