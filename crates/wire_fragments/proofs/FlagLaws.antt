-- Flags that are kept as bits are the list of them.
use Rattle.std.proofs.Common.{◌≡◌, ◌≢◌, ◌≤◌, ◌<◌, ◌⊎◌, inl, inr, ℕ, zero, suc, ◌+◌, ◌*◌, ◌^◌, ◌/◌, ◌%◌, ◌==◌, Bool, true, false, List, ◌∷◌, length, replicate, slice_index_or, slice_set, refl, sym, ap, ◌∙◌, arith, eq-eqb}
use Rattle.std.proofs.lemmas.Bool.{cases_eq}
use Rattle.std.proofs.lemmas.List.{length-set, get_or-set_same, get_or-set_other, get_or_past, ext_get_or}
use Rattle.std.proofs.lemmas.Nat.Bits.{bit_at-zero, shr_and_one, bit_at_set_same, bit_at_set_other}
use Rattle.std.specs.Int.{bit_at, w8}
use Rattle.std.specs.Int.RustNames.{bit_and, bit_or}
use Rattle.wire_fragments.specs.Bits.{flag_in, flags_from}

pub flags_long : (bytes : List ℕ) (at left : ℕ) → length (flags_from bytes at left) ≡ left
flags_long bytes at zero = refl
flags_long bytes at (suc left) = ap suc (flags_long bytes (at + 1) left)

-- each, counted from any
flag_at : (bytes : List ℕ) (at left i : ℕ) → i < left → slice_index_or (flags_from bytes at left) i false ≡ flag_in bytes (at + i)
flag_at bytes at zero i less = absurd (omega (arith, less))
flag_at bytes at (suc left) zero less = let e : at ≡ at + 0 = omega arith in ap (flag_in bytes) e
flag_at bytes at (suc left) (suc i) less =
    let e : at + 1 + i ≡ at + suc i = omega arith in
    flag_at bytes (at + 1) left i (omega (arith, less)) ∙ ap (flag_in bytes) e

zeros_there : (n i : ℕ) → ◌≡◌ {A = ℕ} (slice_index_or (replicate n 0) i 0) 0
zeros_there zero i = refl
zeros_there (suc n) zero = refl
zeros_there (suc n) (suc i) = zeros_there n i

-- each of them, counted from the first
pub flag_of : (bytes : List ℕ) (count i : ℕ) → i < count → slice_index_or (flags_from bytes 0 count) i false ≡ flag_in bytes i
flag_of bytes count i less = let e : 0 + i ≡ i = omega arith in flag_at bytes 0 count i less ∙ ap (flag_in bytes) e

-- no bit is set, and no flag
pub flags_none : (n at left : ℕ) → flags_from (replicate n 0) at left ≡ replicate left false
flags_none n at zero = refl
flags_none n at (suc left) =
    ap (λ b. b ∷ flags_from (replicate n 0) (at + 1) left) (ap (λ x. bit_at x (at % 8) == 1) (zeros_there n (at / 8)) ∙ ap (λ x. x == 1) (bit_at-zero (at % 8)))
    ∙ ap (λ (xs : List Bool). false ∷ xs) (flags_none n (at + 1) left)

-- the byte with bit k set
abbrev pub with_bit : ℕ → ℕ → ℕ
with_bit byte k = bit_or byte (1 * 2 ^ k % 2 ^ 8)

-- the bytes with the flag of place j set
abbrev pub with_flag : List ℕ → ℕ → List ℕ
with_flag bytes j = slice_set bytes (j / 8) (with_bit (slice_index_or bytes (j / 8) 0) (j % 8))

-- that flag, and any other
flag_here : (bytes : List ℕ) (j : ℕ) → j / 8 < length bytes → flag_in (with_flag bytes j) j ≡ true
flag_here bytes j within =
    let byte = slice_index_or bytes (j / 8) 0 in
    eq-eqb _ 1 (ap (λ x. bit_at x (j % 8)) (get_or-set_same bytes (j / 8) (with_bit byte (j % 8)) 0 within) ∙ bit_at_set_same w8 byte (j % 8) (omega arith))

flag_there : (bytes : List ℕ) (j i : ℕ) → j / 8 < length bytes → i ≢ j → flag_in (with_flag bytes j) i ≡ flag_in bytes i
flag_there bytes j i within apart = by (cases_eq (i / 8) (j / 8))
  where
    by : (i / 8 ≡ j / 8) ⊎ (i / 8 ≡ j / 8 → ⊥) → flag_in (with_flag bytes j) i ≡ flag_in bytes i
    by (inl e) =
        let byte = slice_index_or bytes (j / 8) 0 in
        let other : i % 8 ≢ j % 8 = λ same. apart (omega (arith, e, same)) in
        ap (λ n. bit_at (slice_index_or (slice_set bytes (j / 8) (with_bit byte (j % 8))) n 0) (i % 8) == 1) e
        ∙ ap (λ x. bit_at x (i % 8) == 1) (get_or-set_same bytes (j / 8) (with_bit byte (j % 8)) 0 within)
        ∙ ap (λ x. x == 1) (bit_at_set_other w8 byte (j % 8) (omega arith) (i % 8) other)
        ∙ sym (ap (λ n. bit_at (slice_index_or bytes n 0) (i % 8) == 1) e)
    by (inr far) = ap (λ x. bit_at x (i % 8) == 1) (get_or-set_other bytes (j / 8) (i / 8) (with_bit (slice_index_or bytes (j / 8) 0) (j % 8)) 0 far)

-- one bit that is set is one flag that is
pub flags_set : (bytes : List ℕ) (count j : ℕ) → count ≤ 8 * length bytes → j < count → flags_from (with_flag bytes j) 0 count ≡ slice_set (flags_from bytes 0 count) j true
flags_set bytes count j enough less =
    let next = with_flag bytes j in
    let long = flags_long next 0 count in
    let old_long = flags_long bytes 0 count in
    let set_long = length-set (flags_from bytes 0 count) j true in
    ext_get_or false (flags_from next 0 count) (slice_set (flags_from bytes 0 count) j true) (omega (arith, long, old_long, set_long))
    (λ i within. flag_of next count i (omega (arith, within, long)) ∙ each i (omega (arith, within, long)) (cases_eq i j))
  where
    inside : j / 8 < length bytes
    inside = omega (arith, enough, less)

    each : (i : ℕ) → i < count → (i ≡ j) ⊎ (i ≡ j → ⊥) → flag_in (with_flag bytes j) i ≡ slice_index_or (slice_set (flags_from bytes 0 count) j true) i false
    each i few (inl e) =
        let old_long = flags_long bytes 0 count in
        ap (λ n. flag_in (with_flag bytes j) n) e
        ∙ flag_here bytes j inside
        ∙ sym (ap (λ n. slice_index_or (slice_set (flags_from bytes 0 count) j true) n false) e ∙ get_or-set_same (flags_from bytes 0 count) j true false (omega (arith, less, old_long)))
    each i few (inr apart) =
        flag_there bytes j i inside apart
        ∙ sym (get_or-set_other (flags_from bytes 0 count) j i true false apart ∙ flag_of bytes count i few)

-- a flag that is read
pub flag_read : (bytes : List ℕ) (count i : ℕ) → i < count → (bit_and (slice_index_or bytes (i / 8) 0 / 2 ^ (i % 8)) 1 == 1) ≡ slice_index_or (flags_from bytes 0 count) i false
flag_read bytes count i less = ap (λ n. n == 1) (shr_and_one (slice_index_or bytes (i / 8) 0) (i % 8)) ∙ sym (flag_of bytes count i less)

-- behind the last there is none
pub flag_behind : (bytes : List ℕ) (count i : ℕ) → count ≤ i → slice_index_or (flags_from bytes 0 count) i false ≡ false
flag_behind bytes count i most = let long = flags_long bytes 0 count in get_or_past (flags_from bytes 0 count) i false (omega (arith, long, most))
