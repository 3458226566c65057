-- Numbers are read as they were spelled.
use Rattle.std.proofs.Common.{◌≡◌, ℕ, ◌^◌, ◌<◌, ◌≤◌, Bool, true, false, cond, ltb, List, [], ◌∷◌, ◌++◌, length, take, drop, Some, None, refl, sym, ap, subst, ◌∙◌, arith, inl, inr}
use Rattle.std.specs.Int.{Width, w16, w32, w64, byte_len, to_le_bytes, from_le_bytes}
use Rattle.std.proofs.lemmas.Bool.{cases_lt, ltb-false, le-ltb}
use Rattle.std.proofs.lemmas.List.{take_at, drop_at, take-append-drop, length-append, length-take, get_or-take, get_or_past}
use Rattle.std.proofs.lemmas.Nat.{le_bytes_2, le_bytes_4, le_bytes_8, from_le_bytes-to_le_bytes_2, from_le_bytes-to_le_bytes_4, from_le_bytes-to_le_bytes_8}
use Rattle.field_reader.specs.Reads.{found}
use Rattle.wire_format.specs.Codec.{Codec, AreBytes, Took, IsCodec}
use Rattle.field_reader.specs.ReadLaws.{some_pair}
use Rattle.wire_format.specs.Codec.{byte, number_spelled, number_read, number16, number32, number64}

byte_takes : (bytes : List ℕ) (n : ℕ) (rest : List ℕ) → AreBytes bytes → byte.read bytes ≡ Some (n, rest) → Took byte bytes n rest
byte_takes [] n rest are e = absurd cc
byte_takes (b ∷ bytes) n rest are e =
    let same = some_pair b n bytes rest e in
    record { parts = ap (λ m. m ∷ bytes) same.0 ∙ ap (λ r. n ∷ r) same.1; fits = subst (λ m. m < 256) same.0 (are 0) }

pub byte_is : IsCodec byte
byte_is = record {
  again = λ n rest fits. refl;
  takes = byte_takes;
}

take_bytes : (count : ℕ) (bytes : List ℕ) → AreBytes bytes → AreBytes (take count bytes)
take_bytes count bytes are i =
    elim (cases_lt i count) [
      | inl lt ↦ rw (get_or-take count bytes i 0 lt) (are i)
      | inr le ↦ rw (get_or_past (take count bytes) i 0 (omega (arith, length-take count bytes))) (omega arith)
    ]

record IsWide (w : Width) (limit : ℕ) : Type 0 where
  pub len : (n : ℕ) → length (to_le_bytes w n) ≡ byte_len w
  pub back : (bytes : List ℕ) → length bytes ≡ byte_len w → AreBytes bytes → to_le_bytes w (from_le_bytes w bytes) ≡ bytes
  pub again : (n : ℕ) → n < limit → from_le_bytes w (to_le_bytes w n) ≡ n
  pub below : (bytes : List ℕ) → AreBytes bytes → from_le_bytes w bytes < limit

wide16 : IsWide w16 (2 ^ 16)
wide16 = record {
  len = λ n. refl;
  back = λ bytes len fits. le_bytes_2 bytes _ len fits refl;
  again = λ n lt. from_le_bytes-to_le_bytes_2 n lt;
  below = λ bytes fits. omega (arith, fits 0, fits 1);
}

wide32 : IsWide w32 (2 ^ 32)
wide32 = record {
  len = λ n. refl;
  back = λ bytes len fits. le_bytes_4 bytes _ len fits refl;
  again = λ n lt. from_le_bytes-to_le_bytes_4 n lt;
  below = λ bytes fits. omega (arith, fits 0, fits 1, fits 2, fits 3);
}

wide64 : IsWide w64 (2 ^ 64)
wide64 = record {
  len = λ n. refl;
  back = λ bytes len fits. le_bytes_8 bytes _ len fits refl;
  again = λ n lt. from_le_bytes-to_le_bytes_8 n lt;
  below = λ bytes fits. omega (arith, fits 0, fits 1, fits 2, fits 3, fits 4, fits 5, fits 6, fits 7);
}

-- a test that did not fail
pub guard_passed : {A : Type 0} (b : Bool) (x y : A) (r s : List ℕ) → cond b None (found x r) ≡ found y s → (b ≡ false) × (x ≡ y) × (r ≡ s)
guard_passed true x y r s e = absurd cc
guard_passed false x y r s e = let same = some_pair x y r s e in (refl, same.0, same.1)

-- the codec of numbers of that width
wide : Width → ℕ → Codec ℕ
wide w limit = record { Fits = λ n. n < limit; spelled = number_spelled w; read = number_read w }

number_takes : (w : Width) (limit : ℕ) → IsWide w limit → (bytes : List ℕ) (n : ℕ) (rest : List ℕ) → AreBytes bytes → number_read w bytes ≡ Some (n, rest) → (bytes ≡ number_spelled w n ++ rest) × (n < limit)
unfolding number_read number_spelled
number_takes w limit is bytes n rest are e =
    let g = guard_passed (ltb (length bytes) (byte_len w)) (from_le_bytes w (take (byte_len w) bytes)) n (drop (byte_len w) bytes) rest e in
    let long : byte_len w ≤ length bytes = ltb-false _ _ g.0 in
    let front : to_le_bytes w n ≡ take (byte_len w) bytes = rw (← g.1) (is.back (take (byte_len w) bytes) (omega (arith, length-take (byte_len w) bytes)) (take_bytes (byte_len w) bytes are)) in
    (rw (front, ← g.2) (sym (take-append-drop (byte_len w) bytes)), rw (← g.1) (is.below (take (byte_len w) bytes) (take_bytes (byte_len w) bytes are)))

number_again : (w : Width) (limit : ℕ) → IsWide w limit → (n : ℕ) (rest : List ℕ) → n < limit → number_read w (number_spelled w n ++ rest) ≡ Some (n, rest)
unfolding number_read number_spelled
number_again w limit is n rest lt =
    let len = is.len n in
    let long : ltb (length (to_le_bytes w n ++ rest)) (byte_len w) ≡ false = le-ltb _ _ (omega (arith, length-append (to_le_bytes w n) rest)) in
    rw (long, take_at (to_le_bytes w n) rest (byte_len w) len, drop_at (to_le_bytes w n) rest (byte_len w) len, is.again n lt) refl

pub number16_is : IsCodec number16
number16_is = record {
  again = number_again w16 (2 ^ 16) wide16;
  takes = λ bytes n rest are e. let took = number_takes w16 (2 ^ 16) wide16 bytes n rest are e in record { parts = took.0; fits = took.1 };
}

pub number32_is : IsCodec number32
number32_is = record {
  again = number_again w32 (2 ^ 32) wide32;
  takes = λ bytes n rest are e. let took = number_takes w32 (2 ^ 32) wide32 bytes n rest are e in record { parts = took.0; fits = took.1 };
}

pub number64_is : IsCodec number64
number64_is = record {
  again = number_again w64 (2 ^ 64) wide64;
  takes = λ bytes n rest are e. let took = number_takes w64 (2 ^ 64) wide64 bytes n rest are e in record { parts = took.0; fits = took.1 };
}
