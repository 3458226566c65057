-- Lists and texts are read as they were spelled.
use Rattle.std.proofs.Common.{◌≡◌, ℕ, zero, suc, ◌^◌, ◌<◌, ◌≤◌, false, ltb, List, [], ◌∷◌, ◌++◌, length, take, drop, refl, sym, ap, subst, ◌∙◌, append_assoc, arith}
use Rattle.std.specs.List.{flat_map, AllByRecursion}
use Rattle.std.specs.Int.{w32}
use Rattle.std.proofs.lemmas.Bool.{ltb-false, le-ltb}
use Rattle.std.proofs.lemmas.List.{take_at, drop_at, take-append-drop, length-append, length-take}
use Rattle.std.proofs.lemmas.List.Concat.{flat_map-cons}
use Rattle.field_reader.specs.Reads.{found, beside, then_read, made}
use Rattle.wire_format.specs.Codec.{Codec, AreBytes, Took, IsCodec, counted, items_read, bytes_read, number_spelled, number_read, number32, listed, repeated, text}
use Rattle.field_reader.specs.ReadLaws.{some_pair, made_found, then_found}
use Rattle.wire_format.specs.CodecLaws.{counted_found, bytes_left}
use Rattle.wire_format.specs.NumberLaws.{number32_is, guard_passed}

-- ---- items

-- the items, and how many they are
record TookItems {A : Type 0} (c : Codec A) (n : ℕ) (bytes : List ℕ) (items : List A) (rest : List ℕ) : Type 0 where
  pub parts : bytes ≡ flat_map c.spelled items ++ rest
  pub count : length items ≡ n
  pub fit : AllByRecursion c.Fits items

flat_more : {A : Type 0} (c : Codec A) (x : A) (xs : List A) (rest : List ℕ) → flat_map c.spelled (x ∷ xs) ++ rest ≡ c.spelled x ++ (flat_map c.spelled xs ++ rest)
flat_more c x xs rest = ap (λ bytes. bytes ++ rest) (flat_map-cons c.spelled x xs) ∙ append_assoc (c.spelled x) (flat_map c.spelled xs) rest

items_again : {A : Type 0} (c : Codec A) → IsCodec c → (items : List A) (rest : List ℕ) → AllByRecursion c.Fits items → items_read c.read (length items) (flat_map c.spelled items ++ rest) ≡ found items rest
items_again c is [] rest fit = refl
items_again c is (x ∷ xs) rest fit =
    ap (λ bytes. items_read c.read (suc (length xs)) bytes) (flat_more c x xs rest)
    ∙ ap (λ reads. made (λ pair. pair.0 ∷ pair.1) (then_read reads (items_read c.read (length xs)))) (is.again x (flat_map c.spelled xs ++ rest) fit.0)
    ∙ ap (λ reads. made (λ pair. pair.0 ∷ pair.1) (beside x reads)) (items_again c is xs rest fit.1)

items_take : {A : Type 0} (c : Codec A) → IsCodec c → (n : ℕ) (bytes : List ℕ) (items : List A) (rest : List ℕ) → AreBytes bytes → items_read c.read n bytes ≡ found items rest → TookItems c n bytes items rest
items_take {A} c is zero bytes items rest are e =
    let none : List A = [] in
    let same = some_pair none items bytes rest e in
    subst (λ xs. TookItems c 0 bytes xs rest) same.0 (record { parts = same.1; count = refl; fit = tt })
items_take c is (suc n) bytes items rest are e =
    let m = made_found (λ pair. pair.0 ∷ pair.1) (then_read (c.read bytes) (items_read c.read n)) items rest e in
    let split = then_found (c.read bytes) (items_read c.read n) m.0 rest m.1 in
    let a = is.takes bytes m.0.0 split.0 are split.1 in
    let b = items_take c is n split.0 m.0.1 rest (bytes_left c bytes m.0.0 split.0 are a) split.2 in
    subst (λ xs. TookItems c (suc n) bytes xs rest) m.2 (record {
      parts = a.parts ∙ ap (λ left. c.spelled m.0.0 ++ left) b.parts ∙ sym (flat_more c m.0.0 m.0.1 rest);
      count = ap suc b.count;
      fit = (a.fits, b.fit);
    })

listed_again : {A : Type 0} (c : Codec A) → IsCodec c → (items : List A) (rest : List ℕ) → (length items < 2 ^ 32) × AllByRecursion c.Fits items → counted (number_read w32 ((number_spelled w32 (length items) ++ flat_map c.spelled items) ++ rest)) (items_read c.read) ≡ found items rest
listed_again c is items rest fits =
    ap (λ bytes. counted (number_read w32 bytes) (items_read c.read)) (append_assoc (number_spelled w32 (length items)) (flat_map c.spelled items) rest)
    ∙ ap (λ reads. counted reads (items_read c.read)) (number32_is.again (length items) (flat_map c.spelled items ++ rest) fits.0)
    ∙ items_again c is items rest fits.1

listed_takes : {A : Type 0} (c : Codec A) → IsCodec c → (bytes : List ℕ) (items : List A) (rest : List ℕ) → AreBytes bytes → counted (number_read w32 bytes) (items_read c.read) ≡ found items rest → Took (listed c) bytes items rest
listed_takes c is bytes items rest are e =
    let m = counted_found (number_read w32 bytes) (items_read c.read) items rest e in
    let a = number32_is.takes bytes m.0 m.1 are m.2 in
    let b = items_take c is m.0 m.1 items rest (bytes_left number32 bytes m.0 m.1 are a) m.3 in
    record {
      parts = a.parts ∙ ap (λ left. number_spelled w32 m.0 ++ left) b.parts ∙ sym (append_assoc (number_spelled w32 m.0) (flat_map c.spelled items) rest) ∙ ap (λ n. (number_spelled w32 n ++ flat_map c.spelled items) ++ rest) (sym b.count);
      fits = (subst (λ n. n < 2 ^ 32) (sym b.count) a.fits, b.fit);
    }

pub listed_is : {A : Type 0} {c : Codec A} → IsCodec c → IsCodec (listed c)
listed_is {c = c} is = record { again = listed_again c is; takes = listed_takes c is }

repeated_again : {A : Type 0} (n : ℕ) (c : Codec A) → IsCodec c → (items : List A) (rest : List ℕ) → (length items ≡ n) × AllByRecursion c.Fits items → items_read c.read n (flat_map c.spelled items ++ rest) ≡ found items rest
repeated_again n c is items rest fits = ap (λ k. items_read c.read k (flat_map c.spelled items ++ rest)) (sym fits.0) ∙ items_again c is items rest fits.1

repeated_takes : {A : Type 0} (n : ℕ) (c : Codec A) → IsCodec c → (bytes : List ℕ) (items : List A) (rest : List ℕ) → AreBytes bytes → items_read c.read n bytes ≡ found items rest → Took (repeated n c) bytes items rest
repeated_takes n c is bytes items rest are e =
    let took = items_take c is n bytes items rest are e in
    record { parts = took.parts; fits = (took.count, took.fit) }

pub repeated_is : {A : Type 0} (n : ℕ) {c : Codec A} → IsCodec c → IsCodec (repeated n c)
repeated_is n {c = c} is = record { again = repeated_again n c is; takes = repeated_takes n c is }

-- ---- texts

text_again : (bytes rest : List ℕ) → length bytes < 2 ^ 32 → counted (number_read w32 ((number_spelled w32 (length bytes) ++ bytes) ++ rest)) bytes_read ≡ found bytes rest
text_again bytes rest fits =
    let long : ltb (length (bytes ++ rest)) (length bytes) ≡ false = le-ltb _ _ (omega (arith, length-append bytes rest)) in
    ap (λ all. counted (number_read w32 all) bytes_read) (append_assoc (number_spelled w32 (length bytes)) bytes rest)
    ∙ ap (λ reads. counted reads bytes_read) (number32_is.again (length bytes) (bytes ++ rest) fits)
    ∙ rw (long, take_at bytes rest (length bytes) refl, drop_at bytes rest (length bytes) refl) refl

text_takes : (bytes value rest : List ℕ) → AreBytes bytes → counted (number_read w32 bytes) bytes_read ≡ found value rest → Took text bytes value rest
text_takes bytes value rest are e =
    let m = counted_found (number_read w32 bytes) bytes_read value rest e in
    let a = number32_is.takes bytes m.0 m.1 are m.2 in
    let g = guard_passed (ltb (length m.1) m.0) (take m.0 m.1) value (drop m.0 m.1) rest m.3 in
    let long : m.0 ≤ length m.1 = ltb-false _ _ g.0 in
    let count : length (take m.0 m.1) ≡ m.0 = omega (arith, length-take m.0 m.1) in
    let whole : m.1 ≡ value ++ rest = sym (take-append-drop m.0 m.1) ∙ ap (λ front. front ++ drop m.0 m.1) g.1 ∙ ap (λ left. value ++ left) g.2 in
    let same : m.0 ≡ length value = sym count ∙ ap length g.1 in
    record {
      parts = a.parts ∙ ap (λ left. number_spelled w32 m.0 ++ left) whole ∙ sym (append_assoc (number_spelled w32 m.0) value rest) ∙ ap (λ n. (number_spelled w32 n ++ value) ++ rest) same;
      fits = subst (λ n. n < 2 ^ 32) same a.fits;
    }

pub text_is : IsCodec text
text_is = record { again = text_again; takes = text_takes }
