-- Texts in quotes are read as they were printed.
use Rattle.std.proofs.Common.{◌≡◌, ℕ, ◌<◌, ◌≤◌, ◌+◌, ◌*◌, ◌-◌, ◌/◌, ◌%◌, ◌==◌, nat_le, Bool, true, false, cond, not, ltb, ◌&&◌, inl, inr, List, [], ◌∷◌, ◌++◌, Option, Some, None, refl, sym, ap, ap₂, subst, ◌∙◌, append_assoc, arith}
use Rattle.std.specs.List.{flat_map, AllByRecursion}
use Rattle.std.proofs.lemmas.Bool.{cases_lt, cases_Bool, cond-true, cond-false, and_parts, and_from, le-leb, leb-true, lt-ltb, le-ltb, eqb-true}
use Rattle.sprite_ids.proofs.ListLaws.{some_is}
use Rattle.unix_calls.specs.Output.{hexadecimal}
use Rattle.history_text.specs.declared.quoted.Escape.{Escape}
use Rattle.history_text.specs.declared.quoted.Escape.TheVariants.{Outside, Begun, High}
use Rattle.field_reader.specs.Reads.{Reads, found, sign_read}
use Rattle.history_text.specs.Formats.{Took, IsFormat, behind_sign}
use Rattle.history_text.specs.Texts.{is_plain, quoted_byte, digit_of, not_plain, byte_of, with_byte, inside, text}
use Rattle.field_reader.specs.ReadLaws.{some_pair}
use Rattle.history_text.proofs.FormatLaws.{after_found, sign_found}

-- ---- digits

not_then : (b : Bool) → not b ≡ true → b ≡ false
not_then true e = absurd cc
not_then false e = refl

right_false : (a b : Bool) → b ≡ false → (a && b) ≡ false
right_false true b e = e
right_false false b e = refl

left_false : (a b : Bool) → a ≡ false → (a && b) ≡ false
left_false true b e = absurd cc
left_false false b e = refl

over : (m n : ℕ) → n < m → nat_le m n ≡ false
over m n lt = elim (cases_Bool (nat_le m n)) [ inl le ↦ let is = leb-true m n le in absurd (omega (arith, lt, is)) | inr gt ↦ gt ]

small_digit : (d : ℕ) → d < 10 → digit_of (48 + d) ≡ Some d
small_digit d lt =
    let same : 48 + d - 48 ≡ d = omega arith in
    cond-true (nat_le 48 (48 + d) && nat_le (48 + d) 57) (Some (48 + d - 48)) (cond (nat_le 97 (48 + d) && nat_le (48 + d) 102) (Some (48 + d - 87)) None) (and_from (nat_le 48 (48 + d)) (nat_le (48 + d) 57) (le-leb 48 (48 + d) (omega arith)) (le-leb (48 + d) 57 (omega (arith, lt))))
    ∙ ap Some same

large_digit : (d : ℕ) → 10 ≤ d → d < 16 → digit_of (87 + d) ≡ Some d
large_digit d low lt =
    let same : 87 + d - 87 ≡ d = omega arith in
    cond-false (nat_le 48 (87 + d) && nat_le (87 + d) 57) (Some (87 + d - 48)) (cond (nat_le 97 (87 + d) && nat_le (87 + d) 102) (Some (87 + d - 87)) None) (right_false (nat_le 48 (87 + d)) (nat_le (87 + d) 57) (over (87 + d) 57 (omega (arith, low))))
    ∙ cond-true (nat_le 97 (87 + d) && nat_le (87 + d) 102) (Some (87 + d - 87)) None (and_from (nat_le 97 (87 + d)) (nat_le (87 + d) 102) (le-leb 97 (87 + d) (omega (arith, low))) (le-leb (87 + d) 102 (omega (arith, lt))))
    ∙ ap Some same

digit_again : (d : ℕ) → d < 16 → digit_of (hexadecimal d) ≡ Some d
digit_again d lt =
    elim (cases_lt d 10) [
      | inl small ↦ ap digit_of (cond-true (ltb d 10) (48 + d) (87 + d) (lt-ltb d 10 small)) ∙ small_digit d small
      | inr large ↦ ap digit_of (cond-false (ltb d 10) (48 + d) (87 + d) (le-ltb d 10 large)) ∙ large_digit d large lt
    ]

-- the digit is that of a value
record IsDigitOf (c d : ℕ) : Type 0 where
  pub shown : c ≡ hexadecimal d
  pub small : d < 16

small_tells : (c d : ℕ) → 48 ≤ c → c ≤ 57 → c - 48 ≡ d → IsDigitOf c d
small_tells c d low high is = record {
  shown = let same : c ≡ 48 + d = omega (arith, low, is) in same ∙ sym (cond-true (ltb d 10) (48 + d) (87 + d) (lt-ltb d 10 (omega (arith, high, low, is))));
  small = omega (arith, high, low, is);
}

large_tells : (c d : ℕ) → 97 ≤ c → c ≤ 102 → c - 87 ≡ d → IsDigitOf c d
large_tells c d low high is = record {
  shown = let same : c ≡ 87 + d = omega (arith, low, is) in same ∙ sym (cond-false (ltb d 10) (48 + d) (87 + d) (le-ltb d 10 (omega (arith, low, is))));
  small = omega (arith, high, low, is);
}

digit_tells : (c d : ℕ) → digit_of c ≡ Some d → IsDigitOf c d
digit_tells c d e =
    elim (cases_Bool (nat_le 48 c && nat_le c 57)) [
      | inl one ↦
          let both = and_parts (nat_le 48 c) (nat_le c 57) one in
          small_tells c d (leb-true 48 c both.0) (leb-true c 57 both.1) (some_is (c - 48) d (sym (cond-true (nat_le 48 c && nat_le c 57) (Some (c - 48)) (cond (nat_le 97 c && nat_le c 102) (Some (c - 87)) None) one) ∙ e))
      | inr none ↦
          let next = sym (cond-false (nat_le 48 c && nat_le c 57) (Some (c - 48)) (cond (nat_le 97 c && nat_le c 102) (Some (c - 87)) None) none) ∙ e in
          let g = test_passed (nat_le 97 c && nat_le c 102) (c - 87) d next in
          let both = and_parts (nat_le 97 c) (nat_le c 102) g.0 in
          large_tells c d (leb-true 97 c both.0) (leb-true c 102 both.1) g.1
    ]
  where
    test_passed : (b : Bool) (x y : ℕ) → cond b (Some x) None ≡ Some y → (b ≡ true) × (x ≡ y)
    test_passed true x y e = (refl, some_is x y e)
    test_passed false x y e = absurd cc

-- ---- bytes

escape_again : (b : ℕ) → b < 256 → is_plain b ≡ false → byte_of (digit_of (hexadecimal (b / 16))) (digit_of (hexadecimal (b % 16))) ≡ Some b
escape_again b lt other =
    let same : 16 * (b / 16) + b % 16 ≡ b = omega arith in
    ap₂ byte_of (digit_again (b / 16) (omega (arith, lt))) (digit_again (b % 16) (omega arith))
    ∙ ap not_plain same
    ∙ cond-false (is_plain b) None (Some b) other

-- the escape is that of a byte
record IsEscapeOf (high low b : ℕ) : Type 0 where
  pub shown : 92 ∷ high ∷ low ∷ [] ≡ quoted_byte b
  pub small : b < 256

not_plain_tells : (a b : ℕ) → not_plain a ≡ Some b → (is_plain a ≡ false) × (a ≡ b)
not_plain_tells a b e =
    elim (cases_Bool (is_plain a)) [
      | inl plain ↦ let none = sym (cond-true (is_plain a) None (Some a) plain) ∙ e in absurd cc
      | inr other ↦ (other, some_is a b (sym (cond-false (is_plain a) None (Some a) other) ∙ e))
    ]

values_tell : (high low a c b : ℕ) → IsDigitOf high a → IsDigitOf low c → not_plain (16 * a + c) ≡ Some b → IsEscapeOf high low b
values_tell high low a c b first second e =
    let is = not_plain_tells (16 * a + c) b e in
    let top : a ≡ b / 16 = omega (arith, is.1, second.small) in
    let bottom : c ≡ b % 16 = omega (arith, is.1, second.small) in
    record {
      shown = ap₂ (λ h l. 92 ∷ h ∷ l ∷ []) (first.shown ∙ ap hexadecimal top) (second.shown ∙ ap hexadecimal bottom) ∙ sym (cond-false (is_plain b) (b ∷ []) (92 ∷ hexadecimal (b / 16) ∷ hexadecimal (b % 16) ∷ []) (subst (λ n. is_plain n ≡ false) is.1 is.0));
      small = omega (arith, is.1, first.small, second.small);
    }

escape_tells : (high low b : ℕ) (first second : Option ℕ) → digit_of high ≡ first → digit_of low ≡ second → byte_of first second ≡ Some b → IsEscapeOf high low b
escape_tells high low b None second one two e = absurd cc
escape_tells high low b (Some a) None one two e = absurd cc
escape_tells high low b (Some a) (Some c) one two e = values_tell high low a c b (digit_tells high a one) (digit_tells low c two) e

-- what a plain byte is not
record IsPlain (b : ℕ) : Type 0 where
  pub small : b < 256
  pub no_quote : (b == 34) ≡ false
  pub no_backslash : (b == 92) ≡ false

plain_tells : (b : ℕ) → is_plain b ≡ true → IsPlain b
plain_tells b e =
    let c = and_parts (nat_le 32 b && nat_le b 126 && not (b == 34)) (not (b == 92)) e in
    let a = and_parts (nat_le 32 b && nat_le b 126) (not (b == 34)) c.0 in
    let r = and_parts (nat_le 32 b) (nat_le b 126) a.0 in
    let most = leb-true b 126 r.1 in
    record { small = omega (arith, most); no_quote = not_then (b == 34) a.1; no_backslash = not_then (b == 92) c.1 }

pub plain_low : (b : ℕ) → is_plain b ≡ true → 32 ≤ b
plain_low b e =
    let c = and_parts (nat_le 32 b && nat_le b 126 && not (b == 34)) (not (b == 92)) e in
    let a = and_parts (nat_le 32 b && nat_le b 126) (not (b == 34)) c.0 in
    leb-true 32 b (and_parts (nat_le 32 b) (nat_le b 126) a.0).0

-- ---- texts

plain_step : (b : ℕ) (tail : List ℕ) → is_plain b ≡ true → inside Outside (b ∷ tail) ≡ with_byte (Some b) (inside Outside tail)
plain_step b tail plain =
    let is = plain_tells b plain in
    cond-false (b == 34) (found [] tail) (cond (b == 92) (inside Begun tail) (cond (is_plain b) (with_byte (Some b) (inside Outside tail)) None)) is.no_quote
    ∙ cond-false (b == 92) (inside Begun tail) (cond (is_plain b) (with_byte (Some b) (inside Outside tail)) None) is.no_backslash
    ∙ cond-true (is_plain b) (with_byte (Some b) (inside Outside tail)) None plain

byte_step : (b : ℕ) (tail : List ℕ) → b < 256 → inside Outside (quoted_byte b ++ tail) ≡ with_byte (Some b) (inside Outside tail)
byte_step b tail lt =
    elim (cases_Bool (is_plain b)) [
      | inl plain ↦ ap (λ front. inside Outside (front ++ tail)) (cond-true (is_plain b) (b ∷ []) (92 ∷ hexadecimal (b / 16) ∷ hexadecimal (b % 16) ∷ []) plain) ∙ plain_step b tail plain
      | inr other ↦ ap (λ front. inside Outside (front ++ tail)) (cond-false (is_plain b) (b ∷ []) (92 ∷ hexadecimal (b / 16) ∷ hexadecimal (b % 16) ∷ []) other) ∙ ap (λ o. with_byte o (inside Outside tail)) (escape_again b lt other)
    ]

inside_again : (bytes rest : List ℕ) → AllByRecursion (λ b. b < 256) bytes → inside Outside (flat_map quoted_byte bytes ++ 34 ∷ rest) ≡ found bytes rest
inside_again [] rest small = refl
inside_again (b ∷ bytes) rest small =
    ap (inside Outside) (append_assoc (quoted_byte b) (flat_map quoted_byte bytes) (34 ∷ rest))
    ∙ byte_step b (flat_map quoted_byte bytes ++ 34 ∷ rest) small.0
    ∙ ap (with_byte (Some b)) (inside_again bytes rest small.1)

-- the bytes that a state stands behind
abbrev pending : Escape → List ℕ
pending Outside = []
pending Begun = 92 ∷ []
pending (High high) = 92 ∷ high ∷ []

-- what was read from inside the quotes on
record TookInside (front bytes : List ℕ) (value rest : List ℕ) : Type 0 where
  pub parts : front ++ bytes ≡ flat_map quoted_byte value ++ 34 ∷ rest
  pub small : AllByRecursion (λ b. b < 256) value

with_byte_found : (o : Option ℕ) (reads : Reads (List ℕ)) (value rest : List ℕ) → with_byte o reads ≡ found value rest → (b : ℕ) × (more : List ℕ) × (o ≡ Some b) × (reads ≡ found more rest) × (b ∷ more ≡ value)
with_byte_found None reads value rest e = absurd cc
with_byte_found (Some b) None value rest e = absurd cc
with_byte_found (Some b) (Some (more, r)) value rest e = let same = some_pair (b ∷ more) value r rest e in (b, more, refl, ap (found more) same.1, same.0)

-- one more byte at the front
one_more : (front bytes : List ℕ) (b : ℕ) (more value rest : List ℕ) → front ≡ quoted_byte b → b < 256 → TookInside [] bytes more rest → b ∷ more ≡ value → TookInside front bytes value rest
one_more front bytes b more value rest shown lt took is =
    subst (λ v. TookInside front bytes v rest) is (record {
      parts = ap (λ f. f ++ bytes) shown ∙ ap (λ left. quoted_byte b ++ left) took.parts ∙ sym (append_assoc (quoted_byte b) (flat_map quoted_byte more) (34 ∷ rest));
      small = (lt, took.small);
    })

-- one way of reading a byte outside an escape
outside_takes : (c : ℕ) (cs value rest : List ℕ) → ((v r : List ℕ) → inside Outside cs ≡ found v r → TookInside [] cs v r) → ((v r : List ℕ) → inside Begun cs ≡ found v r → TookInside (92 ∷ []) cs v r) → inside Outside (c ∷ cs) ≡ found value rest → TookInside [] (c ∷ cs) value rest
outside_takes c cs value rest outside begun e =
    elim (cases_Bool (c == 34)) [
      | inl quote ↦
          let same = some_pair [] value cs rest (sym (cond-true (c == 34) (found [] cs) (cond (c == 92) (inside Begun cs) (cond (is_plain c) (with_byte (Some c) (inside Outside cs)) None)) quote) ∙ e) in
          subst (λ v. TookInside [] (c ∷ cs) v rest) same.0 (record { parts = ap₂ (λ b r. b ∷ r) (eqb-true c 34 quote) same.1; small = tt })
      | inr no_quote ↦ escaped_takes (sym (cond-false (c == 34) (found [] cs) (cond (c == 92) (inside Begun cs) (cond (is_plain c) (with_byte (Some c) (inside Outside cs)) None)) no_quote) ∙ e)
    ]
  where
    plain_takes : cond (is_plain c) (with_byte (Some c) (inside Outside cs)) None ≡ found value rest → TookInside [] (c ∷ cs) value rest
    plain_takes given =
        elim (cases_Bool (is_plain c)) [
          | inl plain ↦
              let m = with_byte_found (Some c) (inside Outside cs) value rest (sym (cond-true (is_plain c) (with_byte (Some c) (inside Outside cs)) None plain) ∙ given) in
              let same = some_is c m.0 m.2 in
              let took = one_more (c ∷ []) cs c m.1 value rest (sym (cond-true (is_plain c) (c ∷ []) (92 ∷ hexadecimal (c / 16) ∷ hexadecimal (c % 16) ∷ []) plain)) (plain_tells c plain).small (outside m.1 rest m.3) (ap (λ b. b ∷ m.1) same ∙ m.4) in
              record { parts = took.parts; small = took.small }
          | inr other ↦ let none = sym (cond-false (is_plain c) (with_byte (Some c) (inside Outside cs)) None other) ∙ given in absurd cc
        ]

    escaped_takes : cond (c == 92) (inside Begun cs) (cond (is_plain c) (with_byte (Some c) (inside Outside cs)) None) ≡ found value rest → TookInside [] (c ∷ cs) value rest
    escaped_takes given =
        elim (cases_Bool (c == 92)) [
          | inl slash ↦
              let took = begun value rest (sym (cond-true (c == 92) (inside Begun cs) (cond (is_plain c) (with_byte (Some c) (inside Outside cs)) None) slash) ∙ given) in
              record { parts = ap (λ b. b ∷ cs) (eqb-true c 92 slash) ∙ took.parts; small = took.small }
          | inr no_slash ↦ plain_takes (sym (cond-false (c == 92) (inside Begun cs) (cond (is_plain c) (with_byte (Some c) (inside Outside cs)) None) no_slash) ∙ given)
        ]

inside_takes : (bytes : List ℕ) (state : Escape) (value rest : List ℕ) → inside state bytes ≡ found value rest → TookInside (pending state) bytes value rest
inside_takes [] Outside value rest e = absurd cc
inside_takes [] Begun value rest e = absurd cc
inside_takes [] (High high) value rest e = absurd cc
inside_takes (c ∷ cs) Outside value rest e = outside_takes c cs value rest (inside_takes cs Outside) (inside_takes cs Begun) e
inside_takes (c ∷ cs) Begun value rest e = let took = inside_takes cs (High c) value rest e in record { parts = took.parts; small = took.small }
inside_takes (c ∷ cs) (High high) value rest e =
    let m = with_byte_found (byte_of (digit_of high) (digit_of c)) (inside Outside cs) value rest e in
    let is = escape_tells high c m.0 (digit_of high) (digit_of c) refl refl m.2 in
    let took = one_more (92 ∷ high ∷ c ∷ []) cs m.0 m.1 value rest is.shown is.small (inside_takes cs Outside m.1 rest m.3) m.4 in
    record { parts = took.parts; small = took.small }

text_takes : (bytes value rest : List ℕ) → behind_sign (34 ∷ []) (inside Outside) bytes ≡ found value rest → Took text bytes value rest
text_takes bytes value rest e =
    let m = after_found (sign_read (34 ∷ []) bytes) (inside Outside) value rest e in
    let took = inside_takes m.1 Outside value rest m.3 in
    record {
      parts = sign_found (34 ∷ []) bytes m.0 m.1 m.2 ∙ ap (λ left. 34 ∷ left) (took.parts ∙ sym (append_assoc (flat_map quoted_byte value) (34 ∷ []) rest));
      fits = took.small;
    }

pub text_is : IsFormat text
text_is = record {
  again = λ value rest small ends. ap (inside Outside) (append_assoc (flat_map quoted_byte value) (34 ∷ []) rest) ∙ inside_again value rest small;
  takes = text_takes;
}
