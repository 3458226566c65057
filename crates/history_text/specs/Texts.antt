-- How texts and data are printed: in double quotes, with escapes.
use Rattle.std.specs.Prelude.{ℕ, ◌==◌, ◌&&◌, ◌+◌, ◌*◌, ◌-◌, ◌/◌, ◌%◌, ◌<◌, not, Bool, List, [], ◌∷◌, ◌++◌, Option, Some, None, if◌then◌else◌, nat_le}
use Rattle.std.specs.List.{flat_map, AllByRecursion}
use Rattle.unix_calls.specs.Output.{hexadecimal}
use Rattle.history_text.specs.declared.quoted.Escape.{Escape}
use Rattle.history_text.specs.declared.quoted.Escape.TheVariants.{Outside, Begun, High}
use Rattle.field_reader.specs.Reads.{Reads}
use Rattle.history_text.specs.Formats.{Format, behind_sign}

-- bytes 32 to 126 but the quote and the backslash print as they are
abbrev pub is_plain : ℕ → Bool
is_plain b = nat_le 32 b && nat_le b 126 && not (b == 34) && not (b == 92)

-- the others print as a backslash and two hexadecimal digits, in lower case
abbrev pub quoted_byte : ℕ → List ℕ
quoted_byte b = if is_plain b then b ∷ [] else 92 ∷ hexadecimal (b / 16) ∷ hexadecimal (b % 16) ∷ []

-- the value of a hexadecimal digit in lower case
abbrev pub digit_of : ℕ → Option ℕ
digit_of c = if nat_le 48 c && nat_le c 57 then Some (c - 48) else (if nat_le 97 c && nat_le c 102 then Some (c - 87) else None)

-- the byte of two digits; none where it prints as it is
abbrev pub not_plain : ℕ → Option ℕ
not_plain b = if is_plain b then None else Some b

abbrev pub byte_of : Option ℕ → Option ℕ → Option ℕ
byte_of None low = None
byte_of (Some high) None = None
byte_of (Some high) (Some low) = not_plain (16 * high + low)

-- a text with one more byte at its front, and what stands behind it
abbrev pub beside_rest : ℕ → Reads (List ℕ) → Reads (List ℕ)
beside_rest b None = None
beside_rest b (Some (bytes, rest)) = Some (b ∷ bytes, rest)

abbrev pub with_byte : Option ℕ → Reads (List ℕ) → Reads (List ℕ)
with_byte None read = None
with_byte (Some b) read = beside_rest b read

-- the bytes of a text from inside the quotes on, up to the closing quote, and what stands behind it; the state tells
-- what of an escape stands before
abbrev pub inside : Escape → List ℕ → Reads (List ℕ)
inside state [] = None
inside Outside (c ∷ cs) =
    if c == 34
    then Some ([], cs)
    else (if c == 92 then inside Begun cs else (if is_plain c then with_byte (Some c) (inside Outside cs) else None))
inside Begun (c ∷ cs) = inside (High c) cs
inside (High high) (c ∷ cs) = with_byte (byte_of (digit_of high) (digit_of c)) (inside Outside cs)

abbrev pub text : Format (List ℕ)
text = record {
  Fits = λ bytes. AllByRecursion (λ b. b < 256) bytes;
  printed = λ bytes. 34 ∷ flat_map quoted_byte bytes ++ 34 ∷ [];
  read = behind_sign (34 ∷ []) (inside Outside);
}
