-- Texts in double quotes.
use Rattle.std.specs.Prelude.{ℕ, List, [], ◌∷◌, ◌==◌, ◌&&◌, Bool, true, false, Option, Some, None, if◌then◌else◌, nat_le}
use Rattle.std.specs.Option.{option_map, option_and_then}

-- what a byte stands for behind a backslash: `\n`, `\\` and `\"` are the escapes
abbrev pub escaped_byte : ℕ → Option ℕ
escaped_byte c = if c == 110 then Some 10 else (if c == 92 then Some 92 else (if c == 34 then Some 34 else None))

-- a text with one more byte at its front, and what stands behind it
abbrev pub with_byte : Option ℕ → Option (List ℕ × List ℕ) → Option (List ℕ × List ℕ)
with_byte byte read = option_and_then (λ b. option_map (λ r. (b ∷ r.0, r.1)) read) byte

-- the bytes that the inside of a quoted text writes, and what stands behind the closing quote; the flag is true
-- behind a backslash
abbrev pub literal : Bool → List ℕ → Option (List ℕ × List ℕ)
literal escape [] = None
literal true (c ∷ cs) = with_byte (escaped_byte c) (literal false cs)
literal false (c ∷ cs) =
    if c == 34
    then Some ([], cs)
    else (if c == 92
    then literal true cs
    else (if nat_le 32 c && nat_le c 126 then with_byte (Some c) (literal false cs) else None))
