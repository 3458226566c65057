-- The words of a row, with a space between them.
use Rattle.std.specs.Prelude.{ℕ, ◌==◌, ◌+◌, Bool, ◌&&◌, nat_le, nat_eq, if◌then◌else◌, List, take, drop, Option, Some, None}
use Rattle.std.specs.List.{position_or_len}
use Rattle.std.specs.Cmp.Lexicographic.{pointwise}
use Rattle.text_lines.specs.Lines.{number_of}

-- whether two texts are the same
abbrev pub same : List ℕ → List ℕ → Bool
same = pointwise nat_eq

-- where the first space stands, or the end
abbrev pub space_at : List ℕ → ℕ
space_at bytes = position_or_len (λ b. b == 32) bytes

-- the bytes before the first space, and those behind it
abbrev pub word_of : List ℕ → List ℕ
word_of bytes = take (space_at bytes) bytes

abbrev pub rest_of : List ℕ → List ℕ
rest_of bytes = drop (space_at bytes + 1) bytes

-- the number that a word writes in decimal, where it is from the one to the other
abbrev pub among : ℕ → ℕ → Option ℕ → Option ℕ
among low high (Some number) = if nat_le low number && nat_le number high then Some number else None
among low high None = None

abbrev pub number_in : ℕ → ℕ → List ℕ → Option ℕ
number_in low high word = among low high (number_of word)
