-- Lines and numbers of a text.
use Rattle.std.specs.Prelude.{ℕ, List, [], ◌∷◌, ◌==◌, ◌&&◌, ◌+◌, ◌*◌, ◌-◌, ◌^◌, Option, Some, None, if◌then◌else◌, nat_lt}
use Rattle.std.specs.List.{onto_first}
use Rattle.std.specs.Char.{is_ascii_digit}

-- the lines of a text: each ends with byte 10, and a last one without it counts
abbrev pub lines_of : List ℕ → List (List ℕ)
lines_of [] = []
lines_of (b ∷ bs) = if b == 10 then [] ∷ lines_of bs else onto_first b (lines_of bs)

-- the number that decimal digits write behind those of n; none where a byte is no digit, or from 2^64 on
abbrev pub number_from : ℕ → List ℕ → Option ℕ
number_from n [] = Some n
number_from n (c ∷ cs) =
    if is_ascii_digit c && nat_lt (10 * n + (c - 48)) (2 ^ 64) then number_from (10 * n + (c - 48)) cs else None

-- the number that a word writes, where it has digits alone and is below 2^64
abbrev pub number_of : List ℕ → Option ℕ
number_of [] = None
number_of (c ∷ cs) = number_from 0 (c ∷ cs)
