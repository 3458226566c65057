-- A text of two parts, with a line `=====` between them.
use Rattle.std.specs.Prelude.{codes, ℕ, ◌+◌, ◌==◌, ◌&&◌, Bool, true, if◌then◌else◌, List, [], ◌∷◌, Option, Some, None, take, drop, nat_eq}
use Rattle.std.specs.List.{starts_with}

-- a line ends where that text begins
abbrev pub ends_line : List ℕ → Bool
ends_line [] = true
ends_line (b ∷ bs) = b == 10

-- a text that begins with the line `=====`
abbrev pub is_separator : List ℕ → Bool
is_separator text = starts_with nat_eq text (codes "=====") && ends_line (drop 5 text)

-- where the first line `=====` begins, in what stands from a place on, if a line begins there
abbrev pub separator_from : ℕ → Bool → List ℕ → Option ℕ
separator_from place starts [] = None
separator_from place starts (b ∷ bs) =
    if starts && is_separator (b ∷ bs) then Some place else separator_from (place + 1) (b == 10) bs

-- what stands before the first line `=====`, and what behind it; a last line `=====` without byte 10 counts
abbrev pub parted_at : List ℕ → Option ℕ → Option (List ℕ × List ℕ)
parted_at text None = None
parted_at text (Some n) = Some (take n text, drop (n + 6) text)

abbrev pub parts_of : List ℕ → Option (List ℕ × List ℕ)
parts_of text = parted_at text (separator_from 0 true text)
