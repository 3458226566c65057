-- The line that is written about a refusal.
use Rattle.std.specs.Prelude.{codes, ℕ, Bool, ◌||◌, ◌==◌, not, if◌then◌else◌, List, [], ◌∷◌, ◌++◌}
use Rattle.std.specs.Fmt.{decimal}
use Rattle.cluster_file.specs.declared.Refusal.{Refusal}

-- too many bytes, no TOML document and no domain `/` have no place
abbrev pub has_place : ℕ → Bool
has_place number = not (number == 1 || number == 2 || number == 8)

-- a space and the place, where refusals of that number have one
abbrev pub place_part : Refusal → List ℕ
place_part r = if has_place r.number then 32 ∷ r.at else []

-- the line: the number and the place
abbrev pub refusal_line : Refusal → List ℕ
refusal_line r = codes "refused: " ++ decimal r.number ++ place_part r ++ 10 ∷ []
