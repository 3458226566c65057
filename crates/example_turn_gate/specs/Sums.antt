-- What amounts come to, each of which stands with the seat that wrote it.
use Rattle.std.specs.Prelude.{ℕ, ◌+◌, List, [], ◌∷◌}

abbrev pub sum_of : List (ℕ × ℕ) → ℕ
sum_of [] = 0
sum_of (one ∷ more) = one.1 + sum_of more
