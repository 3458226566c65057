-- Lists with and without items.
use Rattle.std.specs.Prelude.{Bool, true, false, List, [], ◌∷◌}

-- whether there is an item
abbrev pub is_any : {X : Type 0} → List X → Bool
is_any [] = false
is_any (x ∷ xs) = true
