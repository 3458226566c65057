-- The order of the tree's names, and which of them a directory's stand among.
use Rattle.std.specs.Prelude.{◌≡◌, ℕ, Bool, true, false, ◌&&◌, ◌||◌, List, [], ◌∷◌, nat_eq}
use Rattle.std.specs.Cmp.Lexicographic.{pointwise}
use Rattle.unix_calls.specs.declared.state.Named.{Named}
use Rattle.unix_calls.specs.Tree.{path_before, text_before}

-- a name may stand before another: the other's path isn't before its own
abbrev pub MayPrecede : Named → Named → Type 0
MayPrecede m n = path_before n.path m.path ≡ false

-- whether a path stands before a directory's, is it or is below it
abbrev pub is_up_to : List (List ℕ) → List (List ℕ) → Bool
is_up_to [] path = true
is_up_to (d ∷ ds) [] = true
is_up_to (d ∷ ds) (part ∷ parts) = text_before part d || (pointwise nat_eq part d && is_up_to ds parts)
