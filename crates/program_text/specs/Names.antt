-- Labels that were noted.
use Rattle.std.specs.Prelude.{ℕ, List, Bool}
use Rattle.std.specs.List.{list_any}
use Rattle.program_text.specs.Words.{same}

-- whether the name is one of these
abbrev pub has : List (List ℕ) → List ℕ → Bool
has names name = list_any (same name) names
