-- The servers of a broadcast.
use Rattle.std.specs.Prelude.{◌≡◌, ◌==◌, ℕ, false, List, [], ◌∷◌}
use Rattle.std.specs.List.{list_any}
use Rattle.link_plan.specs.declared.Fate.{Fate}

-- no kernel stands twice
abbrev pub AreApart : List ℕ → Type 0
AreApart [] = Unit {0}
AreApart (first ∷ rest) = (list_any (λ kernel. kernel == first) rest ≡ false) × AreApart rest

-- the packets to servers, with their fates in the servers' order
abbrev pub pairs : List ℕ → List Fate → List (ℕ × Fate)
pairs [] fates = []
pairs (server ∷ servers) [] = []
pairs (server ∷ servers) (first ∷ fates) = (server, first) ∷ pairs servers fates
