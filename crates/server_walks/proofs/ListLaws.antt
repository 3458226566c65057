-- What is so of each item of a list is so of each that is left when one is taken out.
use Rattle.std.proofs.Common.{Bool, true, false, cond, List, [], ◌∷◌}
use Rattle.std.specs.List.{AllByRecursion}
use Rattle.sprite_ids.specs.Lists.{less}

pub each_less : {X : Type 0} (F : X → Type 0) (p : X → Bool) (xs : List X) → AllByRecursion F xs → AllByRecursion F (less p xs)
each_less F p [] h = tt
each_less F p (x ∷ xs) h = elim (p x) as (λ b. AllByRecursion F (cond b xs (x ∷ less p xs))) [ true ↦ h.1 | false ↦ (h.0, each_less F p xs h.1) ]
