-- The names of a directory's entries in the order of their bytes.
use Rattle.std.proofs.Common.{◌+◌, ◌<◌, List, [], ◌∷◌, Bool, map, get_or, ap, subst, ◌∙◌, arith}
use Rattle.std.specs.List.Sorted.{IsSortedBy}
use Rattle.std.proofs.lemmas.List.{get_or-map, length-map}

-- what is sorted by a function's values has them in order
pub sorted_map : {X Y : Type 0} (f : X → Y) (lt : Y → Y → Bool) (xs : List X) → IsSortedBy (λ x y. lt (f x) (f y)) xs → IsSortedBy lt (map f xs)
sorted_map f lt [] h = λ k d low high. absurd (omega (arith, high))
sorted_map f lt (x ∷ xs) h = λ k d low high.
    let within = subst (λ n. k + 1 < n) (length-map (x ∷ xs) f) high in
    ap (λ y. lt y (get_or (map f (x ∷ xs)) k d)) (get_or-map f (x ∷ xs) (k + 1) x d within)
    ∙ ap (λ y. lt (f (get_or (x ∷ xs) (k + 1) x)) y) (get_or-map f (x ∷ xs) k x d (omega (arith, within))) ∙ h k x low within
