-- Lists that a loop makes or changes item by item.
use Rattle.std.proofs.Common.{◌≡◌, ◌<◌, ℕ, zero, suc, ◌+◌, ◌-◌, ◌==◌, false, cond, List, [], ◌∷◌, ◌++◌, length, map, take, drop, set, get_or, Option, Some, None, refl, sym, ap, ◌∙◌, arith}
use Rattle.std.proofs.lemmas.List.{set-set}
use Rattle.std.specs.Prelude.{slice_get}
use Rattle.file_views.specs.declared.FileCall.{FileCall}
use Rattle.std.proofs.Math.Seq.{take-length}
use Rattle.file_views.specs.Contents.{numbers_from}
use Rattle.file_coherence.specs.Parts.{in_place}

-- one number more
pub numbers_more : (first n : ℕ) → numbers_from first n ++ (first + n) ∷ [] ≡ numbers_from first (suc n)
numbers_more first zero = let e : first + 0 ≡ first = omega arith in ap (λ (k : ℕ). k ∷ []) e
numbers_more first (suc n) =
    let e : first + suc n ≡ (first + 1) + n = omega arith in
    ap (λ (k : ℕ). first ∷ (numbers_from (first + 1) n ++ k ∷ [])) e ∙ ap (λ (ks : List ℕ). first ∷ ks) (numbers_more (first + 1) n)

-- one item more is changed in place
pub mapped_more : {X : Type 0} (f : X → X) (xs : List X) (i : ℕ) (d : X) → i < length xs → set (map f (take i xs) ++ drop i xs) i (f (get_or (map f (take i xs) ++ drop i xs) i d)) ≡ map f (take (suc i) xs) ++ drop (suc i) xs
mapped_more f [] i d l = absurd (omega (arith, l))
mapped_more f (x ∷ xs) zero d l = refl
mapped_more f (x ∷ xs) (suc i) d l = let less : i < length xs = omega (arith, l) in ap (λ ys. f x ∷ ys) (mapped_more f xs i d less)

-- what stands behind the first of a slice
pub behind_first : {X : Type 0} (x : X) (xs : List X) → take (length (x ∷ xs) - 1) xs ≡ xs
behind_first x xs = let few : length (x ∷ xs) - 1 ≡ length xs = omega arith in ap (λ (n : ℕ). take n xs) few ∙ take-length xs

-- an item that was changed before is changed anyway
pub set_again : {X : Type 0} (xs ys : List X) (i j : ℕ) (x y : X) → ys ≡ set xs i x → i ≡ j → set ys j y ≡ set xs j y
set_again xs ys i j x y e q = ap (λ zs. set zs j y) e ∙ (ap (λ (k : ℕ). set (set xs k x) j y) q ∙ set-set xs j x y)

-- a call that isn't the one looked for stays in its place
pub stays_in_place : (calls : List FileCall) (at : ℕ) (new one d : FileCall) → slice_get calls at ≡ Some one → (one.number == new.number) ≡ false → calls ≡ set calls at (in_place new (get_or calls at d))
stays_in_place [] at new one d e q = refl
stays_in_place (call ∷ calls) zero new one d e q = ap (λ (o : Option FileCall). or_call o ∷ calls) (sym kept)
  where
    or_call : Option FileCall → FileCall
    or_call (Some found) = found
    or_call None = call

    same : call ≡ one
    same = ap or_call e

    kept : Some (in_place new call) ≡ Some call
    kept = ap (λ b. Some (cond b new call)) (ap (λ (x : FileCall). x.number == new.number) same ∙ q)
stays_in_place (call ∷ calls) (suc at) new one d e q = ap (λ xs. call ∷ xs) (stays_in_place calls at new one d e q)
