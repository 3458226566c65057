-- Servers that stand apart.
use Rattle.std.proofs.Common.{◌≡◌, ◌≤◌, ◌-◌, ◌==◌, ◌∙◌, ℕ, Bool, false, IsTrue, List, [], ◌∷◌, length, take, drop, slice_index_or, ap, sym, subst, arith}
use Rattle.std.proofs.Math.Seq.{take-length}
use Rattle.std.specs.List.{list_any}
use Rattle.kernel_rpc.specs.Servers.{AreApart}

-- what stands behind the first of a list
behind_first : (x : ℕ) (xs : List ℕ) → take (length (x ∷ xs) - 1) xs ≡ xs
behind_first x xs = let few : length (x ∷ xs) - 1 ≡ length xs = omega arith in ap (λ (n : ℕ). take n xs) few ∙ take-length xs

-- the first of a list isn't among the others, and these stand apart
pub apart_first : (xs : List ℕ) (first : ℕ) (again others : Bool) → 1 ≤ length xs → first ≡ slice_index_or xs 0 first → again ≡ list_any (λ other. other == first) (take (length xs - 1) (drop 1 xs)) → again ≡ false → (IsTrue others → AreApart (take (length xs - 1) (drop 1 xs))) → IsTrue others → AreApart xs
apart_first [] first again others some is has none rest told = absurd (omega arith)
apart_first (x ∷ xs) first again others some is has none rest told = (
  subst (λ (l : List ℕ). list_any (λ other. other == x) l ≡ false) (behind_first x xs) (subst (λ (one : ℕ). list_any (λ other. other == one) (take (length (x ∷ xs) - 1) xs) ≡ false) is (sym has ∙ none)),
  subst AreApart (behind_first x xs) (rest told),
)
