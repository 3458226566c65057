-- Comparisons that stay the same.
use Rattle.std.proofs.Common.{◌≡◌, ℕ, ◌+◌, Bool, true, false, nat_le, refl, sym, arith, le-leb}
use Rattle.std.proofs.lemmas.Bool.{leb-true}

pub both_true : (s t : Bool) → (s ≡ true → t ≡ true) → (t ≡ true → s ≡ true) → s ≡ t
both_true true t f g = sym (f refl)
both_true false true f g = g refl
both_true false false f g = refl

-- the same on both sides of a comparison
pub shifted : (s g n t : ℕ) → g + n ≡ t → nat_le s (512 + n) ≡ nat_le (s + g) (512 + t)
shifted s g n t is =
    both_true (nat_le s (512 + n)) (nat_le (s + g) (512 + t))
    (λ e. let le = leb-true s (512 + n) e in le-leb (s + g) (512 + t) (omega (arith, le, is)))
    (λ e. let le = leb-true (s + g) (512 + t) e in le-leb s (512 + n) (omega (arith, le, is)))
