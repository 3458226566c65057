-- A pair of kernels has one place, in either order of the two.
use Rattle.std.proofs.Common.{◌≡◌, ℕ, min, max, ap, ◌∙◌, arith}
use Rattle.link_plan.specs.PlanCounts.{way, pair}

-- the place doesn't depend on the order
pub pair_both_ways : (a b : ℕ) → pair a b ≡ pair b a
pair_both_ways a b =
    let low : min a b ≡ min b a = omega arith in
    let high : max a b ≡ max b a = omega arith in
    ap (λ n. way n (max a b)) low ∙ ap (way (min b a)) high
