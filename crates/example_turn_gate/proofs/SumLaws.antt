-- What one amount more comes to.
use Rattle.std.proofs.Common.{◌≡◌, ◌+◌, ℕ, List, [], ◌∷◌, ◌++◌, arith}
use Rattle.example_turn_gate.specs.Sums.{sum_of}

one_more : (amounts : List (ℕ × ℕ)) (seat amount : ℕ) → sum_of (amounts ++ (seat, amount) ∷ []) ≡ sum_of amounts + amount
one_more [] seat amount = omega arith
one_more (first ∷ amounts) seat amount = omega (arith, one_more amounts seat amount)

pub summed_more : (opening sum : ℕ) (amounts : List (ℕ × ℕ)) (seat amount : ℕ) → sum ≡ opening + sum_of amounts → sum + amount ≡ opening + sum_of (amounts ++ (seat, amount) ∷ [])
summed_more opening sum amounts seat amount is = omega (arith, is, one_more amounts seat amount)
