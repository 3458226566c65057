-- Texts so many times.
use Rattle.std.proofs.Common.{◌≡◌, ℕ, zero, suc, List, [], ◌∷◌, ◌++◌, ◌==◌, true, length, refl, ap, arith, rules}
use Rattle.cluster_file.specs.Paths.{repeated}

-- an empty text is empty however often it stands there
no_bytes : (times : ℕ) → repeated [] times ≡ []
no_bytes zero = refl
no_bytes (suc times) = ap (λ bytes. bytes ++ []) (no_bytes times)

pub none_repeated : (text : List ℕ) (times : ℕ) → (length text == 0) ≡ true → repeated text times ≡ []
none_repeated [] times none = no_bytes times
none_repeated (byte ∷ text) times none =
    let empty : length (byte ∷ text) ≡ 0 = search (rules, none) in
    absurd (omega (arith, empty))
