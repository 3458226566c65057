-- A fact of all kernels of a cluster, each with its number.
use Rattle.std.specs.Prelude.{ℕ, ◌+◌, List, [], ◌∷◌}
use Rattle.cluster_kernels.specs.declared.KernelState.{KernelState}

-- what holds of each kernel of a list, of which the first has that number
abbrev pub OfAll : (ℕ → KernelState → Type 0) → ℕ → List KernelState → Type 0
OfAll F kernel [] = Unit {0}
OfAll F kernel (state ∷ states) = F kernel state × OfAll F (kernel + 1) states
