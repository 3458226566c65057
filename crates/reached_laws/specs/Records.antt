-- What is true of each record of a reached cluster's trace.
use Rattle.std.specs.Prelude.{ℕ, ◌≤◌}
use Rattle.std.specs.List.{AllByRecursion}
use Rattle.unix_calls.specs.declared.Description.{Description}
use Rattle.unix_calls.specs.declared.Rec.{Rec}
use Rattle.sprite_cluster.specs.Reached.{At, Reached}

-- the record is by one of the kernels that there may be
abbrev pub IsByKernel : Rec → Type 0
IsByKernel r = (1 ≤ r.kernel) × (r.kernel ≤ 16)

-- so is each of a trace
abbrev pub RecordsAreByKernels : {L : Type 0} → (L → ℕ → ℕ → ℕ) → (L → ℕ → ℕ → ℕ) → Type 0
RecordsAreByKernels {L} faults asked = (c : Description) (begun : L) (now : At L) → Reached faults asked c begun now → AllByRecursion IsByKernel now.trace
