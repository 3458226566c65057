-- Each record is by one of the kernels.
use Rattle.std.proofs.Common.{◌≡◌, ℕ, ◌≤◌, List, [], ◌∷◌, ◌++◌, sym, subst}
use Rattle.std.specs.List.{AllByRecursion}
use Rattle.sprite_ids.proofs.ListLaws.{each_append}
use Rattle.unix_calls.specs.declared.Description.{Description}
use Rattle.unix_calls.specs.declared.Event.{Event}
use Rattle.unix_calls.specs.declared.Rec.{Rec}
use Rattle.call_journal.specs.Journal.{records_by}
use Rattle.sprite_cluster.specs.Reached.{At}
use Rattle.sprite_cluster.proofs.ReachedLaws.{Lasts, lasts_on}
use Rattle.reached_laws.specs.Records.{IsByKernel, RecordsAreByKernels}

-- what a kernel told stands in the trace as its own
by_one : (kernel : ℕ) (told : List Event) → (1 ≤ kernel) × (kernel ≤ 16) → AllByRecursion IsByKernel (records_by kernel told)
by_one kernel [] range = tt
by_one kernel (event ∷ told) range = (range, by_one kernel told range)

written_by : (kernel : ℕ) (told : List Event) (old new : List Rec) → (1 ≤ kernel) × (kernel ≤ 16) → new ≡ old ++ records_by kernel told → AllByRecursion IsByKernel old → AllByRecursion IsByKernel new
written_by kernel told old new range written each = subst (AllByRecursion IsByKernel) (sym written) (each_append IsByKernel old (records_by kernel told) each (by_one kernel told range))

by_kernels : {L : Type 0} (faults asked : L → ℕ → ℕ → ℕ) (c : Description) (begun : L) → Lasts faults asked c begun (λ (at : At L). AllByRecursion IsByKernel at.trace)
by_kernels faults asked c begun = record {
  begins = λ first begins. subst (AllByRecursion IsByKernel) (sym begins.none) tt;
  chose = λ kernel choice old now reached goes each. written_by kernel goes.changes.turn.told old.trace now.trace (goes.low, goes.high) goes.changes.written each;
  began = λ kernel old now reached goes each. subst (AllByRecursion IsByKernel) (sym goes.changes.not_written) each;
  took = λ kernel burst old now reached goes each. written_by kernel goes.changes.turn.told old.trace now.trace (goes.low, goes.high) goes.changes.written each;
  lost = λ kernel burst old now reached goes each. subst (AllByRecursion IsByKernel) (sym goes.changes.not_written) each;
}

pub records_by_kernels : {L : Type 0} (faults asked : L → ℕ → ℕ → ℕ) → RecordsAreByKernels faults asked
records_by_kernels {L} faults asked c begun now reached = lasts_on faults asked c begun (λ (at : At L). AllByRecursion IsByKernel at.trace) now (by_kernels faults asked c begun) reached
