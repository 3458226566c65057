-- What becomes of a burst is told.
use Rattle.std.proofs.Common.{◌≡◌, ℕ, Option, Some, None, refl, ap, ◌∙◌}
use Rattle.process_machine.specs.Machine as images
use Rattle.kernel_rpc.specs.Sound.{Wired}
use Rattle.kernel_steps.specs.declared.Input.{Input}
use Rattle.unix_calls.specs.declared.Description.{Description}
use Rattle.unix_calls.specs.declared.Event.TheVariants as events
use Rattle.cluster_kernels.specs.declared.KernelState.{KernelState}
use Rattle.cluster_kernels.specs.declared.State.{State}
use Rattle.cluster_kernels.specs.States.{image_put_at, kernel_at, put_image}
use Rattle.cluster_bursts.specs.declared.outcome.BurstOutcome.{BurstOutcome}
use Rattle.cluster_bursts.specs.declared.outcome.BurstOutcome.TheVariants as outcome
use Rattle.cluster_bursts.specs.declared.job.Burst.{Burst}
use Rattle.cluster_bursts.specs.Bursts.{EndsAs, GoesOn, came_to, recorded}
use Rattle.cluster_wire_laws.specs.Turns.{EndIsTold, RanSo}
use Rattle.cluster_wire_laws.proofs.LinkLaws.{link_told, unlinked}
use Rattle.cluster_wire_laws.proofs.OrderLaws.{none_more, wire_told}
use Rattle.cluster_wire_laws.proofs.TurnLaws.{quiet_same, so_join, so_none, so_taken}
use Rattle.cluster_wire_laws.proofs.SendLaws.{none_told, sendings}

-- an image that is put tells nothing
image_stays : (kernel pid : ℕ) (image : images.Machine) (s : State) → (put_image kernel pid image s).told ≡ s.told
image_stays kernel pid image s = by_found (kernel_at kernel s)
  where
    by_found : (o : Option KernelState) → (image_put_at kernel pid image o s).told ≡ s.told
    by_found None = refl
    by_found (Some found) = refl

-- a kernel goes on with what a process came to, or with nothing
goes_so : {L : Type 0} (faults asked : L → ℕ → ℕ → ℕ) (c : Description) (kernel : ℕ) (input : Option Input) (what : BurstOutcome) (old new : Wired L) (s t : State) → GoesOn faults asked c kernel input what old new s t → RanSo faults asked kernel old new s.told t.told
goes_so faults asked c kernel (Some input) (outcome.Took said) old new s t goes = so_taken faults asked c kernel input said old new s t goes
goes_so faults asked c kernel (Some input) outcome.Done old new s t goes = absurd goes
goes_so faults asked c kernel (Some input) outcome.Stale old new s t goes = absurd goes
goes_so faults asked c kernel None (outcome.Took said) old new s t goes = absurd goes
goes_so faults asked c kernel None outcome.Done old new s t goes = so_none faults asked kernel old new s.told t.told goes.0 (quiet_same kernel s.told t.told (ap (λ (t : State). t.told) goes.1))
goes_so faults asked c kernel None outcome.Stale old new s t goes = absurd goes

-- behind a burst that is recorded
recorded_so : {L : Type 0} (faults asked : L → ℕ → ℕ → ℕ) (kernel : ℕ) (b : Burst) (old new : Wired L) (s t : State) → RanSo faults asked kernel old new (put_image kernel b.pid b.to (recorded kernel b s)).told t.told → RanSo faults asked kernel old new s.told t.told
recorded_so faults asked kernel b old new s t so = so_join faults asked kernel old old new s.told (put_image kernel b.pid b.to (recorded kernel b s)).told t.told
    (so_none faults asked kernel old old s.told (put_image kernel b.pid b.to (recorded kernel b s)).told refl (record {
      link = ap (link_told kernel) (image_stays kernel b.pid b.to (recorded kernel b s)) ∙ unlinked kernel s.told (events.Burst b.pid b.count) refl;
      wire = ap (wire_told kernel) (image_stays kernel b.pid b.to (recorded kernel b s)) ∙ none_more kernel s.told (events.Burst b.pid b.count) refl;
      sends = λ x y. ap (sendings x y kernel) (image_stays kernel b.pid b.to (recorded kernel b s)) ∙ none_told x y kernel s.told (events.Burst b.pid b.count) refl;
    }))
    so

end_so : {L : Type 0} (faults asked : L → ℕ → ℕ → ℕ) (c : Description) (kernel : ℕ) (b : Burst) (what : BurstOutcome) (old new : Wired L) (s t : State) → EndsAs faults asked c kernel b what old new s t → RanSo faults asked kernel old new s.told t.told
end_so faults asked c kernel b outcome.Stale old new s t ends = so_none faults asked kernel old new s.told t.told ends.1 (quiet_same kernel s.told t.told (ap (λ (t : State). t.told) ends.2))
end_so faults asked c kernel b outcome.Done old new s t ends = recorded_so faults asked kernel b old new s t (goes_so faults asked c kernel (came_to kernel b b.end (recorded kernel b s)) outcome.Done old new (put_image kernel b.pid b.to (recorded kernel b s)) t ends.1)
end_so faults asked c kernel b (outcome.Took said) old new s t ends = recorded_so faults asked kernel b old new s t (goes_so faults asked c kernel (came_to kernel b b.end (recorded kernel b s)) (outcome.Took said) old new (put_image kernel b.pid b.to (recorded kernel b s)) t ends.1)

-- whatever becomes of a burst
pub ending_so : {L : Type 0} (faults asked : L → ℕ → ℕ → ℕ) → EndIsTold faults asked
ending_so faults asked c kernel b counted old new s t ends = end_so faults asked c kernel b ends.what old new s t ends.ends
