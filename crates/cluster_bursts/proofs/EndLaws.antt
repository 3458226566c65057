-- The end of a burst tells of no more faults than the link counts, and takes one burst off those that are out.
use Rattle.std.proofs.Common.{arith, ◌≡◌, ℕ, ◌+◌, ◌≤◌, Bool, true, false, cond, List, [], ◌∷◌, Option, Some, None, refl, sym, ap, subst, ◌∙◌, length}
use Rattle.std.proofs.lemmas.Bool.{and_parts}
use Rattle.std.specs.List.{list_any}
use Rattle.process_machine.specs.Machine as images
use Rattle.kernel_steps.specs.declared.Input.{Input}
use Rattle.unix_calls.specs.declared.Event.TheVariants as events
use Rattle.sprite_ids.specs.Lists.{less}
use Rattle.cluster_kernels.specs.declared.KernelState.{KernelState}
use Rattle.cluster_wire.specs.declared.Said.{Said}
use Rattle.cluster_wire.specs.Ran.{RanOn}
use Rattle.cluster_wire.proofs.RanLaws.{on_none}
use Rattle.kernel_rpc.specs.Sound.{Wired}
use Rattle.unix_calls.specs.declared.Description.{Description}
use Rattle.cluster_kernels.specs.declared.State.{State}
use Rattle.cluster_kernels.specs.States.{image_put_at, kernel_at, put_image}
use Rattle.cluster_wire.specs.Faults.{FaultsTold, faults_told}
use Rattle.cluster_wire.proofs.FaultLaws.{other_more}
use Rattle.cluster_steps.proofs.TakenLaws.{nothing_told, out_taken, takes_ran, told_by, told_taken}
use Rattle.cluster_bursts.specs.declared.outcome.BurstOutcome.{BurstOutcome}
use Rattle.cluster_bursts.specs.declared.outcome.BurstOutcome.TheVariants as outcome
use Rattle.cluster_bursts.specs.declared.job.Burst.{Burst}
use Rattle.cluster_bursts.specs.Bursts.{EndsAs, GoesOn, came_to, counts, has_counted, is_as_it_was, is_out, recorded, taken_back}
use Rattle.cluster_bursts.specs.Ends.{EndsBurst}

-- an image that is put tells nothing, and leaves the bursts that are out
image_stays : (kernel pid : ℕ) (image : images.Machine) (s : State) → (put_image kernel pid image s).told ≡ s.told
image_stays kernel pid image s = by_found (kernel_at kernel s)
  where
    by_found : (o : Option KernelState) → (image_put_at kernel pid image o s).told ≡ s.told
    by_found None = refl
    by_found (Some found) = refl

out_stays : (kernel pid : ℕ) (image : images.Machine) (s : State) → (put_image kernel pid image s).out ≡ s.out
out_stays kernel pid image s = by_found (kernel_at kernel s)
  where
    by_found : (o : Option KernelState) → (image_put_at kernel pid image o s).out ≡ s.out
    by_found None = refl
    by_found (Some found) = refl

-- a kernel goes on with what a process came to, or with nothing
same_link : {L : Type 0} (old new : Wired L) → new ≡ old → new.link ≡ old.link
same_link {L} old new same = ap (λ (wire : Wired L). wire.link) same

told_on_with : {L : Type 0} (faults asked : L → ℕ → ℕ → ℕ) (c : Description) (kernel : ℕ) (input : Option Input) (what : BurstOutcome) (old new : Wired L) (s t : State) → GoesOn faults asked c kernel input what old new s t → FaultsTold faults old.link new.link s.told t.told
told_on_with faults asked c kernel (Some input) (outcome.Took said) old new s t goes = told_by faults old.link new.link s.told _ t goes.state (told_taken faults asked kernel input said old.link new.link s goes.asks)
told_on_with faults asked c kernel (Some input) outcome.Done old new s t goes = absurd goes
told_on_with faults asked c kernel (Some input) outcome.Stale old new s t goes = absurd goes
told_on_with faults asked c kernel None (outcome.Took said) old new s t goes = absurd goes
told_on_with faults asked c kernel None outcome.Done old new s t goes = nothing_told faults old.link new.link s t (same_link old new goes.0) goes.1
told_on_with faults asked c kernel None outcome.Stale old new s t goes = absurd goes

-- behind a burst that is recorded
told_recorded : {L : Type 0} (faults : L → ℕ → ℕ → ℕ) (kernel : ℕ) (b : Burst) (before after : L) (s t : State) → FaultsTold faults before after (put_image kernel b.pid b.to (recorded kernel b s)).told t.told → FaultsTold faults before after s.told t.told
told_recorded faults kernel burst before after s t told a b =
    (let same = ap (faults_told a b) (image_stays kernel burst.pid burst.to (recorded kernel burst s)) in
    let here = other_more a b s.told (events.Burst burst.pid burst.count) refl in
    let rest = told a b in omega arith)

-- whatever becomes of a burst
pub told_end : {L : Type 0} (faults asked : L → ℕ → ℕ → ℕ) (c : Description) (kernel : ℕ) (b : Burst) (what : BurstOutcome) (old new : Wired L) (s t : State) → EndsAs faults asked c kernel b what old new s t → FaultsTold faults old.link new.link s.told t.told
told_end faults asked c kernel b outcome.Stale old new s t ends = told_by faults old.link new.link s.told (taken_back kernel b.pid s) t ends.2 (nothing_told faults old.link new.link s s (same_link old new ends.1) refl)
told_end faults asked c kernel b outcome.Done old new s t ends =
    told_recorded faults kernel b old.link new.link s t (told_on_with faults asked c kernel (came_to kernel b b.end (recorded kernel b s)) outcome.Done old new (put_image kernel b.pid b.to (recorded kernel b s)) t ends.1)
told_end faults asked c kernel b (outcome.Took said) old new s t ends =
    told_recorded faults kernel b old.link new.link s t (told_on_with faults asked c kernel (came_to kernel b b.end (recorded kernel b s)) (outcome.Took said) old new (put_image kernel b.pid b.to (recorded kernel b s)) t ends.1)

-- one item less, where there is one
less_first : {X : Type 0} (p : X → Bool) (x : X) (xs : List X) (b : Bool) → p x ≡ b → list_any p (x ∷ xs) ≡ true → (list_any p xs ≡ true → length (less p xs) + 1 ≡ length xs) → length (cond {A = List X} b xs (x ∷ less p xs)) + 1 ≡ length (x ∷ xs)
less_first p x xs true is some rest = omega arith
less_first p x xs false is some rest = (let fewer = rest (cc (is, some)) in omega arith)

less_one : {X : Type 0} (p : X → Bool) (xs : List X) → list_any p xs ≡ true → length (less p xs) + 1 ≡ length xs
less_one p [] some = absurd (cc)
less_one p (x ∷ xs) some = less_first p x xs (p x) refl some (less_one p xs)

-- or at most one
less_next : {X : Type 0} (p : X → Bool) (x : X) (xs : List X) (b : Bool) → (length (less p xs) ≤ length xs) × (length xs ≤ length (less p xs) + 1) → (length (cond {A = List X} b xs (x ∷ less p xs)) ≤ length (x ∷ xs)) × (length (x ∷ xs) ≤ length (cond {A = List X} b xs (x ∷ less p xs)) + 1)
less_next p x xs true rest = (omega arith, omega arith)
less_next p x xs false rest = (let low = rest.0 in let high = rest.1 in (omega arith, omega arith))

less_few : {X : Type 0} (p : X → Bool) (xs : List X) → (length (less p xs) ≤ length xs) × (length xs ≤ length (less p xs) + 1)
less_few p [] = (omega arith, omega arith)
less_few p (x ∷ xs) = less_next p x xs (p x) (less_few p xs)

-- what the process came to leaves them as they are
out_goes_on : {L : Type 0} (faults asked : L → ℕ → ℕ → ℕ) (c : Description) (kernel : ℕ) (input : Option Input) (what : BurstOutcome) (old new : Wired L) (s t : State) → GoesOn faults asked c kernel input what old new s t → t.out ≡ s.out
out_goes_on faults asked c kernel (Some input) (outcome.Took said) old new s t goes = ap (λ (t : State). t.out) goes.state ∙ out_taken kernel input said s
out_goes_on faults asked c kernel (Some input) outcome.Done old new s t goes = absurd goes
out_goes_on faults asked c kernel (Some input) outcome.Stale old new s t goes = absurd goes
out_goes_on faults asked c kernel None (outcome.Took said) old new s t goes = absurd goes
out_goes_on faults asked c kernel None outcome.Done old new s t goes = ap (λ (t : State). t.out) goes.1
out_goes_on faults asked c kernel None outcome.Stale old new s t goes = absurd goes

-- a burst that counts is out no more
out_behind : {L : Type 0} (faults asked : L → ℕ → ℕ → ℕ) (c : Description) (kernel : ℕ) (b : Burst) (what : BurstOutcome) (old new : Wired L) (s t : State) → counts kernel b s ≡ true → GoesOn faults asked c kernel (came_to kernel b b.end (recorded kernel b s)) what old new (put_image kernel b.pid b.to (recorded kernel b s)) t → length t.out + 1 ≡ length s.out
out_behind faults asked c kernel burst what old new s t counted goes =
    (let same = ap length (out_goes_on faults asked c kernel (came_to kernel burst burst.end (recorded kernel burst s)) what old new (put_image kernel burst.pid burst.to (recorded kernel burst s)) t goes ∙ out_stays kernel burst.pid burst.to (recorded kernel burst s)) in
    let one = less_one (is_out kernel burst.pid) s.out (and_parts (list_any (is_out kernel burst.pid) s.out) (is_as_it_was kernel burst.pid burst.from (taken_back kernel burst.pid s)) counted).0 in omega arith)

out_counted : {L : Type 0} (faults asked : L → ℕ → ℕ → ℕ) (c : Description) (kernel : ℕ) (b : Burst) (what : BurstOutcome) (old new : Wired L) (s t : State) → EndsAs faults asked c kernel b what old new s t → has_counted what ≡ true → length t.out + 1 ≡ length s.out
out_counted faults asked c kernel burst outcome.Stale old new s t ends counted = absurd (cc)
out_counted faults asked c kernel burst outcome.Done old new s t ends counted = out_behind faults asked c kernel burst outcome.Done old new s t ends.0 ends.1
out_counted faults asked c kernel burst (outcome.Took said) old new s t ends counted = out_behind faults asked c kernel burst (outcome.Took said) old new s t ends.0 ends.1

-- one that doesn't count takes one off at most, and tells nothing
stale_stays : {L : Type 0} (faults asked : L → ℕ → ℕ → ℕ) (c : Description) (kernel : ℕ) (b : Burst) (what : BurstOutcome) (old new : Wired L) (s t : State) → EndsAs faults asked c kernel b what old new s t → has_counted what ≡ false → (counts kernel b s ≡ false) × (t ≡ taken_back kernel b.pid s)
stale_stays faults asked c kernel burst outcome.Stale old new s t ends counted = (ends.0, ends.2)
stale_stays faults asked c kernel burst outcome.Done old new s t ends counted = absurd (cc)
stale_stays faults asked c kernel burst (outcome.Took said) old new s t ends counted = absurd (cc)

-- the wire goes on by steps of its runs
goes_ran : {L : Type 0} (faults asked : L → ℕ → ℕ → ℕ) (c : Description) (kernel : ℕ) (input : Option Input) (what : BurstOutcome) (old new : Wired L) (s t : State) → GoesOn faults asked c kernel input what old new s t → RanOn faults asked old new
goes_ran faults asked c kernel (Some input) (outcome.Took said) old new s t goes = takes_ran faults asked c kernel input said old new s t goes
goes_ran faults asked c kernel (Some input) outcome.Done old new s t goes = absurd goes
goes_ran faults asked c kernel (Some input) outcome.Stale old new s t goes = absurd goes
goes_ran faults asked c kernel None (outcome.Took said) old new s t goes = absurd goes
goes_ran faults asked c kernel None outcome.Done old new s t goes = on_none faults asked old new goes.0
goes_ran faults asked c kernel None outcome.Stale old new s t goes = absurd goes

end_ran : {L : Type 0} (faults asked : L → ℕ → ℕ → ℕ) (c : Description) (kernel : ℕ) (b : Burst) (what : BurstOutcome) (old new : Wired L) (s t : State) → EndsAs faults asked c kernel b what old new s t → RanOn faults asked old new
end_ran faults asked c kernel b outcome.Stale old new s t ends = on_none faults asked old new ends.1
end_ran faults asked c kernel b outcome.Done old new s t ends = goes_ran faults asked c kernel (came_to kernel b b.end (recorded kernel b s)) outcome.Done old new (put_image kernel b.pid b.to (recorded kernel b s)) t ends.1
end_ran faults asked c kernel b (outcome.Took said) old new s t ends = goes_ran faults asked c kernel (came_to kernel b b.end (recorded kernel b s)) (outcome.Took said) old new (put_image kernel b.pid b.to (recorded kernel b s)) t ends.1

pub ends_ran : {L : Type 0} (faults asked : L → ℕ → ℕ → ℕ) (c : Description) (kernel : ℕ) (b : Burst) (counted : Bool) (old new : Wired L) (s t : State) → EndsBurst faults asked c kernel b counted old new s t → RanOn faults asked old new
ends_ran faults asked c kernel burst counted old new s t ends = end_ran faults asked c kernel burst ends.what old new s t ends.ends

pub told_ends : {L : Type 0} (faults asked : L → ℕ → ℕ → ℕ) (c : Description) (kernel : ℕ) (b : Burst) (counted : Bool) (old new : Wired L) (s t : State) → EndsBurst faults asked c kernel b counted old new s t → FaultsTold faults old.link new.link s.told t.told
told_ends faults asked c kernel burst counted old new s t ends = told_end faults asked c kernel burst ends.what old new s t ends.ends

pub out_ends : {L : Type 0} (faults asked : L → ℕ → ℕ → ℕ) (c : Description) (kernel : ℕ) (b : Burst) (old new : Wired L) (s t : State) → EndsBurst faults asked c kernel b true old new s t → length t.out + 1 ≡ length s.out
out_ends faults asked c kernel burst old new s t ends = out_counted faults asked c kernel burst ends.what old new s t ends.ends (sym ends.is_counted)

pub stale_ends : {L : Type 0} (faults asked : L → ℕ → ℕ → ℕ) (c : Description) (kernel : ℕ) (b : Burst) (old new : Wired L) (s t : State) → EndsBurst faults asked c kernel b false old new s t → (counts kernel b s ≡ false) × (t ≡ taken_back kernel b.pid s)
stale_ends faults asked c kernel burst old new s t ends = stale_stays faults asked c kernel burst ends.what old new s t ends.ends (sym ends.is_counted)

pub out_less : (kernel : ℕ) (b : Burst) (s : State) → (length (taken_back kernel b.pid s).out ≤ length s.out) × (length s.out ≤ length (taken_back kernel b.pid s).out + 1)
out_less kernel burst s = less_few (is_out kernel burst.pid) s.out
