-- How the wire goes from one state to another, by calls that are steps of its runs.
use Rattle.std.specs.Prelude.{◌≡◌, ℕ, List, [], ◌∷◌, ◌++◌, Option, Some}
use Rattle.kernel_rpc.specs.Machine.{Machine}
use Rattle.kernel_rpc.specs.Runs.{Act, Counts, IsRun, after}
use Rattle.kernel_rpc.specs.Histories.{reached}
use Rattle.kernel_rpc.specs.Steps.{counts_in}
use Rattle.kernel_rpc.specs.Sound.{Wired}

-- the counts at the end of a run
abbrev pub last_counts : Counts → List (Act × Counts) → Counts
last_counts counts [] = counts
last_counts counts (first ∷ rest) = last_counts first.1 rest

-- the wire went from here to there by these calls of it: they are a run, which ends with its machine and with its link's counts
pub record Ran {L : Type 0} (faults asked : L → ℕ → ℕ → ℕ) (old new : Wired L) (steps : List (Act × Counts)) : Type 0 where
  pub run : IsRun old.machine (counts_in faults asked old.link) steps
  pub reaches : new.machine ≡ reached old.machine steps
  pub counts : counts_in faults asked new.link ≡ last_counts (counts_in faults asked old.link) steps

-- the wire went from here to there by some calls of it
pub record RanOn {L : Type 0} (faults asked : L → ℕ → ℕ → ℕ) (old new : Wired L) : Type 0 where
  pub steps : List (Act × Counts)
  pub ran : Ran faults asked old new steps

-- a thing is done by a call of the wire: the thing has a plan as its turn comes, and the call is so
pub record IsDone {A P : Type 0} (plan : Machine → A → Option P) (is : Machine → P → Act → Type 0) (thing : A) (machine : Machine) (act : Act) : Type 0 where
  pub way : P
  pub planned : plan machine thing ≡ Some way
  pub done : is machine way act

-- all things of a list are done in their order, each by one call
abbrev pub EachDone : {A P : Type 0} → (Machine → A → Option P) → (Machine → P → Act → Type 0) → List A → Machine → List (Act × Counts) → Type 0
EachDone plan is [] machine steps = steps ≡ []
EachDone plan is (thing ∷ things) machine [] = ⊥
EachDone plan is (thing ∷ things) machine (step ∷ steps) = IsDone plan is thing machine step.0 × EachDone plan is things (after machine step.0) steps

-- what the calls of a run tell, each in the machine in which it is made
abbrev pub told_of : {X : Type 0} → (Machine → Act → List X) → Machine → List (Act × Counts) → List X
told_of tells machine [] = []
told_of tells machine (step ∷ steps) = tells machine step.0 ++ told_of tells (after machine step.0) steps

-- all things of a list are done, which takes the wire from here to there, and this is told of it
pub record Does {L A P X : Type 0} (faults asked : L → ℕ → ℕ → ℕ) (plan : Machine → A → Option P) (is : Machine → P → Act → Type 0) (tells : Machine → Act → List X) (things : List A) (old new : Wired L) (told : List X) : Type 0 where
  pub steps : List (Act × Counts)
  pub ran : Ran faults asked old new steps
  pub each : EachDone plan is things old.machine steps
  pub told_so : told ≡ told_of tells old.machine steps
