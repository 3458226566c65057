-- What a cluster comes to that was booted, by one change after the other.
use Rattle.std.specs.Prelude.{◌≡◌, ℕ, ◌≤◌, List, [], ◌∷◌}
use Rattle.link_plan.specs.Counts.{Stay}
use Rattle.kernel_rpc.specs.Machine.{idle}
use Rattle.kernel_rpc.specs.Sound.{Wired}
use Rattle.unix_calls.specs.declared.Description.{Description}
use Rattle.unix_calls.specs.declared.Rec.{Rec}
use Rattle.cluster_kernels.specs.declared.State.{State}
use Rattle.cluster_kernels.specs.Booted.{IsBooted}
use Rattle.cluster_choices.specs.declared.Choice.{Choice}
use Rattle.cluster_bursts.specs.declared.Burst.{Burst}
use Rattle.sprite_cluster.specs.Steps.{BeganBurst, LostBurst, MadeChoice, TookBurst}

-- a change of a cluster by the kernel of that number: a choice of it happened, a burst of it began, or a burst ended, which was taken or lost
pub data Change : Type 0 where
  Chose : ℕ → Choice → Change
  Began : ℕ → Change
  Took : ℕ → Burst → Change
  Lost : ℕ → Burst → Change

-- a cluster at a moment: the wire over its link, its kernels, and what was written so far
pub record At (L : Type 0) : Type 0 where
  pub wire : Wired L
  pub state : State
  pub trace : List Rec

-- the kernel of a change
abbrev pub kernel_of : Change → ℕ
kernel_of (Chose kernel choice) = kernel
kernel_of (Began kernel) = kernel
kernel_of (Took kernel burst) = kernel
kernel_of (Lost kernel burst) = kernel

-- what a change does to a cluster
abbrev pub ChangesSo : {L : Type 0} → (L → ℕ → ℕ → ℕ) → (L → ℕ → ℕ → ℕ) → Description → Change → At L → At L → Type 0
ChangesSo faults asked c (Chose kernel choice) old now = MadeChoice faults asked c kernel choice old.wire now.wire old.state now.state old.trace now.trace
ChangesSo faults asked c (Began kernel) old now = BeganBurst c kernel old.wire now.wire old.state now.state old.trace now.trace
ChangesSo faults asked c (Took kernel burst) old now = TookBurst faults asked c kernel burst old.wire now.wire old.state now.state old.trace now.trace
ChangesSo faults asked c (Lost kernel burst) old now = LostBurst faults asked c kernel burst old.wire now.wire old.state now.state old.trace now.trace

-- a cluster goes on by a change, of one of the sixteen kernels that there may be
pub record Goes {L : Type 0} (faults asked : L → ℕ → ℕ → ℕ) (c : Description) (change : Change) (old now : At L) : Type 0 where
  pub low : 1 ≤ kernel_of change
  pub high : kernel_of change ≤ 16
  pub changes : ChangesSo faults asked c change old now

-- and by one after the other
abbrev pub GoesAll : {L : Type 0} → (L → ℕ → ℕ → ℕ) → (L → ℕ → ℕ → ℕ) → Description → List Change → At L → At L → Type 0
GoesAll {L} faults asked c [] old now = old ≡ now
GoesAll {L} faults asked c (change ∷ changes) old now = (between : At L) × Goes faults asked c change old between × GoesAll faults asked c changes between now

-- a cluster as it begins, over a link with the counts of the one before the boot
pub record Begins {L : Type 0} (faults asked : L → ℕ → ℕ → ℕ) (c : Description) (begun : L) (first : At L) : Type 0 where
  pub boots : IsBooted c first.state
  pub idles : first.wire.machine ≡ idle
  pub none : first.trace ≡ []
  pub counts : Stay (faults begun) (asked begun) (faults first.wire.link) (asked first.wire.link)

-- a cluster that a run of the description reaches: from the boot, by some changes and nothing else
pub record Reached {L : Type 0} (faults asked : L → ℕ → ℕ → ℕ) (c : Description) (begun : L) (now : At L) : Type 0 where
  pub first : At L
  pub begins : Begins faults asked c begun first
  pub changes : List Change
  pub goes : GoesAll faults asked c changes first now
