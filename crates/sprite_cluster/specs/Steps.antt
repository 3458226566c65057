-- The calls of a cluster.
use Rattle.std.specs.Prelude.{◌≡◌, ℕ, ◌++◌, ◌<◌, true, false, List, [], length}
use Rattle.kernel_threads.specs.declared.EndBurst.{EndBurst}
use Rattle.kernel_threads.specs.declared.EndBurst.TheVariants.{Taken, Stale}
use Rattle.kernel_threads.specs.Steps.{IsAmong}
use Rattle.kernel_rpc.specs.Sound.{Wired}
use Rattle.unix_calls.specs.declared.Description.{Description}
use Rattle.unix_calls.specs.declared.Rec.{Rec}
use Rattle.cluster_kernels.specs.declared.State.{State}
use Rattle.cluster_choices.specs.declared.Choice.{Choice}
use Rattle.cluster_choices.specs.Acts.{Happens}
use Rattle.cluster_choices.specs.Choosing.{choices_at}
use Rattle.cluster_bursts.specs.declared.Burst.{Burst}
use Rattle.cluster_bursts.specs.Bursts.{Did, begun_by, job_at}
use Rattle.cluster_bursts.specs.Ends.{EndsBurst}
use Rattle.call_journal.specs.Journal.{records_by}

-- the kernels as a turn begins: nothing is told yet
abbrev pub begun_turn : State → State
begun_turn s = record s { told = [] }

-- one of the kernel's choices happened, and all that the kernel told, which is something, stands in the trace
pub record MadeChoice {L : Type 0} (faults asked : L → ℕ → ℕ → ℕ) (c : Description) (kernel : ℕ) (choice : Choice) (before after : Wired L) (s t : State) (old new : List Rec) : Type 0 where
  pub among : IsAmong choice (choices_at kernel s before.machine)
  pub turn : State
  pub happens : Happens faults asked c kernel choice before after (begun_turn s) turn
  pub stands : t ≡ begun_turn turn
  pub written : new ≡ old ++ records_by kernel turn.told
  pub some_told : 0 < length turn.told

-- the burst of the kernel's next process began, where one can run, and nothing is written
pub record BeganBurst {L : Type 0} (c : Description) (kernel : ℕ) (before after : Wired L) (s t : State) (old new : List Rec) : Type 0 where
  pub begun : t ≡ begun_by kernel (job_at c kernel s) s
  pub same_wire : after ≡ before
  pub not_written : new ≡ old

-- a burst of the kernel that counted ended: it did what its program says, and all that the kernel told, which is something, stands in
-- the trace
pub record TookBurst {L : Type 0} (faults asked : L → ℕ → ℕ → ℕ) (c : Description) (kernel : ℕ) (b : Burst) (before after : Wired L) (s t : State) (old new : List Rec) : Type 0 where
  pub did : Did c b
  pub turn : State
  pub ends : EndsBurst faults asked c kernel b true before after (begun_turn s) turn
  pub stands : t ≡ begun_turn turn
  pub written : new ≡ old ++ records_by kernel turn.told
  pub some_told : 0 < length turn.told

-- a burst of the kernel that didn't count ended, and nothing is written
pub record LostBurst {L : Type 0} (faults asked : L → ℕ → ℕ → ℕ) (c : Description) (kernel : ℕ) (b : Burst) (before after : Wired L) (s t : State) (old new : List Rec) : Type 0 where
  pub did : Did c b
  pub ends : EndsBurst faults asked c kernel b false before after (begun_turn s) t
  pub not_written : new ≡ old

-- a burst of the kernel ended: where it counted, it was taken, and else lost
abbrev pub EndedSo : {L : Type 0} → (L → ℕ → ℕ → ℕ) → (L → ℕ → ℕ → ℕ) → Description → ℕ → Burst → EndBurst → Wired L → Wired L → State → State → List Rec → List Rec → Type 0
EndedSo faults asked c kernel b Taken before after s t old new = TookBurst faults asked c kernel b before after s t old new
EndedSo faults asked c kernel b Stale before after s t old new = LostBurst faults asked c kernel b before after s t old new
