-- The end of a burst.
use Rattle.std.specs.Prelude.{◌≡◌, ℕ, Bool}
use Rattle.kernel_rpc.specs.Sound.{Wired}
use Rattle.unix_calls.specs.declared.Description.{Description}
use Rattle.cluster_kernels.specs.declared.State.{State}
use Rattle.cluster_bursts.specs.declared.outcome.BurstOutcome.{BurstOutcome}
use Rattle.cluster_bursts.specs.declared.job.Burst.{Burst}
use Rattle.cluster_bursts.specs.Bursts.{EndsAs, has_counted}

-- a burst of the kernel ended, which counted or didn't, over a wire that goes from here to there
pub record EndsBurst {L : Type 0} (faults asked : L → ℕ → ℕ → ℕ) (c : Description) (kernel : ℕ) (b : Burst) (counted : Bool) (old new : Wired L) (s t : State) : Type 0 where
  pub what : BurstOutcome
  pub ends : EndsAs faults asked c kernel b what old new s t
  pub is_counted : counted ≡ has_counted what
