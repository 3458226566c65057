-- What the link was asked as a kernel took something, and what it answered.
use Rattle.std.specs.Prelude.{◌≡◌, ℕ, List, ◌++◌, Option, Some, None}
use Rattle.kernel_rpc.specs.declared.call.Call.{Call}
use Rattle.link_plan.specs.declared.Fate.{Fate}
use Rattle.link_plan.specs.Counts.{Asks}
use Rattle.cluster_wire.specs.declared.telling.Said.{Said}
use Rattle.cluster_wire.specs.Faults.{packets}

-- from which kernel the reply of a looked-up call goes, and to which
abbrev pub ends_of : Option Call → Option (ℕ × ℕ)
ends_of None = None
ends_of (Some call) = Some (call.owner, call.from)

-- packets came to a list, and the link was asked about each of them once, in their order
pub record AskedMore {L : Type 0} (faults asked : L → ℕ → ℕ → ℕ) (kernel : ℕ) (before after : L) (old new : List (ℕ × Fate)) : Type 0 where
  pub more : List (ℕ × Fate)
  pub grown : new ≡ old ++ more
  pub asks : Asks faults asked kernel before after more

-- the link was asked about each packet of what a kernel said, once: its requests first, and then its answers
pub record AskedFor {L : Type 0} (faults asked : L → ℕ → ℕ → ℕ) (kernel : ℕ) (before after : L) (said : Said) : Type 0 where
  pub between : L
  pub requests : Asks faults asked kernel before between (packets said.sent)
  pub answers : Asks faults asked kernel between after said.answered
