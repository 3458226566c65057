-- What the link was asked in a call of the wire.
use Rattle.std.specs.Prelude.{◌≡◌, ℕ, List, map, Option, Some, None}
use Rattle.link_plan.specs.declared.Fate.{Fate}
use Rattle.link_plan.specs.Counts.{Asks, IsAsked}
use Rattle.kernel_rpc.specs.declared.call.Call.{Call}
use Rattle.kernel_rpc.specs.declared.call.Receiver.{Receiver}

-- the link was asked about the request of a looked-up call to each of its receivers, in their order, each once
abbrev pub AsksAll : {L : Type 0} → (L → ℕ → ℕ → ℕ) → (L → ℕ → ℕ → ℕ) → L → L → List (ℕ × Fate) → Option Call → Type 0
AsksAll faults asked before after sent None = ⊥
AsksAll faults asked before after sent (Some call) = (map (λ (packet : ℕ × Fate). packet.0) sent ≡ map (λ (receiver : Receiver). receiver.kernel) call.receivers) × Asks faults asked call.from before after sent

-- the link was asked once, about the reply of a looked-up call
abbrev pub AsksBack : {L : Type 0} → (L → ℕ → ℕ → ℕ) → (L → ℕ → ℕ → ℕ) → L → L → Fate → Option Call → Type 0
AsksBack faults asked before after answer None = ⊥
AsksBack faults asked before after answer (Some call) = IsAsked (faults before) (asked before) (faults after) (asked after) call.owner call.from answer
