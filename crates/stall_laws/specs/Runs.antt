-- What is left of a run that stands stalled.
use Rattle.std.specs.Prelude.{◌≡◌, ℕ, length}
use Rattle.sprite_ids.specs.declared.Finish.TheVariants as finish
use Rattle.unix_calls.specs.declared.Description.{Description}
use Rattle.unix_calls.specs.Lawful.{Lawful}
use Rattle.sprite_cluster.specs.Finishing.{IsStill, finish_of}
use Rattle.sprite_cluster.specs.Reached.{At, Reached}
use Rattle.stall_laws.specs.Clients.{CallbacksAreUnfinished, WaitsAndAsksAlone}
use Rattle.stall_laws.specs.Stalls.{CantGoOn}

-- a reached cluster in which nothing can happen can't go on
abbrev pub StillCantGoOn : {L : Type 0} → (L → ℕ → ℕ → ℕ) → (L → ℕ → ℕ → ℕ) → Type 0
StillCantGoOn {L} faults asked =
    (c : Description) (begun : L) (now : At L) → Reached faults asked c begun now → IsStill (length c.kernels) now.wire.machine now.state → CantGoOn c now.wire.machine now.state

-- so it is where its run stands stalled
abbrev pub StalledStandsStill : {L : Type 0} → (L → ℕ → ℕ → ℕ) → (L → ℕ → ℕ → ℕ) → Type 0
StalledStandsStill {L} faults asked =
    (c : Description) (begun : L) (now : At L) → Reached faults asked c begun now → finish_of c now.trace now.wire.machine now.state ≡ finish.Stalled → CantGoOn c now.wire.machine now.state

-- so a run of a lawful description that stands stalled has nothing left at its servers, and of all calls only `wait`s and asks of
-- pseudo-devices, each kept at its client; where callbacks that are out are unfinished calls
abbrev pub StalledLeavesWaits : {L : Type 0} → (L → ℕ → ℕ → ℕ) → (L → ℕ → ℕ → ℕ) → Type 0
StalledLeavesWaits {L} faults asked =
    (c : Description) (begun : L) (now : At L) → Lawful c → Reached faults asked c begun now → finish_of c now.trace now.wire.machine now.state ≡ finish.Stalled → CallbacksAreUnfinished now
    → WaitsAndAsksAlone now
