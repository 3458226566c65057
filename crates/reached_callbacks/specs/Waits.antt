-- What is left in a cluster that can't go on: `wait`s and asks of pseudo-devices alone.
use Rattle.std.specs.Prelude.{ℕ}
use Rattle.unix_calls.specs.declared.Description.{Description}
use Rattle.unix_calls.specs.Lawful.{Lawful}
use Rattle.sprite_cluster.specs.Reached.{At, Reached}
use Rattle.stall_laws.specs.Clients.{WaitsAndAsksAlone}
use Rattle.stall_laws.specs.Stalls.{CantGoOn}

-- where a reached cluster of a lawful description can't go on, nothing is left at its servers, and of all remote calls only `wait`s and
-- asks of pseudo-devices are unfinished, each kept at its client
abbrev pub OnlyWaitsAreLeft : {L : Type 0} → (L → ℕ → ℕ → ℕ) → (L → ℕ → ℕ → ℕ) → Type 0
OnlyWaitsAreLeft {L} faults asked =
    (c : Description) (begun : L) (now : At L) → Lawful c → Reached faults asked c begun now → CantGoOn c now.wire.machine now.state → WaitsAndAsksAlone now
