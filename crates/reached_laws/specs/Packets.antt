-- What is true of the packets and timers of which a run's trace tells.
use Rattle.std.specs.Prelude.{ℕ, List}
use Rattle.unix_calls.specs.declared.Rec.{Rec}
use Rattle.sprite_cluster.specs.Wires.{TellsWire}

-- a fact of each trace that tells of a run's wire
abbrev pub OfWires : {L : Type 0} → (L → ℕ → ℕ → ℕ) → (L → ℕ → ℕ → ℕ) → (List Rec → Type 0) → Type 0
OfWires {L} faults asked P = (begun after : L) (trace : List Rec) → TellsWire faults asked begun after trace → P trace
