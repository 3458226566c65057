-- What is true of each trace of a run of the wire is true of each run's.
use Rattle.std.proofs.Common.{ℕ, List}
use Rattle.unix_calls.specs.declared.Rec.{Rec}
use Rattle.packet_laws.specs.Expiries.{OfRuns}
use Rattle.reached_laws.specs.Packets.{OfWires}

pub of_wires : {L : Type 0} (faults asked : L → ℕ → ℕ → ℕ) (P : List Rec → Type 0) → OfRuns P → OfWires faults asked P
of_wires faults asked P law begun after trace wire = law wire.first wire.steps trace wire.run wire.in_order wire.lost
