-- Each fault that is told was the link's.
use Rattle.std.specs.Prelude.{ℕ, ◌+◌, ◌≤◌, Bool, false, List, count_by, map}
use Rattle.link_plan.specs.declared.Fate.{Fate}
use Rattle.link_plan.specs.Counts.{same_pair}
use Rattle.unix_calls.specs.declared.Event.{Event}
use Rattle.unix_calls.specs.declared.Event.TheVariants.{Fault}
use Rattle.cluster_wire.specs.declared.telling.Sent.{Sent}

-- where packets went, each with its fate
abbrev pub packets : List Sent → List (ℕ × Fate)
packets sent = map (λ (packet : Sent). (packet.to, packet.fate)) sent

-- whether an event tells of a fault between the two kernels, in either direction
abbrev pub is_fault_between : ℕ → ℕ → Event → Bool
is_fault_between a b (Fault from to what) = same_pair a b from to
is_fault_between a b event = false

-- of how many faults between the two is told
abbrev pub faults_told : ℕ → ℕ → List Event → ℕ
faults_told a b told = count_by (is_fault_between a b) told

-- it came to be told of no more faults between any two kernels than by how many the link's count of these rose
abbrev pub FaultsTold : {L : Type 0} → (L → ℕ → ℕ → ℕ) → L → L → List Event → List Event → Type 0
FaultsTold faults before after old new = (a b : ℕ) → faults before a b + faults_told a b new ≤ faults after a b + faults_told a b old
