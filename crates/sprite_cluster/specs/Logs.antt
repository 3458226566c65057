-- What a cluster has written, and what is always true of it.
use Rattle.std.specs.Prelude.{◌≡◌, ℕ, ◌+◌, ◌≤◌, Bool, false, List, count_by, map}
use Rattle.kernel_rpc.specs.Sound.{Wired}
use Rattle.unix_calls.specs.declared.Description.{Description}
use Rattle.unix_calls.specs.declared.Event.{Event}
use Rattle.unix_calls.specs.declared.Rec.{Rec}
use Rattle.unix_calls.specs.Lawful.{Lawful}
use Rattle.cluster_kernels.specs.declared.State.{State}
use Rattle.cluster_wire.specs.Faults.{is_fault_between}
use Rattle.cluster_wire_laws.specs.Traces.{ReachedSo}
use Rattle.sprite_cluster.specs.Reached.{Reached}

-- the records of a trace, each as its kernel's
abbrev pub log_of : List Rec → List (ℕ × Event)
log_of trace = map (λ (r : Rec). (r.kernel, r.event)) trace

-- of how many faults between two kernels a trace tells
abbrev pub faults_between : ℕ → ℕ → List Rec → ℕ
faults_between a b trace = count_by (λ (r : Rec). is_fault_between a b r.event) trace

-- between any two kernels a trace tells of no more faults than by how many the link's count of these rose
abbrev pub TellsFaults : {L : Type 0} → (L → ℕ → ℕ → ℕ) → L → L → List Rec → Type 0
TellsFaults faults begun link trace = (a b : ℕ) → faults begun a b + faults_between a b trace ≤ faults link a b

-- what is always true of a cluster: what it runs is lawful, and as long as memory isn't wanting, its trace tells of the link's faults
-- alone, its wire is one that a run reaches whose acts the trace tells, and it is itself one that a run reaches. What is true of each
-- reached cluster follows from that, and is no field here
pub record Holds {L : Type 0} (faults asked : L → ℕ → ℕ → ℕ) (c : Description) (closed : Bool) (begun : L) (wire : Wired L) (state : State) (trace : List Rec) : Type 0 where
  pub lawful : Lawful c
  pub tells : closed ≡ false → TellsFaults faults begun wire.link trace
  pub reached : closed ≡ false → ReachedSo faults asked begun wire trace
  pub came : closed ≡ false → Reached faults asked c begun (record { wire = wire; state = state; trace = trace })
