-- The remote calls of a kernel begin.
use Rattle.std.specs.Prelude.{◌≡◌, ℕ, List, [], ◌++◌, map, Option, Some, None}
use Rattle.sprite_ids.specs.declared.TxNo.{TxNo}
use Rattle.link_plan.specs.declared.Fate.{Fate}
use Rattle.kernel_rpc.specs.Machine.{Machine}
use Rattle.kernel_rpc.specs.Ports.{AreUsed}
use Rattle.kernel_rpc.specs.Runs.{Act, Begin, Deliver, Answer, Silence, Expire}
use Rattle.kernel_rpc.specs.Sound.{Wired}
use Rattle.kernel_rpc.specs.Steps.{IsStep}
use Rattle.kernel_steps.specs.declared.Sending.{Sending}
use Rattle.packet_bodies.specs.About.{about_of}
use Rattle.unix_calls.specs.declared.Description.{Description}
use Rattle.wire_format.specs.Packets.{IsPacket, spelling}
use Rattle.cluster_wire.specs.declared.telling.Sent.{Sent}
use Rattle.cluster_wire.specs.Goings.{Going, goes, next_of, packet_to}
use Rattle.cluster_wire.specs.Ran.{Does}

-- a packet of the call of that number, to a kernel, with its fate
abbrev pub sent_as : TxNo → ℕ × Fate → Sent
sent_as tx packet = record { tx = tx; to = packet.0; fate = packet.1 }

-- the packets that a call of the wire sends for the first time
abbrev pub sent_by : Machine → Act → List Sent
sent_by machine (Begin from port servers owner body tries about before sent) = map (sent_as (next_of machine)) sent
sent_by machine (Deliver number given) = []
sent_by machine (Answer tx body given) = []
sent_by machine (Silence tx at) = []
sent_by machine (Expire tx sent) = []

-- a remote call of the kernel begins, with the next number, at the kernel's least free port, so as it goes out; its packet has a
-- spelling, from which it is read back
pub record IsBegin (kernel : ℕ) (machine : Machine) (going : Going) (act : Act) : Type 0 where
  pub port : ℕ
  pub least : AreUsed machine kernel port
  pub before : ℕ
  pub fates : List (ℕ × Fate)
  pub is_packet : IsPacket (packet_to kernel (next_of machine) going)
  pub is : act ≡ Begin kernel port going.servers going.owner (spelling (packet_to kernel (next_of machine) going)) going.tries (about_of going.body) before fates

-- all remote calls of a list begin, in their order, each as it goes out; these are their packets
abbrev pub Begun : {L : Type 0} → (L → ℕ → ℕ → ℕ) → (L → ℕ → ℕ → ℕ) → Description → ℕ → List Sending → Wired L → Wired L → List Sent → Type 0
Begun faults asked c kernel sendings old new sent = Does faults asked (λ (machine : Machine) (sending : Sending). goes c kernel sending) (IsBegin kernel) sent_by sendings old new sent

-- one remote call begins, and its packets came to a list
pub record BeginsSo {L : Type 0} (faults asked : L → ℕ → ℕ → ℕ) (kernel : ℕ) (going : Going) (old new : Wired L) (held sent : List Sent) : Type 0 where
  pub act : Act
  pub is : IsBegin kernel old.machine going act
  pub step : IsStep faults asked old act new
  pub told : sent ≡ held ++ sent_by old.machine act

-- and a call by how it goes out: one that doesn't never begins
abbrev pub BeginsIf : {L : Type 0} → (L → ℕ → ℕ → ℕ) → (L → ℕ → ℕ → ℕ) → ℕ → Option Going → Wired L → Wired L → List Sent → List Sent → Type 0
BeginsIf faults asked kernel None old new held sent = ⊥
BeginsIf faults asked kernel (Some going) old new held sent = BeginsSo faults asked kernel going old new held sent
