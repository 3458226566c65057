-- A copy of a packet comes to a kernel.
use Rattle.std.specs.Prelude.{◌≡◌, ℕ, ◌==◌, Bool, true, false, if◌then◌else◌, Option, Some, None}
use Rattle.sprite_ids.specs.declared.CopyNo.{CopyNo}
use Rattle.sprite_ids.specs.declared.TxNo.{TxNo}
use Rattle.link_plan.specs.declared.Fate.{Fate}
use Rattle.link_plan.specs.declared.Fate.TheVariants.{Once}
use Rattle.link_plan.specs.Counts.{IsAsked}
use Rattle.kernel_rpc.specs.Bodies.{IsMessage, body_of, reply_of}
use Rattle.kernel_rpc.specs.declared.call.Arrival.{Arrival}
use Rattle.kernel_rpc.specs.declared.call.Arrival.TheVariants.{FirstRequest, FirstReply, AskedAgain, Past}
use Rattle.kernel_rpc.specs.declared.PacketCopy.{PacketCopy}
use Rattle.kernel_rpc.specs.Machine.{Machine, arrival, call_of, copy_of, owner_of}
use Rattle.kernel_rpc.specs.Runs.{Deliver, Silence}
use Rattle.kernel_rpc.specs.Sound.{Wired}
use Rattle.kernel_rpc.specs.Steps.{IsStep}
use Rattle.kernel_steps.specs.declared.Input.{Input}
use Rattle.kernel_steps.specs.declared.Input.TheVariants as inputs
use Rattle.packet_bodies.specs.declared.Body.{Body}
use Rattle.packet_bodies.specs.declared.Body.TheVariants as bodies
use Rattle.packet_bodies.specs.declared.Request.{Request}
use Rattle.packet_bodies.specs.declared.Request.TheVariants as requests
use Rattle.wire_format.specs.declared.Packet.{Packet}
use Rattle.wire_format.specs.Packets.{reading}
use Rattle.cluster_wire.specs.declared.arriving.Arrived.{Arrived}
use Rattle.cluster_wire.specs.declared.arriving.Arrived.TheVariants as arrived
use Rattle.cluster_wire.specs.Replying.{caller_of}

-- a looked-up copy, where it is one to that kernel
abbrev pub only_to : ℕ → Option PacketCopy → Option PacketCopy
only_to kernel None = None
only_to kernel (Some copy) = if copy.to == kernel then Some copy else None

-- the copy of that number, where it is in flight to the kernel
abbrev pub copy_to : ℕ → Machine → CopyNo → Option PacketCopy
copy_to kernel machine number = only_to kernel (copy_of machine number)

-- what a kernel takes of a request's packet; nothing where a reply stands in it, which never comes
abbrev pub request_in : TxNo → ℕ → Body → Arrived
request_in tx from (bodies.Request body) = arrived.Message (inputs.Request tx from body)
request_in tx from (bodies.Reply body) = arrived.Old

-- what a kernel takes of a reply's packet; nothing where a request stands in it, which never comes
abbrev pub reply_in : TxNo → ℕ → Body → Arrived
reply_in tx from (bodies.Request body) = arrived.Old
reply_in tx from (bodies.Reply body) = arrived.Message (inputs.Replied tx from body)

-- what a copy brings its receiver, by what it is to it: the request of its call, the reply, that the reply goes out again from the
-- kernel that gave it to the one that waits for it, or nothing
abbrev pub Brings : Arrival → Machine → PacketCopy → Arrived → Type 0
Brings FirstRequest machine copy came = (message : Packet) × IsMessage reading (body_of (call_of machine copy.tx)) message × (came ≡ request_in copy.tx message.from message.body)
Brings FirstReply machine copy came = (message : Packet) × IsMessage reading (reply_of (call_of machine copy.tx)) message × (came ≡ reply_in copy.tx message.from message.body)
Brings AskedAgain machine copy came = (given : Fate) × (came ≡ arrived.Again (owner_of (call_of machine copy.tx)) (caller_of (call_of machine copy.tx)) given)
Brings Past machine copy came = came ≡ arrived.Old

-- the fate of a reply that goes out again
abbrev pub given_in : Arrived → Fate
given_in (arrived.Message input) = Once
given_in (arrived.Again from to given) = given
given_in arrived.Old = Once

-- the link is asked about the reply where that goes out again, and else not
abbrev pub AskedBack : {L : Type 0} → (L → ℕ → ℕ → ℕ) → (L → ℕ → ℕ → ℕ) → L → L → Arrived → Type 0
AskedBack faults asked before after (arrived.Message input) = after ≡ before
AskedBack faults asked before after (arrived.Again from to given) = IsAsked (faults before) (asked before) (faults after) (asked after) from to given
AskedBack faults asked before after arrived.Old = after ≡ before

-- a copy in flight comes, and brings that
pub record Arrives {L : Type 0} (faults asked : L → ℕ → ℕ → ℕ) (number : CopyNo) (copy : PacketCopy) (came : Arrived) (old new : Wired L) : Type 0 where
  pub brings : Brings (arrival old.machine copy) old.machine copy came
  pub step : IsStep faults asked old (Deliver number (given_in came)) new
  pub asks : AskedBack faults asked old.link new.link came

-- whether a request asks for the server of a prefix
abbrev pub is_prefix : Request → Bool
is_prefix (requests.Prefix path) = true
is_prefix body = false

-- whether a kernel is asked for the server of a prefix
abbrev pub asks_prefix : Input → Bool
asks_prefix (inputs.Request tx from body) = is_prefix body
asks_prefix input = false

-- a server goes silent, or doesn't
abbrev pub SilentIf : {L : Type 0} → (L → ℕ → ℕ → ℕ) → (L → ℕ → ℕ → ℕ) → Bool → TxNo → ℕ → Wired L → Wired L → Type 0
SilentIf faults asked true tx kernel old new = IsStep faults asked old (Silence tx kernel) new
SilentIf faults asked false tx kernel old new = new ≡ old
