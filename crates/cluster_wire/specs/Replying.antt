-- The answers of a kernel go out.
use Rattle.std.specs.Prelude.{◌≡◌, ℕ, ◌==◌, Bool, true, false, if◌then◌else◌, List, [], ◌∷◌, ◌++◌, Option, Some, None, option_map}
use Rattle.sprite_ids.specs.declared.TxNo.{TxNo}
use Rattle.link_plan.specs.declared.Fate.{Fate}
use Rattle.kernel_rpc.specs.declared.call.Call.{Call}
use Rattle.kernel_rpc.specs.Machine.{Machine, call_of, may_answer}
use Rattle.kernel_rpc.specs.Runs.{Act, Begin, Deliver, Answer, Silence, Expire}
use Rattle.kernel_rpc.specs.Sound.{Wired}
use Rattle.kernel_rpc.specs.Steps.{IsStep}
use Rattle.packet_bodies.specs.declared.Body.TheVariants as bodies
use Rattle.packet_bodies.specs.declared.ReplyBody.{ReplyBody}
use Rattle.wire_format.specs.declared.Packet.{Packet}
use Rattle.wire_format.specs.Packets.{IsPacket, spelling}
use Rattle.cluster_wire.specs.Ran.{Does}

-- the caller of a looked-up call
abbrev pub caller_of : Option Call → ℕ
caller_of None = 0
caller_of (Some call) = call.from

-- who waits for the kernel's answer to a looked-up call, which its owner may give or not
abbrev pub asker_by : Bool → ℕ → Option Call → Option ℕ
asker_by may kernel None = None
asker_by false kernel (Some call) = None
asker_by true kernel (Some call) = if call.owner == kernel then Some call.from else None

-- who waits for the kernel's answer to the call; None where the kernel isn't its owner, wasn't handed its request, or has answered it
abbrev pub asker : ℕ → Machine → TxNo → Option ℕ
asker kernel machine tx = asker_by (may_answer machine tx) kernel (call_of machine tx)

-- the packet of an answer of the kernel to that one
abbrev pub reply_packet : ℕ → TxNo × ReplyBody → ℕ → Packet
reply_packet kernel answer to = record { from = kernel; to = to; tx = answer.0; body = bodies.Reply answer.1 }

-- the packet of an answer of the kernel, where someone waits for it
abbrev pub goes_back : ℕ → Machine → TxNo × ReplyBody → Option Packet
goes_back kernel machine answer = option_map (reply_packet kernel answer) (asker kernel machine answer.0)

-- the call of the wire is the answer of that packet, which has a spelling, from which it is read back
pub record IsAnswer (machine : Machine) (packet : Packet) (act : Act) : Type 0 where
  pub given : Fate
  pub is_packet : IsPacket packet
  pub is : act ≡ Answer packet.tx (spelling packet) given

-- to whom an answer goes, and its fate
abbrev pub answered_by : Machine → Act → List (ℕ × Fate)
answered_by machine (Begin from port servers owner body tries about before sent) = []
answered_by machine (Deliver number given) = []
answered_by machine (Answer tx body given) = (caller_of (call_of machine tx), given) ∷ []
answered_by machine (Silence tx at) = []
answered_by machine (Expire tx sent) = []

-- all answers of the kernel go out, in their order, each to the one that waits for it as its turn comes; these are their packets
abbrev pub Answered : {L : Type 0} → (L → ℕ → ℕ → ℕ) → (L → ℕ → ℕ → ℕ) → ℕ → List (TxNo × ReplyBody) → Wired L → Wired L → List (ℕ × Fate) → Type 0
Answered faults asked kernel answers old new answered = Does faults asked (goes_back kernel) IsAnswer answered_by answers old new answered

-- one answer goes out, and its packet came to a list
pub record AnswersSo {L : Type 0} (faults asked : L → ℕ → ℕ → ℕ) (packet : Packet) (old new : Wired L) (held told : List (ℕ × Fate)) : Type 0 where
  pub act : Act
  pub is : IsAnswer old.machine packet act
  pub step : IsStep faults asked old act new
  pub told_so : told ≡ held ++ answered_by old.machine act

-- and an answer by its packet: one for which no one waits never goes out
abbrev pub AnswersIf : {L : Type 0} → (L → ℕ → ℕ → ℕ) → (L → ℕ → ℕ → ℕ) → Option Packet → Wired L → Wired L → List (ℕ × Fate) → List (ℕ × Fate) → Type 0
AnswersIf faults asked None old new held told = ⊥
AnswersIf faults asked (Some packet) old new held told = AnswersSo faults asked packet old new held told
