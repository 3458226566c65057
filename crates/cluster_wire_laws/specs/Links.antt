-- What a trace tells of the packets that go over the link: that they are sent, which faults they meet, that they come, and that timers
-- fire for them.
use Rattle.std.specs.Prelude.{ℕ, Bool, true, false, if◌then◌else◌, List, [], ◌∷◌, ◌++◌, map, Option, Some, None}
use Rattle.std.specs.List.{filter}
use Rattle.sprite_ids.specs.declared.TxNo.{TxNo}
use Rattle.link_plan.specs.declared.Fate.{Fate}
use Rattle.link_plan.specs.declared.Fate.TheVariants.{Once}
use Rattle.kernel_rpc.specs.declared.Arrival.{Arrival}
use Rattle.kernel_rpc.specs.declared.Arrival.TheVariants.{FirstRequest, FirstReply, AskedAgain, Past}
use Rattle.kernel_rpc.specs.declared.Call.{Call}
use Rattle.kernel_rpc.specs.declared.PacketCopy.{PacketCopy}
use Rattle.kernel_rpc.specs.Machine.{Machine, arrival, call_of, copy_of, is_last}
use Rattle.kernel_rpc.specs.Runs.{Act, Begin, Deliver, Answer, Silence, Expire}
use Rattle.unix_calls.specs.declared.Event.{Event}
use Rattle.unix_calls.specs.declared.Event.TheVariants as events
use Rattle.unix_calls.specs.declared.SendKind.TheVariants.{Other}
use Rattle.unix_calls.specs.declared.Rec.{Rec}
use Rattle.cluster_wire.specs.Goings.{next_of}
use Rattle.cluster_choices.specs.Acts.{delivery}

-- whether an event tells of a packet or of a timer
abbrev pub is_of_link : Event → Bool
is_of_link (events.Send tx to about kind) = true
is_of_link (events.Fault from to what) = true
is_of_link (events.Deliver tx from reply about) = true
is_of_link (events.Expire tx last) = true
is_of_link event = false

-- an event without what a sending is for
abbrev pub bare_event : Event → Event
bare_event (events.Send tx to about kind) = events.Send tx to None Other
bare_event event = event

abbrev pub bare : Rec → Rec
bare r = record { kernel = r.kernel; event = bare_event r.event }

-- the records of a trace that tell of packets and timers
abbrev pub of_link : List Rec → List Rec
of_link trace = map bare (filter (λ (r : Rec). is_of_link r.event) trace)

-- the fault of a packet is told by the kernel that sends it, where it met one
abbrev pub fault_told : ℕ → ℕ → ℕ → Fate → List Rec
fault_told kernel from to Once = []
fault_told kernel from to fate = record { kernel = kernel; event = events.Fault from to fate } ∷ []

-- those of packets of the kernel to these
abbrev pub faults_told : ℕ → List (ℕ × Fate) → List Rec
faults_told kernel [] = []
faults_told kernel (packet ∷ packets) = fault_told kernel kernel packet.0 packet.1 ++ faults_told kernel packets

-- a kernel tells that the packets of a call are sent, each with its fault
abbrev pub sent_told : ℕ → TxNo → List (ℕ × Fate) → List Rec
sent_told kernel tx [] = []
sent_told kernel tx (packet ∷ packets) = record { kernel = kernel; event = events.Send tx packet.0 None Other } ∷ fault_told kernel kernel packet.0 packet.1 ++ sent_told kernel tx packets

-- the reply of a looked-up call goes out from its owner
abbrev pub back_told : ℕ → Fate → Option Call → List Rec
back_told kernel given None = []
back_told kernel given (Some call) = fault_told kernel call.owner call.from given

-- where a copy asks for it again
abbrev pub again_told : Arrival → ℕ → Fate → Option Call → List Rec
again_told AskedAgain kernel given o = back_told kernel given o
again_told FirstRequest kernel given o = []
again_told FirstReply kernel given o = []
again_told Past kernel given o = []

-- a looked-up copy comes to its receiver
abbrev pub came_told : Machine → Fate → Option PacketCopy → List Rec
came_told machine given None = []
came_told machine given (Some copy) = record { kernel = copy.to; event = delivery copy } ∷ again_told (arrival machine copy) copy.to given (call_of machine copy.tx)

-- the answer to a looked-up call goes out from its owner
abbrev pub answer_told : Fate → Option Call → List Rec
answer_told given None = []
answer_told given (Some call) = fault_told call.owner call.owner call.from given

-- the timer of a looked-up call fires at its caller: it is given up, or its packets go out again
abbrev pub fired_told : TxNo → List (ℕ × Fate) → Option Call → List Rec
fired_told tx sent None = []
fired_told tx sent (Some call) = record { kernel = call.from; event = events.Expire tx (is_last call) } ∷ (if is_last call then [] else faults_told call.from sent)

-- all that is told of an act of the wire
abbrev pub all_told_by : Machine → Act → List Rec
all_told_by machine (Begin from port servers owner body tries about before sent) = sent_told from (next_of machine) sent
all_told_by machine (Deliver number given) = came_told machine given (copy_of machine number)
all_told_by machine (Answer tx body given) = answer_told given (call_of machine tx)
all_told_by machine (Silence tx at) = []
all_told_by machine (Expire tx sent) = fired_told tx sent (call_of machine tx)
