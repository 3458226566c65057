-- What a step of a kernel tells.
use Rattle.std.specs.Prelude.{ℕ, ◌==◌, Bool, true, false, ◌&&◌, not, if◌then◌else◌, List, [], ◌∷◌, ◌++◌, Option, Some, None}
use Rattle.std.specs.List.{filter}
use Rattle.link_plan.specs.declared.Fate.{Fate}
use Rattle.link_plan.specs.declared.Fate.TheVariants.{Once}
use Rattle.unix_calls.specs.declared.Event.{Event}
use Rattle.unix_calls.specs.declared.Event.TheVariants.{Burst, Send, Deliver, Expire, Fault}
use Rattle.cluster_wire.specs.declared.telling.Sent.{Sent}

-- the fault that a packet between two kernels met is told, where it met one
abbrev pub faulted : ℕ → ℕ → Fate → List Event → List Event
faulted from to Once told = told
faulted from to fate told = told ++ Fault from to fate ∷ []

-- and those of several packets of the kernel
abbrev pub faulted_all : ℕ → List (ℕ × Fate) → List Event → List Event
faulted_all kernel [] told = told
faulted_all kernel (packet ∷ packets) told = faulted_all kernel packets (faulted kernel packet.0 packet.1 told)

-- whether the event is a fault
abbrev pub is_fault : Event → Bool
is_fault (Fault from to what) = true
is_fault event = false

-- what is told, but for the faults
abbrev pub without_faults : List Event → List Event
without_faults told = filter (λ event. not (is_fault event)) told

-- whether the kernel alone tells that: of instructions, packets, timers and faults the cluster tells
abbrev pub is_own : Event → Bool
is_own (Burst pid count) = false
is_own (Send tx to about kind) = false
is_own (Deliver tx from reply about) = false
is_own (Expire tx last) = false
is_own (Fault from to what) = false
is_own event = true

-- whether the event tells that this packet went out
abbrev pub is_of : Event → Sent → Bool
is_of (Send tx to about kind) packet = (packet.tx.0 == tx.0) && (packet.to == to)
is_of event packet = false

-- the packet that went out next, where the event tells of it
abbrev pub packet_of : Event → List Sent → Option Sent
packet_of event [] = None
packet_of event (packet ∷ packets) = if is_of event packet then Some packet else None

-- the packets that are left behind the event
abbrev pub left_after : Event → List Sent → List Sent
left_after event [] = []
left_after event (packet ∷ packets) = if is_of event packet then packets else packet ∷ packets

-- the packets that went out of which none of these events tells
abbrev pub untold : List Event → List Sent → List Sent
untold [] sent = sent
untold (event ∷ events) sent = untold events (left_after event sent)

-- one thing that the kernel did: a sending is told with its packet's fault exactly where its packet went out
abbrev pub noted_one : ℕ → Event → Option Sent → List Event → List Event
noted_one kernel event None told = if is_own event then told ++ event ∷ [] else told
noted_one kernel event (Some packet) told = faulted kernel packet.to packet.fate (told ++ event ∷ [])

-- all that the kernel did, beside the packets that went out
abbrev pub noted_all : ℕ → List Event → List Sent → List Event → List Event
noted_all kernel [] sent told = told
noted_all kernel (event ∷ events) sent told = noted_all kernel events (left_after event sent) (noted_one kernel event (packet_of event sent) told)
