-- How often the link is asked in a run, and how many of its packets the trace tells.
use Rattle.std.specs.Prelude.{ℕ, ◌+◌, ◌-◌, ◌^◌, ◌≤◌, Bool, false, List, [], ◌∷◌, min, Option, Some, None}
use Rattle.link_plan.specs.Counts.{same_pair}
use Rattle.link_plan.specs.declared.Fate.{Fate}
use Rattle.kernel_rpc.specs.declared.Call.{Call}
use Rattle.kernel_rpc.specs.Histories.{times}
use Rattle.kernel_rpc.specs.Machine.{Machine, call_of}
use Rattle.kernel_rpc.specs.Runs.{Act, Begin, Deliver, Answer, Silence, Expire, Counts, IsRun, once_if}
use Rattle.unix_calls.specs.declared.Event.{Event}
use Rattle.unix_calls.specs.declared.Event.TheVariants as events
use Rattle.cluster_wire.specs.Ran.{last_counts}

-- how many packets from a kernel go between the two
abbrev pub packets_between : ℕ → ℕ → ℕ → List (ℕ × Fate) → ℕ
packets_between a b from [] = 0
packets_between a b from (packet ∷ packets) = once_if (same_pair a b from packet.0) + packets_between a b from packets

-- how many packets of requests go between the two as their calls begin
abbrev pub sent_between : ℕ → ℕ → Act → ℕ
sent_between a b (Begin from port servers owner body tries about before sent) = packets_between a b from sent
sent_between a b (Deliver number given) = 0
sent_between a b (Answer tx body given) = 0
sent_between a b (Silence tx at) = 0
sent_between a b (Expire tx sent) = 0

-- in a run
abbrev pub all_sent_between : ℕ → ℕ → List (Act × Counts) → ℕ
all_sent_between a b [] = 0
all_sent_between a b (step ∷ steps) = sent_between a b step.0 + all_sent_between a b steps

-- whether a kernel tells that a packet between the two is sent
abbrev pub tells_sending : ℕ → ℕ → ℕ → Event → Bool
tells_sending a b kernel (events.Send tx to about kind) = same_pair a b kernel to
tells_sending a b kernel event = false

-- a count rose by at least so many, or stands at the greatest that there is
abbrev pub RoseBy : ℕ → ℕ → ℕ → Type 0
RoseBy old more new = min (old + more) (2 ^ 64 - 1) ≤ new

-- whether a looked-up call is one between the two
abbrev pub is_between : ℕ → ℕ → Option Call → Bool
is_between a b None = false
is_between a b (Some call) = same_pair a b call.owner call.from

-- whether a call between the two is answered
abbrev pub answers_between : ℕ → ℕ → Machine → Act → Bool
answers_between a b machine (Begin from port servers owner body tries about before sent) = false
answers_between a b machine (Deliver number given) = false
answers_between a b machine (Answer tx body given) = is_between a b (call_of machine tx)
answers_between a b machine (Silence tx at) = false
answers_between a b machine (Expire tx sent) = false

-- in each run, between any two of the kernels that there may be, the link is asked at least once for each packet that is sent as its call
-- begins, and once for each call that is answered
abbrev pub AskedForEachPacket : Type 0
AskedForEachPacket = (machine : Machine) (counts : Counts) (steps : List (Act × Counts)) (a b : ℕ) → (1 ≤ a) × (a ≤ 16) → (1 ≤ b) × (b ≤ 16) → IsRun machine counts steps → RoseBy (counts.asked a b) (all_sent_between a b steps + times (answers_between a b) machine steps) ((last_counts counts steps).asked a b)
