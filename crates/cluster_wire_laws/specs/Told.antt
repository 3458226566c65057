-- What is told of the packets of one call, and the acts of which it is told.
use Rattle.std.specs.Prelude.{ℕ, ◌+◌, ◌==◌, Bool, false, ◌&&◌, not, if◌then◌else◌}
use Rattle.std.specs.List.{list_any}
use Rattle.link_plan.specs.declared.Fate.{Fate}
use Rattle.kernel_rpc.specs.declared.PacketCopy.{PacketCopy}
use Rattle.kernel_rpc.specs.Histories.{sends_by}
use Rattle.kernel_rpc.specs.Machine.{Machine, call_of}
use Rattle.kernel_rpc.specs.Runs.{Act, Begin, Deliver, Answer, Silence, Expire}
use Rattle.unix_calls.specs.declared.Event.{Event}
use Rattle.unix_calls.specs.declared.Event.TheVariants as events

-- whether a kernel tells that a copy of the call's request came to it, and it is the one at which is counted
abbrev pub tells_request : ℕ → ℕ → ℕ → Event → Bool
tells_request tx at kernel (events.Deliver key from reply about) = (key.0 == tx) && (not reply && (kernel == at))
tells_request tx at kernel event = false

-- the same of the call's reply
abbrev pub tells_reply : ℕ → ℕ → ℕ → Event → Bool
tells_reply tx at kernel (events.Deliver key from reply about) = (key.0 == tx) && (reply && (kernel == at))
tells_reply tx at kernel event = false

-- and of any packet of the call
abbrev pub tells_copy : ℕ → ℕ → ℕ → Event → Bool
tells_copy tx at kernel (events.Deliver key from reply about) = (key.0 == tx) && (kernel == at)
tells_copy tx at kernel event = false

-- and of any packet of the call between its sender and a receiver of it
abbrev pub tells_packet : ℕ → ℕ → ℕ → Event → Bool
tells_packet tx receiver kernel (events.Deliver key from reply about) = (key.0 == tx) && (if reply then from == receiver else kernel == receiver)
tells_packet tx receiver kernel event = false

-- whether the call's timer fired, and its request was sent again
abbrev pub tells_again : ℕ → ℕ → Event → Bool
tells_again tx kernel (events.Expire key last) = (key.0 == tx) && not last
tells_again tx kernel event = false

-- whether the call's timer fired, and it was given up
abbrev pub tells_last : ℕ → ℕ → Event → Bool
tells_last tx kernel (events.Expire key last) = (key.0 == tx) && last
tells_last tx kernel event = false

-- whether a copy is one of the call's reply to that kernel
abbrev pub is_reply_at : ℕ → ℕ → PacketCopy → Bool
is_reply_at tx at copy = (copy.tx.0 == tx) && (copy.reply && (copy.to == at))

-- whether a copy is one of any packet of the call to that kernel
abbrev pub is_copy_at : ℕ → ℕ → PacketCopy → Bool
is_copy_at tx at copy = (copy.tx.0 == tx) && (copy.to == at)

-- whether a copy is one of any packet of the call between its sender and that receiver
abbrev pub is_packet_of : ℕ → ℕ → PacketCopy → Bool
is_packet_of tx receiver copy = (copy.tx.0 == tx) && (if copy.reply then copy.from == receiver else copy.to == receiver)

-- whether the call begins, with a packet to that receiver
abbrev pub begins_to : ℕ → ℕ → Machine → Act → Bool
begins_to tx receiver machine (Begin from port servers owner body tries about before sent) = (machine.begun + 1 == tx) && list_any (λ (packet : ℕ × Fate). packet.0 == receiver) sent
begins_to tx receiver machine (Deliver number given) = false
begins_to tx receiver machine (Answer key body given) = false
begins_to tx receiver machine (Silence key at) = false
begins_to tx receiver machine (Expire key sent) = false

-- whether the timer of the call fires, and its request is sent again
abbrev pub sends_again : ℕ → Machine → Act → Bool
sends_again tx machine (Begin from port servers owner body tries about before sent) = false
sends_again tx machine (Deliver number given) = false
sends_again tx machine (Answer key body given) = false
sends_again tx machine (Silence key at) = false
sends_again tx machine (Expire key sent) = sends_by tx key (call_of machine key)
