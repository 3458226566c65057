-- What a trace tells of copies that come and timers that fire, in its order.
use Rattle.std.specs.Prelude.{ℕ, Bool, true, false, List, [], ◌∷◌, Option, Some, None}
use Rattle.std.specs.List.{filter}
use Rattle.sprite_ids.specs.declared.TxNo.{TxNo}
use Rattle.kernel_rpc.specs.declared.Call.{Call}
use Rattle.kernel_rpc.specs.declared.PacketCopy.{PacketCopy}
use Rattle.kernel_rpc.specs.Machine.{Machine, call_of, copy_of, is_last}
use Rattle.kernel_rpc.specs.Runs.{Act, Begin, Deliver, Answer, Silence, Expire}
use Rattle.unix_calls.specs.declared.Event.{Event}
use Rattle.unix_calls.specs.declared.Event.TheVariants as events
use Rattle.unix_calls.specs.declared.Rec.{Rec}
use Rattle.cluster_choices.specs.Acts.{delivery}

-- whether an event tells that a copy came or that a timer fired
abbrev pub is_of_wire : Event → Bool
is_of_wire (events.Deliver tx from reply about) = true
is_of_wire (events.Expire tx last) = true
is_of_wire event = false

-- the records of a trace that tell so
abbrev pub of_wire : List Rec → List Rec
of_wire trace = filter (λ (r : Rec). is_of_wire r.event) trace

-- a looked-up copy comes to its receiver
abbrev pub copy_told : Option PacketCopy → List Rec
copy_told None = []
copy_told (Some copy) = record { kernel = copy.to; event = delivery copy } ∷ []

-- the timer of a looked-up call fires at its caller, for the last time or not
abbrev pub firing_told : TxNo → Option Call → List Rec
firing_told tx None = []
firing_told tx (Some call) = record { kernel = call.from; event = events.Expire tx (is_last call) } ∷ []

-- what is told of an act: that the copy came, or that the timer fired
abbrev pub told_by : Machine → Act → List Rec
told_by machine (Begin from port servers owner body tries about before sent) = []
told_by machine (Deliver number given) = copy_told (copy_of machine number)
told_by machine (Answer tx body given) = []
told_by machine (Silence tx at) = []
told_by machine (Expire tx sent) = firing_told tx (call_of machine tx)
