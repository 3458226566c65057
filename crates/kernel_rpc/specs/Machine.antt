-- Remote calls over a link, as a machine: one function for each call of the wire.
use Rattle.std.specs.Prelude.{ℕ, ◌+◌, ◌*◌, ◌==◌, nat_le, Bool, true, false, ◌&&◌, ◌||◌, not, if◌then◌else◌, List, [], ◌∷◌, ◌++◌, length, map, min, Option, Some, None, option_map, is_some}
use Rattle.std.specs.List.{filter, find, list_any}
use Rattle.sprite_ids.specs.declared.TxNo.{TxNo}
use Rattle.sprite_ids.specs.declared.CopyNo.{CopyNo}
use Rattle.sprite_ids.specs.declared.Tries.{Tries}
use Rattle.sprite_ids.specs.declared.Tries.TheVariants.{Eight, Always}
use Rattle.link_plan.specs.declared.Fate.{Fate}
use Rattle.kernel_rpc.specs.declared.call.Part.{Part}
use Rattle.kernel_rpc.specs.declared.call.Part.TheVariants.{Waiting, Holding, Silent, Answered}
use Rattle.kernel_rpc.specs.declared.call.Receiver.{Receiver}
use Rattle.kernel_rpc.specs.declared.call.Call.{Call}
use Rattle.kernel_rpc.specs.declared.call.PacketCopy.{PacketCopy}
use Rattle.kernel_rpc.specs.declared.call.Arrival.{Arrival}
use Rattle.kernel_rpc.specs.declared.call.Arrival.TheVariants.{FirstRequest, FirstReply, AskedAgain, Past}
use Rattle.sprite_ids.specs.Lists.{changed, less}
use Rattle.kernel_rpc.specs.Copies.{copies_by, requests}

-- how many calls were begun; those that aren't finished, in ascending order; the numbers of those that were given up; the
-- copies in flight, in the order of sending; and the number of the next copy
pub record Machine : Type 0 where
  pub begun : ℕ
  pub unfinished : List Call
  pub given_up : List TxNo
  pub copies : List PacketCopy
  pub next_copy : ℕ

-- no call was begun
abbrev pub idle : Machine
idle = record { begun = 0; unfinished = []; given_up = []; copies = []; next_copy = 1 }

-- whether it is the call of that number
abbrev pub is_call : TxNo → Call → Bool
is_call tx call = call.tx.0 == tx.0

-- whether it is the copy of that number
abbrev pub is_copy : CopyNo → PacketCopy → Bool
is_copy number copy = copy.number.0 == number.0

-- whether the copy is one of the call of that number
abbrev pub is_of_call : TxNo → PacketCopy → Bool
is_of_call tx copy = copy.tx.0 == tx.0

-- whether it is that receiver
abbrev pub is_at : ℕ → Receiver → Bool
is_at kernel receiver = receiver.kernel == kernel

-- the unfinished call of that number
abbrev pub call_of : Machine → TxNo → Option Call
call_of machine tx = find (is_call tx) machine.unfinished

-- the copy of that number, where it is in flight
abbrev pub copy_of : Machine → CopyNo → Option PacketCopy
copy_of machine number = find (is_copy number) machine.copies

-- how far a kernel is with a request, where it is a receiver
abbrev pub part_of : ℕ → List Receiver → Option Part
part_of kernel receivers = option_map (λ receiver. receiver.part) (find (is_at kernel) receivers)

-- the receivers after one of them got further
abbrev pub with_part : ℕ → Part → List Receiver → List Receiver
with_part kernel part receivers = changed (is_at kernel) (λ receiver. record receiver { part = part }) receivers

-- the packet of a call's request to one of its receivers
abbrev pub request : Call → ℕ → ℕ → PacketCopy
request call number to = record { number = record { 0 = number }; tx = call.tx; from = call.from; to = to; reply = false; late = false; about = call.about }

-- the packet of a call's reply
abbrev pub reply_to : Call → ℕ → PacketCopy
reply_to call number = record { number = record { 0 = number }; tx = call.tx; from = call.owner; to = call.from; reply = true; late = false; about = call.about }

-- the machine after copies of so many packets went in flight
abbrev pub flown : List PacketCopy → ℕ → Machine → Machine
flown copies packets machine = record machine { copies = machine.copies ++ copies; next_copy = machine.next_copy + 2 * packets }

-- a receiver that was handed nothing
abbrev pub fresh : ℕ → Receiver
fresh kernel = record { kernel = kernel; part = Waiting }

-- a new call of a machine
abbrev pub new_call : Machine → ℕ → ℕ → List ℕ → ℕ → List ℕ → Tries → Option (ℕ × ℕ) → ℕ → Call
new_call machine from port servers owner body tries about before = record {
  tx = record { 0 = machine.begun + 1 };
  from = from;
  port = port;
  owner = owner;
  tries = tries;
  lost = 0;
  before = before;
  about = about;
  receivers = map fresh servers;
  body = body;
  reply = None;
}

-- the machine after a call was begun and its request was sent to receivers, with these fates
abbrev pub begun : Call → List (ℕ × Fate) → Machine → Machine
begun call sent machine = flown (requests (request call machine.next_copy call.owner) machine.next_copy sent) (length sent) (record machine { begun = machine.begun + 1; unfinished = machine.unfinished ++ call ∷ [] })

-- what a request is to a receiver that has answered, by the kept reply
abbrev pub arrival_again : Option (List ℕ) → Arrival
arrival_again None = Past
arrival_again (Some reply) = AskedAgain

-- what a request is to a receiver, by how far that is
abbrev pub arrival_at : Option Part → Option (List ℕ) → Arrival
arrival_at None reply = Past
arrival_at (Some Waiting) reply = FirstRequest
arrival_at (Some Holding) reply = Past
arrival_at (Some Silent) reply = Past
arrival_at (Some Answered) reply = arrival_again reply

-- what a reply is to the caller
abbrev pub arrival_back : Option (List ℕ) → Arrival
arrival_back None = Past
arrival_back (Some reply) = FirstReply

-- what a copy is to its receiver, by its unfinished call
abbrev pub arrival_of : PacketCopy → Option Call → Arrival
arrival_of copy None = Past
arrival_of copy (Some call) = if copy.reply then arrival_back call.reply else arrival_at (part_of copy.to call.receivers) call.reply

-- what a copy in flight is to its receiver
abbrev pub arrival : Machine → PacketCopy → Arrival
arrival machine copy = arrival_of copy (call_of machine copy.tx)

-- the machine without the copy that came to its receiver
abbrev pub landed : PacketCopy → Machine → Machine
landed copy machine = record machine { copies = less (is_copy copy.number) machine.copies }

-- the machine after a change of one unfinished call
abbrev pub with_call : TxNo → (Call → Call) → Machine → Machine
with_call tx change machine = record machine { unfinished = changed (is_call tx) change machine.unfinished }

-- the machine after a call was finished
abbrev pub finished : TxNo → Machine → Machine
finished tx machine = record machine { unfinished = less (is_call tx) machine.unfinished }

-- the call after a receiver got further
abbrev pub further : ℕ → Part → Call → Call
further kernel part call = record call { receivers = with_part kernel part call.receivers }

-- the call after its owner answered
abbrev pub answered : List ℕ → Call → Call
answered reply call = record call { receivers = with_part call.owner Answered call.receivers; reply = Some reply }

-- the machine after a looked-up call's reply was sent, with that fate
abbrev pub replied : Option Call → Fate → Machine → Machine
replied None given machine = machine
replied (Some call) given machine = flown (copies_by given (reply_to call machine.next_copy)) 1 machine

-- the machine after a copy came that was that to its receiver; the fate is that of the kept reply, where that was sent again
abbrev pub delivered_as : Arrival → PacketCopy → Fate → Machine → Machine
delivered_as FirstRequest copy given machine = with_call copy.tx (further copy.to Holding) machine
delivered_as FirstReply copy given machine = finished copy.tx machine
delivered_as AskedAgain copy given machine = replied (call_of machine copy.tx) given machine
delivered_as Past copy given machine = machine

-- the machine after a copy came to its receiver
abbrev pub delivered : PacketCopy → Fate → Machine → Machine
delivered copy fate machine = delivered_as (arrival machine copy) copy fate (landed copy machine)

-- the machine after the owner of a call answered, with the fate of the reply
abbrev pub answer : TxNo → List ℕ → Fate → Machine → Machine
answer tx reply fate machine = with_call tx (answered reply) (replied (call_of machine tx) fate machine)

-- the machine after a receiver went silent
abbrev pub silent : TxNo → ℕ → Machine → Machine
silent tx kernel machine = with_call tx (further kernel Silent) machine

-- whether a lost try is a call's last one
abbrev pub is_last_of : Tries → ℕ → Bool
is_last_of Eight lost = nat_le 7 lost
is_last_of Always lost = false

-- whether the call's next lost try is its last one
abbrev pub is_last : Call → Bool
is_last call = is_last_of call.tries call.lost

-- how many tries were lost after one more that wasn't the last one
abbrev pub lost_more : Tries → ℕ → ℕ
lost_more Eight lost = min (lost + 1) 7
lost_more Always lost = lost

-- the call after one more lost try
abbrev pub tried : Call → Call
tried call = record call { lost = lost_more call.tries call.lost }

-- the machine after a looked-up call was sent again to its receivers, with these fates
abbrev pub resent : TxNo → Option Call → List (ℕ × Fate) → Machine → Machine
resent tx None sent machine = machine
resent tx (Some call) sent machine = flown (requests (request call machine.next_copy call.owner) machine.next_copy sent) (length sent) (with_call tx tried machine)

-- the machine after a call was given up
abbrev pub gave_up : TxNo → Machine → Machine
gave_up tx machine = record machine { unfinished = less (is_call tx) machine.unfinished; given_up = machine.given_up ++ tx ∷ [] }

-- whether that is what a receiver is with a call
abbrev pub is_holding : Part → Bool
is_holding Waiting = false
is_holding Holding = true
is_holding Silent = false
is_holding Answered = false

-- whether a kernel holds a looked-up request
abbrev pub holds : Option Part → Bool
holds None = false
holds (Some part) = is_holding part

-- whether a receiver has the call
abbrev pub is_taken : Call → Bool
is_taken call = not (is_some call.reply) && list_any (λ receiver. is_holding receiver.part) call.receivers

-- whether the timer of a call may fire: no copy of its packets is in flight, and no receiver has it
abbrev pub is_due : List PacketCopy → Call → Bool
is_due copies call = not (list_any (is_of_call call.tx) copies) && not (is_taken call)

-- whether a kernel began the call, and its timer may fire
abbrev pub is_due_at : ℕ → List PacketCopy → Call → Bool
is_due_at kernel copies call = (call.from == kernel) && is_due copies call

-- the calls that a kernel began whose timer may fire, in ascending order
abbrev pub due_of : Machine → ℕ → List TxNo
due_of machine kernel = map (λ (call : Call). call.tx) (filter (is_due_at kernel machine.copies) machine.unfinished)

-- whether a looked-up call's timer may fire
abbrev pub may_fire : List PacketCopy → Option Call → Bool
may_fire copies None = false
may_fire copies (Some call) = is_due copies call

-- whether the timer of the call of that number may fire
abbrev pub may_expire : Machine → TxNo → Bool
may_expire machine tx = may_fire machine.copies (call_of machine tx)

-- whether nothing moves: no copy is in flight, and no timer may fire
abbrev pub is_quiet : Machine → Bool
is_quiet machine = (length machine.copies == 0) && not (list_any (is_due machine.copies) machine.unfinished)

-- whether a copy for a kernel isn't late
abbrev pub is_punctual : ℕ → PacketCopy → Bool
is_punctual kernel copy = (copy.to == kernel) && not copy.late

-- whether a copy may come to a kernel next: a late one only where every copy for it is late
abbrev pub may_come : ℕ → Bool → PacketCopy → Bool
may_come kernel punctual copy = (copy.to == kernel) && (not copy.late || not punctual)

-- the copies that may come to a kernel next, in the order of sending
abbrev pub offered : Machine → ℕ → List CopyNo
offered machine kernel = map (λ (copy : PacketCopy). copy.number) (filter (may_come kernel (list_any (is_punctual kernel) machine.copies)) machine.copies)

-- whether the call is one of that kernel and port
abbrev pub is_at_port : ℕ → ℕ → Call → Bool
is_at_port kernel port call = (call.from == kernel) && (call.port == port)

-- whether a kernel has no unfinished call at that port
abbrev pub is_free : Machine → ℕ → ℕ → Bool
is_free machine kernel port = not (list_any (is_at_port kernel port) machine.unfinished)

-- the part of a looked-up call at a kernel
abbrev pub part_in : ℕ → Option Call → Option Part
part_in kernel None = None
part_in kernel (Some call) = part_of kernel call.receivers

-- whether a kernel has the request of that call
abbrev pub is_held : Machine → TxNo → ℕ → Bool
is_held machine tx kernel = holds (part_in kernel (call_of machine tx))

-- whether a kernel is the one that is to answer a looked-up call
abbrev pub is_owner : ℕ → Option Call → Bool
is_owner kernel None = false
is_owner kernel (Some call) = call.owner == kernel

-- the kernel that is to answer a looked-up call
abbrev pub owner_of : Option Call → ℕ
owner_of None = 0
owner_of (Some call) = call.owner

-- whether the owner of the call has its request, and so may answer
abbrev pub may_answer : Machine → TxNo → Bool
may_answer machine tx = is_held machine tx (owner_of (call_of machine tx))

-- whether the kernel has the request of the call and isn't the one that is to answer it
abbrev pub may_be_silent : Machine → TxNo → ℕ → Bool
may_be_silent machine tx kernel = is_held machine tx kernel && not (is_owner kernel (call_of machine tx))
