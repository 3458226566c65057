-- Runs of the wire: any list of its calls, over any link.
use Rattle.std.specs.Prelude.{◌≡◌, ℕ, ◌+◌, ◌≤◌, ◌==◌, Bool, true, false, ◌&&◌, if◌then◌else◌, List, [], ◌∷◌, map, Option, Some, None, is_some}
use Rattle.std.specs.List.{list_any}
use Rattle.sprite_ids.specs.declared.TxNo.{TxNo}
use Rattle.sprite_ids.specs.declared.CopyNo.{CopyNo}
use Rattle.sprite_ids.specs.declared.Tries.{Tries}
use Rattle.sprite_ids.specs.declared.Tries.TheVariants.{Eight}
use Rattle.link_plan.specs.declared.Fate.{Fate}
use Rattle.link_plan.specs.Counts.{Asks}
use Rattle.kernel_rpc.specs.declared.call.Arrival.{Arrival}
use Rattle.kernel_rpc.specs.declared.call.Arrival.TheVariants.{FirstRequest, FirstReply, AskedAgain, Past}
use Rattle.kernel_rpc.specs.declared.call.Call.{Call}
use Rattle.kernel_rpc.specs.declared.call.PacketCopy.{PacketCopy}
use Rattle.kernel_rpc.specs.Machine.{Machine, answer, arrival, begun, call_of, copy_of, delivered, gave_up, idle, is_free, is_last, may_answer, may_be_silent, may_expire, new_call, resent, silent}
use Rattle.kernel_rpc.specs.Links.{AsksAll, AsksBack}
use Rattle.kernel_rpc.specs.Servers.{AreApart}

-- what a link counts: its faults, and how often it was asked
pub record Counts : Type 0 where
  pub faults : ℕ → ℕ → ℕ
  pub asked : ℕ → ℕ → ℕ

-- a call of the wire, with what the link answered in it
pub data Act : Type 0 where
  Begin : (from port : ℕ) (servers : List ℕ) (owner : ℕ) (body : List ℕ) (tries : Tries) (about : Option (ℕ × ℕ)) (before : ℕ) (sent : List (ℕ × Fate)) → Act
  Deliver : CopyNo → Fate → Act
  Answer : TxNo → List ℕ → Fate → Act
  Silence : TxNo → ℕ → Act
  Expire : TxNo → List (ℕ × Fate) → Act

-- the machine after a looked-up copy came to its receiver
abbrev pub delivered_by : Option PacketCopy → Fate → Machine → Machine
delivered_by None given machine = machine
delivered_by (Some copy) given machine = delivered copy given machine

-- the machine after the timer of a looked-up call fired
abbrev pub expired_by : TxNo → Option Call → List (ℕ × Fate) → Machine → Machine
expired_by tx None sent machine = machine
expired_by tx (Some call) sent machine = if is_last call then gave_up tx machine else resent tx (Some call) sent machine

-- the machine after a call of the wire
abbrev pub after : Machine → Act → Machine
after machine (Begin from port servers owner body tries about before sent) = begun (new_call machine from port servers owner body tries about before) sent machine
after machine (Deliver number given) = delivered_by (copy_of machine number) given machine
after machine (Answer tx body given) = answer tx body given machine
after machine (Silence tx kernel) = silent tx kernel machine
after machine (Expire tx sent) = expired_by tx (call_of machine tx) sent machine

-- the link is asked about the reply where it is sent again, and else not
abbrev pub AsksOn : Arrival → Counts → Counts → Fate → Option Call → Type 0
AsksOn FirstRequest old new given call = old ≡ new
AsksOn FirstReply old new given call = old ≡ new
AsksOn AskedAgain old new given call = AsksBack (λ (counts : Counts). counts.faults) (λ (counts : Counts). counts.asked) old new given call
AsksOn Past old new given call = old ≡ new

-- a looked-up copy is in flight, and the link is asked as it is to its receiver
abbrev pub MayDeliver : Machine → Counts → Counts → Fate → Option PacketCopy → Type 0
MayDeliver machine old new given None = ⊥
MayDeliver machine old new given (Some copy) = AsksOn (arrival machine copy) old new given (call_of machine copy.tx)

-- a call is given up without asking, where this was its last try; else the link is asked about its request to each receiver
abbrev pub AsksUnless : Bool → Counts → Counts → List (ℕ × Fate) → Call → Type 0
AsksUnless true old new sent call = old ≡ new
AsksUnless false old new sent call = AsksAll (λ (counts : Counts). counts.faults) (λ (counts : Counts). counts.asked) old new sent (Some call)

-- and a looked-up one
abbrev pub AsksAgain : Counts → Counts → List (ℕ × Fate) → Option Call → Type 0
AsksAgain old new sent None = ⊥
AsksAgain old new sent (Some call) = AsksUnless (is_last call) old new sent call

-- the call may be made, and the link answers so in it
abbrev pub MayAct : Machine → Counts → Act → Counts → Type 0
MayAct machine old (Begin from port servers owner body tries about before sent) new = (list_any (λ server. server == from) servers ≡ false) × AreApart servers × (list_any (λ server. server == owner) servers ≡ true) × (is_free machine from port ≡ true) × (before ≡ old.faults from owner) × (map (λ (packet : ℕ × Fate). packet.0) sent ≡ servers) × Asks (λ (counts : Counts). counts.faults) (λ (counts : Counts). counts.asked) from old new sent
MayAct machine old (Deliver number given) new = MayDeliver machine old new given (copy_of machine number)
MayAct machine old (Answer tx body given) new = (may_answer machine tx ≡ true) × AsksBack (λ (counts : Counts). counts.faults) (λ (counts : Counts). counts.asked) old new given (call_of machine tx)
MayAct machine old (Silence tx kernel) new = (may_be_silent machine tx kernel ≡ true) × (old ≡ new)
MayAct machine old (Expire tx sent) new = (may_expire machine tx ≡ true) × AsksAgain old new sent (call_of machine tx)

-- a run: calls of the wire, one after the other, each with the link's counts after it
abbrev pub IsRun : Machine → Counts → List (Act × Counts) → Type 0
IsRun machine counts [] = Unit {0}
IsRun machine counts (first ∷ rest) = MayAct machine counts first.0 first.1 × IsRun (after machine first.0) first.1 rest

-- whether a copy is the request for the first time
abbrev pub is_first_request : Arrival → Bool
is_first_request FirstRequest = true
is_first_request FirstReply = false
is_first_request AskedAgain = false
is_first_request Past = false

-- whether a copy is the reply for the first time
abbrev pub is_first_reply : Arrival → Bool
is_first_reply FirstRequest = false
is_first_reply FirstReply = true
is_first_reply AskedAgain = false
is_first_reply Past = false

-- whether a looked-up copy of the call is handed to that kernel as its request
abbrev pub is_request_to : ℕ → ℕ → Machine → Option PacketCopy → Bool
is_request_to tx kernel machine None = false
is_request_to tx kernel machine (Some copy) = (copy.tx.0 == tx) && ((copy.to == kernel) && is_first_request (arrival machine copy))

-- whether a looked-up copy of the call is handed to its caller as the reply
abbrev pub is_reply_to : ℕ → Machine → Option PacketCopy → Bool
is_reply_to tx machine None = false
is_reply_to tx machine (Some copy) = (copy.tx.0 == tx) && is_first_reply (arrival machine copy)

-- whether the request of the call of that number is handed to that kernel
abbrev pub hands_request : ℕ → ℕ → Machine → Act → Bool
hands_request tx kernel machine (Begin from port servers owner body tries about before sent) = false
hands_request tx kernel machine (Deliver number given) = is_request_to tx kernel machine (copy_of machine number)
hands_request tx kernel machine (Answer other body given) = false
hands_request tx kernel machine (Silence other at) = false
hands_request tx kernel machine (Expire other sent) = false

-- whether the reply to the call of that number is handed to its caller
abbrev pub hands_reply : ℕ → Machine → Act → Bool
hands_reply tx machine (Begin from port servers owner body tries about before sent) = false
hands_reply tx machine (Deliver number given) = is_reply_to tx machine (copy_of machine number)
hands_reply tx machine (Answer other body given) = false
hands_reply tx machine (Silence other at) = false
hands_reply tx machine (Expire other sent) = false

-- 1 for yes
abbrev pub once_if : Bool → ℕ
once_if true = 1
once_if false = 0

-- how often a run hands the request of a call to a kernel
abbrev pub times_requested : ℕ → ℕ → Machine → List (Act × Counts) → ℕ
times_requested tx kernel machine [] = 0
times_requested tx kernel machine (first ∷ rest) = once_if (hands_request tx kernel machine first.0) + times_requested tx kernel (after machine first.0) rest

-- how often a run hands the reply to a call to its caller
abbrev pub times_replied : ℕ → Machine → List (Act × Counts) → ℕ
times_replied tx machine [] = 0
times_replied tx machine (first ∷ rest) = once_if (hands_reply tx machine first.0) + times_replied tx (after machine first.0) rest

-- a request is handed to a receiver at most once, whatever calls are made and whatever the link answers
abbrev pub RequestsAtMostOnce : Type 0
RequestsAtMostOnce = (steps : List (Act × Counts)) (tx kernel : ℕ) → times_requested tx kernel idle steps ≤ 1

-- a reply is handed to its caller at most once, likewise
abbrev pub RepliesAtMostOnce : Type 0
RepliesAtMostOnce = (steps : List (Act × Counts)) (tx : ℕ) → times_replied tx idle steps ≤ 1

-- whether that call is the one that is given up
abbrev pub gives_up_by : ℕ → TxNo → Option Call → Bool
gives_up_by tx key None = false
gives_up_by tx key (Some call) = (key.0 == tx) && is_last call

-- whether the call of that number is given up
abbrev pub gives_up : ℕ → Machine → Act → Bool
gives_up tx machine (Begin from port servers owner body tries about before sent) = false
gives_up tx machine (Deliver number given) = false
gives_up tx machine (Answer other body given) = false
gives_up tx machine (Silence other at) = false
gives_up tx machine (Expire other sent) = gives_up_by tx other (call_of machine other)

-- an unfinished call stays until its reply is handed out or it is given up
abbrev pub StaysUntilAnswered : Type 0
StaysUntilAnswered = (machine : Machine) (act : Act) (tx : ℕ) → is_some (call_of machine (record { 0 = tx })) ≡ true → hands_reply tx machine act ≡ false → gives_up tx machine act ≡ false → is_some (call_of (after machine act) (record { 0 = tx })) ≡ true

-- a looked-up call that is given up is an echo or a broadcast, and between the counts of faults as it began and now are at least eight
abbrev pub IsForCause : (ℕ → ℕ → ℕ) → Option Call → Type 0
IsForCause faults None = Unit {0}
IsForCause faults (Some call) = is_last call ≡ true → (call.tries ≡ Eight) × (call.before + 8 ≤ faults call.from call.owner)

-- that of one step
abbrev pub GivesUpForCause : Machine → Counts → Act → Type 0
GivesUpForCause machine counts (Begin from port servers owner body tries about before sent) = Unit {0}
GivesUpForCause machine counts (Deliver number given) = Unit {0}
GivesUpForCause machine counts (Answer tx body given) = Unit {0}
GivesUpForCause machine counts (Silence tx at) = Unit {0}
GivesUpForCause machine counts (Expire tx sent) = IsForCause counts.faults (call_of machine tx)

-- and of each step of a run
abbrev pub EachForCause : Machine → Counts → List (Act × Counts) → Type 0
EachForCause machine counts [] = Unit {0}
EachForCause machine counts (first ∷ rest) = GivesUpForCause machine counts first.0 × EachForCause (after machine first.0) first.1 rest

-- in each run, a call is given up only after eight lost tries of an echo or a broadcast
abbrev pub GivenUpForCause : Type 0
GivenUpForCause = (counts : Counts) (steps : List (Act × Counts)) → IsRun idle counts steps → EachForCause idle counts steps
