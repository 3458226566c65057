-- What holds at each place of a run.
use Rattle.std.specs.Prelude.{◌≡◌, ℕ, ◌+◌, ◌*◌, ◌<◌, ◌≤◌, ◌==◌, Bool, true, false, ◌&&◌, ◌||◌, not, if◌then◌else◌, List, [], ◌∷◌, Option, Some, None}
use Rattle.std.specs.List.{list_any}
use Rattle.sprite_ids.specs.declared.CopyNo.{CopyNo}
use Rattle.sprite_ids.specs.declared.TxNo.{TxNo}
use Rattle.link_plan.specs.declared.Fate.{Fate}
use Rattle.link_plan.specs.declared.Fate.TheVariants.{Once, Lost, Twice, Late}
use Rattle.kernel_rpc.specs.declared.call.Arrival.{Arrival}
use Rattle.kernel_rpc.specs.declared.call.Arrival.TheVariants.{FirstRequest, FirstReply, AskedAgain, Past}
use Rattle.kernel_rpc.specs.declared.call.Call.{Call}
use Rattle.kernel_rpc.specs.declared.call.PacketCopy.{PacketCopy}
use Rattle.kernel_rpc.specs.Machine.{Machine, arrival, call_of, copy_of, idle, is_copy, is_last, may_expire, owner_of}
use Rattle.kernel_rpc.specs.Runs.{Act, Begin, Deliver, Answer, Silence, Expire, Counts, IsRun, after, gives_up, once_if}

-- the machine after a run
abbrev pub reached : Machine → List (Act × Counts) → Machine
reached machine [] = machine
reached machine (first ∷ rest) = reached (after machine first.0) rest

-- the copies' numbers rise, from the first number on, and are below the last one
abbrev pub AreNumbersRising : ℕ → List PacketCopy → ℕ → Type 0
AreNumbersRising first [] last = first ≤ last
AreNumbersRising first (copy ∷ rest) last = (first ≤ copy.number.0) × AreNumbersRising (copy.number.0 + 1) rest last

-- after each run the numbers of the copies in flight rise, and are below that of the next copy
abbrev pub CopiesDiffer : Type 0
CopiesDiffer = (steps : List (Act × Counts)) → AreNumbersRising 1 (reached idle steps).copies (reached idle steps).next_copy

-- a number that was given once and isn't in flight never is again, whatever is done
abbrev pub NumbersAreNew : Type 0
NumbersAreNew = (machine : Machine) (act : Act) (number : CopyNo) → number.0 < machine.next_copy → list_any (is_copy number) machine.copies ≡ false → (machine.next_copy ≤ (after machine act).next_copy) × (list_any (is_copy number) (after machine act).copies ≡ false)

-- whether the timer of the call of that number fires
abbrev pub expires : ℕ → Act → Bool
expires tx (Begin from port servers owner body tries about before sent) = false
expires tx (Deliver number given) = false
expires tx (Answer other body given) = false
expires tx (Silence other at) = false
expires tx (Expire other sent) = other.0 == tx

-- how often the timer of the call of that number fired
abbrev pub times_expired : ℕ → List Act → ℕ
times_expired tx [] = 0
times_expired tx (act ∷ rest) = if expires tx act then 1 + times_expired tx rest else times_expired tx rest

-- where a call is given up, its timer fired seven times before
abbrev pub AfterSeven : List Act → Machine → Act → Type 0
AfterSeven before machine act = (tx : ℕ) → gives_up tx machine act ≡ true → times_expired tx before ≡ 7

-- that of each step of a run
abbrev pub EachAfterSeven : List Act → Machine → List (Act × Counts) → Type 0
EachAfterSeven before machine [] = Unit {0}
EachAfterSeven before machine (first ∷ rest) = AfterSeven before machine first.0 × EachAfterSeven (first.0 ∷ before) (after machine first.0) rest

-- in each run, a call is given up exactly at the eighth time that its timer fires
abbrev pub GivenUpAtEighth : Type 0
GivenUpAtEighth = (counts : Counts) (steps : List (Act × Counts)) → IsRun idle counts steps → EachAfterSeven [] idle steps

-- whether a packet of that fate is lost
abbrev pub is_loss : Fate → Bool
is_loss Once = false
is_loss Lost = true
is_loss Twice = false
is_loss Late = false

-- whether a packet to that kernel is lost
abbrev pub loses_to : ℕ → List (ℕ × Fate) → Bool
loses_to kernel sent = list_any (λ (packet : ℕ × Fate). (packet.0 == kernel) && is_loss packet.1) sent

-- whether a copy is the request once more, after its receiver has answered it
abbrev pub is_asked_again : Arrival → Bool
is_asked_again FirstRequest = false
is_asked_again FirstReply = false
is_asked_again AskedAgain = true
is_asked_again Past = false

-- whether a looked-up copy has the reply to the call of that number sent again, which is lost
abbrev pub loses_again : ℕ → Machine → Fate → Option PacketCopy → Bool
loses_again tx machine given None = false
loses_again tx machine given (Some copy) = (copy.tx.0 == tx) && (is_asked_again (arrival machine copy) && is_loss given)

-- whether a packet between the caller and the owner of the call of that number was lost since its request was sent last, that
-- sending included: after an act, by whether one was before it
abbrev pub lost_since : ℕ → Machine → Act → Bool → Bool
lost_since tx machine (Begin from port servers owner body tries about before sent) was = if machine.begun + 1 == tx then loses_to owner sent else was
lost_since tx machine (Deliver number given) was = was || loses_again tx machine given (copy_of machine number)
lost_since tx machine (Answer key body given) was = was || ((key.0 == tx) && is_loss given)
lost_since tx machine (Silence key at) was = was
lost_since tx machine (Expire key sent) was = if key.0 == tx then loses_to (owner_of (call_of machine key)) sent else was

-- where the timer of a call may fire, one was
abbrev pub IsLostWhereDue : (ℕ → Bool) → Machine → Type 0
IsLostWhereDue lost machine = (tx : TxNo) → may_expire machine tx ≡ true → lost tx.0 ≡ true

-- that at each place of a run
abbrev pub EachLost : (ℕ → Bool) → Machine → List (Act × Counts) → Type 0
EachLost lost machine [] = IsLostWhereDue lost machine
EachLost lost machine (first ∷ rest) = IsLostWhereDue lost machine × EachLost (λ tx. lost_since tx machine first.0 (lost tx)) (after machine first.0) rest

-- in each run, where the timer of a call may fire, a packet between its caller and its owner was lost since its request was sent
-- last
abbrev pub LostBeforeExpiry : Type 0
LostBeforeExpiry = (counts : Counts) (steps : List (Act × Counts)) → IsRun idle counts steps → EachLost (λ tx. false) idle steps

-- how many items pass a test
abbrev pub how_many : {X : Type 0} → (X → Bool) → List X → ℕ
how_many p [] = 0
how_many p (x ∷ xs) = if p x then 1 + how_many p xs else how_many p xs

-- whether a copy is one of that call's request to that kernel
abbrev pub is_request_of : ℕ → ℕ → PacketCopy → Bool
is_request_of tx kernel copy = (copy.tx.0 == tx) && (not copy.reply && (copy.to == kernel))

-- whether a looked-up copy passes a test
abbrev pub passes : (PacketCopy → Bool) → Option PacketCopy → Bool
passes p None = false
passes p (Some copy) = p copy

-- whether a copy that passes the test comes to its receiver
abbrev pub brings : (PacketCopy → Bool) → Machine → Act → Bool
brings p machine (Begin from port servers owner body tries about before sent) = false
brings p machine (Deliver number given) = passes p (copy_of machine number)
brings p machine (Answer tx body given) = false
brings p machine (Silence tx at) = false
brings p machine (Expire tx sent) = false

-- whether the timer of a looked-up call of that number fires, and isn't its last one
abbrev pub sends_by : ℕ → TxNo → Option Call → Bool
sends_by tx key None = false
sends_by tx key (Some call) = (key.0 == tx) && not (is_last call)

-- whether the request of the call of that number is sent
abbrev pub sends : ℕ → Machine → Act → Bool
sends tx machine (Begin from port servers owner body tries about before sent) = machine.begun + 1 == tx
sends tx machine (Deliver number given) = false
sends tx machine (Answer key body given) = false
sends tx machine (Silence key at) = false
sends tx machine (Expire key sent) = sends_by tx key (call_of machine key)

-- how many steps of a run pass a test
abbrev pub times : (Machine → Act → Bool) → Machine → List (Act × Counts) → ℕ
times p machine [] = 0
times p machine (first ∷ rest) = once_if (p machine first.0) + times p (after machine first.0) rest

-- in each run, at most two copies of a call's request come to a kernel for each time that it was sent
abbrev pub TwoRequestsEach : Type 0
TwoRequestsEach = (counts : Counts) (steps : List (Act × Counts)) (tx kernel : ℕ) → IsRun idle counts steps → times (brings (is_request_of tx kernel)) idle steps ≤ 2 * times (sends tx) idle steps

-- whether a copy is one of that call's reply
abbrev pub is_reply_for : ℕ → PacketCopy → Bool
is_reply_for tx copy = (copy.tx.0 == tx) && copy.reply

-- whether a looked-up copy has the reply of the call of that number sent again
abbrev pub replies_again : ℕ → Machine → Option PacketCopy → Bool
replies_again tx machine None = false
replies_again tx machine (Some copy) = (copy.tx.0 == tx) && is_asked_again (arrival machine copy)

-- whether the reply of the call of that number is sent
abbrev pub replies : ℕ → Machine → Act → Bool
replies tx machine (Begin from port servers owner body tries about before sent) = false
replies tx machine (Deliver number given) = replies_again tx machine (copy_of machine number)
replies tx machine (Answer key body given) = key.0 == tx
replies tx machine (Silence key at) = false
replies tx machine (Expire key sent) = false

-- in each run, at most two copies of a call's reply come for each time that it was sent
abbrev pub TwoRepliesEach : Type 0
TwoRepliesEach = (counts : Counts) (steps : List (Act × Counts)) (tx : ℕ) → IsRun idle counts steps → times (brings (is_reply_for tx)) idle steps ≤ 2 * times (replies tx) idle steps

-- in each run, at most four copies of a call's reply come for each time that its request was sent
abbrev pub FourRepliesEach : Type 0
FourRepliesEach = (counts : Counts) (steps : List (Act × Counts)) (tx : ℕ) → IsRun idle counts steps → times (brings (is_reply_for tx)) idle steps ≤ 4 * times (sends tx) idle steps
