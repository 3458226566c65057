-- Pieces of traces: about the limits of tries, a kill that comes twice, what a request is sent for, and what nothing forbids.
use Rattle.std.specs.Prelude.{List, [], ◌∷◌, Option, None, codes}
use Rattle.link_plan.specs.declared.plan.Fate.TheVariants as fate
use Rattle.process_machine.specs.declared.instruction.Operand.TheVariants.{Number}
use Rattle.process_machine.specs.declared.instruction.SyscallName.TheVariants as name
use Rattle.process_machine.specs.declared.call.Call.TheVariants as call
use Rattle.unix_calls.specs.declared.description.Description.{Description}
use Rattle.unix_calls.specs.declared.event.About.{About}
use Rattle.unix_calls.specs.declared.event.SendKind.{SendKind}
use Rattle.unix_calls.specs.declared.event.SendKind.TheVariants as send
use Rattle.unix_calls.specs.declared.event.Event.TheVariants as event
use Rattle.unix_calls.specs.declared.event.Rec.{Rec}
use Rattle.unix_calls.specs.Answers.{nothing}
use Rattle.unix_calls.specs.Examples.{sys, text_at}
use Rattle.call_journal.specs.Examples.{one_program, at, file, block, call_of, enters, sends, takes, tries_again, ends_tries, without}

abbrev pub limited_cluster : Description
limited_cluster = one_program (text_at 0 (codes "/f") ∷ []) (sys name.Open (Number 0 ∷ Number 2 ∷ Number 1 ∷ []) ∷ [])

-- eight tries for the sake of a name call, each lost, and the eighth isn't the last; to the client
abbrev pub tries_to_client : List Rec
tries_to_client =
    at 1 (event.Issue 1001 1 (call.OpenFile (codes "/f") 1)) ∷
    at 1 (sends 1 2 (call_of 1001 1) send.Other) ∷
    at 1 (event.Fault 1 2 fate.Lost) ∷
    at 1 (tries_again 1) ∷
    at 1 (event.Fault 1 2 fate.Lost) ∷
    at 1 (tries_again 1) ∷
    at 1 (event.Fault 1 2 fate.Lost) ∷
    at 1 (tries_again 1) ∷
    at 1 (event.Fault 1 2 fate.Lost) ∷
    at 1 (tries_again 1) ∷
    at 1 (event.Fault 1 2 fate.Lost) ∷
    at 1 (tries_again 1) ∷
    at 1 (event.Fault 1 2 fate.Lost) ∷
    at 1 (tries_again 1) ∷
    at 1 (event.Fault 1 2 fate.Lost) ∷
    at 1 (tries_again 1) ∷
    at 1 (event.Fault 1 2 fate.Lost) ∷
    at 1 (tries_again 1) ∷
    []

-- the same to the server, as an echo goes
abbrev pub tries_to_server : List Rec
tries_to_server =
    at 1 (event.Issue 1001 1 (call.OpenFile (codes "/f") 1)) ∷
    at 1 (sends 1 3 (call_of 1001 1) send.Other) ∷
    at 1 (event.Fault 1 3 fate.Lost) ∷
    at 1 (tries_again 1) ∷
    at 1 (event.Fault 1 3 fate.Lost) ∷
    at 1 (tries_again 1) ∷
    at 1 (event.Fault 1 3 fate.Lost) ∷
    at 1 (tries_again 1) ∷
    at 1 (event.Fault 1 3 fate.Lost) ∷
    at 1 (tries_again 1) ∷
    at 1 (event.Fault 1 3 fate.Lost) ∷
    at 1 (tries_again 1) ∷
    at 1 (event.Fault 1 3 fate.Lost) ∷
    at 1 (tries_again 1) ∷
    at 1 (event.Fault 1 3 fate.Lost) ∷
    at 1 (tries_again 1) ∷
    at 1 (event.Fault 1 3 fate.Lost) ∷
    at 1 (tries_again 1) ∷
    []

-- the last try of a first send, and then a second send for the sake of that call; both go to the client
abbrev pub sent_on_to_client : List Rec
sent_on_to_client =
    at 1 (event.Issue 1001 1 (call.OpenFile (codes "/f") 1)) ∷
    at 1 (sends 1 2 (call_of 1001 1) send.Other) ∷
    at 1 (event.Fault 1 2 fate.Lost) ∷
    at 1 (ends_tries 1) ∷
    at 1 (sends 2 2 (call_of 1001 1) send.Other) ∷
    []

-- a kill of a process that is away: its kernel is told, and first takes the request while the process is on its way, then a copy
-- of it when the process is back
abbrev pub killed_away : List Rec
killed_away =
    at 1 (event.Freeze 1001) ∷
    at 2 (event.Thaw 1001) ∷
    at 1 (enters 1002 1 (call.Kill 1001) nothing) ∷
    at 1 (sends 1 2 (call_of 1002 1) send.Other) ∷
    at 2 (event.Freeze 1001) ∷
    at 2 (takes 1 1 (call_of 1002 1)) ∷
    at 2 (event.Thaw 1001) ∷
    at 2 (takes 1 1 (call_of 1002 1)) ∷
    at 2 (event.Issue 1001 1 (call.OpenFile (codes "/f") 1)) ∷
    []

-- the request is first taken where the process is
abbrev pub killed_there : List Rec
killed_there = without 4 (without 6 killed_away)

-- a request of that kind goes to the server, for the sake of that call or of none
abbrev pub sent_for : Option About → SendKind → List Rec
sent_for about kind = at 1 (sends 1 3 about kind) ∷ []

-- an operation, a fetch and a write-back of the server's file, and a broadcast
abbrev pub an_operation : SendKind
an_operation = send.Op (file 3 1)

abbrev pub a_fetch : SendKind
a_fetch = send.Fetch (file 3 1) (block 0)

abbrev pub a_write_back : SendKind
a_write_back = send.WriteBack (file 3 1) (block 0)

abbrev pub a_broadcast : SendKind
a_broadcast = send.Broadcast []

-- instructions of a process that was never born
abbrev pub unborn_burst : List Rec
unborn_burst = at 1 (event.Burst 1005 10000) ∷ []

-- a packet to its own kernel
abbrev pub sent_to_itself : List Rec
sent_to_itself = at 1 (sends 1 1 None send.Other) ∷ at 1 (takes 1 1 None) ∷ []
