-- A process reads a file, makes a device and opens it; an open of a device is none of a file.
use Rattle.std.specs.Prelude.{List, [], ◌∷◌, None, codes}
use Rattle.sprite_ids.specs.declared.names.Mode.TheVariants as mode
use Rattle.sprite_ids.specs.declared.caching.CacheMode.TheVariants as cache
use Rattle.process_machine.specs.declared.instruction.Operand.TheVariants.{Number}
use Rattle.process_machine.specs.declared.instruction.SyscallName.TheVariants as name
use Rattle.process_machine.specs.declared.call.Call.TheVariants as call
use Rattle.process_machine.specs.declared.call.Reply.TheVariants.{Value}
use Rattle.unix_calls.specs.declared.description.Description.{Description}
use Rattle.unix_calls.specs.declared.event.SendKind.TheVariants as send
use Rattle.unix_calls.specs.declared.event.DropCause.TheVariants as cause
use Rattle.unix_calls.specs.declared.event.Event.TheVariants as event
use Rattle.unix_calls.specs.declared.event.Rec.{Rec}
use Rattle.unix_calls.specs.Answers.{value, nothing}
use Rattle.unix_calls.specs.Examples.{sys, text_at}
use Rattle.call_journal.specs.Examples.{one_program, at, file, stream, block, call_of, enters, sends, takes, takes_reply, before}

abbrev pub device_cluster : Description
device_cluster =
    one_program
    (text_at 0 (codes "/f") ∷ text_at 8 (codes "/d") ∷ [])
    (sys name.Open (Number 0 ∷ Number 2 ∷ Number 1 ∷ []) ∷
    sys name.Read (Number 0 ∷ Number 16 ∷ Number 1 ∷ []) ∷
    sys name.PdMake (Number 8 ∷ Number 2 ∷ []) ∷
    sys name.Open (Number 8 ∷ Number 2 ∷ Number 10 ∷ []) ∷
    sys name.Exit (Number 0 ∷ []) ∷ [])

abbrev pub device_trace : List Rec
device_trace =
    at 1 (event.Burst 1001 0) ∷
    at 1 (event.Issue 1001 1 (call.OpenFile (codes "/f") 1)) ∷
    at 1 (sends 1 3 (call_of 1001 1) (send.Broadcast [])) ∷
    at 3 (takes 1 1 None) ∷
    at 1 (takes_reply 1 3 None) ∷
    at 1 (event.Learned [] 3) ∷
    at 1 (sends 2 3 (call_of 1001 1) send.Other) ∷
    at 3 (takes 2 1 None) ∷
    at 1 (takes_reply 2 3 None) ∷
    at 1 (sends 3 3 (call_of 1001 1) send.Other) ∷
    at 3 (takes 3 1 (call_of 1001 1)) ∷
    at 3 (event.Grant (file 3 1) 1 1 cache.On) ∷
    at 3 (event.Opened (file 3 1) (stream 1 1) 1 mode.Read) ∷
    at 3 (enters 1001 1 (call.OpenFile (codes "/f") 1) nothing) ∷
    at 1 (takes_reply 3 3 (call_of 1001 1)) ∷
    at 1 (event.Mode (file 3 1) 1 cache.On) ∷
    at 1 (event.Return 1001 1 nothing) ∷
    at 1 (event.Burst 1001 0) ∷
    at 1 (event.Issue 1001 2 (call.Read 0 1)) ∷
    at 1 (sends 4 3 (call_of 1001 2) (send.Fetch (file 3 1) (block 0))) ∷
    at 3 (takes 4 1 None) ∷
    at 1 (takes_reply 4 3 None) ∷
    at 1 (event.Filled (file 3 1) (block 0)) ∷
    at 1 (enters 1001 2 (call.Read 0 1) (Value 1 0 (codes "h"))) ∷
    at 1 (event.Return 1001 2 (Value 1 0 (codes "h"))) ∷
    at 1 (event.Burst 1001 0) ∷
    at 1 (event.Issue 1001 3 (call.PdMake (codes "/d"))) ∷
    at 1 (sends 5 3 (call_of 1001 3) send.Other) ∷
    at 3 (takes 5 1 None) ∷
    at 1 (takes_reply 5 3 None) ∷
    at 1 (sends 6 3 (call_of 1001 3) send.Other) ∷
    at 3 (takes 6 1 (call_of 1001 3)) ∷
    at 3 (enters 1001 3 (call.PdMake (codes "/d")) (value 1)) ∷
    at 1 (takes_reply 6 3 (call_of 1001 3)) ∷
    at 1 (event.Return 1001 3 (value 1)) ∷
    at 1 (event.Burst 1001 0) ∷
    at 1 (event.Issue 1001 4 (call.OpenFile (codes "/d") 10)) ∷
    at 1 (sends 7 3 (call_of 1001 4) send.Other) ∷
    at 3 (takes 7 1 None) ∷
    at 1 (takes_reply 7 3 None) ∷
    at 1 (sends 8 3 (call_of 1001 4) send.Other) ∷
    at 3 (takes 8 1 (call_of 1001 4)) ∷
    at 3 (enters 1001 4 (call.OpenFile (codes "/d") 10) (value 2)) ∷
    at 1 (takes_reply 8 3 (call_of 1001 4)) ∷
    at 1 (event.Return 1001 4 (value 2)) ∷
    at 1 (event.Burst 1001 0) ∷
    at 1 (event.Issue 1001 5 (call.Exit 0)) ∷
    at 1 (enters 1001 5 (call.Exit 0) nothing) ∷
    at 1 (sends 9 3 (call_of 1001 5) send.Other) ∷
    []

-- the device's open, which asks for a truncation, stands directly behind an Opened of the file
abbrev pub device_opened_trace : List Rec
device_opened_trace =
    before 42 (at 3 (event.Grant (file 3 1) 1 2 cache.Off))
    (before 42 (at 3 (event.Opened (file 3 1) (stream 1 1) 1 mode.Read)) device_trace)

-- and behind it the file's block is dropped for its version
abbrev pub device_dropped_trace : List Rec
device_dropped_trace = before 45 (at 1 (event.Dropped (file 3 1) (block 0) cause.Version)) device_opened_trace
