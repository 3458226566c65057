-- A child moves to another client, and shares a stream with its parent, which stays.
use Rattle.std.specs.Prelude.{List, [], ◌∷◌, None, codes}
use Rattle.sprite_ids.specs.declared.names.Mode.TheVariants as mode
use Rattle.sprite_ids.specs.declared.caching.CacheMode.TheVariants as cache
use Rattle.sprite_ids.specs.declared.caching.CallKind.TheVariants as kind
use Rattle.process_machine.specs.declared.instruction.Instruction.TheVariants.{Jne}
use Rattle.process_machine.specs.declared.instruction.Operand.TheVariants.{Number}
use Rattle.process_machine.specs.declared.instruction.SyscallName.TheVariants as name
use Rattle.process_machine.specs.declared.call.Call.TheVariants as call
use Rattle.process_machine.specs.declared.call.Reply.TheVariants.{Value}
use Rattle.unix_calls.specs.declared.description.Description.{Description}
use Rattle.unix_calls.specs.declared.event.SendKind.TheVariants as send
use Rattle.unix_calls.specs.declared.event.Event.TheVariants as event
use Rattle.unix_calls.specs.declared.event.Rec.{Rec}
use Rattle.unix_calls.specs.Answers.{value, nothing}
use Rattle.unix_calls.specs.Examples.{sys, text_at}
use Rattle.call_journal.specs.Examples.{one_program, at, file, stream, call_of, enters, sends, takes, takes_reply, without, instead, before}

abbrev pub parted_cluster : Description
parted_cluster =
    one_program
    (text_at 0 (codes "/f") ∷ text_at 8 (codes "c2") ∷ [])
    (sys name.Open (Number 0 ∷ Number 2 ∷ Number 1 ∷ []) ∷
    sys name.Fork ([]) ∷
    Jne 1 5 6 ∷
    sys name.Migrate (Number 8 ∷ Number 2 ∷ []) ∷
    sys name.Read (Number 0 ∷ Number 16 ∷ Number 1 ∷ []) ∷
    sys name.Exit (Number 0 ∷ []) ∷
    sys name.Wait ([]) ∷
    sys name.Read (Number 0 ∷ Number 16 ∷ Number 1 ∷ []) ∷
    sys name.Exit (Number 0 ∷ []) ∷ [])

abbrev pub parted_trace : List Rec
parted_trace =
    at 1 (event.Burst 1001 0) ∷
    at 1 (event.Issue 1001 1 (call.OpenFile (codes "/f") 1)) ∷
    at 1 (sends 1 3 (call_of 1001 1) (send.Broadcast [])) ∷
    at 3 (takes 1 1 None) ∷
    at 1 (takes_reply 1 3 None) ∷
    at 1 (event.Learned [] 3) ∷
    at 1 (sends 2 3 (call_of 1001 1) send.Other) ∷
    at 3 (takes 2 1 None) ∷
    at 1 (takes_reply 2 3 None) ∷
    at 1 (sends 3 3 (call_of 1001 1) send.Other) ∷
    at 3 (takes 3 1 (call_of 1001 1)) ∷
    at 3 (event.Grant (file 3 1) 1 1 cache.On) ∷
    at 3 (event.Opened (file 3 1) (stream 1 1) 1 mode.Read) ∷
    at 3 (enters 1001 1 (call.OpenFile (codes "/f") 1) nothing) ∷
    at 1 (takes_reply 3 3 (call_of 1001 1)) ∷
    at 1 (event.Mode (file 3 1) 1 cache.On) ∷
    at 1 (event.Return 1001 1 nothing) ∷
    at 1 (event.Burst 1001 0) ∷
    at 1 (event.Issue 1001 2 call.Fork) ∷
    at 1 (enters 1001 2 call.Fork (value 1002)) ∷
    at 1 (event.Return 1001 2 (value 1002)) ∷
    at 1 (event.Burst 1002 1) ∷
    at 1 (event.Issue 1002 1 (call.Migrate (codes "c2"))) ∷
    at 1 (event.Freeze 1002) ∷
    at 1 (enters 1002 1 (call.Migrate (codes "c2")) nothing) ∷
    at 1 (sends 4 3 None send.Other) ∷
    at 1 (sends 5 3 (call_of 1002 1) send.Other) ∷
    at 3 (takes 4 1 None) ∷
    at 1 (takes_reply 4 3 None) ∷
    at 1 (event.Burst 1001 1) ∷
    at 1 (event.Issue 1001 3 call.Wait) ∷
    at 3 (takes 5 1 None) ∷
    at 3 (event.Callback (file 3 1) 1 2 kind.Stop) ∷
    at 3 (sends 6 1 None send.Other) ∷
    at 1 (takes 6 3 None) ∷
    at 1 (event.Mode (file 3 1) 2 cache.Off) ∷
    at 3 (takes_reply 6 1 None) ∷
    at 3 (event.Shared (file 3 1) (stream 1 1)) ∷
    at 3 (event.Grant (file 3 1) 2 3 cache.Off) ∷
    at 3 (event.Opened (file 3 1) (stream 1 1) 2 mode.Read) ∷
    at 1 (takes_reply 5 3 None) ∷
    at 1 (sends 7 2 (call_of 1002 1) send.Other) ∷
    at 2 (takes 7 1 (call_of 1002 1)) ∷
    at 2 (event.Mode (file 3 1) 3 cache.Off) ∷
    at 2 (sends 8 1 None send.Other) ∷
    at 1 (takes 8 2 None) ∷
    at 2 (takes_reply 8 1 None) ∷
    at 2 (event.Thaw 1002) ∷
    at 2 (sends 9 3 None send.Other) ∷
    at 3 (takes 9 2 None) ∷
    at 1 (takes_reply 7 2 (call_of 1002 1)) ∷
    at 2 (takes_reply 9 3 None) ∷
    at 2 (event.Return 1002 1 nothing) ∷
    at 2 (event.Burst 1002 0) ∷
    at 2 (event.Issue 1002 2 (call.Read 0 1)) ∷
    at 2 (sends 10 3 (call_of 1002 2) (send.Op (file 3 1))) ∷
    at 3 (takes 10 2 (call_of 1002 2)) ∷
    at 3 (enters 1002 2 (call.Read 0 1) (Value 1 0 (codes "h"))) ∷
    at 2 (takes_reply 10 3 (call_of 1002 2)) ∷
    at 2 (event.Return 1002 2 (Value 1 0 (codes "h"))) ∷
    at 2 (event.Burst 1002 0) ∷
    at 2 (event.Issue 1002 3 (call.Exit 0)) ∷
    at 2 (sends 11 1 (call_of 1002 3) send.Other) ∷
    at 1 (takes 11 2 (call_of 1002 3)) ∷
    at 1 (enters 1002 3 (call.Exit 0) nothing) ∷
    at 1 (enters 1001 3 call.Wait (value 1002)) ∷
    at 1 (event.Return 1001 3 (value 1002)) ∷
    at 1 (event.Burst 1001 0) ∷
    at 1 (event.Issue 1001 4 (call.Read 0 1)) ∷
    at 1 (sends 12 3 (call_of 1001 4) (send.Op (file 3 1))) ∷
    at 2 (takes_reply 11 1 (call_of 1002 3)) ∷
    at 2 (sends 13 3 (call_of 1002 3) send.Other) ∷
    at 3 (takes 12 1 (call_of 1001 4)) ∷
    at 3 (enters 1001 4 (call.Read 0 1) (Value 1 0 (codes "i"))) ∷
    at 1 (takes_reply 12 3 (call_of 1001 4)) ∷
    at 1 (event.Return 1001 4 (Value 1 0 (codes "i"))) ∷
    at 1 (event.Burst 1001 0) ∷
    at 1 (event.Issue 1001 5 (call.Exit 0)) ∷
    at 1 (enters 1001 5 (call.Exit 0) nothing) ∷
    at 1 (sends 14 3 (call_of 1001 5) send.Other) ∷
    []

-- the parent's stream is closed directly behind the Opened, though the parent has it
abbrev pub parent_closed_trace : List Rec
parent_closed_trace = before 40 (at 3 (event.Closed (file 3 1) (stream 1 1) 1 mode.Read)) parted_trace

-- neither did the stream become shared, nor is its source closed
abbrev pub unparted_trace : List Rec
unparted_trace = without 37 parted_trace

-- the stream becomes shared for the open of its file
abbrev pub shared_by_open_trace : List Rec
shared_by_open_trace = before 11 (at 3 (event.Shared (file 3 1) (stream 1 1))) parted_trace

-- another stream moves than became shared
abbrev pub other_shared_trace : List Rec
other_shared_trace = instead 37 (at 3 (event.Shared (file 3 1) (stream 1 2))) parted_trace

-- the request of an operation carries no call, nor does its reply
abbrev pub operation_about_trace : List Rec
operation_about_trace = instead 56 (at 3 (takes 10 2 None)) (instead 58 (at 2 (takes_reply 10 3 None)) parted_trace)
