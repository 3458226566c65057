-- A file that is open is opened again with truncation: nobody caches it any more.
use Rattle.std.specs.Prelude.{List, [], ◌∷◌, None, codes}
use Rattle.sprite_ids.specs.declared.names.Mode.TheVariants as mode
use Rattle.sprite_ids.specs.declared.caching.CacheMode.TheVariants as cache
use Rattle.sprite_ids.specs.declared.caching.CallKind.TheVariants as kind
use Rattle.process_machine.specs.declared.instruction.Operand.TheVariants.{Number}
use Rattle.process_machine.specs.declared.instruction.SyscallName.TheVariants as name
use Rattle.process_machine.specs.declared.call.Call.TheVariants as call
use Rattle.process_machine.specs.declared.call.Reply.TheVariants.{Value}
use Rattle.unix_calls.specs.declared.description.Description.{Description}
use Rattle.unix_calls.specs.declared.event.SendKind.TheVariants as send
use Rattle.unix_calls.specs.declared.event.DropCause.TheVariants as cause
use Rattle.unix_calls.specs.declared.event.Event.TheVariants as event
use Rattle.unix_calls.specs.declared.event.Rec.{Rec}
use Rattle.unix_calls.specs.Answers.{value, nothing}
use Rattle.unix_calls.specs.Examples.{sys, text_at}
use Rattle.call_journal.specs.Examples.{one_program, at, file, stream, block, call_of, enters, sends, takes, takes_reply, instead, before}

abbrev pub truncated_cluster : Description
truncated_cluster =
    one_program
    (text_at 0 (codes "/f") ∷ [])
    (sys name.Open (Number 0 ∷ Number 2 ∷ Number 1 ∷ []) ∷
    sys name.Read (Number 0 ∷ Number 16 ∷ Number 1 ∷ []) ∷
    sys name.Open (Number 0 ∷ Number 2 ∷ Number 10 ∷ []) ∷
    sys name.Exit (Number 0 ∷ []) ∷ [])

abbrev pub truncated_trace : List Rec
truncated_trace =
    at 1 (event.Burst 1001 0) ∷
    at 1 (event.Issue 1001 1 (call.OpenFile (codes "/f") 1)) ∷
    at 1 (sends 1 3 (call_of 1001 1) (send.Broadcast [])) ∷
    at 3 (takes 1 1 None) ∷
    at 1 (takes_reply 1 3 None) ∷
    at 1 (event.Learned [] 3) ∷
    at 1 (sends 2 3 (call_of 1001 1) send.Other) ∷
    at 3 (takes 2 1 None) ∷
    at 1 (takes_reply 2 3 None) ∷
    at 1 (sends 3 3 (call_of 1001 1) send.Other) ∷
    at 3 (takes 3 1 (call_of 1001 1)) ∷
    at 3 (event.Grant (file 3 1) 1 1 cache.On) ∷
    at 3 (event.Opened (file 3 1) (stream 1 1) 1 mode.Read) ∷
    at 3 (enters 1001 1 (call.OpenFile (codes "/f") 1) nothing) ∷
    at 1 (takes_reply 3 3 (call_of 1001 1)) ∷
    at 1 (event.Mode (file 3 1) 1 cache.On) ∷
    at 1 (event.Return 1001 1 nothing) ∷
    at 1 (event.Burst 1001 0) ∷
    at 1 (event.Issue 1001 2 (call.Read 0 1)) ∷
    at 1 (sends 4 3 (call_of 1001 2) (send.Fetch (file 3 1) (block 0))) ∷
    at 3 (takes 4 1 None) ∷
    at 1 (takes_reply 4 3 None) ∷
    at 1 (event.Filled (file 3 1) (block 0)) ∷
    at 1 (enters 1001 2 (call.Read 0 1) (Value 1 0 (codes "h"))) ∷
    at 1 (event.Return 1001 2 (Value 1 0 (codes "h"))) ∷
    at 1 (event.Burst 1001 0) ∷
    at 1 (event.Issue 1001 3 (call.OpenFile (codes "/f") 10)) ∷
    at 1 (sends 5 3 (call_of 1001 3) send.Other) ∷
    at 3 (takes 5 1 None) ∷
    at 1 (takes_reply 5 3 None) ∷
    at 1 (sends 6 3 (call_of 1001 3) send.Other) ∷
    at 3 (takes 6 1 (call_of 1001 3)) ∷
    at 3 (event.Callback (file 3 1) 1 2 kind.Stop) ∷
    at 3 (sends 7 1 (call_of 1001 3) send.Other) ∷
    at 1 (takes 7 3 None) ∷
    at 1 (event.Mode (file 3 1) 2 cache.Off) ∷
    at 1 (event.Dropped (file 3 1) (block 0) cause.Stop) ∷
    at 3 (takes_reply 7 1 None) ∷
    at 3 (event.Grant (file 3 1) 1 3 cache.Off) ∷
    at 3 (event.Opened (file 3 1) (stream 1 2) 1 mode.Write) ∷
    at 3 (enters 1001 3 (call.OpenFile (codes "/f") 10) (value 1)) ∷
    at 1 (takes_reply 6 3 (call_of 1001 3)) ∷
    at 1 (event.Mode (file 3 1) 3 cache.Off) ∷
    at 1 (event.Return 1001 3 (value 1)) ∷
    at 1 (event.Burst 1001 0) ∷
    at 1 (event.Issue 1001 4 (call.Exit 0)) ∷
    at 1 (enters 1001 4 (call.Exit 0) nothing) ∷
    at 1 (sends 8 3 (call_of 1001 4) send.Other) ∷
    []

-- the same, and the second open truncates nothing
abbrev pub untruncated_trace : List Rec
untruncated_trace = instead 40 (at 3 (enters 1001 3 (call.OpenFile (codes "/f") 2) (value 1))) truncated_trace

-- the block is dropped behind the truncation, for its version
abbrev pub dropped_late_trace : List Rec
dropped_late_trace = before 41 (at 1 (event.Dropped (file 3 1) (block 0) cause.Version)) truncated_trace

-- the same, where the second open truncates nothing
abbrev pub undropped_trace : List Rec
undropped_trace = before 41 (at 1 (event.Dropped (file 3 1) (block 0) cause.Version)) untruncated_trace

-- the second open gets the stream number of the first one
abbrev pub same_number_trace : List Rec
same_number_trace = instead 39 (at 3 (event.Opened (file 3 1) (stream 1 1) 1 mode.Write)) truncated_trace
