-- A process moves to another client, and takes its open stream along.
use Rattle.std.specs.Prelude.{List, [], ◌∷◌, ◌++◌, None, codes}
use Rattle.sprite_ids.specs.declared.names.Mode.TheVariants as mode
use Rattle.sprite_ids.specs.declared.caching.CacheMode.TheVariants as cache
use Rattle.process_machine.specs.declared.instruction.Operand.TheVariants.{Number}
use Rattle.process_machine.specs.declared.instruction.SyscallName.TheVariants as name
use Rattle.process_machine.specs.declared.call.Call.TheVariants as call
use Rattle.process_machine.specs.declared.call.Reply.TheVariants.{Value}
use Rattle.unix_calls.specs.declared.description.Description.{Description}
use Rattle.unix_calls.specs.declared.event.SendKind.TheVariants as send
use Rattle.unix_calls.specs.declared.event.Event.TheVariants as event
use Rattle.unix_calls.specs.declared.event.Rec.{Rec}
use Rattle.unix_calls.specs.Answers.{nothing}
use Rattle.unix_calls.specs.Examples.{sys, text_at}
use Rattle.call_journal.specs.Examples.{one_program, at, file, stream, block, call_of, enters, sends, takes, takes_reply, without, instead, before}

abbrev pub moved_cluster : Description
moved_cluster =
    one_program
    (text_at 0 (codes "/f") ∷ text_at 8 (codes "c2") ∷ [])
    (sys name.Open (Number 0 ∷ Number 2 ∷ Number 1 ∷ []) ∷
    sys name.Migrate (Number 8 ∷ Number 2 ∷ []) ∷
    sys name.Read (Number 0 ∷ Number 16 ∷ Number 1 ∷ []) ∷
    sys name.Exit (Number 0 ∷ []) ∷ [])

abbrev pub moved_trace : List Rec
moved_trace =
    at 1 (event.Burst 1001 0) ∷
    at 1 (event.Issue 1001 1 (call.OpenFile (codes "/f") 1)) ∷
    at 1 (sends 1 3 (call_of 1001 1) (send.Broadcast [])) ∷
    at 3 (takes 1 1 None) ∷
    at 1 (takes_reply 1 3 None) ∷
    at 1 (event.Learned [] 3) ∷
    at 1 (sends 2 3 (call_of 1001 1) send.Other) ∷
    at 3 (takes 2 1 None) ∷
    at 1 (takes_reply 2 3 None) ∷
    at 1 (sends 3 3 (call_of 1001 1) send.Other) ∷
    at 3 (takes 3 1 (call_of 1001 1)) ∷
    at 3 (event.Grant (file 3 1) 1 1 cache.On) ∷
    at 3 (event.Opened (file 3 1) (stream 1 1) 1 mode.Read) ∷
    at 3 (enters 1001 1 (call.OpenFile (codes "/f") 1) nothing) ∷
    at 1 (takes_reply 3 3 (call_of 1001 1)) ∷
    at 1 (event.Mode (file 3 1) 1 cache.On) ∷
    at 1 (event.Return 1001 1 nothing) ∷
    at 1 (event.Burst 1001 0) ∷
    at 1 (event.Issue 1001 2 (call.Migrate (codes "c2"))) ∷
    at 1 (event.Freeze 1001) ∷
    at 1 (enters 1001 2 (call.Migrate (codes "c2")) nothing) ∷
    at 1 (sends 4 3 None send.Other) ∷
    at 1 (sends 5 3 (call_of 1001 2) send.Other) ∷
    at 3 (takes 4 1 None) ∷
    at 1 (takes_reply 4 3 None) ∷
    at 3 (takes 5 1 None) ∷
    at 3 (event.Grant (file 3 1) 2 2 cache.On) ∷
    at 3 (event.Opened (file 3 1) (stream 1 1) 2 mode.Read) ∷
    at 3 (event.Closed (file 3 1) (stream 1 1) 1 mode.Read) ∷
    at 1 (takes_reply 5 3 None) ∷
    at 1 (sends 6 2 (call_of 1001 2) send.Other) ∷
    at 2 (takes 6 1 (call_of 1001 2)) ∷
    at 2 (event.Mode (file 3 1) 2 cache.On) ∷
    at 2 (sends 7 1 None send.Other) ∷
    at 1 (takes 7 2 None) ∷
    at 2 (takes_reply 7 1 None) ∷
    at 2 (event.Thaw 1001) ∷
    at 2 (sends 8 3 None send.Other) ∷
    at 3 (takes 8 2 None) ∷
    at 1 (takes_reply 6 2 (call_of 1001 2)) ∷
    at 2 (takes_reply 8 3 None) ∷
    at 2 (event.Return 1001 2 nothing) ∷
    at 2 (event.Burst 1001 0) ∷
    at 2 (event.Issue 1001 3 (call.Read 0 1)) ∷
    at 2 (sends 9 3 (call_of 1001 3) (send.Fetch (file 3 1) (block 0))) ∷
    at 3 (takes 9 2 None) ∷
    at 2 (takes_reply 9 3 None) ∷
    at 2 (event.Filled (file 3 1) (block 0)) ∷
    at 2 (enters 1001 3 (call.Read 0 1) (Value 1 0 (codes "h"))) ∷
    at 2 (event.Return 1001 3 (Value 1 0 (codes "h"))) ∷
    at 2 (event.Burst 1001 0) ∷
    at 2 (event.Issue 1001 4 (call.Exit 0)) ∷
    at 2 (sends 10 1 (call_of 1001 4) send.Other) ∷
    at 1 (takes 10 2 (call_of 1001 4)) ∷
    at 1 (enters 1001 4 (call.Exit 0) nothing) ∷
    []

-- the stream is open at the target, and its source wasn't closed
abbrev pub unleft_trace : List Rec
unleft_trace = without 28 moved_trace

-- the target is closed, and not the source
abbrev pub target_closed_trace : List Rec
target_closed_trace = instead 28 (at 3 (event.Closed (file 3 1) (stream 1 1) 2 mode.Read)) moved_trace

-- a source is closed that hasn't the stream open
abbrev pub other_source_trace : List Rec
other_source_trace = instead 28 (at 3 (event.Closed (file 3 1) (stream 1 1) 3 mode.Read)) moved_trace

-- the stream moves with another mode
abbrev pub other_mode_trace : List Rec
other_mode_trace = instead 27 (at 3 (event.Opened (file 3 1) (stream 1 1) 2 mode.Both)) moved_trace

-- a stream moves that nobody opened
abbrev pub unopened_move_trace : List Rec
unopened_move_trace = instead 27 (at 3 (event.Opened (file 3 1) (stream 1 2) 2 mode.Read)) moved_trace

-- the stream is opened with another mode than its call asks for
abbrev pub open_mode_trace : List Rec
open_mode_trace = instead 12 (at 3 (event.Opened (file 3 1) (stream 1 1) 1 mode.Both)) moved_trace

-- the stream has a number of another kernel
abbrev pub strange_number_trace : List Rec
strange_number_trace = instead 12 (at 3 (event.Opened (file 3 1) (stream 2 1) 1 mode.Read)) moved_trace

-- the open is entered at the client
abbrev pub open_elsewhere_trace : List Rec
open_elsewhere_trace = instead 13 (at 1 (enters 1001 1 (call.OpenFile (codes "/f") 1) nothing)) moved_trace

-- the fetch's request carries the call for whose sake it goes, and so does its reply
abbrev pub fetch_about_trace : List Rec
fetch_about_trace =
    instead 45 (at 3 (takes 9 2 (call_of 1001 3))) (instead 46 (at 2 (takes_reply 9 3 (call_of 1001 3))) moved_trace)

-- the broadcast's request does
abbrev pub broadcast_about_trace : List Rec
broadcast_about_trace =
    instead 3 (at 3 (takes 1 1 (call_of 1001 1))) (instead 4 (at 1 (takes_reply 1 3 (call_of 1001 1))) moved_trace)

-- the broadcast goes to a second receiver, for the sake of another call
abbrev pub split_broadcast_trace : List Rec
split_broadcast_trace = before 3 (at 1 (sends 1 2 (call_of 1002 1) (send.Broadcast []))) moved_trace

-- the stream is closed with another mode than it was opened with
abbrev pub other_mode_closed_trace : List Rec
other_mode_closed_trace = moved_trace ++ at 3 (event.Closed (file 3 1) (stream 1 1) 2 mode.Both) ∷ []

-- the stream may be written, and caching stops with its move: between its Opened and the Closed two kernels have it open
abbrev pub stopped_move_trace : List Rec
stopped_move_trace =
    instead 12 (at 3 (event.Opened (file 3 1) (stream 1 1) 1 mode.Both))
    (instead 26 (at 3 (event.Grant (file 3 1) 2 2 cache.Off))
    (instead 27 (at 3 (event.Opened (file 3 1) (stream 1 1) 2 mode.Both))
    (instead 28 (at 3 (event.Closed (file 3 1) (stream 1 1) 1 mode.Both))
    (instead 32 (at 2 (event.Mode (file 3 1) 2 cache.Off)) moved_trace))))

-- the same, where the source stays open
abbrev pub stopped_beside_trace : List Rec
stopped_beside_trace = without 28 stopped_move_trace
