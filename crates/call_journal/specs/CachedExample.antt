-- A file is read twice, the second time from the cache.
use Rattle.std.specs.Prelude.{List, [], ◌∷◌, ◌++◌, take, drop, replicate, None, codes, false}
use Rattle.sprite_ids.specs.declared.names.Mode.TheVariants as mode
use Rattle.sprite_ids.specs.declared.caching.CacheMode.TheVariants as cache
use Rattle.process_machine.specs.declared.instruction.Operand.TheVariants.{Number}
use Rattle.process_machine.specs.declared.instruction.SyscallName.TheVariants as name
use Rattle.process_machine.specs.declared.call.Call.TheVariants as call
use Rattle.process_machine.specs.declared.call.Reply.TheVariants.{Value}
use Rattle.unix_calls.specs.declared.description.Description.{Description}
use Rattle.unix_calls.specs.declared.event.SendKind.TheVariants as send
use Rattle.unix_calls.specs.declared.event.DropCause.TheVariants as cause
use Rattle.unix_calls.specs.declared.event.Event.TheVariants as event
use Rattle.unix_calls.specs.declared.event.Rec.{Rec}
use Rattle.unix_calls.specs.Answers.{nothing}
use Rattle.unix_calls.specs.Examples.{sys, text_at}
use Rattle.call_journal.specs.Examples.{client, server, at, file, stream, block, call_of, enters, sends, takes, takes_reply, without, instead, before}

abbrev pub cached_cluster : Description
cached_cluster =
    record {
      version = 1;
      budget = 1000000;
      cache = 8;
      kernels = client (codes "c1") ∷ server (codes "s1") ∷ [];
      programs = record {
        name = codes "p";
        program = record {
          number = 1;
          pages = 1;
          texts = (text_at 0 (codes "/f") ∷ []);
          code =
              (sys name.Open (Number 0 ∷ Number 2 ∷ Number 1 ∷ []) ∷
              sys name.Read (Number 0 ∷ Number 16 ∷ Number 1 ∷ []) ∷
              sys name.Read (Number 0 ∷ Number 16 ∷ Number 1 ∷ []) ∷
              sys name.Exit (Number 0 ∷ []) ∷ []);
        };
      } ∷ [];
      starts = record { host = 1; program = 1; arg = 0 } ∷ [];
      files = record { path = ((codes "f") ∷ []); bytes = (codes "hi"); append = false } ∷ [];
      plan = record { entries = [] };
      evicts = [];
    }

abbrev pub cached_trace : List Rec
cached_trace =
    at 1 (event.Burst 1001 0) ∷
    at 1 (event.Issue 1001 1 (call.OpenFile (codes "/f") 1)) ∷
    at 1 (sends 1 2 (call_of 1001 1) (send.Broadcast [])) ∷
    at 2 (takes 1 1 None) ∷
    at 1 (takes_reply 1 2 None) ∷
    at 1 (event.Learned [] 2) ∷
    at 1 (sends 2 2 (call_of 1001 1) send.Other) ∷
    at 2 (takes 2 1 None) ∷
    at 1 (takes_reply 2 2 None) ∷
    at 1 (sends 3 2 (call_of 1001 1) send.Other) ∷
    at 2 (takes 3 1 (call_of 1001 1)) ∷
    at 2 (event.Grant (file 2 1) 1 1 cache.On) ∷
    at 2 (event.Opened (file 2 1) (stream 1 1) 1 mode.Read) ∷
    at 2 (enters 1001 1 (call.OpenFile (codes "/f") 1) nothing) ∷
    at 1 (takes_reply 3 2 (call_of 1001 1)) ∷
    at 1 (event.Mode (file 2 1) 1 cache.On) ∷
    at 1 (event.Return 1001 1 nothing) ∷
    at 1 (event.Burst 1001 0) ∷
    at 1 (event.Issue 1001 2 (call.Read 0 1)) ∷
    at 1 (sends 4 2 (call_of 1001 2) (send.Fetch (file 2 1) (block 0))) ∷
    at 2 (takes 4 1 None) ∷
    at 1 (takes_reply 4 2 None) ∷
    at 1 (event.Filled (file 2 1) (block 0)) ∷
    at 1 (enters 1001 2 (call.Read 0 1) (Value 1 0 (codes "h"))) ∷
    at 1 (event.Return 1001 2 (Value 1 0 (codes "h"))) ∷
    at 1 (event.Burst 1001 0) ∷
    at 1 (event.Issue 1001 3 (call.Read 0 1)) ∷
    at 1 (enters 1001 3 (call.Read 0 1) (Value 1 0 (codes "i"))) ∷
    at 1 (event.Return 1001 3 (Value 1 0 (codes "i"))) ∷
    at 1 (event.Burst 1001 0) ∷
    at 1 (event.Issue 1001 4 (call.Exit 0)) ∷
    at 1 (enters 1001 4 (call.Exit 0) nothing) ∷
    at 1 (sends 5 2 (call_of 1001 4) send.Other) ∷
    []

-- the first read finds a block that was never filled
abbrev pub unfilled_trace : List Rec
unfilled_trace = without 22 cached_trace

-- the second read fetches the block that is held
abbrev pub fetched_again_trace : List Rec
fetched_again_trace = before 27 (at 1 (sends 6 2 (call_of 1001 3) (send.Fetch (file 2 1) (block 0)))) cached_trace

-- a read goes to the server though the file is cached
abbrev pub sent_out_trace : List Rec
sent_out_trace = before 27 (at 1 (sends 6 2 (call_of 1001 3) (send.Op (file 2 1)))) cached_trace

-- the block is fetched twice before it comes in
abbrev pub fetched_twice_trace : List Rec
fetched_twice_trace = before 20 (at 1 (sends 6 2 (call_of 1001 2) (send.Fetch (file 2 1) (block 0)))) cached_trace

-- the prefix is asked for where its server is known
abbrev pub asked_again_trace : List Rec
asked_again_trace = before 6 (at 1 (sends 6 2 (call_of 1001 1) (send.Broadcast []))) cached_trace

-- a block is dropped from a cache that isn't full
abbrev pub dropped_trace : List Rec
dropped_trace = before 25 (at 1 (event.Dropped (file 2 1) (block 0) cause.Full)) cached_trace

-- the second read is entered before it is issued
abbrev pub early_entry_trace : List Rec
early_entry_trace = before 26 (at 1 (enters 1001 3 (call.Read 0 1) (Value 1 0 (codes "i")))) (without 27 cached_trace)

-- the second read is entered twice
abbrev pub entered_twice_trace : List Rec
entered_twice_trace = before 28 (at 1 (enters 1001 3 (call.Read 0 1) (Value 1 0 (codes "i")))) cached_trace

-- the second read returns another byte than was entered
abbrev pub other_return_trace : List Rec
other_return_trace = instead 28 (at 1 (event.Return 1001 3 (Value 1 0 (codes "h")))) cached_trace

-- the first read sees a byte that isn't in the file
abbrev pub wrong_byte_trace : List Rec
wrong_byte_trace = instead 23 (at 1 (enters 1001 2 (call.Read 0 1) (Value 1 0 (codes "x")))) cached_trace

-- the second read is entered at the server, which was asked for nothing
abbrev pub unasked_trace : List Rec
unasked_trace = instead 27 (at 2 (enters 1001 3 (call.Read 0 1) (Value 1 0 (codes "i")))) cached_trace

-- the stream is opened without a grant
abbrev pub ungranted_trace : List Rec
ungranted_trace = without 11 cached_trace

-- the process does instructions where it isn't
abbrev pub elsewhere_trace : List Rec
elsewhere_trace = instead 25 (at 2 (event.Burst 1001 0)) cached_trace

-- more instructions than the program has before its call
abbrev pub long_burst_trace : List Rec
long_burst_trace = instead 25 (at 1 (event.Burst 1001 1)) cached_trace

-- the request of the open is delivered seven times
abbrev pub delivered_often_trace : List Rec
delivered_often_trace = take 11 cached_trace ++ replicate 6 (at 2 (takes 3 1 (call_of 1001 1))) ++ drop 11 cached_trace

-- a packet goes for the sake of a call that isn't issued so far
abbrev pub early_send_trace : List Rec
early_send_trace = before 1 (at 1 (sends 6 2 (call_of 1001 1) send.Other)) cached_trace

-- a second grant has the stamp of the first one
abbrev pub same_stamp_trace : List Rec
same_stamp_trace = before 25 (at 2 (event.Grant (file 2 1) 1 1 cache.On)) cached_trace
