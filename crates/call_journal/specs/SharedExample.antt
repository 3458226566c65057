-- A file that one client writes is opened by another one: nobody caches it any more.
use Rattle.std.specs.Prelude.{List, [], ◌∷◌, None, codes}
use Rattle.sprite_ids.specs.declared.names.Mode.TheVariants as mode
use Rattle.sprite_ids.specs.declared.caching.CacheMode.TheVariants as cache
use Rattle.sprite_ids.specs.declared.caching.CallKind.TheVariants as kind
use Rattle.process_machine.specs.declared.instruction.Operand.TheVariants.{Number}
use Rattle.process_machine.specs.declared.instruction.SyscallName.TheVariants as name
use Rattle.process_machine.specs.declared.call.Call.TheVariants as call
use Rattle.process_machine.specs.declared.call.Reply.TheVariants.{Value}
use Rattle.unix_calls.specs.declared.description.Description.{Description}
use Rattle.unix_calls.specs.declared.event.SendKind.TheVariants as send
use Rattle.unix_calls.specs.declared.event.DropCause.TheVariants as cause
use Rattle.unix_calls.specs.declared.event.Event.TheVariants as event
use Rattle.unix_calls.specs.declared.event.Rec.{Rec}
use Rattle.unix_calls.specs.Answers.{value, nothing}
use Rattle.unix_calls.specs.Examples.{sys, text_at}
use Rattle.call_journal.specs.Examples.{client, server, at, file, stream, block, call_of, enters, sends, takes, takes_reply, without, instead, before}

abbrev pub shared_cluster : Description
shared_cluster =
    record {
      version = 1;
      budget = 1000000;
      cache = 64;
      kernels = client (codes "c1") ∷ client (codes "c2") ∷ server (codes "s1") ∷ [];
      programs = record {
        name = codes "w";
        program = record {
          number = 1;
          pages = 1;
          texts = (text_at 0 (codes "/x") ∷ text_at 8 (codes "a") ∷ []);
          code =
              (sys name.Open (Number 0 ∷ Number 2 ∷ Number 7 ∷ []) ∷
              sys name.Write (Number 0 ∷ Number 8 ∷ Number 1 ∷ []) ∷
              sys name.Size (Number 0 ∷ []) ∷
              sys name.Exit (Number 0 ∷ []) ∷ []);
        };
      } ∷
          record {
            name = codes "r";
            program = record {
              number = 2;
              pages = 1;
              texts = (text_at 0 (codes "/x") ∷ []);
              code =
                  (sys name.Open (Number 0 ∷ Number 2 ∷ Number 5 ∷ []) ∷
                  sys name.Read (Number 0 ∷ Number 16 ∷ Number 1 ∷ []) ∷
                  sys name.Exit (Number 0 ∷ []) ∷ []);
            };
          } ∷ [];
      starts = record { host = 1; program = 1; arg = 0 } ∷ record { host = 2; program = 2; arg = 0 } ∷ [];
      files = [];
      plan = record { entries = [] };
      evicts = [];
    }

abbrev pub shared_trace : List Rec
shared_trace =
    at 1 (event.Burst 1001 0) ∷
    at 1 (event.Issue 1001 1 (call.OpenFile (codes "/x") 7)) ∷
    at 1 (sends 1 3 (call_of 1001 1) (send.Broadcast [])) ∷
    at 2 (event.Burst 2001 0) ∷
    at 2 (event.Issue 2001 1 (call.OpenFile (codes "/x") 5)) ∷
    at 2 (sends 2 3 (call_of 2001 1) (send.Broadcast [])) ∷
    at 3 (takes 1 1 None) ∷
    at 1 (takes_reply 1 3 None) ∷
    at 1 (event.Learned [] 3) ∷
    at 1 (sends 3 3 (call_of 1001 1) send.Other) ∷
    at 3 (takes 2 2 None) ∷
    at 2 (takes_reply 2 3 None) ∷
    at 2 (event.Learned [] 3) ∷
    at 2 (sends 4 3 (call_of 2001 1) send.Other) ∷
    at 3 (takes 3 1 None) ∷
    at 1 (takes_reply 3 3 None) ∷
    at 1 (sends 5 3 (call_of 1001 1) send.Other) ∷
    at 3 (takes 4 2 None) ∷
    at 2 (takes_reply 4 3 None) ∷
    at 2 (sends 6 3 (call_of 2001 1) send.Other) ∷
    at 3 (takes 5 1 (call_of 1001 1)) ∷
    at 3 (event.Grant (file 3 1) 1 1 cache.On) ∷
    at 3 (event.Opened (file 3 1) (stream 1 1) 1 mode.Both) ∷
    at 3 (enters 1001 1 (call.OpenFile (codes "/x") 7) nothing) ∷
    at 1 (takes_reply 5 3 (call_of 1001 1)) ∷
    at 1 (event.Mode (file 3 1) 1 cache.On) ∷
    at 1 (event.Return 1001 1 nothing) ∷
    at 1 (event.Burst 1001 0) ∷
    at 1 (event.Issue 1001 2 (call.Write 0 (codes "a"))) ∷
    at 1 (event.Filled (file 3 1) (block 0)) ∷
    at 1 (event.Dirtied (file 3 1) (block 0)) ∷
    at 1 (enters 1001 2 (call.Write 0 (codes "a")) (value 1)) ∷
    at 1 (event.Return 1001 2 (value 1)) ∷
    at 3 (takes 6 2 (call_of 2001 1)) ∷
    at 3 (event.Callback (file 3 1) 1 2 kind.Stop) ∷
    at 3 (sends 7 1 (call_of 2001 1) send.Other) ∷
    at 1 (takes 7 3 None) ∷
    at 1 (event.Mode (file 3 1) 2 cache.Off) ∷
    at 1 (event.Dropped (file 3 1) (block 0) cause.Stop) ∷
    at 1 (event.Burst 1001 0) ∷
    at 1 (event.Issue 1001 3 (call.Size 0)) ∷
    at 1 (sends 8 3 (call_of 1001 3) (send.Op (file 3 1))) ∷
    at 3 (takes_reply 7 1 None) ∷
    at 3 (event.Grant (file 3 1) 2 3 cache.Off) ∷
    at 3 (event.Opened (file 3 1) (stream 2 1) 2 mode.Read) ∷
    at 3 (enters 2001 1 (call.OpenFile (codes "/x") 5) nothing) ∷
    at 2 (takes_reply 6 3 (call_of 2001 1)) ∷
    at 2 (event.Mode (file 3 1) 3 cache.Off) ∷
    at 2 (event.Return 2001 1 nothing) ∷
    at 2 (event.Burst 2001 0) ∷
    at 2 (event.Issue 2001 2 (call.Read 0 1)) ∷
    at 2 (sends 9 3 (call_of 2001 2) (send.Op (file 3 1))) ∷
    at 3 (takes 8 1 (call_of 1001 3)) ∷
    at 3 (enters 1001 3 (call.Size 0) (value 1)) ∷
    at 1 (takes_reply 8 3 (call_of 1001 3)) ∷
    at 1 (event.Return 1001 3 (value 1)) ∷
    at 1 (event.Burst 1001 0) ∷
    at 1 (event.Issue 1001 4 (call.Exit 0)) ∷
    at 1 (enters 1001 4 (call.Exit 0) nothing) ∷
    at 1 (sends 10 3 (call_of 1001 4) send.Other) ∷
    at 3 (takes 9 2 (call_of 2001 2)) ∷
    at 3 (enters 2001 2 (call.Read 0 1) (Value 1 0 (codes "a"))) ∷
    at 2 (takes_reply 9 3 (call_of 2001 2)) ∷
    at 2 (event.Return 2001 2 (Value 1 0 (codes "a"))) ∷
    at 2 (event.Burst 2001 0) ∷
    at 2 (event.Issue 2001 3 (call.Exit 0)) ∷
    at 2 (enters 2001 3 (call.Exit 0) nothing) ∷
    at 2 (sends 11 3 (call_of 2001 3) send.Other) ∷
    []

-- the same stop and the same grant, where both clients only read
abbrev pub unshared_trace : List Rec
unshared_trace = instead 22 (at 3 (event.Opened (file 3 1) (stream 1 1) 1 mode.Read)) shared_trace

-- the file is cached no more, and nobody turned the caching off
abbrev pub unstopped_trace : List Rec
unstopped_trace = without 34 shared_trace

-- a size is entered at the server while its callback is out
abbrev pub called_back_trace : List Rec
called_back_trace = before 42 (at 3 (enters 1001 3 (call.Size 0) (value 1))) (without 53 shared_trace)
