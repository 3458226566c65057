-- A file is written, and a `sync` writes it back.
use Rattle.std.specs.Prelude.{List, [], ◌∷◌, None, codes}
use Rattle.sprite_ids.specs.declared.names.Mode.TheVariants as mode
use Rattle.sprite_ids.specs.declared.caching.CacheMode.TheVariants as cache
use Rattle.process_machine.specs.declared.instruction.Operand.TheVariants.{Number}
use Rattle.process_machine.specs.declared.instruction.SyscallName.TheVariants as name
use Rattle.process_machine.specs.declared.call.Call.TheVariants as call
use Rattle.unix_calls.specs.declared.description.Description.{Description}
use Rattle.unix_calls.specs.declared.event.SendKind.TheVariants as send
use Rattle.unix_calls.specs.declared.event.Event.TheVariants as event
use Rattle.unix_calls.specs.declared.event.Rec.{Rec}
use Rattle.unix_calls.specs.Answers.{value, nothing}
use Rattle.unix_calls.specs.Examples.{sys, text_at}
use Rattle.call_journal.specs.Examples.{client, server, at, file, stream, block, call_of, enters, sends, takes, takes_reply, without, before}

abbrev pub synced_cluster : Description
synced_cluster =
    record {
      version = 1;
      budget = 1000000;
      cache = 64;
      kernels = client (codes "c1") ∷ server (codes "s1") ∷ [];
      programs = record {
        name = codes "p";
        program = record {
          number = 1;
          pages = 1;
          texts = (text_at 0 (codes "/f") ∷ []);
          code =
              (sys name.Open (Number 0 ∷ Number 2 ∷ Number 6 ∷ []) ∷
              sys name.Write (Number 0 ∷ Number 0 ∷ Number 2 ∷ []) ∷
              sys name.Sync (Number 0 ∷ []) ∷
              sys name.Exit (Number 0 ∷ []) ∷ []);
        };
      } ∷ [];
      starts = record { host = 1; program = 1; arg = 0 } ∷ [];
      files = [];
      plan = record { entries = [] };
      evicts = [];
    }

abbrev pub synced_trace : List Rec
synced_trace =
    at 1 (event.Burst 1001 0) ∷
    at 1 (event.Issue 1001 1 (call.OpenFile (codes "/f") 6)) ∷
    at 1 (sends 1 2 (call_of 1001 1) (send.Broadcast [])) ∷
    at 2 (takes 1 1 None) ∷
    at 1 (takes_reply 1 2 None) ∷
    at 1 (event.Learned [] 2) ∷
    at 1 (sends 2 2 (call_of 1001 1) send.Other) ∷
    at 2 (takes 2 1 None) ∷
    at 1 (takes_reply 2 2 None) ∷
    at 1 (sends 3 2 (call_of 1001 1) send.Other) ∷
    at 2 (takes 3 1 (call_of 1001 1)) ∷
    at 2 (event.Grant (file 2 1) 1 1 cache.On) ∷
    at 2 (event.Opened (file 2 1) (stream 1 1) 1 mode.Write) ∷
    at 2 (enters 1001 1 (call.OpenFile (codes "/f") 6) nothing) ∷
    at 1 (takes_reply 3 2 (call_of 1001 1)) ∷
    at 1 (event.Mode (file 2 1) 1 cache.On) ∷
    at 1 (event.Return 1001 1 nothing) ∷
    at 1 (event.Burst 1001 0) ∷
    at 1 (event.Issue 1001 2 (call.Write 0 (codes "/f"))) ∷
    at 1 (event.Filled (file 2 1) (block 0)) ∷
    at 1 (event.Dirtied (file 2 1) (block 0)) ∷
    at 1 (enters 1001 2 (call.Write 0 (codes "/f")) (value 2)) ∷
    at 1 (event.Return 1001 2 (value 2)) ∷
    at 1 (event.Burst 1001 0) ∷
    at 1 (event.Issue 1001 3 (call.Sync 0)) ∷
    at 1 (sends 4 2 (call_of 1001 3) (send.WriteBack (file 2 1) (block 0))) ∷
    at 2 (takes 4 1 None) ∷
    at 1 (takes_reply 4 2 None) ∷
    at 1 (event.WroteBack (file 2 1) (block 0)) ∷
    at 1 (enters 1001 3 (call.Sync 0) nothing) ∷
    at 1 (event.Return 1001 3 nothing) ∷
    at 1 (event.Burst 1001 0) ∷
    at 1 (event.Issue 1001 4 (call.Exit 0)) ∷
    at 1 (enters 1001 4 (call.Exit 0) nothing) ∷
    at 1 (sends 5 2 (call_of 1001 4) send.Other) ∷
    []

-- the block goes to the server as soon as it is dirty, and nobody wants that
abbrev pub early_write_back_trace : List Rec
early_write_back_trace = before 23 (at 1 (sends 6 2 None (send.WriteBack (file 2 1) (block 0)))) synced_trace

-- the block is called clean, and it went to no server
abbrev pub unsent_trace : List Rec
unsent_trace = without 25 synced_trace
