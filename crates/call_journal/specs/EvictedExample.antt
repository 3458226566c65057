-- A process moves to another client, and is evicted from it.
use Rattle.std.specs.Prelude.{List, [], ◌∷◌, None, codes}
use Rattle.process_machine.specs.declared.instruction.Operand.TheVariants.{Number}
use Rattle.process_machine.specs.declared.instruction.SyscallName.TheVariants as name
use Rattle.process_machine.specs.declared.call.Call.TheVariants as call
use Rattle.unix_calls.specs.declared.description.Description.{Description}
use Rattle.unix_calls.specs.declared.event.SendKind.TheVariants as send
use Rattle.unix_calls.specs.declared.event.Event.TheVariants as event
use Rattle.unix_calls.specs.declared.event.Rec.{Rec}
use Rattle.unix_calls.specs.Answers.{nothing}
use Rattle.unix_calls.specs.Examples.{sys, text_at}
use Rattle.call_journal.specs.Examples.{client, server, at, call_of, enters, sends, takes, takes_reply, instead, before}

abbrev pub evicted_cluster : Description
evicted_cluster =
    record {
      version = 1;
      budget = 1000000;
      cache = 64;
      kernels = client (codes "c1") ∷ client (codes "c2") ∷ server (codes "s1") ∷ [];
      programs = record {
        name = codes "p";
        program = record {
          number = 1;
          pages = 1;
          texts = (text_at 0 (codes "c2") ∷ []);
          code =
              (sys name.Migrate (Number 0 ∷ Number 2 ∷ []) ∷
              sys name.Print (Number 0 ∷ Number 2 ∷ []) ∷
              sys name.Print (Number 0 ∷ Number 2 ∷ []) ∷
              sys name.Print (Number 0 ∷ Number 2 ∷ []) ∷
              sys name.Exit (Number 0 ∷ []) ∷ []);
        };
      } ∷ [];
      starts = record { host = 1; program = 1; arg = 0 } ∷ [];
      files = [];
      plan = record { entries = [] };
      evicts = record { host = 2; after = 2 } ∷ [];
    }

abbrev pub evicted_trace : List Rec
evicted_trace =
    at 1 (event.Burst 1001 0) ∷
    at 1 (event.Issue 1001 1 (call.Migrate (codes "c2"))) ∷
    at 1 (event.Freeze 1001) ∷
    at 1 (enters 1001 1 (call.Migrate (codes "c2")) nothing) ∷
    at 1 (sends 1 3 None send.Other) ∷
    at 3 (takes 1 1 None) ∷
    at 1 (takes_reply 1 3 None) ∷
    at 1 (sends 2 2 (call_of 1001 1) send.Other) ∷
    at 2 (takes 2 1 (call_of 1001 1)) ∷
    at 2 (sends 3 1 None send.Other) ∷
    at 1 (takes 3 2 None) ∷
    at 2 (takes_reply 3 1 None) ∷
    at 2 (event.Thaw 1001) ∷
    at 2 (sends 4 3 None send.Other) ∷
    at 3 (takes 4 2 None) ∷
    at 1 (takes_reply 2 2 (call_of 1001 1)) ∷
    at 2 (takes_reply 4 3 None) ∷
    at 2 (event.Return 1001 1 nothing) ∷
    at 2 (event.Burst 1001 0) ∷
    at 2 (event.Issue 1001 2 (call.Print (codes "c2"))) ∷
    at 2 (sends 5 1 (call_of 1001 2) send.Other) ∷
    at 1 (takes 5 2 (call_of 1001 2)) ∷
    at 1 (enters 1001 2 (call.Print (codes "c2")) nothing) ∷
    at 2 (takes_reply 5 1 (call_of 1001 2)) ∷
    at 2 (event.Return 1001 2 nothing) ∷
    at 2 (event.Burst 1001 0) ∷
    at 2 (event.Issue 1001 3 (call.Print (codes "c2"))) ∷
    at 2 (sends 6 1 (call_of 1001 3) send.Other) ∷
    at 1 (takes 6 2 (call_of 1001 3)) ∷
    at 1 (enters 1001 3 (call.Print (codes "c2")) nothing) ∷
    at 2 (takes_reply 6 1 (call_of 1001 3)) ∷
    at 2 (event.Return 1001 3 nothing) ∷
    at 2 (event.Freeze 1001) ∷
    at 2 (sends 7 3 None send.Other) ∷
    at 3 (takes 7 2 None) ∷
    at 2 (takes_reply 7 3 None) ∷
    at 2 (sends 8 1 None send.Other) ∷
    at 1 (takes 8 2 (call_of 1001 3)) ∷
    at 1 (event.Thaw 1001) ∷
    at 1 (event.Burst 1001 0) ∷
    at 1 (sends 9 3 None send.Other) ∷
    at 2 (takes_reply 8 1 (call_of 1001 3)) ∷
    at 3 (takes 9 1 None) ∷
    at 1 (takes_reply 9 3 None) ∷
    at 1 (event.Burst 1001 0) ∷
    at 1 (event.Issue 1001 4 (call.Print (codes "c2"))) ∷
    at 1 (enters 1001 4 (call.Print (codes "c2")) nothing) ∷
    at 1 (event.Return 1001 4 nothing) ∷
    at 1 (event.Burst 1001 0) ∷
    at 1 (event.Issue 1001 5 (call.Exit 0)) ∷
    at 1 (enters 1001 5 (call.Exit 0) nothing) ∷
    []

-- the process goes on at the client that it was to leave
abbrev pub stays_trace : List Rec
stays_trace = instead 32 (at 2 (event.Issue 1001 4 (call.Print (codes "c2")))) evicted_trace

-- a process is frozen, and neither its call nor an eviction asks for that
abbrev pub frozen_trace : List Rec
frozen_trace = before 25 (at 2 (event.Freeze 1001)) evicted_trace

-- an evicted process goes on elsewhere than at its home
abbrev pub strayed_trace : List Rec
strayed_trace = instead 38 (at 3 (event.Thaw 1001)) evicted_trace

-- a process that is frozen is frozen again
abbrev pub frozen_twice_trace : List Rec
frozen_twice_trace = before 33 (at 2 (event.Freeze 1001)) evicted_trace
