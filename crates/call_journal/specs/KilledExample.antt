-- A parent kills its child, which runs on the same kernel.
use Rattle.std.specs.Prelude.{List, [], ◌∷◌, ◌++◌, take, codes}
use Rattle.process_machine.specs.declared.instruction.Instruction.TheVariants.{Jmp, Jeq}
use Rattle.process_machine.specs.declared.instruction.Operand.TheVariants.{Register}
use Rattle.process_machine.specs.declared.instruction.SyscallName.TheVariants as name
use Rattle.process_machine.specs.declared.call.Call.TheVariants as call
use Rattle.process_machine.specs.declared.call.Reply.TheVariants.{Value}
use Rattle.unix_calls.specs.declared.description.Description.{Description}
use Rattle.unix_calls.specs.declared.event.Event.TheVariants as event
use Rattle.unix_calls.specs.declared.event.Rec.{Rec}
use Rattle.unix_calls.specs.Answers.{value, nothing}
use Rattle.unix_calls.specs.Examples.{sys}
use Rattle.call_journal.specs.Examples.{client, server, at, enters, dies, without, instead, before}

abbrev pub killed_cluster : Description
killed_cluster =
    record {
      version = 1;
      budget = 1000000;
      cache = 64;
      kernels = client (codes "c1") ∷ server (codes "s1") ∷ [];
      programs = record {
        name = codes "k";
        program = record {
          number = 1;
          pages = 1;
          texts = [];
          code =
              (sys name.Fork ([]) ∷
              Jeq 1 5 5 ∷
              sys name.Kill (Register 1 ∷ []) ∷
              sys name.Wait ([]) ∷
              sys name.Exit (Register 2 ∷ []) ∷
              sys name.Tick ([]) ∷
              Jmp 5 ∷ []);
        };
      } ∷ [];
      starts = record { host = 1; program = 1; arg = 0 } ∷ [];
      files = [];
      plan = record { entries = [] };
      evicts = [];
    }

abbrev pub killed_trace : List Rec
killed_trace =
    at 1 (event.Burst 1001 0) ∷
    at 1 (event.Issue 1001 1 call.Fork) ∷
    at 1 (enters 1001 1 call.Fork (value 1002)) ∷
    at 1 (event.Return 1001 1 (value 1002)) ∷
    at 1 (event.Burst 1002 1) ∷
    at 1 (event.Issue 1002 1 call.Tick) ∷
    at 1 (enters 1002 1 call.Tick (value 1)) ∷
    at 1 (event.Return 1002 1 (value 1)) ∷
    at 1 (event.Burst 1001 1) ∷
    at 1 (event.Issue 1001 2 (call.Kill 1002)) ∷
    at 1 (enters 1001 2 (call.Kill 1002) nothing) ∷
    at 1 (dies 1002 2) ∷
    at 1 (event.Return 1001 2 nothing) ∷
    at 1 (event.Burst 1001 0) ∷
    at 1 (event.Issue 1001 3 call.Wait) ∷
    at 1 (enters 1001 3 call.Wait (Value 1002 257 [])) ∷
    at 1 (event.Return 1001 3 (Value 1002 257 [])) ∷
    at 1 (event.Burst 1001 0) ∷
    at 1 (event.Issue 1001 4 (call.Exit 1)) ∷
    at 1 (enters 1001 4 (call.Exit 1) nothing) ∷
    []

-- the child goes on with a call behind its kill
abbrev pub unheeded_kill_trace : List Rec
unheeded_kill_trace = instead 11 (at 1 (event.Issue 1002 2 call.Tick)) killed_trace

-- the child dies, and nobody killed it
abbrev pub unkilled_trace : List Rec
unkilled_trace = take 8 killed_trace ++ at 1 (dies 1002 2) ∷ []

-- the child dies inside a call
abbrev pub early_death_trace : List Rec
early_death_trace = before 7 (at 1 (dies 1002 2)) (without 11 killed_trace)
