-- A link that loses every packet: the server is unreachable.
use Rattle.std.specs.Prelude.{List, [], ◌∷◌, ◌++◌, take, drop, codes}
use Rattle.sprite_ids.specs.declared.errno.Errno.TheVariants as errno
use Rattle.link_plan.specs.declared.plan.Fate.TheVariants as fate
use Rattle.process_machine.specs.declared.instruction.Operand.TheVariants.{Number, Register}
use Rattle.process_machine.specs.declared.instruction.SyscallName.TheVariants as name
use Rattle.process_machine.specs.declared.call.Call.TheVariants as call
use Rattle.process_machine.specs.declared.call.Reply.TheVariants.{Error}
use Rattle.unix_calls.specs.declared.description.Description.{Description}
use Rattle.unix_calls.specs.declared.event.SendKind.TheVariants as send
use Rattle.unix_calls.specs.declared.event.Event.TheVariants as event
use Rattle.unix_calls.specs.declared.event.Rec.{Rec}
use Rattle.unix_calls.specs.Answers.{nothing}
use Rattle.unix_calls.specs.Examples.{sys, text_at}
use Rattle.call_journal.specs.Examples.{client, server, at, call_of, enters, sends, tries_again, ends_tries, without}

abbrev pub unreached_cluster : Description
unreached_cluster =
    record {
      version = 1;
      budget = 1000000;
      cache = 64;
      kernels = client (codes "c1") ∷ server (codes "s1") ∷ [];
      programs = record {
        name = codes "p";
        program = record {
          number = 1;
          pages = 1;
          texts = (text_at 0 (codes "/f") ∷ []);
          code =
              (sys name.Open (Number 0 ∷ Number 2 ∷ Number 6 ∷ []) ∷
              sys name.Exit (Register 0 ∷ []) ∷ []);
        };
      } ∷ [];
      starts = record { host = 1; program = 1; arg = 0 } ∷ [];
      files = [];
      plan = record { entries = [] };
      evicts = [];
    }

abbrev pub unreached_trace : List Rec
unreached_trace =
    at 1 (event.Burst 1001 0) ∷
    at 1 (event.Issue 1001 1 (call.OpenFile (codes "/f") 6)) ∷
    at 1 (sends 1 2 (call_of 1001 1) (send.Broadcast [])) ∷
    at 1 (event.Fault 1 2 fate.Lost) ∷
    at 1 (tries_again 1) ∷
    at 1 (event.Fault 1 2 fate.Lost) ∷
    at 1 (tries_again 1) ∷
    at 1 (event.Fault 1 2 fate.Lost) ∷
    at 1 (tries_again 1) ∷
    at 1 (event.Fault 1 2 fate.Lost) ∷
    at 1 (tries_again 1) ∷
    at 1 (event.Fault 1 2 fate.Lost) ∷
    at 1 (tries_again 1) ∷
    at 1 (event.Fault 1 2 fate.Lost) ∷
    at 1 (tries_again 1) ∷
    at 1 (event.Fault 1 2 fate.Lost) ∷
    at 1 (tries_again 1) ∷
    at 1 (event.Fault 1 2 fate.Lost) ∷
    at 1 (ends_tries 1) ∷
    at 1 (enters 1001 1 (call.OpenFile (codes "/f") 6) (Error errno.Unreachable)) ∷
    at 1 (event.Return 1001 1 (Error errno.Unreachable)) ∷
    at 1 (event.Burst 1001 0) ∷
    at 1 (event.Issue 1001 2 (call.Exit 17)) ∷
    at 1 (enters 1001 2 (call.Exit 17) nothing) ∷
    []

-- seven packets are lost, not eight
abbrev pub seven_lost_trace : List Rec
seven_lost_trace = without 17 unreached_trace

-- the first try is over, and nothing was lost
abbrev pub nothing_lost_trace : List Rec
nothing_lost_trace = without 3 unreached_trace

-- the fourth try is the last one
abbrev pub four_tries_trace : List Rec
four_tries_trace = take 10 unreached_trace ++ at 1 (ends_tries 1) ∷ drop 19 unreached_trace
