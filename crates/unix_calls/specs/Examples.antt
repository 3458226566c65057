-- Words for small clusters and journals.
use Rattle.std.specs.Prelude.{Option, Bool, false, ℕ, ◌+◌, List, [], ◌∷◌, ◌++◌, map, take, replicate, Some, None, codes}
use Rattle.process_machine.specs.declared.instruction.Instruction.{Instruction}
use Rattle.process_machine.specs.declared.instruction.Instruction.TheVariants.{Sys}
use Rattle.process_machine.specs.declared.instruction.Operand.{Operand}
use Rattle.process_machine.specs.declared.instruction.SyscallName.{SyscallName}
use Rattle.process_machine.specs.declared.call.Call.{Call}
use Rattle.process_machine.specs.declared.call.Reply.{Reply}
use Rattle.process_machine.specs.declared.program.Program.{Program}
use Rattle.process_machine.specs.declared.program.Text.{Text}
use Rattle.unix_calls.specs.declared.description.Description.{Description}
use Rattle.unix_calls.specs.declared.description.KernelLine.{KernelLine}
use Rattle.unix_calls.specs.declared.description.ProgramLine.{ProgramLine}
use Rattle.unix_calls.specs.declared.description.StartLine.{StartLine}
use Rattle.unix_calls.specs.declared.entry.Entry.{Entry}
use Rattle.unix_calls.specs.declared.entry.Part.TheVariants as part
use Rattle.std.specs.Option.{option_map, unwrap_or}
use Rattle.unix_calls.specs.State.{Unix, process_at}
use Rattle.unix_calls.specs.After.{state_of, blocked}

-- a system call with its operands
abbrev pub sys : SyscallName → List Operand → Instruction
sys called operands = Sys called (take 4 (map Some operands ++ replicate 4 None))

-- a text of a program
abbrev pub text_at : ℕ → List ℕ → Text
text_at address bytes = record { address = address; bytes = bytes }

-- the first program of a cluster, of one page
abbrev pub program_of : List Text → List Instruction → Program
program_of texts code = record { number = 1; pages = 1; texts = texts; code = code }

-- the second one
abbrev pub second_program_of : List Text → List Instruction → Program
second_program_of texts code = record { number = 2; pages = 1; texts = texts; code = code }

-- the clients c1 and c2, and the server s1 of `/`
abbrev pub kernels : List KernelLine
kernels =
    record { name = codes "c1"; serves = [] } ∷ record { name = codes "c2"; serves = [] } ∷ record { name = codes "s1"; serves = [] ∷ [] } ∷ []

-- these kernels with programs, of which each starts once, on c1
abbrev pub started_from : ℕ → List ProgramLine → List StartLine
started_from place [] = []
started_from place (line ∷ lines) = record { host = 1; program = place; arg = 0 } ∷ started_from (place + 1) lines

abbrev pub cluster_of : List ProgramLine → Description
cluster_of programs =
    record {
      version = 1;
      budget = 1000000;
      cache = 64;
      kernels = kernels;
      programs = programs;
      starts = started_from 1 programs;
      files = [];
      plan = record { entries = [] };
      evicts = [];
    }

-- with one program, of the name p
abbrev pub cluster_with : Program → Description
cluster_with program = cluster_of (record { name = codes "p"; program = program } ∷ [])

-- a whole call
abbrev pub whole : ℕ → ℕ → Call → Reply → Entry
whole pid number called reply =
    record { pid = pid; number = number; part = part.Whole; call = Some called; reply = Some reply }

-- a call and its reply
pub record Answered : Type 0 where
  pub call : Call
  pub reply : Reply

-- whole calls of one process, from a number on
abbrev pub calls_from : ℕ → ℕ → List Answered → List Entry
calls_from pid number [] = []
calls_from pid number (a ∷ more) = whole pid number a.call a.reply ∷ calls_from pid (number + 1) more

-- all calls of the first process of c1
abbrev pub calls : List Answered → List Entry
calls answered = calls_from 1001 1 answered

-- a call, and the reply that it has
abbrev pub gives : Call → Reply → Answered
gives called reply = record { call = called; reply = reply }

-- a death
abbrev pub death : ℕ → ℕ → Entry
death pid number = record { pid = pid; number = number; part = part.Death; call = None; reply = None }

-- an ask of a device's master, and its end
abbrev pub ask : ℕ → ℕ → Call → Entry
ask pid number called = record { pid = pid; number = number; part = part.Ask; call = Some called; reply = None }

abbrev pub done : ℕ → ℕ → Call → Reply → Entry
done pid number called reply = record { pid = pid; number = number; part = part.Done; call = Some called; reply = Some reply }

-- whether a process waits behind a journal, and nothing of its own can end that
abbrev pub blocked_there : Description → Option Unix → ℕ → Bool
blocked_there c None pid = false
blocked_there c (Some u) pid = unwrap_or (option_map (blocked c u) (process_at u.processes pid)) false

abbrev pub blocked_behind : Description → List Entry → ℕ → Bool
blocked_behind c journal pid = blocked_there c (state_of c journal) pid
