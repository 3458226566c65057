-- What a law needs of the process whose call a home does.
use Rattle.std.specs.Prelude.{◌≡◌, ℕ, ◌+◌, true, Some, None}
use Rattle.process_machine.specs.declared.call.Call.{Call}
use Rattle.process_machine.specs.declared.call.Reply.{Reply}
use Rattle.process_machine.specs.declared.program.Program.{Program}
use Rattle.process_machine.specs.Machine.{Machine}
use Rattle.process_machine.specs.Runs.{at_next_call, call_of_next}
use Rattle.unix_calls.specs.declared.Description.{Description}
use Rattle.unix_calls.specs.declared.Entry.{Entry}
use Rattle.unix_calls.specs.declared.entry.Part.TheVariants as part
use Rattle.unix_calls.specs.declared.state.Process.{Process}
use Rattle.unix_calls.specs.State.{Unix, process_at, lives}
use Rattle.unix_calls.specs.Answers.{program_at}

-- the process lives and is in no ask, and its next call has that number
pub record MayCall (u : Unix) (pid number : ℕ) : Type 0 where
  pub process : Process
  pub there : process_at u.processes pid ≡ Some process
  pub living : lives process ≡ true
  pub idle : process.asking ≡ None
  pub numbered : number ≡ process.calls + 1

-- and it is that call
pub record IsNextCall (c : Description) (process : Process) (called : Call) : Type 0 where
  pub program : Program
  pub image : Machine
  pub program_is : program_at c.programs process.image.number ≡ Some program
  pub comes : at_next_call program process.image ≡ Some image
  pub call_is : call_of_next program (Some image) ≡ Some called

pub record Calls (c : Description) (u : Unix) (pid number : ℕ) (called : Call) : Type 0 where
  pub may : MayCall u pid number
  pub next : IsNextCall c may.process called

-- the entry of a whole call
abbrev pub call_entry : ℕ → ℕ → Call → Reply → Entry
call_entry pid number called reply = record { pid = pid; number = number; part = part.Whole; call = Some called; reply = Some reply }

-- the entry of a death
abbrev pub death_entry : ℕ → ℕ → Entry
death_entry pid number = record { pid = pid; number = number; part = part.Death; call = None; reply = None }
