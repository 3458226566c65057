-- What becomes of one entry.
use Rattle.std.specs.Prelude.{◌≡◌, ◌≤◌, ◌<◌, ◌+◌, ◌==◌, ℕ, Bool, true, false, if◌then◌else◌, List, Option, Some, None, slice_get}
use Rattle.process_machine.specs.declared.call.Call.{Call}
use Rattle.process_machine.specs.declared.program.Program.{Program}
use Rattle.process_machine.specs.Calls.{call_at}
use Rattle.process_machine.specs.Steps.{AtCall, step_of}
use Rattle.unix_calls.specs.declared.description.Description.{Description}
use Rattle.unix_calls.specs.declared.entry.Entry.{Entry}
use Rattle.unix_calls.specs.declared.state.Process.{Process}
use Rattle.unix_calls.specs.State.{Unix}
use Rattle.unix_calls.specs.Answers.{program_at}
use Rattle.unix_calls.specs.Same.{same_call}
use Rattle.unix_calls.specs.After.{after_death, after_living, after_part, at_program, is_death}
use Rattle.unix_world.specs.declared.World.{World}
use Rattle.unix_world.specs.Among.{Ascending}
use Rattle.unix_run.specs.Entering.{made_state}
use Rattle.unix_world.specs.Worlds.{unix_of}
use Rattle.one_kernel.specs.declared.applying.Applied.{Applied}
use Rattle.one_kernel.specs.declared.applying.Applied.TheVariants as applied
use Rattle.one_kernel.specs.Verdicts.{way_at, way_by}

-- what became of an entry whose process has that way to its call, may do so many instructions, and that leads to that state: it is
-- made, with the state after it; one kernel doesn't make it; or its way is too long
abbrev pub Applies : Description → ℕ → ℕ → Option Unix → Applied → World → List Process → Type 0
Applies c left way state (applied.Made n) w ps = (way ≡ n) × (n ≤ left) × (state ≡ Some (unix_of c w ps)) × Ascending ps
Applies c left way state applied.NotMade w ps = (way ≤ left) × (state ≡ None)
Applies c left way state applied.Far w ps = left < way

-- of a call that stood at its place after its way
abbrev pub applied_by : Bool → ℕ → Applied
applied_by true n = applied.Made n
applied_by false n = applied.NotMade

-- the state after an entry of a process that claims a call, but for the count of entries
abbrev pub called : Description → Entry → Call → Unix → Process → Option Unix
called c e claimed u p =
    if e.number == p.calls + 1 then at_program c u p e claimed (program_at c.programs p.image.number) else None

-- what became of a call of the process that stands there
pub record CallApplies (c : Description) (left : ℕ) (e : Entry) (claimed : Call) (w : World) (ps : List Process) (at : ℕ) (is : Applied) (after_w : World) (qs : List Process) : Type 0 where
  pub applies : (p : Process) → slice_get ps at ≡ Some p → Applies c left (way_by (program_at c.programs p.image.number) p.image) (called c e claimed (unix_of c w ps) p) is after_w qs

-- and of an entry of it
pub record LivingApplies (c : Description) (left : ℕ) (e : Entry) (w : World) (ps : List Process) (at : ℕ) (is : Applied) (after_w : World) (qs : List Process) : Type 0 where
  pub applies : (p : Process) → slice_get ps at ≡ Some p → Applies c left (way_at c p e.call) (after_living c (unix_of c w ps) p e e.call) is after_w qs

-- a call of a process that stands at its next call
abbrev pub enters : Description → Entry → Call → Call → Unix → Process → Option Unix
enters c e claimed next u p =
    if e.number == p.calls + 1
    then (if same_call claimed next then after_part c u p e.part next e.reply else None)
    else None

-- a death
abbrev pub dies : Entry → Unix → Process → Option Unix
dies e u p = if is_death e then after_death u p else None

-- of the process that stands there, whatever the rest of the state is
pub record DiesAmong (e : Entry) (ps : List Process) (at : ℕ) (is : Bool) (qs : List Process) : Type 0 where
  pub tells : (c : Description) (w : World) (p : Process) → slice_get ps at ≡ Some p → dies e (unix_of c w ps) p ≡ made_state is (unix_of c w qs)
  pub ascends : Ascending qs

-- the process that stands there stands at a system call
pub record StandsAtCall (program : Program) (ps : List Process) (at : ℕ) : Type 0 where
  pub process : Process
  pub there : slice_get ps at ≡ Some process
  pub step : step_of program process.image ≡ AtCall

-- whether the call that it claims there is made
pub record MakesCalled (c : Description) (e : Entry) (claimed : Call) (program : Program) (w : World) (ps : List Process) (at : ℕ) (is : Bool) (after_w : World) (qs : List Process) : Type 0 where
  pub tells : (p : Process) → slice_get ps at ≡ Some p → enters c e claimed (call_at program p.image) (unix_of c w ps) p ≡ made_state is (unix_of c after_w qs)
  pub ascends : Ascending qs

-- one entry more, where it was made
abbrev pub counted_world : Applied → World → World
counted_world (applied.Made n) w = record w { entries = w.entries + 1 }
counted_world other w = w
