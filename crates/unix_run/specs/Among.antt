-- What a call of one process among all comes to.
use Rattle.std.specs.Prelude.{◌≡◌, ◌<◌, ℕ, List, Some, slice_get}
use Rattle.process_machine.specs.declared.call.Call.{Call}
use Rattle.process_machine.specs.declared.call.Call.TheVariants as call
use Rattle.unix_calls.specs.declared.description.Description.{Description}
use Rattle.unix_calls.specs.declared.state.Process.{Process}
use Rattle.unix_calls.specs.State.{Unix}
use Rattle.unix_calls.specs.Answers.{Outcome}
use Rattle.unix_world.specs.declared.World.{World}
use Rattle.unix_world.specs.Among.{Ascending}
use Rattle.unix_world.specs.Worlds.{unix_of}
use Rattle.unix_run.specs.declared.came.Came.{Came}
use Rattle.unix_run.specs.declared.came.Came.TheVariants as came
use Rattle.unix_run.specs.Coming.{told}

-- the caller stands there, and its calls can be counted further
pub record IsCaller (ps : List Process) (at : ℕ) : Type 0 where
  pub process : Process
  pub there : slice_get ps at ≡ Some process
  pub room : process.calls < 4294967295

-- whether nothing has changed, where the call isn't answered
abbrev pub KeepsAmong : Came → World → List Process → World → List Process → Type 0
KeepsAmong (came.Answered reply) w ps after qs = Unit {0}
KeepsAmong other w ps after qs = (after ≡ w) × (qs ≡ ps)

-- a call of the process that stands there comes to that, and leaves the state `after` with these processes
pub record ComesAmong (c : Description) (call : Unix → Process → Outcome) (w : World) (ps : List Process) (at : ℕ) (is : Came) (after : World) (qs : List Process) : Type 0 where
  pub tells : (p : Process) → slice_get ps at ≡ Some p → call (unix_of c w ps) p ≡ told is (unix_of c after qs)
  pub stays : after.entries ≡ w.entries
  pub ascends : Ascending qs
  pub keeps : KeepsAmong is w ps after qs

-- an exit's code is under 256, as that of every call that an image makes
abbrev pub IsBounded : Call → Type 0
IsBounded (call.Exit code) = code < 256
IsBounded other = Unit {0}
