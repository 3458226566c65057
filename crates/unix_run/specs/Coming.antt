-- What a call comes to, whatever the other processes are.
use Rattle.std.specs.Prelude.{◌≡◌, List}
use Rattle.unix_calls.specs.declared.description.Description.{Description}
use Rattle.unix_calls.specs.declared.state.Process.{Process}
use Rattle.unix_calls.specs.State.{Unix, with_process}
use Rattle.unix_calls.specs.Answers.{Outcome, Answered, GoesTo, Waits}
use Rattle.unix_world.specs.declared.World.{World}
use Rattle.unix_world.specs.Worlds.{unix_of}
use Rattle.unix_run.specs.declared.came.Came.{Came}
use Rattle.unix_run.specs.declared.came.Came.TheVariants as came

-- what a call comes to, where the state is this after its answer
abbrev pub told : Came → Unix → Outcome
told (came.Answered reply) u = Answered reply u
told (came.GoesTo place) u = GoesTo place
told came.Waits u = Waits

-- whether nothing has changed, where the call isn't answered
abbrev pub Keeps : Came → World → Process → World → Process → Type 0
Keeps (came.Answered reply) w p after q = Unit {0}
Keeps other w p after q = (after ≡ w) × (q ≡ p)

-- a call of p in the state w comes to that, and leaves the state `after` with the caller q, whatever the other processes are
pub record Comes (c : Description) (call : Unix → Process → Outcome) (w : World) (p : Process) (is : Came) (after : World) (q : Process) : Type 0 where
  pub tells : (ps : List Process) → call (unix_of c w ps) p ≡ told is (with_process q (unix_of c after ps))
  pub same : q.pid ≡ p.pid
  pub stays : after.entries ≡ w.entries
  pub keeps : Keeps is w p after q
