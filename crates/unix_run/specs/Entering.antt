-- Whether an entry is made, by parts.
use Rattle.std.specs.Prelude.{◌≡◌, ℕ, Bool, true, false, ◌&&◌, not, if◌then◌else◌, List, Option, Some, None, slice_get}
use Rattle.std.specs.Option.{is_some, option_map}
use Rattle.sprite_ids.specs.declared.errno.Errno.TheVariants as errno
use Rattle.sprite_ids.specs.declared.running.Ending.TheVariants as ending
use Rattle.process_machine.specs.declared.call.Call.{Call}
use Rattle.process_machine.specs.declared.call.Reply.{Reply}
use Rattle.process_machine.specs.declared.call.Reply.TheVariants.{Value, Error}
use Rattle.unix_calls.specs.declared.description.Description.{Description}
use Rattle.unix_calls.specs.declared.state.Device.{Device}
use Rattle.unix_calls.specs.declared.state.Process.{Process}
use Rattle.unix_calls.specs.State.{Unix, device_at, no_descriptors, with_process}
use Rattle.unix_calls.specs.DeviceCalls.{answer_for}
use Rattle.unix_calls.specs.Same.{same_reply}
use Rattle.unix_calls.specs.After.{after_ask, asked, done_with, may_fail, outcome}
use Rattle.unix_world.specs.declared.World.{World}
use Rattle.unix_run.specs.declared.came.Came.{Came}
use Rattle.unix_run.specs.declared.came.Came.TheVariants as came
use Rattle.unix_world.specs.Among.{Ascending}
use Rattle.unix_world.specs.Worlds.{unix_of}

-- the state that was made; none where none was
abbrev pub made_state : Bool → Unix → Option Unix
made_state true u = Some u
made_state false u = None

-- a step of p in the state w is made or not, and leaves the state `after` with the process q, whatever the other processes are
pub record Makes (c : Description) (step : Unix → Process → Option Unix) (w : World) (p : Process) (is : Bool) (after : World) (q : Process) : Type 0 where
  pub tells : (ps : List Process) → step (unix_of c w ps) p ≡ made_state is (with_process q (unix_of c after ps))
  pub same : q.pid ≡ p.pid
  pub stays : after.entries ≡ w.entries

-- a process that a kill ends, or that goes on
abbrev pub Dies : Process → Bool → Process → Type 0
Dies p true q = ((p.killed && not (is_some p.asking)) ≡ true) × (q ≡ record p { descriptors = no_descriptors; ending = Some ending.Killed })
Dies p false q = ((p.killed && not (is_some p.asking)) ≡ false) × (q ≡ p)

-- the ask of a call at the device that the entry at that place made
abbrev pub asks_at : ℕ → Call → Unix → Process → Option Unix
asks_at place call u p = option_map (asked u p call) (device_at u.devices place)

-- the answer that is due: the one that was left, or NoServer from a dead device
abbrev pub due_from : Bool → Option Reply → Option Reply
due_from alive (Some reply) = Some reply
due_from alive None = if alive then None else Some (Error errno.NoServer)

-- whether a reply is the answer that is due
abbrev pub is_due : Bool → Reply → Option Reply → Bool
is_due alive reply (Some due) = same_reply due reply
is_due alive reply None = not alive && same_reply (Error errno.NoServer) reply

-- the end of the operation at a device with the answer that is due, where the device is alive or not
abbrev pub done_in : Description → Bool → Reply → Unix → Process → Option Device → Option Unix
done_in c alive reply u p None = None
done_in c alive reply u p (Some device) = done_with c u p device reply (due_from alive (answer_for p.pid device.answers))

abbrev pub ends_ask : Description → ℕ → Bool → Reply → Unix → Process → Option Unix
ends_ask c place alive reply u p = done_in c alive reply u p (device_at u.devices place)

-- a step of the process that stands there is made or not, and leaves the state `after` with these processes
pub record MakesAmong (c : Description) (step : Unix → Process → Option Unix) (w : World) (ps : List Process) (at : ℕ) (is : Bool) (after : World) (qs : List Process) : Type 0 where
  pub tells : (p : Process) → slice_get ps at ≡ Some p → step (unix_of c w ps) p ≡ made_state is (unix_of c after qs)
  pub stays : after.entries ≡ w.entries
  pub ascends : Ascending qs

-- whether the reply may stand in the place of the one that is due
abbrev pub stands : Process → Call → Reply → Bool
stands p call (Error e) = may_fail p call e
stands p call (Value first second bytes) = false

-- whether a call came to that reply
abbrev pub is_answer : Came → Reply → Bool
is_answer (came.Answered due) reply = same_reply due reply
is_answer other reply = false

-- an ask of a process that is in none
abbrev pub asks_free : Description → Call → Unix → Process → Option Unix
asks_free c call u p = if is_some p.asking then None else after_ask u p call (outcome c u p call)
