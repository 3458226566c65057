-- An entry is a call that makes a change, an ask, a done or a death.
use Rattle.std.proofs.Common.{◌≡◌, ℕ, true, Some, None, subst}
use Rattle.sprite_ids.specs.declared.Ending.TheVariants as ending
use Rattle.process_machine.specs.declared.call.Call.{Call}
use Rattle.process_machine.specs.declared.call.Reply.{Reply}
use Rattle.process_machine.specs.declared.call.Reply.TheVariants.{Error}
use Rattle.process_machine.specs.Machine.{Machine}
use Rattle.unix_calls.specs.declared.Description.{Description}
use Rattle.unix_calls.specs.declared.Entry.{Entry}
use Rattle.unix_calls.specs.declared.entry.Part.TheVariants as part
use Rattle.unix_calls.specs.declared.state.Device.{Device}
use Rattle.unix_calls.specs.declared.state.Process.{Process}
use Rattle.unix_calls.specs.State.{Unix, device_at, lives, no_descriptors, process_at, with_process}
use Rattle.unix_calls.specs.Answers.{replied}
use Rattle.unix_calls.specs.After.{after, asked, counted, fetched}
use Rattle.unix_frames.proofs.ChangeLaws.{Change, Itself, Makes, made_outcome, still_replied}
use Rattle.unix_frames.proofs.EntryLaws.{Enters, IsAt, opened}
use Rattle.unix_frames.proofs.EntryLaws as entry

-- q is a living process of that number, with its image at its call
pub record At (u : Unix) (pid : ℕ) (q : Process) : Type 0 where
  pub before : Process
  pub image : Machine
  pub there : process_at u.processes pid ≡ Some before
  pub alive : lives before ≡ true
  pub whole : q ≡ record before { image = image }

-- what an entry does
pub data Step (c : Description) (u : Unix) (e : Entry) (later : Unix) : Type 0 where
  Calls : (q : Process) (called : Call) → At u e.pid q → e.call ≡ Some called → e.part ≡ part.Whole → Change (with_process q u) q called later → Step c u e later
  Asks : (q : Process) (called : Call) (place : ℕ) (device : Device) → At u e.pid q → e.call ≡ Some called → e.part ≡ part.Ask → device_at u.devices place ≡ Some device → later ≡ asked (with_process q u) q called device → Step c u e later
  Fetches : (q : Process) (called : Call) (device : Device) (reply : Reply) → At u e.pid q → e.call ≡ Some called → e.part ≡ part.Done → later ≡ with_process (replied c q reply) (fetched (with_process q u) q device) → Step c u e later
  Dies : (p : Process) → process_at u.processes e.pid ≡ Some p → lives p ≡ true → e.call ≡ None → e.part ≡ part.Death → later ≡ with_process (record p { descriptors = no_descriptors; ending = Some ending.Killed }) u → Step c u e later

at_of : (c : Description) (u : Unix) (e : Entry) (q : Process) (called : Call) → IsAt c u e q called → At u e.pid q
at_of c u e q called at = record { before = at.before; image = at.image; there = at.there; alive = at.alive; whole = at.whole }

-- what makes an entry one of the one-kernel Unix tells what it does
step_of : (c : Description) (u : Unix) (e : Entry) (later : Unix) → Enters c u e later → Step c u e later
step_of c u e later (entry.Answers q called reply at whole given idle is) =
    Calls q called (at_of c u e q called at) at.claimed whole (subst (Makes (with_process q u) q called) is (made_outcome c (with_process q u) q called)).does
step_of c u e later (entry.Fails q called error at whole given idle may is) =
    Calls q called (at_of c u e q called at) at.claimed whole (Itself (replied c q (Error error)) (still_replied c q (Error error)) is)
step_of c u e later (entry.Asks q called place device at ask given idle goes there is) = Asks q called place device (at_of c u e q called at) at.claimed ask there is
step_of c u e later (entry.Fetches q called place device reply at done given busy there due is) = Fetches q called device reply (at_of c u e q called at) at.claimed done is
step_of c u e later (entry.Dies p there alive killed idle death none given is) = Dies p there alive none death is

-- an entry is a step, with one entry more
pub record Entered (c : Description) (u : Unix) (e : Entry) (v : Unix) : Type 0 where
  pub later : Unix
  pub step : Step c u e later
  pub whole : v ≡ counted later

pub entered : (c : Description) (u v : Unix) (e : Entry) → after c u e ≡ Some v → Entered c u e v
entered c u v e is = let o = opened c u v e is in record { later = o.later; step = step_of c u e o.later o.enters; whole = o.whole }
