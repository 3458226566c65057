-- What a home does is what the one-kernel Unix does.
use Rattle.std.specs.Prelude.{◌≡◌, ◌≤◌, ℕ, true, Some, None}
use Rattle.sprite_ids.specs.Pid.{home_of, birth_of}
use Rattle.sprite_ids.specs.declared.Ending.TheVariants as ending
use Rattle.process_machine.specs.declared.call.Call.{Call}
use Rattle.process_machine.specs.declared.call.Call.TheVariants as call
use Rattle.process_machine.specs.declared.call.Reply.{Reply}
use Rattle.home_table.specs.Home.{Table, ended, is_pending_at, killed}
use Rattle.unix_calls.specs.declared.Description.{Description}
use Rattle.unix_calls.specs.State.{Unix}
use Rattle.unix_calls.specs.After.{blocked}
use Rattle.unix_frames.specs.Order.{AreInOrder}
use Rattle.home_laws.specs.Homes.{TellsTheSame}
use Rattle.home_laws.specs.Calls.{MayCall, Calls, call_entry, death_entry}
use Rattle.home_laws.specs.Answers.{home_answer, behind_call, kill_answer}
use Rattle.home_laws.specs.Deeds.{Goes}

-- each call that a home answers one of its processes
abbrev pub HomesAnswerAsOne : Type 0
HomesAnswerAsOne = (c : Description) (u : Unix) (table : Table) (pid number : ℕ) (called : Call) (reply : Reply)
    → AreInOrder u.processes → TellsTheSame table u → home_of pid ≡ table.home → Calls c u pid number called
    → home_answer c table pid called ≡ Some reply → Goes c u (call_entry pid number called reply) (behind_call table pid called)

-- a `wait` that a home doesn't answer yet: the process is blocked in the one-kernel Unix
abbrev pub WaitsAreBlocked : Type 0
WaitsAreBlocked = (c : Description) (u : Unix) (table : Table) (pid number : ℕ)
    → AreInOrder u.processes → TellsTheSame table u → home_of pid ≡ table.home → (calls : Calls c u pid number call.Wait)
    → home_answer c table pid call.Wait ≡ None → blocked c u calls.may.process ≡ true

-- a `kill`, at the home of its argument, whosever call it is
abbrev pub KillsAsOne : Type 0
KillsAsOne = (c : Description) (u : Unix) (table : Table) (pid number target : ℕ)
    → AreInOrder u.processes → TellsTheSame table u → home_of target ≡ table.home → 1 ≤ birth_of target → Calls c u pid number (call.Kill target)
    → Goes c u (call_entry pid number (call.Kill target) (kill_answer table target)) (killed table target)

-- a death, where the home has a kill of the process pending
abbrev pub DeathsAsOne : Type 0
DeathsAsOne = (c : Description) (u : Unix) (table : Table) (pid number : ℕ)
    → AreInOrder u.processes → TellsTheSame table u → home_of pid ≡ table.home → MayCall u pid number
    → is_pending_at table pid ≡ true → Goes c u (death_entry pid number) (ended table pid ending.Killed)
