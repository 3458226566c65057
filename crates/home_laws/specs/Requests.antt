-- What comes to a home: requests that fit, until they are served.
use Rattle.std.specs.Prelude.{◌≡◌, ◌≢◌, ◌≤◌, ℕ, Bool, true, false, List, length, Some, None}
use Rattle.sprite_ids.specs.Pid.{home_of, birth_of}
use Rattle.sprite_ids.specs.declared.Ending.TheVariants as ending
use Rattle.process_machine.specs.declared.call.Call.{Call}
use Rattle.process_machine.specs.declared.call.Call.TheVariants as call
use Rattle.process_machine.specs.declared.call.Reply.{Reply}
use Rattle.home_table.specs.Home.{Table, ended, killed}
use Rattle.unix_calls.specs.declared.Description.{Description}
use Rattle.unix_calls.specs.declared.Entry.{Entry}
use Rattle.unix_calls.specs.State.{Unix}
use Rattle.unix_calls.specs.After.{after, blocked, state_of}
use Rattle.unix_frames.specs.Order.{AreInOrder}
use Rattle.home_laws.specs.Homes.{TellsTheSame}
use Rattle.home_laws.specs.Calls.{MayCall, Calls, call_entry, death_entry}
use Rattle.home_laws.specs.Answers.{behind_call, home_answer, kill_answer}
use Rattle.home_laws.specs.Deeds.{Goes}

-- whether a call is done by its process's home
abbrev pub is_done_at_home : Call → Bool
is_done_at_home (call.Print bytes) = true
is_done_at_home (call.Exit code) = true
is_done_at_home call.BadStep = true
is_done_at_home call.Getppid = true
is_done_at_home (call.Host max) = true
is_done_at_home call.Tick = true
is_done_at_home call.Fork = true
is_done_at_home call.Wait = true
is_done_at_home _ = false

-- a request that fits a home: the next call of one of its processes; a `kill` of one of its processes, whosever next call that is; or
-- the death of one of its processes, which a kill is pending for
pub data HomeFits (c : Description) (u : Unix) (home pid number : ℕ) : Type 0 where
  OfCall : (called : Call) → Calls c u pid number called → is_done_at_home called ≡ true → home_of pid ≡ home → HomeFits c u home pid number
  OfKill : (target : ℕ) → Calls c u pid number (call.Kill target) → home_of target ≡ home → 1 ≤ birth_of target → HomeFits c u home pid number
  OfDeath : (may : MayCall u pid number) → may.process.killed ≡ true → home_of pid ≡ home → 1 ≤ birth_of pid → HomeFits c u home pid number

-- it still fits behind each entry of any other process, however long it is on its way or waits
abbrev pub RequestsGoOnFitting : Type 0
RequestsGoOnFitting = (c : Description) (journal : List Entry) (u v : Unix) (e : Entry) (home pid number : ℕ)
    → length c.starts ≤ 200 → state_of c journal ≡ Some u → after c u e ≡ Some v → e.pid ≢ pid → HomeFits c u home pid number → HomeFits c v home pid number

-- what a home does with it: it answers a call, a kill or a death as the one-kernel Unix does; a `wait` that it doesn't answer yet blocks
-- there too
pub data Served (c : Description) (u : Unix) (table : Table) (pid number : ℕ) : Type 0 where
  Answered : (called : Call) (reply : Reply) → home_answer c table pid called ≡ Some reply → Goes c u (call_entry pid number called reply) (behind_call table pid called) → Served c u table pid number
  Parked : (calls : Calls c u pid number call.Wait) → home_answer c table pid call.Wait ≡ None → blocked c u calls.may.process ≡ true → Served c u table pid number
  Killed : (target : ℕ) → Goes c u (call_entry pid number (call.Kill target) (kill_answer table target)) (killed table target) → Served c u table pid number
  Died : Goes c u (death_entry pid number) (ended table pid ending.Killed) → Served c u table pid number

abbrev pub RequestsAreServed : Type 0
RequestsAreServed = (c : Description) (u : Unix) (table : Table) (pid number : ℕ) → AreInOrder u.processes → TellsTheSame table u → HomeFits c u table.home pid number → Served c u table pid number
