-- The `wait`s that are parked at a home: each is woken as soon as its table answers it.
use Rattle.std.specs.Prelude.{◌≡◌, ◌≤◌, ℕ, ◌==◌, Bool, true, false, List, Option, Some, None, is_some}
use Rattle.std.specs.List.{AllByRecursion, list_any}
use Rattle.sprite_ids.specs.Pid.{birth_of}
use Rattle.sprite_ids.specs.Lists.{EachOnce}
use Rattle.sprite_ids.specs.declared.TxNo.{TxNo}
use Rattle.kernel_steps.specs.Rows.{is_under}
use Rattle.packet_bodies.specs.declared.HomeCall.{HomeCall}
use Rattle.packet_bodies.specs.declared.HomeCall.TheVariants as home_calls
use Rattle.packet_bodies.specs.declared.HomeRequest.{HomeRequest}
use Rattle.packet_bodies.specs.declared.ReplyBody.{ReplyBody}
use Rattle.unix_calls.specs.declared.Description.{Description}
use Rattle.home_table.specs.Home.{Table, birth_at, has_ended_at, is_pending_at, wait_answer}
use Rattle.home_laws.specs.Answers.{told_wait}
use Rattle.client_homes.specs.declared.client.ClientProcs.{ClientProcs}
use Rattle.client_homes.specs.declared.client.Parked.{Parked}
use Rattle.client_homes.specs.Ends.{dies}
use Rattle.client_homes.specs.Homes.{lives_at}
use Rattle.client_homes.specs.Issuing.{hears_home, home_for, issues_home, own_request, serves_home}
use Rattle.client_homes.specs.Kills.{hears_kill, tells_place}
use Rattle.client_homes.specs.Procs.{is_pid}
use Rattle.home_acts.specs.Deeds.{IsHome, seen}

-- a process whose `wait` is parked was born here; it has ended since, or the table has no answer to a `wait` of it yet
pub data Waits (table : Table) (pid : ℕ) : Type 0 where
  Over : has_ended_at table pid ≡ true → Waits table pid
  Still : told_wait (wait_answer table pid) (is_pending_at table pid) ≡ None → Waits table pid

pub record WaitsRightly (table : Table) (pid : ℕ) : Type 0 where
  pub from : 1 ≤ birth_of pid
  pub born : is_some (birth_at table.births pid) ≡ true
  pub waits : Waits table pid

-- whether two rows are of one process
abbrev pub same_waiter : ℕ × Parked → ℕ × Parked → Bool
same_waiter row other = other.0 == row.0

-- each has one `wait` parked at most, and waits rightly
pub record AreWaiting (table : Table) (rows : List (ℕ × Parked)) : Type 0 where
  pub once : EachOnce same_waiter rows
  pub each : AllByRecursion (λ (row : ℕ × Parked). WaitsRightly table row.0) rows

abbrev pub ParkedWait : ClientProcs → Type 0
ParkedWait s = AreWaiting s.home s.waits

-- a call of a process that lives, whose `wait` isn't parked already; a `kill` of what may be a process
abbrev pub MayAsk : HomeCall → ℕ → ClientProcs → Type 0
MayAsk home_calls.Wait pid s = (1 ≤ birth_of pid) × (lives_at pid s ≡ true) × (list_any (is_under is_pid pid) s.waits ≡ false)
MayAsk (home_calls.Kill target) pid s = 1 ≤ birth_of target
MayAsk called pid s = Unit {0}

abbrev pub MayAskIf : Option HomeRequest → ClientProcs → Type 0
MayAskIf (Some request) s = MayAsk request.call request.pid s
MayAskIf None s = Unit {0}

-- behind whatever is done at a home, whatever is parked there waits rightly again: whose `wait` is answered by then was woken
pub record ParkedAreWoken : Type 0 where
  pub served : (c : Description) (s : ClientProcs) (tx : TxNo) (request : HomeRequest) → IsHome c (seen s) → home_for request ≡ s.home.home → MayAsk request.call request.pid s → ParkedWait s → ParkedWait (serves_home tx request s)
  pub issued : (c : Description) (s : ClientProcs) (pid : ℕ) → IsHome c (seen s) → MayAskIf (own_request pid s) s → ParkedWait s → ParkedWait (issues_home pid s)
  pub heard : (c : Description) (s : ClientProcs) (tx : TxNo) (pid : ℕ) (body : ReplyBody) → IsHome c (seen s) → ParkedWait s → ParkedWait (hears_home tx pid body s)
  pub died : (c : Description) (s : ClientProcs) (pid : ℕ) → IsHome c (seen s) → ParkedWait s → ParkedWait (dies pid s)
  pub kill_heard : (c : Description) (s : ClientProcs) (tx : TxNo) (pid : ℕ) → IsHome c (seen s) → ParkedWait s → ParkedWait (hears_kill tx pid s)
  pub place_heard : (c : Description) (s : ClientProcs) (tx : TxNo) (pid kernel : ℕ) → IsHome c (seen s) → ParkedWait s → ParkedWait (tells_place tx pid kernel s)
