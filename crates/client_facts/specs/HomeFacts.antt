-- Facts of the home in a client's kernel that every step keeps. No contract leans on them: where a step needs one, it tests it.
use Rattle.std.specs.Prelude.{◌≡◌, ℕ, ◌+◌, ◌==◌, Bool, true, false, ◌&&◌, ◌||◌, not, List, [], ◌∷◌, Option, Some, None, is_some}
use Rattle.std.specs.List.{list_all, list_any}
use Rattle.sprite_ids.specs.declared.TxNo.{TxNo}
use Rattle.sprite_ids.specs.Lists.{EachOnce}
use Rattle.kernel_steps.specs.Rows.{is_under}
use Rattle.home_table.specs.declared.birth.Birth.{Birth}
use Rattle.home_table.specs.declared.end.WaitAnswer.{WaitAnswer}
use Rattle.home_table.specs.declared.end.WaitAnswer.TheVariants as waits
use Rattle.home_table.specs.Home.{is_pending, pid_at}
use Rattle.client_homes.specs.declared.client.ClientProcs.{ClientProcs}
use Rattle.client_homes.specs.declared.client.KillState.{KillState}
use Rattle.client_homes.specs.declared.client.KillState.TheVariants as kills
use Rattle.client_homes.specs.declared.client.Parked.{Parked}
use Rattle.client_homes.specs.declared.client.Unfinished.{Unfinished}
use Rattle.client_homes.specs.declared.client.Unfinished.TheVariants as unfinished
use Rattle.client_homes.specs.declared.process.Proc.{Proc}
use Rattle.client_homes.specs.declared.process.ProcState.{ProcState}
use Rattle.client_homes.specs.declared.process.ProcState.TheVariants as states
use Rattle.client_homes.specs.Homes.{has_ended, is_killed, is_native, lives_at, told_to_wait}
use Rattle.client_homes.specs.Procs.{is_call, is_pid, proc_at}
use Rattle.client_homes.specs.Kills.{is_here}
use Rattle.client_homes.specs.Killing.{kill_at}
use Rattle.client_facts.specs.FileFacts.{same_process}
use Rattle.client_facts.specs.ProcFacts.{is_in, same_call_row}

-- the home is the kernel's own
abbrev pub HomeIsOwn : ClientProcs → Type 0
HomeIsOwn s = s.home.home ≡ s.kernel

-- Lives

-- whether a process of this home that is here lives, or has ended and its descriptors are closed
abbrev pub lives_or_ends : ℕ → ProcState → ClientProcs → Bool
lives_or_ends pid states.Ending s = has_ended pid s
lives_or_ends pid state s = lives_at pid s

abbrev pub is_alive_here : ClientProcs → ℕ × Proc → Bool
is_alive_here s row = not (is_native row.0 s) || lives_or_ends row.0 row.1.state s

-- a process of this home that is here lives until its last entry is made
abbrev pub NativesLive : ClientProcs → Type 0
NativesLive s = list_all (is_alive_here s) s.procs ≡ true

-- Waits

abbrev pub is_not_yet : WaitAnswer → Bool
is_not_yet waits.NotYet = true
is_not_yet waits.NoChild = false
is_not_yet (waits.Child pid status) = false

abbrev pub is_waiting_in : ProcState → Bool
is_waiting_in states.Waiting = true
is_waiting_in _ = false

-- whether the process is inside `wait` here, or another kernel asked for it
abbrev pub is_inside_wait : Option TxNo → ℕ → ClientProcs → Bool
is_inside_wait (Some tx) pid s = true
is_inside_wait None pid s = is_in is_waiting_in (proc_at pid s)

-- whether the process lives, has a child that lives and none that has ended, and no kill of it is pending
abbrev pub is_parked_rightly : ClientProcs → ℕ × Parked → Bool
is_parked_rightly s row =
    is_native row.0 s && lives_at row.0 s && is_not_yet (told_to_wait row.0 s) && not (is_killed row.0 s) && is_inside_wait row.1.tx row.0 s

-- parked are `wait`s alone that nothing could answer yet
abbrev pub ParkedAreWaiting : ClientProcs → Type 0
ParkedAreWaiting s = list_all (is_parked_rightly s) s.waits ≡ true

-- one a process
abbrev pub ParkedAreOnce : ClientProcs → Type 0
ParkedAreOnce s = EachOnce same_process s.waits

-- whether the remote call is none
abbrev pub is_own : ℕ × Parked → Bool
is_own row = not (is_some row.1.tx)

abbrev pub is_parked_own : ℕ → ℕ × Parked → Bool
is_parked_own pid row = is_under is_pid pid row && is_own row

-- whether a process in that state, inside `wait`, has it parked
abbrev pub is_parked_in : ClientProcs → ℕ × Proc → Bool
is_parked_in s row = not (is_waiting_in row.1.state) || list_any (is_parked_own row.0) s.waits

-- and who is inside `wait` here has it parked
abbrev pub WaitsAreParked : ClientProcs → Type 0
WaitsAreParked s = list_all (is_parked_in s) s.procs ≡ true

-- Kills

-- whether that kernel is told of the kill of the process and has not answered
abbrev pub tells_kill_of : ℕ → TxNo × Unfinished → Bool
tells_kill_of pid (tx, unfinished.Killed other) = other == pid
tells_kill_of pid (tx, call) = false

-- whether the kill has come so far: a kernel is told and has not answered, or the process lives and is on its way
abbrev pub has_come : ℕ → KillState → ClientProcs → Bool
has_come pid (kills.Out placed) s = list_any (tells_kill_of pid) s.unfinished
has_come pid kills.Waits s = is_killed pid s && not (is_here pid s)

abbrev pub is_kill_rightly : ClientProcs → ℕ × KillState → Bool
is_kill_rightly s row = has_come row.0 row.1 s

abbrev pub KillsAreUnderWay : ClientProcs → Type 0
KillsAreUnderWay s = list_all (is_kill_rightly s) s.kills ≡ true

-- one a process
abbrev pub KillsAreOnce : ClientProcs → Type 0
KillsAreOnce s = EachOnce same_process s.kills

-- whether a process that is here knows of its kill
abbrev pub knows_its_kill : ClientProcs → ℕ × Proc → Bool
knows_its_kill s row = not (is_killed row.0 s) || row.1.killed

-- a process of this home that is here and whose kill is pending is flagged
abbrev pub KilledHereKnowIt : ClientProcs → Type 0
KilledHereKnowIt s = list_all (knows_its_kill s) s.procs ≡ true

-- whether a process of this home that was last known here, and whose kill is pending, is here or its kill waits
abbrev pub is_found_at : ℕ → Birth → ClientProcs → Bool
is_found_at pid birth s = not (is_pending birth.life) || not (birth.place == s.kernel) || is_here pid s || is_some (kill_at pid s)

abbrev pub are_found_from : ℕ → List Birth → ClientProcs → Bool
are_found_from at [] s = true
are_found_from at (birth ∷ births) s = is_found_at (pid_at s.home.home at) birth s && are_found_from (at + 1) births s

-- a kill finds its process: it is here and flagged, or the kill waits until it comes to a kernel
abbrev pub KillsFindThem : ClientProcs → Type 0
KillsFindThem s = are_found_from 0 s.home.births s ≡ true

-- Forks

abbrev pub asks_home_for : TxNo → TxNo × Unfinished → Bool
asks_home_for tx (other, unfinished.Home pid) = is_call other tx
asks_home_for tx (other, call) = false

abbrev pub is_fork_out : ClientProcs → TxNo × ℕ → Bool
is_fork_out s row = list_any (asks_home_for row.0) s.unfinished

-- a `fork` that a home is asked for has no answer yet
abbrev pub ForksAreOut : ClientProcs → Type 0
ForksAreOut s = list_all (is_fork_out s) s.forks ≡ true

abbrev pub ForksAreOnce : ClientProcs → Type 0
ForksAreOnce s = EachOnce same_call_row s.forks

abbrev pub may_come : ClientProcs → ℕ × TxNo → Bool
may_come s row = list_any (is_under is_call row.1) s.forks

-- a process whose kill came before it waits for `fork`s alone that have no answer
abbrev pub EarlyMayCome : ClientProcs → Type 0
EarlyMayCome s = list_all (may_come s) s.early ≡ true

-- all of these
pub record KeepsHomeFacts (s : ClientProcs) : Type 0 where
  pub own : HomeIsOwn s
  pub live : NativesLive s
  pub parked : ParkedAreWaiting s
  pub parked_once : ParkedAreOnce s
  pub waits : WaitsAreParked s
  pub kills : KillsAreUnderWay s
  pub kills_once : KillsAreOnce s
  pub killed : KilledHereKnowIt s
  pub found : KillsFindThem s
  pub forks : ForksAreOut s
  pub forks_once : ForksAreOnce s
  pub early : EarlyMayCome s
