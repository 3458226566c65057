-- All homes from the start on, whatever requests they serve and whatever else enters.
use Rattle.std.specs.Prelude.{◌≡◌, ◌≤◌, ◌==◌, ℕ, true, false, if◌then◌else◌, List, [], ◌∷◌, ◌++◌, length, Option, Some, None}
use Rattle.std.specs.Option.{is_some}
use Rattle.sprite_ids.specs.Pid.{home_of, birth_of}
use Rattle.sprite_ids.specs.declared.Ending.TheVariants as ending
use Rattle.process_machine.specs.declared.call.Call.{Call}
use Rattle.process_machine.specs.declared.call.Call.TheVariants as call
use Rattle.process_machine.specs.declared.call.Reply.{Reply}
use Rattle.home_table.specs.Home.{Table, ended, is_pending_at, killed}
use Rattle.unix_calls.specs.declared.Description.{Description}
use Rattle.unix_calls.specs.declared.Entry.{Entry}
use Rattle.unix_calls.specs.State.{Unix}
use Rattle.unix_calls.specs.Boot.{boot_of}
use Rattle.unix_calls.specs.After.{after, state_of}
use Rattle.home_laws.specs.Homes.{TellsTheSame}
use Rattle.home_laws.specs.Calls.{MayCall, Calls, call_entry, death_entry}
use Rattle.home_laws.specs.Answers.{behind_call, home_answer, kill_answer}
use Rattle.home_laws.specs.Start.{first_table, is_of_home}

-- the tables of all homes, by their kernels' numbers
abbrev pub Homes : Type 0
Homes = ℕ → Table

abbrev pub with_table : Homes → Table → Homes
with_table homes table home = if home == table.home then table else homes home

-- what is done: a home answers a call of one of its processes, or a `kill` of one, or lets one die; or an entry that is no home's enters
pub data Act : Type 0 where
  Answers : (pid number : ℕ) (called : Call) (reply : Reply) → Act
  Kills : (pid number target : ℕ) → Act
  Buries : (pid number : ℕ) → Act
  Enters : Entry → Act

-- its entry
abbrev pub entry_of : Homes → Act → Entry
entry_of homes (Answers pid number called reply) = call_entry pid number called reply
entry_of homes (Kills pid number target) = call_entry pid number (call.Kill target) (kill_answer (homes (home_of target)) target)
entry_of homes (Buries pid number) = death_entry pid number
entry_of homes (Enters e) = e

-- the tables behind it
abbrev pub homes_behind : Homes → Act → Homes
homes_behind homes (Answers pid number called reply) = with_table homes (behind_call (homes (home_of pid)) pid called)
homes_behind homes (Kills pid number target) = with_table homes (killed (homes (home_of target)) target)
homes_behind homes (Buries pid number) = with_table homes (ended (homes (home_of pid)) pid ending.Killed)
homes_behind homes (Enters e) = homes

-- the number of a kernel
abbrev pub IsKernel : Description → ℕ → Type 0
IsKernel c home = (1 ≤ home) × (home ≤ length c.kernels)

-- it may be done: the call is its process's next one and the table gives that reply; the `kill` is its process's next call; the table has a
-- kill of the process pending, which is in no ask; the entry is one that the one-kernel Unix makes
abbrev pub MayAct : Description → Homes → Unix → Act → Type 0
MayAct c homes u (Answers pid number called reply) = IsKernel c (home_of pid) × ((home_answer c (homes (home_of pid)) pid called ≡ Some reply) × Calls c u pid number called)
MayAct c homes u (Kills pid number target) = IsKernel c (home_of target) × ((1 ≤ birth_of target) × Calls c u pid number (call.Kill target))
MayAct c homes u (Buries pid number) = IsKernel c (home_of pid) × ((is_pending_at (homes (home_of pid)) pid ≡ true) × MayCall u pid number)
MayAct c homes u (Enters e) = (is_some (after c u e) ≡ true) × (is_of_home e.part e.call ≡ false)

-- one after another, each in the state and with the tables behind the one before it
abbrev pub MayActs : Description → Homes → Option Unix → List Act → Type 0
MayActs c homes None acts = Unit {0}
MayActs c homes (Some u) [] = Unit {0}
MayActs c homes (Some u) (act ∷ acts) = MayAct c homes u act × MayActs c (homes_behind homes act) (after c u (entry_of homes act)) acts

abbrev pub entries_of : Homes → List Act → List Entry
entries_of homes [] = []
entries_of homes (act ∷ acts) = entry_of homes act ∷ entries_of (homes_behind homes act) acts

abbrev pub all_behind : Homes → List Act → Homes
all_behind homes [] = homes
all_behind homes (act ∷ acts) = all_behind (homes_behind homes act) acts

-- a home's table is its own, and tells the same as the one-kernel Unix
pub record IsTold (homes : Homes) (u : Unix) (home : ℕ) : Type 0 where
  pub own : (homes home).home ≡ home
  pub same : TellsTheSame (homes home) u

abbrev pub AreTold : Description → Homes → Unix → Type 0
AreTold c homes u = (home : ℕ) → IsKernel c home → IsTold homes u home

-- the entries are a history of the one-kernel Unix, and each table tells the same as it
pub record RunAsOne (c : Description) (journal : List Entry) (homes : Homes) (acts : List Act) : Type 0 where
  pub later : Unix
  pub entered : state_of c (journal ++ entries_of homes acts) ≡ Some later
  pub told : AreTold c (all_behind homes acts) later

-- so it is behind a history after which each table tells the same
abbrev pub HomesRunAsOne : Type 0
HomesRunAsOne = (c : Description) (journal : List Entry) (u : Unix) (homes : Homes) (acts : List Act)
    → length c.starts ≤ 200 → state_of c journal ≡ Some u → AreTold c homes u → MayActs c homes (Some u) acts → RunAsOne c journal homes acts

-- and from the start on
abbrev pub HomesRunFromTheStart : Type 0
HomesRunFromTheStart = (c : Description) (acts : List Act) → length c.starts ≤ 200 → MayActs c (first_table c) (Some (boot_of c)) acts → RunAsOne c [] (first_table c) acts
