-- What a client's kernel does as the home of its processes, as acts of a home.
use Rattle.std.specs.Prelude.{◌≡◌, ◌≤◌, ℕ, ◌%◌, List, [], ◌∷◌, ◌++◌, Option, Some, None}
use Rattle.std.specs.List.{AllByRecursion}
use Rattle.sprite_ids.specs.Pid.{home_of}
use Rattle.sprite_ids.specs.declared.Ending.TheVariants as ending
use Rattle.process_machine.specs.declared.Call.{Call}
use Rattle.process_machine.specs.declared.Call.TheVariants as call
use Rattle.process_machine.specs.declared.Reply.{Reply}
use Rattle.packet_bodies.specs.declared.HomeCall.{HomeCall}
use Rattle.packet_bodies.specs.declared.HomeCall.TheVariants as home_calls
use Rattle.packet_bodies.specs.declared.HomeRequest.{HomeRequest}
use Rattle.home_table.specs.Home.{Table, ended, killed, moved}
use Rattle.unix_calls.specs.declared.Description.{Description}
use Rattle.unix_calls.specs.declared.Entry.{Entry}
use Rattle.unix_calls.specs.declared.Event.{Event}
use Rattle.unix_calls.specs.declared.Event.TheVariants.{Enter}
use Rattle.unix_calls.specs.declared.KernelLine.{KernelLine}
use Rattle.home_laws.specs.Calls.{call_entry, death_entry}
use Rattle.home_laws.specs.Answers.{behind_call, home_answer, kill_answer}
use Rattle.home_laws.specs.Runs.{Act, Answers, Buries, Enters, Kills}
use Rattle.client_homes.specs.declared.client.ClientProcs.{ClientProcs}
use Rattle.client_homes.specs.declared.client.Parked.{Parked}
use Rattle.client_homes.specs.Words.{call_of}

-- ---- deeds of one home

-- an act, with its entry; or a note of where a process of the home is, which enters nothing
pub data Deed : Type 0 where
  Does : Act → Deed
  Places : (pid kernel : ℕ) → Deed

-- the home's table behind a call: of a code that is too large for an ending, a kernel keeps what fits
abbrev pub behind_answer : Table → ℕ → Call → Table
behind_answer table pid (call.Exit code) = ended table pid (ending.Exit (code % 256))
behind_answer table pid called = behind_call table pid called

-- and behind a deed
abbrev pub behind_act : Table → Act → Table
behind_act table (Answers pid number called reply) = behind_answer table pid called
behind_act table (Kills pid number target) = killed table target
behind_act table (Buries pid number) = ended table pid ending.Killed
behind_act table (Enters e) = table

abbrev pub behind_deed : Table → Deed → Table
behind_deed table (Does act) = behind_act table act
behind_deed table (Places pid kernel) = moved table pid kernel

abbrev pub table_behind : Table → List Deed → Table
table_behind table [] = table
table_behind table (deed ∷ deeds) = table_behind (behind_deed table deed) deeds

-- its entry
abbrev pub entry_by : Table → Act → Entry
entry_by table (Answers pid number called reply) = call_entry pid number called reply
entry_by table (Kills pid number target) = call_entry pid number (call.Kill target) (kill_answer table target)
entry_by table (Buries pid number) = death_entry pid number
entry_by table (Enters e) = e

abbrev pub entries_by : Table → Deed → List Entry
entries_by table (Does act) = entry_by table act ∷ []
entries_by table (Places pid kernel) = []

abbrev pub entries_behind : Table → List Deed → List Entry
entries_behind table [] = []
entries_behind table (deed ∷ deeds) = entries_by table deed ++ entries_behind (behind_deed table deed) deeds

-- it is this home's: of one of its processes, and a call is answered as its table says; of other entries nothing is said
abbrev pub IsOfHome : Description → Table → Act → Type 0
IsOfHome c table (Answers pid number called reply) = (home_of pid ≡ table.home) × (home_answer c table pid called ≡ Some reply)
IsOfHome c table (Kills pid number target) = home_of target ≡ table.home
IsOfHome c table (Buries pid number) = home_of pid ≡ table.home
IsOfHome c table (Enters e) = Unit {0}

abbrev pub IsRight : Description → Table → Deed → Type 0
IsRight c table (Does act) = IsOfHome c table act
IsRight c table (Places pid kernel) = home_of pid ≡ table.home

-- each of them, behind those before it
abbrev pub AreRight : Description → Table → List Deed → Type 0
AreRight c table [] = Unit {0}
AreRight c table (deed ∷ deeds) = IsRight c table deed × AreRight c (behind_deed table deed) deeds

-- ---- a client's kernel

-- the entries among what a step has noted
abbrev pub entry_in : Event → List Entry
entry_in (Enter entry) = entry ∷ []
entry_in _ = []

abbrev pub entered : List Event → List Entry
entered [] = []
entered (event ∷ events) = entry_in event ++ entered events

-- what of a kernel tells of its home
pub record Seen : Type 0 where
  pub kernel : ℕ
  pub kernels : List KernelLine
  pub home : Table
  pub waits : List (ℕ × Parked)
  pub events : List Event

abbrev pub seen : ClientProcs → Seen
seen s = record { kernel = s.kernel; kernels = s.kernels; home = s.home; waits = s.waits; events = s.files.out.events }

-- it is the home of its own processes in that cluster, and what is parked at it is of these
pub record IsHome (c : Description) (v : Seen) : Type 0 where
  pub kernels : v.kernels ≡ c.kernels
  pub own : v.home.home ≡ v.kernel
  pub numbered : 1 ≤ v.kernel
  pub waiters : AllByRecursion (λ (row : ℕ × Parked). home_of row.0 ≡ v.kernel) v.waits

-- from the one to the other it did these deeds: its table is that behind them, each was right in its turn, and behind what had entered
-- before stand exactly their entries
pub record DoesSo (c : Description) (v w : Seen) (deeds : List Deed) : Type 0 where
  pub table : w.home ≡ table_behind v.home deeds
  pub right : AreRight c v.home deeds
  pub told : entered w.events ≡ entered v.events ++ entries_behind v.home deeds

-- from the one to the other it did some deeds, and is the home still
pub record Did (c : Description) (v w : Seen) : Type 0 where
  pub home : IsHome c w
  pub deeds : List Deed
  pub so : DoesSo c v w deeds

-- ---- calls at a home

-- the act by which a home answers a request, with that reply
abbrev pub act_by : HomeCall → ℕ → ℕ → Reply → Act
act_by (home_calls.Kill target) pid number reply = Kills pid number target
act_by called pid number reply = Answers pid number (call_of called) reply

abbrev pub act_of : HomeRequest → Reply → Act
act_of request reply = act_by request.call request.pid request.number reply

-- none where the request is parked
abbrev pub acts_of : HomeRequest → Option Reply → List Deed
acts_of request (Some reply) = Does (act_of request reply) ∷ []
acts_of request None = []
