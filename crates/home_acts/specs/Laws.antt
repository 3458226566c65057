-- What each function of a client's kernel that does something at its home does, as deeds of that home.
use Rattle.std.specs.Prelude.{◌≡◌, ◌≤◌, ℕ, Bool, true, false, List, [], ◌∷◌, ◌++◌, Option, Some, None}
use Rattle.sprite_ids.specs.declared.TxNo.{TxNo}
use Rattle.process_machine.specs.declared.Call.{Call}
use Rattle.process_machine.specs.declared.Call.TheVariants as call
use Rattle.packet_bodies.specs.declared.HomeRequest.{HomeRequest}
use Rattle.packet_bodies.specs.declared.ReplyBody.{ReplyBody}
use Rattle.unix_calls.specs.declared.About.{About}
use Rattle.unix_calls.specs.declared.Description.{Description}
use Rattle.home_table.specs.Home.{Table}
use Rattle.home_laws.specs.Answers.{behind_call}
use Rattle.home_laws.specs.Runs.{Buries}
use Rattle.client_homes.specs.declared.client.ClientProcs.{ClientProcs}
use Rattle.client_homes.specs.Calls.{does_at_home, home_reply}
use Rattle.client_homes.specs.Ends.{dies, ends, next_call}
use Rattle.client_homes.specs.Homes.{is_native, moves_to}
use Rattle.client_homes.specs.Issuing.{hears_home, home_for, is_death, issues_home, serves_home}
use Rattle.client_homes.specs.Killing.{forgets_waiting}
use Rattle.client_homes.specs.Kills.{hears_kill, kill_replied, tells_place}
use Rattle.client_homes.specs.Pages.{fetches}
use Rattle.home_acts.specs.Deeds.{Deed, Did, Does, DoesSo, IsHome, Places, Seen, acts_of, behind_answer, seen}

-- from the one to the other the home did these deeds first, and then some more: who waits is told, and who is killed here dies
pub record Begins (c : Description) (v w : Seen) (first : List Deed) : Type 0 where
  pub home : IsHome c w
  pub rest : List Deed
  pub so : DoesSo c v w (first ++ rest)

-- ---- calls

-- a call of a process of this home, or a `kill` of one: the act that answers it first; nothing, where it is a `wait` that is parked
abbrev pub CallsAreActs : Type 0
CallsAreActs = (c : Description) (s : ClientProcs) (request : HomeRequest) → IsHome c (seen s) → home_for request ≡ s.home.home
    → Begins c (seen s) (seen (does_at_home request s)) (acts_of request (home_reply request s))

-- such a call of a process that is elsewhere, or the news that one has died there
abbrev pub served_first : Bool → HomeRequest → ClientProcs → List Deed
served_first true request s = Does (Buries request.pid request.number) ∷ []
served_first false request s = acts_of request (home_reply request s)

abbrev pub ServedAreActs : Type 0
ServedAreActs = (c : Description) (s : ClientProcs) (tx : TxNo) (request : HomeRequest) → IsHome c (seen s) → home_for request ≡ s.home.home
    → Begins c (seen s) (seen (serves_home tx request s)) (served_first (is_death request.call) request s)

-- the call that a process is in begins: it is done here, or another home is asked, or it is refused
abbrev pub IssuedAreActs : Type 0
IssuedAreActs = (c : Description) (s : ClientProcs) (pid : ℕ) → IsHome c (seen s) → Did c (seen s) (seen (issues_home pid s))

-- another home has answered: the child that a `fork` brings may have been killed
abbrev pub HeardAreActs : Type 0
HeardAreActs = (c : Description) (s : ClientProcs) (tx : TxNo) (pid : ℕ) (body : ReplyBody) → IsHome c (seen s) → Did c (seen s) (seen (hears_home tx pid body s))

-- ---- deaths and kills

-- the death of a process that is here: an act, where it is of this home
abbrev pub death_if : Bool → ℕ → Option ℕ → List Deed
death_if true pid (Some number) = Does (Buries pid number) ∷ []
death_if true pid None = []
death_if false pid number = []

abbrev pub DeathsAreActs : Type 0
DeathsAreActs = (c : Description) (s : ClientProcs) (pid : ℕ) → IsHome c (seen s) → Begins c (seen s) (seen (dies pid s)) (death_if (is_native pid s) pid (next_call pid s))

-- a kill that another home tells of
abbrev pub KillsHeardAreActs : Type 0
KillsHeardAreActs = (c : Description) (s : ClientProcs) (tx : TxNo) (pid : ℕ) → IsHome c (seen s) → Did c (seen s) (seen (hears_kill tx pid s))

-- ---- places

abbrev pub place_if : Bool → ℕ → ℕ → List Deed
place_if true pid kernel = Places pid kernel ∷ []
place_if false pid kernel = []

-- where a process is from now on
abbrev pub PlacesAreNoted : Type 0
PlacesAreNoted = (c : Description) (s : ClientProcs) (pid kernel : ℕ) → IsHome c (seen s) → DoesSo c (seen s) (seen (moves_to pid kernel s)) (place_if (is_native pid s) pid kernel)

-- another kernel tells where it is
abbrev pub PlacesHeardAreNoted : Type 0
PlacesHeardAreNoted = (c : Description) (s : ClientProcs) (tx : TxNo) (pid kernel : ℕ) → IsHome c (seen s) → Begins c (seen s) (seen (tells_place tx pid kernel s)) (place_if (is_native pid s) pid kernel)

-- ---- what leaves the home alone: that a kernel has answered which was told of a kill, an end whose entry is made, a kill that is
-- forgotten, a page that is fetched
pub record LeaveHomes : Type 0 where
  pub kill_replied : (c : Description) (s : ClientProcs) (pid : ℕ) (body : ReplyBody) → IsHome c (seen s) → DoesSo c (seen s) (seen (kill_replied pid body s)) []
  pub ends : (c : Description) (s : ClientProcs) (pid : ℕ) (about : Option About) → IsHome c (seen s) → DoesSo c (seen s) (seen (ends pid about s)) []
  pub forgets_waiting : (c : Description) (s : ClientProcs) (pid : ℕ) → IsHome c (seen s) → DoesSo c (seen s) (seen (forgets_waiting pid s)) []
  pub fetches : (c : Description) (s : ClientProcs) (pid page : ℕ) → IsHome c (seen s) → DoesSo c (seen s) (seen (fetches pid page s)) []

-- ---- where a call's code is one that a process can end with, what its answer makes of the table is what a home's does
abbrev pub IsCodeWithin : Call → Type 0
IsCodeWithin (call.Exit code) = code ≤ 255
IsCodeWithin _ = Unit {0}

abbrev pub AnswersAreActs : Type 0
AnswersAreActs = (table : Table) (pid : ℕ) (called : Call) → IsCodeWithin called → behind_answer table pid called ≡ behind_call table pid called
