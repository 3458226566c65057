-- What the bursts of all processes did since their last entries, from one record to the next.
use Rattle.std.specs.Prelude.{◌≡◌, ◌≤◌, ℕ, ◌==◌, Bool, true, false, ◌&&◌, ◌||◌, if◌then◌else◌, List, [], ◌∷◌, Option, Some, None}
use Rattle.std.specs.Map.{lookup}
use Rattle.std.specs.Option.{is_none, is_some}
use Rattle.process_machine.specs.declared.call.Call.{Call}
use Rattle.unix_calls.specs.declared.description.Description.{Description}
use Rattle.unix_calls.specs.declared.entry.Entry.{Entry}
use Rattle.unix_calls.specs.declared.event.Event.{Event}
use Rattle.unix_calls.specs.declared.event.Event.TheVariants as event
use Rattle.unix_calls.specs.declared.event.Rec.{Rec}
use Rattle.unix_calls.specs.declared.state.Process.{Process}
use Rattle.unix_calls.specs.State.{process_at}
use Rattle.unix_calls.specs.After.{state_of}
use Rattle.unix_world.specs.declared.World.{World}
use Rattle.unix_world.specs.Worlds.{unix_of}
use Rattle.call_journal.specs.Past.{Past, each_from}
use Rattle.call_journal.specs.WorthBursts.{done_since_entry}
use Rattle.trace_bursts.specs.declared.doing.Doing.{Doing}
use Rattle.trace_bursts.specs.declared.doing.Issued.TheVariants.{Never}
use Rattle.trace_bursts.specs.Doing.{burst_behind, due_by, fresh, is_met, issue_behind}
use Rattle.trace_bursts.specs.Reasons.{bursts_are_counted, keeps_count}

-- what a process did; of which nothing is kept, it did nothing
abbrev pub doing_or : Option Doing → Doing
doing_or None = fresh
doing_or (Some doing) = doing

abbrev pub doing_of : List (ℕ × Doing) → ℕ → Doing
doing_of doings pid = doing_or (lookup (λ other. pid == other) doings)

-- where one process has done nothing
abbrev pub without : ℕ → List (ℕ × Doing) → ℕ → Doing
without pid doings other = if pid == other then fresh else doing_of doings other

-- only one process went on
abbrev pub OthersStay : ℕ → List (ℕ × Doing) → List (ℕ × Doing) → Type 0
OthersStay pid old new = (other : ℕ) → (pid == other) ≡ false → doing_of new other ≡ doing_of old other

-- one process went on so
pub record WentOn (pid : ℕ) (later : Doing) (old new : List (ℕ × Doing)) : Type 0 where
  pub one : doing_of new pid ≡ later
  pub others : OthersStay pid old new

abbrev pub BurstsOn : List Process → ℕ → ℕ → List (ℕ × Doing) → List (ℕ × Doing) → Type 0
BurstsOn ps pid count old new = WentOn pid (burst_behind (is_some (process_at ps pid)) count (doing_of old pid)) old new

abbrev pub IssuesOn : List Process → ℕ → List (ℕ × Doing) → List (ℕ × Doing) → Type 0
IssuesOn ps pid old new = WentOn pid (issue_behind (is_some (process_at ps pid)) (doing_of old pid)) old new

-- before an entry nothing changes, and a process that dies is to have met what it did
abbrev pub JudgesEntry : Description → List Process → Entry → Option Call → List (ℕ × Doing) → Bool → List (ℕ × Doing) → Type 0
JudgesEntry c ps entry None old kept new = (kept ≡ is_met (doing_of old entry.pid) (due_by c ps entry.pid)) × (new ≡ old)
JudgesEntry c ps entry (Some call) old kept new = (kept ≡ true) × (new ≡ old)

abbrev pub Judges : Description → List Process → Event → List (ℕ × Doing) → Bool → List (ℕ × Doing) → Type 0
Judges c ps (event.Burst pid count) old kept new = (kept ≡ true) × BurstsOn ps pid count old new
Judges c ps (event.Issue pid number call) old kept new = (kept ≡ true) × IssuesOn ps pid old new
Judges c ps (event.Enter entry) old kept new = JudgesEntry c ps entry entry.call old kept new
Judges c ps e old kept new = (kept ≡ true) × (new ≡ old)

-- an entry's process begins anew, and is to have met what it did where it made a call after that way
pub record EntersAt (entry : Entry) (way : ℕ) (old : List (ℕ × Doing)) (kept : Bool) (new : List (ℕ × Doing)) : Type 0 where
  pub met : kept ≡ (is_none entry.call || is_met (doing_of old entry.pid) (Some way))
  pub anew : (other : ℕ) → doing_of new other ≡ without entry.pid old other

-- all of these processes have met what they did
abbrev pub all_met : Description → List Process → List (ℕ × Doing) → List Process → Bool
all_met c ps doings [] = true
all_met c ps doings (p ∷ more) = is_met (doing_of doings p.pid) (due_by c ps p.pid) && all_met c ps doings more

-- each process has
abbrev pub AreMet : Description → List Process → List (ℕ × Doing) → Type 0
AreMet c ps doings = (pid : ℕ) → is_met (doing_of doings pid) (due_by c ps pid) ≡ true

-- where nothing is to be met
abbrev pub IsIdle : Doing → Type 0
IsIdle doing = (doing.most ≡ 0) × (doing.issued ≡ Never)

-- a place before the rest of a trace
pub record Counting (c : Description) (trace rest : List Rec) (world : World) (ps : List Process) (past : Past) (doings : List (ℕ × Doing)) : Type 0 where
  pub history : List Entry
  pub led : state_of c history ≡ Some (unix_of c world ps)
  pub unix : past.unix ≡ Some (unix_of c world ps)
  pub counts : (pid : ℕ) → (doing_of doings pid).done ≡ done_since_entry pid past.records
  pub few : (pid : ℕ) → (doing_of doings pid).most ≤ (doing_of doings pid).done
  pub absent : (pid : ℕ) → process_at ps pid ≡ None → IsIdle (doing_of doings pid)
  pub on : each_from c (λ past rec rest. keeps_count c past rec.event) past rest ≡ true → AreMet c ps doings → bursts_are_counted c trace ≡ true
  pub back : bursts_are_counted c trace ≡ true → (each_from c (λ past rec rest. keeps_count c past rec.event) past rest ≡ true) × AreMet c ps doings

-- as long as all were met; else the trace doesn't keep the count
abbrev pub CountsAt : Bool → Description → List Rec → List Rec → World → List Process → Past → List (ℕ × Doing) → Type 0
CountsAt true c trace rest world ps past doings = Counting c trace rest world ps past doings
CountsAt false c trace rest world ps past doings = false ≡ bursts_are_counted c trace

-- nothing is judged any more where one wasn't
abbrev pub JudgesIf : Bool → Description → List Process → Event → List (ℕ × Doing) → Bool → List (ℕ × Doing) → Type 0
JudgesIf true c ps e old kept new = Judges c ps e old kept new
JudgesIf false c ps e old kept new = kept ≡ false

abbrev pub EntersIf : Bool → Entry → ℕ → List (ℕ × Doing) → Bool → List (ℕ × Doing) → Type 0
EntersIf true entry way old kept new = EntersAt entry way old kept new
EntersIf false entry way old kept new = kept ≡ false
