-- What processes do behind their last entries.
use Rattle.std.specs.Prelude.{◌≡◌, ℕ, ◌+◌, ◌==◌, Bool, true, false, ◌&&◌, ◌||◌, not, if◌then◌else◌, List, [], ◌∷◌}
use Rattle.std.specs.List.{list_any}
use Rattle.unix_calls.specs.declared.event.Event.{Event}
use Rattle.unix_calls.specs.declared.event.Event.TheVariants as event
use Rattle.unix_calls.specs.declared.event.Rec.{Rec}
use Rattle.trace_bursts.specs.declared.behind.Behind.{Behind}
use Rattle.call_journal.specs.Matching.{has_event, is_entry_of, is_issue_of}

-- a process has an entry among some records
abbrev pub has_entry : ℕ → List Rec → Bool
has_entry pid records = list_any (has_event (is_entry_of pid)) records

-- the instructions of a burst, where no entry of its process stands behind it
abbrev pub burst_behind : Event → List Rec → ℕ
burst_behind (event.Burst pid count) rest = if has_entry pid rest then 0 else count
burst_behind _ rest = 0

-- of all bursts
abbrev pub bursts_behind : List Rec → ℕ
bursts_behind [] = 0
bursts_behind (rec ∷ rest) = burst_behind rec.event rest + bursts_behind rest

-- a call of the process is issued behind its last entry
abbrev pub is_issued_behind : ℕ → List Rec → Bool
is_issued_behind pid [] = false
is_issued_behind pid (rec ∷ rest) = is_issued_behind pid rest || (is_issue_of pid rec.event && not (has_entry pid rest))

-- what is kept of a process
abbrev pub is_in : List ℕ → ℕ → Bool
is_in pids pid = list_any (λ other. pid == other) pids

-- what is kept tells what stands there
pub record TellsBehind (records : List Rec) (behind : Behind) : Type 0 where
  pub entered : (pid : ℕ) → is_in behind.entered.keys pid ≡ has_entry pid records
  pub issued : (pid : ℕ) → is_in behind.issued.keys pid ≡ is_issued_behind pid records
  pub instructions : behind.instructions ≡ bursts_behind records

-- a process more
abbrev pub AddsPid : ℕ → List ℕ → List ℕ → Type 0
AddsPid pid old new = (other : ℕ) → is_in new other ≡ (if pid == other then true else is_in old other)

abbrev pub AddsIf : Bool → ℕ → List ℕ → List ℕ → Type 0
AddsIf true pid old new = new ≡ old
AddsIf false pid old new = AddsPid pid old new

-- an entry, an issue and a burst of a process, before what is kept
pub record AddsEntry (pid : ℕ) (old new : Behind) : Type 0 where
  pub enters : AddsPid pid old.entered.keys new.entered.keys
  pub issued : new.issued ≡ old.issued
  pub instructions : new.instructions ≡ old.instructions

pub record AddsIssue (pid : ℕ) (old new : Behind) : Type 0 where
  pub entered : new.entered ≡ old.entered
  pub issues : AddsIf (is_in old.entered.keys pid) pid old.issued.keys new.issued.keys
  pub instructions : new.instructions ≡ old.instructions

pub record AddsBurst (pid count : ℕ) (old new : Behind) : Type 0 where
  pub entered : new.entered ≡ old.entered
  pub issued : new.issued ≡ old.issued
  pub instructions : new.instructions ≡ old.instructions + (if is_in old.entered.keys pid then 0 else count)

-- an event
abbrev pub AddsRec : Event → Behind → Behind → Type 0
AddsRec (event.Enter entry) old new = AddsEntry entry.pid old new
AddsRec (event.Issue pid number call) old new = AddsIssue pid old new
AddsRec (event.Burst pid count) old new = AddsBurst pid count old new
AddsRec _ old new = new ≡ old
