-- One pass over a trace, with the turn of each process.
use Rattle.std.specs.Prelude.{◌≡◌, ℕ, ◌==◌, Bool, true, false, List, Option, Some, None}
use Rattle.std.specs.Map.{lookup}
use Rattle.indexmap.specs.IndexMap.{insert_entry}
use Rattle.unix_calls.specs.declared.event.Event.{Event}
use Rattle.unix_calls.specs.declared.event.Event.TheVariants as event
use Rattle.unix_calls.specs.declared.event.Rec.{Rec}
use Rattle.call_journal.specs.Once.{Progress, Between, progress_after, progress_of}
use Rattle.calls_once.specs.declared.progress.CallProgress.{CallProgress}
use Rattle.calls_once.specs.Turns.{progress_by}

-- whether the two are one process
abbrev pub is_pid : ℕ → ℕ → Bool
is_pid pid other = pid == other

-- the process of whose calls the event is one
abbrev pub caller_of : Event → Option ℕ
caller_of (event.Issue pid number call) = Some pid
caller_of (event.Enter entry) = Some entry.pid
caller_of (event.Return pid number reply) = Some pid
caller_of _ = None

-- a process of which nothing is kept has made no call
abbrev pub progress_or : Option CallProgress → Progress
progress_or (Some turn) = progress_by turn
progress_or None = Between 0

abbrev pub turn_in : List (ℕ × CallProgress) → ℕ → Progress
turn_in rows pid = progress_or (lookup (is_pid pid) rows)

-- the process's turn has moved on by the event, and no other's
pub record Moved (rows : List (ℕ × CallProgress)) (pid : ℕ) (event : Event) (after : List (ℕ × CallProgress)) : Type 0 where
  pub turn : CallProgress
  pub told : progress_after (turn_in rows pid) event ≡ Some (progress_by turn)
  pub put : after ≡ insert_entry is_pid rows pid turn

-- or the event isn't in its turn
abbrev pub Advances : List (ℕ × CallProgress) → ℕ → Event → Bool → List (ℕ × CallProgress) → Type 0
Advances rows pid event true after = Moved rows pid event after
Advances rows pid event false after = progress_after (turn_in rows pid) event ≡ None

-- of an event of some process's calls, or of another one
abbrev pub goes_by : Option ℕ → List (ℕ × CallProgress) → Event → Bool → List (ℕ × CallProgress) → Type 0
goes_by (Some pid) rows event made after = Advances rows pid event made after
goes_by None rows event made after = (made ≡ true) × (after ≡ rows)

abbrev pub Goes : List (ℕ × CallProgress) → Event → Bool → List (ℕ × CallProgress) → Type 0
Goes rows event made after = goes_by (caller_of event) rows event made after

-- the rows tell the turn of each process after the records
abbrev pub Tells : List (ℕ × CallProgress) → List Rec → Type 0
Tells rows records = (pid : ℕ) → progress_of pid records ≡ Some (turn_in rows pid)
