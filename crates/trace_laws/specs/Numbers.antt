-- What a process's progress tells of its calls: how many the one-kernel Unix counts, and which was issued last.
use Rattle.std.specs.Prelude.{◌≡◌, ◌≢◌, ◌≤◌, ℕ, ◌+◌, Bool, true, false, not, List, length, Option, Some, None}
use Rattle.std.specs.Option.{is_some}
use Rattle.process_machine.specs.declared.call.Call.{Call}
use Rattle.unix_calls.specs.declared.Description.{Description}
use Rattle.unix_calls.specs.declared.Entry.{Entry}
use Rattle.unix_calls.specs.declared.Rec.{Rec}
use Rattle.unix_calls.specs.declared.entry.Part.{Part}
use Rattle.unix_calls.specs.declared.entry.Part.TheVariants as part
use Rattle.unix_calls.specs.declared.state.Process.{Process}
use Rattle.unix_calls.specs.State.{Unix, process_at}
use Rattle.unix_calls.specs.After.{after, state_of}
use Rattle.unix_calls.specs.Laws.{is_last_call}
use Rattle.call_journal.specs.Past.{past_of}
use Rattle.call_journal.specs.Once.{Progress, Between, Issued, Asked, Entered, Over, progress_of, Once}

-- how many calls a process has made in the one-kernel Unix, whether it is in an ask, and whether it has ended
pub record Standing : Type 0 where
  pub calls : ℕ
  pub asks : Bool
  pub ended : Bool

abbrev pub stood : ℕ → Bool → Bool → Standing
stood calls asks ended = record { calls = calls; asks = asks; ended = ended }

abbrev pub standing_of : Process → Standing
standing_of p = stood p.calls (is_some p.asking) (is_some p.ending)

-- a process that isn't born yet has made no call
abbrev pub standing_in : Option Process → Standing
standing_in None = stood 0 false false
standing_in (Some p) = standing_of p

abbrev pub standing_at : Unix → ℕ → Standing
standing_at u pid = standing_in (process_at u.processes pid)

-- with one call more
abbrev pub one_more : Standing → Standing
one_more s = record s { calls = s.calls + 1 }

-- how a process stands behind an entry of its own: a whole call and the end of an ask count, an ask and a death don't; an exit, a bad
-- step and a death end it
abbrev pub standing_by : Part → Option Call → Standing → Standing
standing_by part.Whole (Some call) s = stood (s.calls + 1) false (is_last_call call)
standing_by part.Ask (Some call) s = stood s.calls true false
standing_by part.Done (Some call) s = stood (s.calls + 1) false false
standing_by part.Death call s = stood s.calls false true
standing_by kind None s = s

-- a call that ends its process goes to no device
abbrev pub asks_well : Part → Option Call → Bool
asks_well part.Ask (Some call) = not (is_last_call call)
asks_well _ call = true

-- an entry counts for its own process, and leaves how all others stand; a child that it makes has made no call
pub record Counts (u v : Unix) (e : Entry) : Type 0 where
  pub own : standing_at v e.pid ≡ standing_by e.part e.call (standing_at u e.pid)
  pub asks : asks_well e.part e.call ≡ true
  pub others : (pid : ℕ) → pid ≢ e.pid → standing_at v pid ≡ standing_at u pid

-- so does each entry of a history, where at most 200 processes start
abbrev pub EntriesCount : Type 0
EntriesCount = (c : Description) (journal : List Entry) (u v : Unix) (e : Entry) → length c.starts ≤ 200 → state_of c journal ≡ Some u → after c u e ≡ Some v → Counts u v e

-- how a process stands that is so far: the Unix has counted its calls up to that number, one less until the entry of the call that is
-- out; it is in an ask while that call is asked, and has ended behind the entry of its last call, or when all is over
abbrev pub StandsAs : Progress → Standing → Type 0
StandsAs (Between n) s = s ≡ stood n false false
StandsAs (Issued n call) s = one_more s ≡ stood n false false
StandsAs (Asked n call) s = (one_more s ≡ stood n true false) × (is_last_call call ≡ false)
StandsAs (Entered n call reply) s = s ≡ stood n false (is_last_call call)
StandsAs Over s = (s.asks ≡ false) × (s.ended ≡ true)

-- a process's progress alone tells how it stands in the one-kernel Unix, where the trace's journal is a history
abbrev pub ProgressTellsNumbers : Type 0
ProgressTellsNumbers = (c : Description) (trace : List Rec) (u : Unix) (pid : ℕ) (progress : Progress) → length c.starts ≤ 200 → (past_of c trace).unix ≡ Some u → progress_of pid trace ≡ Some progress → StandsAs progress (standing_at u pid)

-- a process is so far, and stands so
pub record IsSoFar (trace : List Rec) (u : Unix) (pid : ℕ) : Type 0 where
  pub progress : Progress
  pub there : progress_of pid trace ≡ Some progress
  pub stands : StandsAs progress (standing_at u pid)

-- so each process is in a trace whose calls come once
abbrev pub OnceTellsNumbers : Type 0
OnceTellsNumbers = (c : Description) (trace : List Rec) (u : Unix) → length c.starts ≤ 200 → Once trace → (past_of c trace).unix ≡ Some u → (pid : ℕ) → IsSoFar trace u pid
