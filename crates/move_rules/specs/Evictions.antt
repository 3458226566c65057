-- The evictions that became due, and those that were used.
use Rattle.std.specs.Prelude.{◌≡◌, ℕ, ◌+◌, ◌<◌, ◌==◌, Bool, true, false, ◌&&◌, ◌||◌, not, if◌then◌else◌, List, [], ◌∷◌, Option, Some, None}
use Rattle.std.specs.List.{list_any}
use Rattle.std.specs.Map.{keys_of, lookup}
use Rattle.std.specs.Option.{is_some, option_map}
use Rattle.sprite_ids.specs.Pid.{home_of}
use Rattle.unix_calls.specs.declared.description.Description.{Description}
use Rattle.unix_calls.specs.declared.description.EvictLine.{EvictLine}
use Rattle.unix_calls.specs.declared.event.Event.{Event}
use Rattle.unix_calls.specs.declared.event.Event.TheVariants as event
use Rattle.unix_calls.specs.declared.event.Rec.{Rec}
use Rattle.call_journal.specs.Past.{Past, holds, child_of_entry, count_records, some_record}
use Rattle.call_journal.specs.Calls.{or_else}
use Rattle.call_journal.specs.Matching.{is_any_issue, is_at, is_freeze_of, is_issue_of}
use Rattle.call_journal.specs.Moves.{Birth, birth_of, is_due_at, is_eviction, is_left, issues_at}
use Rattle.trace_tables.specs.declared.CallAt.{CallAt}
use Rattle.move_rules.specs.declared.evictions.DueAt.{DueAt}
use Rattle.move_rules.specs.declared.evictions.Evictions.{Evictions}
use Rattle.move_rules.specs.declared.evictions.Marking.{Marking}
use Rattle.move_rules.specs.declared.evictions.UsedAt.{UsedAt}
use Rattle.move_rules.specs.declared.movers.Movers.{Movers}
use Rattle.trace_places.specs.declared.places.Place.{Place}
use Rattle.trace_tables.specs.Calls.{has_call}
use Rattle.move_rules.specs.Movers.{mover_of, moves_itself}
use Rattle.trace_places.specs.Places.{place_kept}
use Rattle.move_rules.specs.Whereabouts.{is_placed_at}

-- a count that is kept; none is 0
abbrev pub count_or : Option ℕ → ℕ
count_or None = 0
count_or (Some n) = n

-- how many calls were issued at a kernel
abbrev pub issues_of : List (ℕ × ℕ) → ℕ → ℕ
issues_of issues kernel = count_or (lookup (λ other. kernel == other) issues)

-- how often a process was evicted from a kernel
abbrev pub same_use : UsedAt → UsedAt → Bool
same_use a b = a.pid == b.pid && a.kernel == b.kernel

abbrev pub uses_of : List (UsedAt × ℕ) → UsedAt → ℕ
uses_of used at = count_or (lookup (same_use at) used)

-- the call whose entry made a process, and whether that has returned
abbrev pub birth_at : List (ℕ × CallAt) → ℕ → Option CallAt
birth_at births pid = lookup (λ other. pid == other) births

abbrev pub is_born_by : List CallAt → Option CallAt → Bool
is_born_by returned None = true
is_born_by returned (Some at) = has_call returned at

-- what is kept of an eviction for a process: how often the process had stopped when it became due
abbrev pub same_due : DueAt → DueAt → Bool
same_due a b = a.host == b.host && (a.after == b.after && a.pid == b.pid)

abbrev pub due_at : List (DueAt × ℕ) → DueAt → Option ℕ
due_at due at = lookup (same_due at) due

-- an eviction for a process that became due, and one that is left: the process didn't stop since
abbrev pub due_in : List (DueAt × ℕ) → ℕ → ℕ → EvictLine → Bool
due_in due pid kernel line = line.host == kernel && is_some (due_at due (record { host = line.host; after = line.after; pid = pid }))

abbrev pub is_left_by : Option ℕ → ℕ → Bool
is_left_by None stops = false
is_left_by (Some at) stops = at == stops

abbrev pub is_left_in : List (DueAt × ℕ) → ℕ → ℕ → ℕ → EvictLine → Bool
is_left_in due stops pid kernel line =
    line.host == kernel && is_left_by (due_at due (record { host = line.host; after = line.after; pid = pid })) stops

-- a process is at a kernel that isn't its home, and its birth is over
abbrev pub leaves : List (ℕ × Place) → List (ℕ × CallAt) → List CallAt → ℕ → ℕ → Bool
leaves places births returned host pid =
    is_placed_at (place_kept places pid) host && not (home_of pid == host) && is_born_by returned (birth_at births pid)

-- ---- one record more

abbrev pub IssuesOn : Rec → List (ℕ × ℕ) → List (ℕ × ℕ) → Type 0
IssuesOn rec before after =
    (kernel : ℕ) → issues_of after kernel ≡ (if is_at kernel is_any_issue rec then issues_of before kernel + 1 else issues_of before kernel)

-- an event is such an eviction of a process from a kernel
abbrev pub is_use : Movers → ℕ → Event → UsedAt → Bool
is_use movers kernel (event.Freeze p) at = p == at.pid && kernel == at.kernel && not (moves_itself movers p)
is_use movers kernel _ at = false

abbrev pub UsesOn : Movers → Rec → List (UsedAt × ℕ) → List (UsedAt × ℕ) → Type 0
UsesOn movers rec before after =
    (at : UsedAt) → uses_of after at ≡ (if is_use movers rec.kernel rec.event at then uses_of before at + 1 else uses_of before at)

-- the call that makes a process
abbrev pub birth_in : Event → ℕ → Option CallAt
birth_in (event.Enter entry) pid = if holds (λ child. child == pid) (child_of_entry entry) then Some (record { pid = entry.pid; number = entry.number }) else None
birth_in _ pid = None

abbrev pub BirthOn : Event → List (ℕ × CallAt) → List (ℕ × CallAt) → Type 0
BirthOn e before after = (pid : ℕ) → birth_at after pid ≡ or_else (birth_at before pid) (birth_in e pid)

-- whether the cluster has an eviction of that kernel at that count
abbrev pub has_line : List EvictLine → ℕ → ℕ → Bool
has_line lines host after = list_any (λ (line : EvictLine). line.host == host && line.after == after) lines

-- an eviction becomes due by an event of a kernel
abbrev pub is_reached : List EvictLine → List (ℕ × ℕ) → ℕ → Event → DueAt → Bool
is_reached lines issues kernel (event.Issue p n call) at =
    kernel == at.host && issues_of issues kernel + 1 == at.after && has_line lines kernel (issues_of issues kernel + 1)
is_reached lines issues kernel _ at = false

abbrev pub PutsDue : DueAt → ℕ → List (DueAt × ℕ) → List (DueAt × ℕ) → Type 0
PutsDue put stops before after = (at : DueAt) → due_at after at ≡ (if same_due put at then Some stops else due_at before at)

-- one process that leaves a kernel by an eviction, and several
abbrev pub mark_one : (ℕ → Bool) → (ℕ → ℕ) → ℕ → ℕ → ℕ → DueAt → Option ℕ → Option ℕ
mark_one leaving stops host after pid at before =
    if same_due (record { host = host; after = after; pid = pid }) at && leaving pid then Some (stops pid) else before

abbrev pub mark_all : (ℕ → Bool) → (ℕ → ℕ) → ℕ → ℕ → List ℕ → DueAt → Option ℕ → Option ℕ
mark_all leaving stops host after [] at before = before
mark_all leaving stops host after (pid ∷ pids) at before =
    mark_all leaving stops host after pids at (mark_one leaving stops host after pid at before)

-- how often a process stopped
abbrev pub stops_of : Movers → ℕ → ℕ
stops_of movers pid = (mover_of movers.movers.entries pid).stops

-- with the call that is issued
abbrev pub marked_stops : Marking → Movers → ℕ → ℕ
marked_stops marking movers pid = if marking.issuer == pid then stops_of movers pid + 1 else stops_of movers pid

abbrev pub MarksOne : Marking → List (ℕ × Place) → List (ℕ × CallAt) → Movers → ℕ → List (DueAt × ℕ) → List (DueAt × ℕ) → Type 0
MarksOne marking places births movers pid before after =
    (at : DueAt) → due_at after at ≡ mark_one (leaves places births movers.returned.keys marking.host) (marked_stops marking movers) marking.host marking.after pid at (due_at before at)

abbrev pub MarksOn : Marking → List (ℕ × Place) → List (ℕ × CallAt) → Movers → List (DueAt × ℕ) → List (DueAt × ℕ) → Type 0
MarksOn marking places births movers before after =
    (at : DueAt) → due_at after at ≡ mark_all (leaves places births movers.returned.keys marking.host) (marked_stops marking movers) marking.host marking.after (keys_of places) at (due_at before at)

-- and behind an event
abbrev pub stops_behind : Event → ℕ → ℕ → ℕ
stops_behind e pid stops = if is_issue_of pid e || is_freeze_of pid e then stops + 1 else stops

-- what is kept of an eviction for a process behind a record
abbrev pub DueOn : Description → Evictions → List (ℕ × Place) → Movers → Rec → List (DueAt × ℕ) → List (DueAt × ℕ) → Type 0
DueOn c old places movers rec before after =
    (at : DueAt) → due_at after at ≡ (if is_reached c.evicts old.issues.entries rec.kernel rec.event at && leaves places old.births.entries movers.returned.keys at.host at.pid then Some (stops_behind rec.event at.pid (stops_of movers at.pid)) else due_at before at)

pub record EvictionsOn (c : Description) (places : List (ℕ × Place)) (movers : Movers) (rec : Rec) (old new : Evictions) : Type 0 where
  pub issues : IssuesOn rec old.issues.entries new.issues.entries
  pub uses : UsesOn movers rec old.used.entries new.used.entries
  pub births : BirthOn rec.event old.births.entries new.births.entries
  pub due : DueOn c old places movers rec old.due.entries new.due.entries

-- ---- what is kept is told by the records

-- what is kept of an eviction for a process that has stopped so often, by whether it is left
abbrev pub LeftAs : Bool → Option ℕ → ℕ → Type 0
LeftAs true kept stops = kept ≡ Some stops
LeftAs false kept stops = (at : ℕ) → kept ≡ Some at → at < stops

abbrev pub as_birth : CallAt → Birth
as_birth at = record { parent = at.pid; number = at.number }

pub record TellsEvictions (c : Description) (movers : Movers) (evictions : Evictions) (past : Past) : Type 0 where
  pub issues : (kernel : ℕ) → issues_of evictions.issues.entries kernel ≡ issues_at kernel past.records
  pub uses : (at : UsedAt) → uses_of evictions.used.entries at ≡ count_records c (λ earlier r rest. is_eviction earlier at.pid at.kernel r) past.records
  pub births : (pid : ℕ) → option_map as_birth (birth_at evictions.births.entries pid) ≡ birth_of pid past.records
  pub due : (line : EvictLine) (pid : ℕ) → has_line c.evicts line.host line.after ≡ true → is_some (due_at evictions.due.entries (record { host = line.host; after = line.after; pid = pid })) ≡ some_record c (λ earlier r rest. is_due_at line earlier pid r) past.records
  pub left : (line : EvictLine) (pid : ℕ) → has_line c.evicts line.host line.after ≡ true → LeftAs (some_record c (λ earlier r rest. is_left line earlier pid r rest) past.records) (due_at evictions.due.entries (record { host = line.host; after = line.after; pid = pid })) (stops_of movers pid)
