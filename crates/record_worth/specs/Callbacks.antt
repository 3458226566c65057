-- How often files were opened, and when they were called back.
use Rattle.std.specs.Prelude.{◌≡◌, ◌≤◌, ℕ, ◌+◌, ◌==◌, Bool, true, false, ◌&&◌, not, if◌then◌else◌, List, nat_le, count_by, Option, Some, None}
use Rattle.std.specs.List.{list_any}
use Rattle.std.specs.Map.{lookup}
use Rattle.sprite_ids.specs.declared.names.FileId.{FileId}
use Rattle.unix_calls.specs.declared.event.SendKind.TheVariants as send
use Rattle.unix_calls.specs.declared.event.Event.{Event}
use Rattle.unix_calls.specs.declared.event.Event.TheVariants as event
use Rattle.unix_calls.specs.declared.event.Rec.{Rec}
use Rattle.call_journal.specs.Past.{since_last}
use Rattle.call_journal.specs.Matching.{same_file, has_event}
use Rattle.call_journal.specs.Drops.{is_opened_of}
use Rattle.call_journal.specs.WorthRecords.{is_callback_to}
use Rattle.trace_rules.specs.declared.place.FileAt.{FileAt}
use Rattle.trace_rules.specs.Places.{same_use}
use Rattle.record_worth.specs.declared.callbacks.Calls.{Calls}

-- a count that isn't kept is none
abbrev pub count_or : Option ℕ → ℕ
count_or None = 0
count_or (Some count) = count

-- how often a file was opened, and how often it had been at its last callback to a kernel
abbrev pub open_kept : List (FileId × ℕ) → FileId → Option ℕ
open_kept opens file = lookup (same_file file) opens

abbrev pub open_count : List (FileId × ℕ) → FileId → ℕ
open_count opens file = count_or (open_kept opens file)

abbrev pub call_kept : List (FileAt × ℕ) → FileAt → Option ℕ
call_kept called at = lookup (same_use at) called

-- whether it was called back since it was last opened
abbrev pub is_called : Option ℕ → ℕ → Bool
is_called None opens = false
is_called (Some count) opens = count == opens

abbrev pub is_called_in : Calls → FileAt → Bool
is_called_in judge at = is_called (call_kept judge.called.entries at) (open_count judge.opens.entries at.file)

abbrev pub is_open_in : List (FileId × ℕ) → FileId → Bool
is_open_in opens file = nat_le 1 (open_count opens file)

-- a file may be called back, or a block of it fetched
abbrev pub may_call : Calls → Event → Bool
may_call judge (event.Callback file to stamp kind) =
    not (is_called_in judge (record { kernel = to; file = file })) && is_open_in judge.opens.entries file
may_call judge (event.Send tx to about (send.Fetch file block)) = is_open_in judge.opens.entries file
may_call judge _ = true

-- ---- one record more

-- a file is opened once more, and called back
abbrev pub open_more : FileId → List (FileId × ℕ) → FileId → Option ℕ
open_more file before other = if same_file file other then Some (open_count before file + 1) else open_kept before other

abbrev pub CountsOpen : FileId → List (FileId × ℕ) → List (FileId × ℕ) → Type 0
CountsOpen file before after = (other : FileId) → open_kept after other ≡ open_more file before other

abbrev pub call_put : FileAt → ℕ → FileAt → Option ℕ → Option ℕ
call_put at count other before = if same_use at other then Some count else before

abbrev pub PutsCall : FileAt → ℕ → List (FileAt × ℕ) → List (FileAt × ℕ) → Type 0
PutsCall at count before after = (other : FileAt) → call_kept after other ≡ call_put at count other (call_kept before other)

-- what is kept behind an event
abbrev pub open_behind : Event → List (FileId × ℕ) → FileId → Option ℕ
open_behind (event.Opened file stream kernel mode) before other = open_more file before other
open_behind _ before other = open_kept before other

abbrev pub call_behind : Event → List (FileId × ℕ) → FileAt → Option ℕ → Option ℕ
call_behind (event.Callback file to stamp kind) opens other before =
    call_put (record { kernel = to; file = file }) (open_count opens file) other before
call_behind _ opens other before = before

pub record CallsOn (e : Event) (old new : Calls) : Type 0 where
  pub opens : (file : FileId) → open_kept new.opens.entries file ≡ open_behind e old.opens.entries file
  pub called : (at : FileAt) → call_kept new.called.entries at ≡ call_behind e old.opens.entries at (call_kept old.called.entries at)

-- ---- what the records tell

-- what is kept of a callback tells whether there is one since the last open
abbrev pub IsCalled : Option ℕ → ℕ → Bool → Type 0
IsCalled None opens told = told ≡ false
IsCalled (Some count) opens told = (count ≤ opens) × ((count == opens) ≡ told)

abbrev pub was_called : FileAt → List Rec → Bool
was_called at records =
    list_any (has_event (is_callback_to at.file at.kernel)) (since_last (has_event (is_opened_of at.file)) records)

pub record TellsCalls (judge : Calls) (records : List Rec) : Type 0 where
  pub opens_told : (file : FileId) → open_count judge.opens.entries file ≡ count_by (has_event (is_opened_of file)) records
  pub called_told : (at : FileAt) → IsCalled (call_kept judge.called.entries at) (open_count judge.opens.entries at.file) (was_called at records)
