-- What records tell of streams and `sync`s, kept from one to the next.
use Rattle.std.specs.Prelude.{◌≡◌, ℕ, ◌==◌, Bool, true, false, ◌&&◌, not, if◌then◌else◌, List, [], ◌∷◌, ◌++◌, filter, Option, Some, None}
use Rattle.std.specs.List.{list_any}
use Rattle.std.specs.Option.{option_map, option_and_then}
use Rattle.std.specs.Map.{lookup}
use Rattle.sprite_ids.specs.declared.names.FileId.{FileId}
use Rattle.process_machine.specs.declared.call.Call.TheVariants as call
use Rattle.unix_calls.specs.declared.description.Description.{Description}
use Rattle.unix_calls.specs.declared.event.SendKind.TheVariants as send
use Rattle.unix_calls.specs.declared.event.Event.{Event}
use Rattle.unix_calls.specs.declared.event.Event.TheVariants as event
use Rattle.unix_calls.specs.declared.event.Rec.{Rec}
use Rattle.unix_calls.specs.declared.state.Process.{Process}
use Rattle.unix_calls.specs.declared.state.Stream.{Stream}
use Rattle.unix_calls.specs.State.{process_at, stream_at}
use Rattle.unix_world.specs.declared.World.{World}
use Rattle.unix_world.specs.Among.{Ascending}
use Rattle.unix_world.specs.Worlds.{unix_of}
use Rattle.call_journal.specs.Past.{Past, Tie, holds, is_of_file, last_event, tie_at}
use Rattle.call_journal.specs.Matching.{same_file, has_event, is_return}
use Rattle.call_journal.specs.Calls.{or_else}
use Rattle.trace_tables.specs.Known.{stream_for}
use Rattle.write_rules.specs.declared.syncs.Pending.{Pending}
use Rattle.write_rules.specs.declared.syncs.Syncs.{Syncs}

-- ---- looking

-- the file that the entry at a place opened
abbrev pub file_at : List (ℕ × FileId) → ℕ → Option FileId
file_at made place = lookup (λ other. place == other) made

-- the file that a descriptor of a process leads to
abbrev pub file_for : Syncs → World → List Process → ℕ → ℕ → Option FileId
file_for syncs world ps pid fd = option_and_then (λ (s : Stream). file_at syncs.made.entries s.place) (stream_for world (process_at ps pid) fd)

abbrev pub is_of : Syncs → World → List Process → FileId → Pending → Bool
is_of syncs world ps file due = holds (λ (other : FileId). same_file other file) (file_for syncs world ps due.pid due.fd)

abbrev pub is_due_by : Syncs → World → List Process → ℕ → FileId → Pending → Bool
is_due_by syncs world ps kernel file due = due.kernel == kernel && is_of syncs world ps file due

-- a `sync` of a file is due at a kernel
abbrev pub is_due_in : Syncs → World → List Process → ℕ → FileId → Bool
is_due_in syncs world ps kernel file = list_any (is_due_by syncs world ps kernel file) syncs.pending.items

-- the mark of a record that is no entry
abbrev pub mark_in : Syncs → World → List Process → ℕ → Event → Bool
mark_in syncs world ps kernel (event.Send tx to about (send.WriteBack file block)) = is_due_in syncs world ps kernel file
mark_in syncs world ps kernel _ = false

-- ---- one record more

-- one is put where there was none
abbrev pub PutsMade : List (ℕ × FileId) → ℕ → FileId → List (ℕ × FileId) → Type 0
PutsMade before place file after =
    (other : ℕ) → file_at after other ≡ (if place == other then or_else (file_at before other) (Some file) else file_at before other)

-- a stream, if there is one, is one of a file
abbrev pub is_file_stream : Option Stream → Bool
is_file_stream None = false
is_file_stream (Some stream) = is_of_file stream.object

abbrev pub opened_where : Bool → Option FileId → Option FileId
opened_where true opened = opened
opened_where false opened = None

-- what is kept of a place, where that file is put at another
abbrev pub made_with : Option FileId → ℕ → ℕ → Option FileId → Option FileId
made_with None place other before = before
made_with (Some file) place other before = if place == other then or_else before (Some file) else before

-- an entry is made at that place, and leads to these streams
pub record MakesEntry (streams : List Stream) (place : ℕ) (old new : Syncs) : Type 0 where
  pub made : (other : ℕ) → file_at new.made.entries other ≡ made_with (opened_where (is_file_stream (stream_at streams place)) old.opened) place other (file_at old.made.entries other)
  pub opened : new.opened ≡ None
  pub pending : new.pending.items ≡ old.pending.items

abbrev pub opened_by : Event → Option FileId
opened_by (event.Opened file stream kernel mode) = Some file
opened_by _ = None

-- a call isn't that one
abbrev pub is_other : ℕ → ℕ → Pending → Bool
is_other pid number due = not (pid == due.pid && number == due.number)

-- the calls whose return is due behind an event of a kernel
abbrev pub due_behind : ℕ → Event → List Pending → List Pending
due_behind kernel (event.Issue pid number (call.Sync fd)) before =
    before ++ record { kernel = kernel; pid = pid; number = number; fd = fd } ∷ []
due_behind kernel (event.Return pid number reply) before = filter (is_other pid number) before
due_behind kernel _ before = before

pub record KeepsEvent (kernel : ℕ) (e : Event) (old new : Syncs) : Type 0 where
  pub made : new.made.entries ≡ old.made.entries
  pub opened : new.opened ≡ opened_by e
  pub pending : new.pending.items ≡ due_behind kernel e old.pending.items

-- ---- what the records tell

-- the file that the last record opened
abbrev pub opened_last : Option Event → Option FileId
opened_last None = None
opened_last (Some e) = opened_by e

-- the `sync`s that haven't returned
abbrev pub due_by : ℕ → Event → List Rec → List Pending
due_by kernel (event.Issue pid number (call.Sync fd)) rest =
    if list_any (has_event (is_return pid number)) rest then [] else record { kernel = kernel; pid = pid; number = number; fd = fd } ∷ []
due_by kernel _ rest = []

abbrev pub due_of : List Rec → List Pending
due_of [] = []
due_of (rec ∷ rest) = due_by rec.kernel rec.event rest ++ due_of rest

pub record TellsSyncs (c : Description) (world : World) (ps : List Process) (syncs : Syncs) (past : Past) : Type 0 where
  pub unix : past.unix ≡ Some (unix_of c world ps)
  pub ascends : Ascending ps
  pub made : (place : ℕ) → file_at syncs.made.entries place ≡ option_map (λ (tie : Tie). tie.file) (tie_at past.ties place)
  pub opened : syncs.opened ≡ opened_last (last_event past.records)
  pub pending : syncs.pending.items ≡ due_of past.records
