-- What the entry of a record does to files.
use Rattle.std.specs.Prelude.{ℕ, Bool, ◌==◌, ◌&&◌, if◌then◌else◌, List, [], ◌∷◌, Option, Some, None}
use Rattle.std.specs.Option.{is_some}
use Rattle.sprite_ids.specs.declared.names.FileId.{FileId}
use Rattle.unix_calls.specs.declared.description.Description.{Description}
use Rattle.unix_calls.specs.declared.entry.Entry.{Entry}
use Rattle.unix_calls.specs.declared.event.Event.{Event}
use Rattle.unix_calls.specs.declared.event.Event.TheVariants as event
use Rattle.unix_calls.specs.declared.event.Rec.{Rec}
use Rattle.unix_calls.specs.declared.state.Process.{Process}
use Rattle.unix_calls.specs.declared.state.Stream.{Stream}
use Rattle.unix_calls.specs.State.{Unix, process_at, stream_at}
use Rattle.unix_world.specs.declared.World.{World}
use Rattle.unix_world.specs.Worlds.{bare}
use Rattle.call_journal.specs.Past.{Past, Tie, stream_in, tied, state_by, entry_count, made_by, file_stream, no_past, past_with}
use Rattle.call_journal.specs.Calls.{is_whole}
use Rattle.call_journal.specs.Drops.{is_truncating_event}
use Rattle.call_journal.specs.CachedCalls.{Range, FileUse, use_of, is_local}
use Rattle.trace_tables.specs.declared.Tied.{Tied}
use Rattle.trace_tables.specs.Known.{stream_for}
use Rattle.sharing_rules.specs.declared.entry_facts.EntryFacts.{EntryFacts}
use Rattle.sharing_rules.specs.declared.entry_facts.LocalUse.{LocalUse}
use Rattle.trace_places.specs.declared.places.Place.{Place}
use Rattle.trace_places.specs.Places.{place_kept, is_kernel_of}

-- a range of a file
abbrev pub span : FileId → Range → LocalUse
span file range = record { file = file; from = range.from; length = range.length }

-- the range of a call on a stream that is tied to a file
abbrev pub span_on : FileUse → Option Stream → Option Tie → Option LocalUse
span_on used None tie = None
span_on used (Some stream) None = None
span_on used (Some stream) (Some tie) = Some (span tie.file (used.range stream))

abbrev pub use_at : Past → ℕ → Option FileUse → Option LocalUse
use_at past pid None = None
use_at past pid (Some used) = span_on used (stream_in past pid used.fd) (tied past pid used.fd)

-- the use of an entry that is at its process's kernel
abbrev pub local_use : Past → ℕ → Entry → Option LocalUse
local_use past kernel entry =
    if is_local past kernel entry then use_at past entry.pid (use_of past.unix entry.call entry.reply) else None

abbrev pub local_at : Past → ℕ → Event → Option LocalUse
local_at past kernel (event.Enter entry) = local_use past kernel entry
local_at past kernel _ = None

-- what is told of a record, by the state behind it
abbrev pub facts_by : Past → Rec → Option Unix → EntryFacts
facts_by past rec later =
    record {
      local = local_at past rec.kernel rec.event;
      truncates = is_truncating_event rec.event && is_some (file_stream (made_by (entry_count past.unix) rec.event later));
    }

abbrev pub facts_at : Description → Past → Rec → EntryFacts
facts_at c past rec = facts_by past rec (state_by c rec.event past.unix)

-- of each of some records behind a past
abbrev pub facts_from : Description → Past → List Rec → List EntryFacts
facts_from c past [] = []
facts_from c past (rec ∷ rest) = facts_at c past rec ∷ facts_from c (past_with c rec past) rest

-- of each record of a trace
abbrev pub facts_of : Description → List Rec → List EntryFacts
facts_of c trace = facts_from c (no_past c) trace

-- ---- the same, by what is kept

-- the range of a call on a stream, with the file that it is tied to
abbrev pub span_by : (Stream → Range) → Option Tied → Option Stream → Option LocalUse
span_by range None stream = None
span_by range (Some tied) None = None
span_by range (Some tied) (Some stream) = Some (span tied.file (range stream))

abbrev pub used_in : World → List Process → ℕ → Option Tied → Option FileUse → Option LocalUse
used_in world ps pid tied None = None
used_in world ps pid tied (Some used) = span_by used.range tied (stream_for world (process_at ps pid) used.fd)

abbrev pub is_local_in : List (ℕ × Place) → ℕ → Entry → Bool
is_local_in places kernel entry = is_whole entry.part && is_kernel_of kernel (place_kept places entry.pid)

abbrev pub entry_local_in : List (ℕ × Place) → World → List Process → ℕ → Entry → Option Tied → Option LocalUse
entry_local_in places world ps kernel entry tied =
    if is_local_in places kernel entry
    then used_in world ps entry.pid tied (use_of (Some (bare world)) entry.call entry.reply)
    else None

abbrev pub local_in : List (ℕ × Place) → World → List Process → ℕ → Event → Option Tied → Option LocalUse
local_in places world ps kernel (event.Enter entry) tied = entry_local_in places world ps kernel entry tied
local_in places world ps kernel _ tied = None

abbrev pub is_file_made : Option Stream → Bool
is_file_made made = is_some (file_stream made)

abbrev pub truncates_in : Event → List Stream → ℕ → Bool
truncates_in e streams place = is_truncating_event e && is_file_made (stream_at streams place)
