-- What records tell of streams, kept from one to the next.
use Rattle.std.specs.Prelude.{◌≡◌, ℕ, ◌==◌, if◌then◌else◌, List, Option, Some, None}
use Rattle.std.specs.Option.{option_and_then}
use Rattle.std.specs.Map.{lookup}
use Rattle.unix_calls.specs.declared.entry.Entry.{Entry}
use Rattle.unix_calls.specs.declared.event.About.{About}
use Rattle.unix_calls.specs.declared.event.Event.{Event}
use Rattle.unix_calls.specs.declared.event.Event.TheVariants as event
use Rattle.unix_calls.specs.declared.state.Object.{Object}
use Rattle.unix_calls.specs.declared.state.Object.TheVariants.{OfFile}
use Rattle.unix_calls.specs.declared.state.Process.{Process}
use Rattle.unix_calls.specs.declared.state.Stream.{Stream}
use Rattle.unix_calls.specs.State.{process_at, stream_at}
use Rattle.unix_world.specs.declared.World.{World}
use Rattle.unix_world.specs.Worlds.{stream_of_fd}
use Rattle.call_journal.specs.Calls.{descriptor_of, or_else}
use Rattle.trace_tables.specs.declared.call_at.CallAt.{CallAt}
use Rattle.trace_tables.specs.Calls.{same_call}
use Rattle.trace_tables.specs.declared.known.Known.{Known}
use Rattle.trace_tables.specs.declared.tied.Tied.{Tied}

-- what is kept of a place, and of a call
abbrev pub made_at : List (ℕ × Tied) → ℕ → Option Tied
made_at made place = lookup (λ other. place == other) made

abbrev pub asked_at : List (CallAt × Option ℕ) → CallAt → Option (Option ℕ)
asked_at asked at = lookup (same_call at) asked

-- ---- looking

-- the stream that a descriptor of a process leads to, where there is such a process
abbrev pub stream_for : World → Option Process → ℕ → Option Stream
stream_for world None fd = None
stream_for world (Some p) fd = stream_of_fd world p fd

abbrev pub tied_for : Known → World → List Process → ℕ → ℕ → Option Tied
tied_for known world ps pid fd = option_and_then (λ (s : Stream). made_at known.made.entries s.place) (stream_for world (process_at ps pid) fd)

abbrev pub entry_tied : Known → World → List Process → Entry → Option Tied
entry_tied known world ps entry = option_and_then (tied_for known world ps entry.pid) (option_and_then descriptor_of entry.call)

-- the descriptor of a call that was issued, where it has one
abbrev pub joined : Option (Option ℕ) → Option ℕ
joined None = None
joined (Some fd) = fd

abbrev pub asked_tied : Known → World → List Process → Option About → Option Tied
asked_tied known world ps None = None
asked_tied known world ps (Some about) =
    option_and_then (tied_for known world ps about.pid) (joined (asked_at known.asked.entries (record { pid = about.pid; number = about.number })))

abbrev pub tied_in : Known → World → List Process → Event → Option Tied
tied_in known world ps (event.Enter entry) = entry_tied known world ps entry
tied_in known world ps (event.Send tx to about kind) = asked_tied known world ps about
tied_in known world ps _ = None

-- ---- one record more

-- one is put where there was none
abbrev pub PutsMade : List (ℕ × Tied) → ℕ → Tied → List (ℕ × Tied) → Type 0
PutsMade before place tied after =
    (other : ℕ) → made_at after other ≡ (if place == other then or_else (made_at before other) (Some tied) else made_at before other)

abbrev pub PutsAsked : List (CallAt × Option ℕ) → CallAt → Option ℕ → List (CallAt × Option ℕ) → Type 0
PutsAsked before at fd after =
    (other : CallAt) → asked_at after other ≡ (if same_call at other then or_else (asked_at before other) (Some fd) else asked_at before other)

-- what a stream of a file is that was made directly behind an Opened
abbrev pub object_tie : Object → Option Tied → Option Tied
object_tie (OfFile name) opened = opened
object_tie _ opened = None

abbrev pub file_tie : Option Stream → Option Tied → Option Tied
file_tie None opened = None
file_tie (Some stream) opened = object_tie stream.object opened

-- what is kept of a place, where that tie is put at another
abbrev pub made_with : Option Tied → ℕ → ℕ → Option Tied → Option Tied
made_with None place other before = before
made_with (Some tied) place other before = if place == other then or_else before (Some tied) else before

-- an entry is made at that place, and leads to these streams
pub record Makes (streams : List Stream) (place : ℕ) (old new : Known) : Type 0 where
  pub made : (other : ℕ) → made_at new.made.entries other ≡ made_with (file_tie (stream_at streams place) old.opened) place other (made_at old.made.entries other)
  pub asked : new.asked.entries ≡ old.asked.entries
  pub opened : new.opened ≡ None

abbrev pub opened_by : Event → Option Tied
opened_by (event.Opened file stream kernel mode) = Some (record { file = file; stream = stream })
opened_by _ = None

-- what is kept of a call behind an event
abbrev pub asked_behind : Event → CallAt → Option (Option ℕ) → Option (Option ℕ)
asked_behind (event.Issue pid number call) at before =
    if same_call (record { pid = pid; number = number }) at then or_else before (Some (descriptor_of call)) else before
asked_behind _ at before = before

pub record Asks (e : Event) (old new : Known) : Type 0 where
  pub made : new.made.entries ≡ old.made.entries
  pub asked : (at : CallAt) → asked_at new.asked.entries at ≡ asked_behind e at (asked_at old.asked.entries at)
  pub opened : new.opened ≡ opened_by e
