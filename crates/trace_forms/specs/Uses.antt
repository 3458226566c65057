-- What is kept of the records of files' servers.
use Rattle.std.specs.Prelude.{◌≡◌, ℕ, ◌==◌, Bool, true, false, ◌&&◌, not, if◌then◌else◌, List, [], ◌∷◌, Option, Some, None}
use Rattle.std.specs.List.{list_any}
use Rattle.std.specs.Option.{is_some}
use Rattle.sprite_ids.specs.declared.names.FileId.{FileId}
use Rattle.sprite_ids.specs.declared.names.StreamNo.{StreamNo}
use Rattle.sprite_ids.specs.declared.names.Mode.{Mode}
use Rattle.unix_calls.specs.declared.description.Description.{Description}
use Rattle.unix_calls.specs.declared.event.Event.{Event}
use Rattle.unix_calls.specs.declared.event.Event.TheVariants as event
use Rattle.unix_calls.specs.declared.event.Rec.{Rec}
use Rattle.unix_calls.specs.declared.state.Stream.{Stream}
use Rattle.call_journal.specs.Past.{Past, last_event, event_before_last}
use Rattle.call_journal.specs.Matching.{same_file, same_stream, is_at, has_event}
use Rattle.call_journal.specs.Files.{is_opened_at, opens_of}
use Rattle.call_journal.specs.Formed.{next_is, is_opened_for, is_grant_of, is_opening_of, is_opening_as, is_closed_of, is_closed_for, is_shared_stream}
use Rattle.trace_forms.specs.Openings.{openings_from}
use Rattle.trace_forms.specs.Opens.{mode_number, has_stream, same_open, has_open, shared_behind, opens_behind}
use Rattle.trace_forms.specs.declared.places.FileFor.{FileFor}
use Rattle.trace_forms.specs.declared.places.OpenedAs.{OpenedAs}
use Rattle.trace_forms.specs.declared.places.OpenAt.{OpenAt}
use Rattle.trace_forms.specs.declared.uses.Last.{Last}
use Rattle.trace_forms.specs.declared.uses.Streams.{Streams}

-- whether they are among those kept
abbrev pub same_opened : OpenedAs → OpenedAs → Bool
same_opened a b = same_file a.file b.file && (same_stream a.stream b.stream && a.mode == b.mode)

abbrev pub has_opened : List OpenedAs → OpenedAs → Bool
has_opened modes one = list_any (same_opened one) modes

-- an open without its kernel
abbrev pub opened_of : OpenAt → OpenedAs
opened_of at = record { file = at.file; stream = at.stream; mode = at.mode }

-- ---- the last records

abbrev pub granted_by : Event → Option FileFor
granted_by (event.Grant file to stamp mode) = Some (record { file = file; to = to })
granted_by _ = None

abbrev pub shared_by : Event → Option StreamNo
shared_by (event.Shared file stream) = Some stream
shared_by _ = None

abbrev pub last_behind : Event → Last → Last
last_behind e last = record { granted = granted_by e; shared = shared_by e; shared_before = last.shared }

-- of an event, where there is one
abbrev pub granted_in : Option Event → Option FileFor
granted_in None = None
granted_in (Some e) = granted_by e

abbrev pub shared_in : Option Event → Option StreamNo
shared_in None = None
shared_in (Some e) = shared_by e

abbrev pub is_granted_in : Option FileFor → FileId → ℕ → Bool
is_granted_in None file to = false
is_granted_in (Some g) file to = same_file g.file file && g.to == to

abbrev pub is_that : Option StreamNo → StreamNo → Bool
is_that None stream = false
is_that (Some s) stream = same_stream s stream

-- ---- looking

abbrev pub first_opening : List (Option Stream) → Option Stream
first_opening [] = None
first_opening (o ∷ os) = o

-- the close of a move's source
abbrev pub is_source_in : List OpenAt → OpenAt → Event → Bool
is_source_in opens at (event.Closed f s kernel m) =
    same_file f at.file && same_stream s at.stream && not (kernel == at.kernel) && mode_number m == at.mode
    && has_open opens (record { file = at.file; stream = at.stream; kernel = kernel; mode = at.mode })
is_source_in opens at _ = false

abbrev pub is_new_in : Last → Streams → StreamNo → ℕ → Bool
is_new_in last streams stream to = stream.kernel == to && not (has_stream streams.opened.keys stream) && not (is_some last.shared_before)

-- what stands behind a move's open, by the stream that was made shared before its grant
abbrev pub is_left_with : Option StreamNo → Streams → OpenAt → List Rec → Bool
is_left_with (Some shared) streams at rest = same_stream shared at.stream && not (next_is (has_event (is_closed_of at.file at.stream)) rest)
is_left_with None streams at rest =
    if has_stream streams.shared.keys at.stream
    then not (next_is (has_event (is_closed_for at.file at.stream at.kernel)) rest)
    else next_is (is_at at.file.server (is_source_in streams.opens.keys at)) rest

abbrev pub is_left_in : Last → Streams → OpenAt → List Rec → Bool
is_left_in last streams at rest = is_left_with last.shared_before streams at rest

abbrev pub is_opened_in : Last → Streams → OpenAt → Option Stream → List Rec → Bool
is_opened_in last streams at (Some made) rest = at.mode == mode_number made.mode && is_new_in last streams at.stream at.kernel
is_opened_in last streams at None rest = has_opened streams.modes.keys (opened_of at) && is_left_in last streams at rest

abbrev pub use_fits : Last → Streams → ℕ → Event → Option Stream → List Rec → Bool
use_fits last streams kernel (event.Grant file to stamp m) made rest =
    kernel == file.server && next_is (is_at kernel (is_opened_for file to)) rest
use_fits last streams kernel (event.Opened file stream to m) made rest =
    kernel == file.server && is_granted_in last.granted file to
    && is_opened_in last streams (record { file = file; stream = stream; kernel = to; mode = mode_number m }) made rest
use_fits last streams kernel (event.Closed file stream to m) made rest = kernel == file.server
use_fits last streams kernel (event.Callback file to stamp kind) made rest = kernel == file.server
use_fits last streams kernel (event.Shared file stream) made rest =
    kernel == file.server && next_is (is_at kernel (is_grant_of file)) rest
use_fits last streams kernel _ made rest = true

-- ---- one record more

-- an open is kept
pub record KeepsOpened (at : OpenAt) (old new : Streams) : Type 0 where
  pub opened : (stream : StreamNo) → has_stream new.opened.keys stream ≡ (if same_stream at.stream stream then true else has_stream old.opened.keys stream)
  pub modes : (one : OpenedAs) → has_opened new.modes.keys one ≡ (if same_opened (opened_of at) one then true else has_opened old.modes.keys one)
  pub shared : new.shared.keys ≡ old.shared.keys
  pub opens : (one : OpenAt) → has_open new.opens.keys one ≡ (if same_open at one then true else has_open old.opens.keys one)

-- what is kept behind an event
abbrev pub opened_behind : Event → StreamNo → Bool → Bool
opened_behind (event.Opened f s kernel m) stream before = if same_stream s stream then true else before
opened_behind _ stream before = before

abbrev pub modes_behind : Event → OpenedAs → Bool → Bool
modes_behind (event.Opened f s kernel m) one before =
    if same_opened (record { file = f; stream = s; mode = mode_number m }) one then true else before
modes_behind _ one before = before

pub record KeepsStreams (e : Event) (old new : Streams) : Type 0 where
  pub opened : (stream : StreamNo) → has_stream new.opened.keys stream ≡ opened_behind e stream (has_stream old.opened.keys stream)
  pub modes : (one : OpenedAs) → has_opened new.modes.keys one ≡ modes_behind e one (has_opened old.modes.keys one)
  pub shared : (stream : StreamNo) → has_stream new.shared.keys stream ≡ shared_behind e stream (has_stream old.shared.keys stream)
  pub opens : (one : OpenAt) → has_open new.opens.keys one ≡ opens_behind e one (has_open old.opens.keys one)

-- ---- what is kept tells of the records

pub record TellsLast (last : Last) (records : List Rec) : Type 0 where
  pub granted_told : last.granted ≡ granted_in (last_event records)
  pub shared_told : last.shared ≡ shared_in (last_event records)
  pub before_told : last.shared_before ≡ shared_in (event_before_last records)

pub record TellsStreams (streams : Streams) (records : List Rec) : Type 0 where
  pub opened_told : (stream : StreamNo) → has_stream streams.opened.keys stream ≡ list_any (has_event (is_opening_of stream)) records
  pub modes_told : (file : FileId) (stream : StreamNo) (m : Mode) → has_opened streams.modes.keys (record { file = file; stream = stream; mode = mode_number m }) ≡ list_any (has_event (is_opening_as file stream m)) records
  pub shared_told : (stream : StreamNo) → has_stream streams.shared.keys stream ≡ list_any (has_event (is_shared_stream stream)) records
  pub opens_told : (file : FileId) (stream : StreamNo) (kernel : ℕ) (m : Mode) → has_open streams.opens.keys (record { file = file; stream = stream; kernel = kernel; mode = mode_number m }) ≡ list_any (is_opened_at stream kernel m) (opens_of file records)

pub record TellsUses (c : Description) (last : Last) (streams : Streams) (openings : List (Option Stream)) (past : Past) (rest : List Rec) : Type 0 where
  pub last_told : TellsLast last past.records
  pub streams_told : TellsStreams streams past.records
  pub openings_told : openings ≡ openings_from c past.unix rest
