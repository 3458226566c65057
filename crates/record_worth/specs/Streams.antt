-- The streams of files that were opened, are shared, and are open.
use Rattle.std.specs.Prelude.{◌≡◌, ℕ, Bool, true, ◌&&◌, not, if◌then◌else◌, List}
use Rattle.std.specs.List.{list_any}
use Rattle.sprite_ids.specs.declared.names.FileId.{FileId}
use Rattle.sprite_ids.specs.declared.names.StreamNo.{StreamNo}
use Rattle.sprite_ids.specs.declared.names.Mode.{Mode}
use Rattle.unix_calls.specs.declared.event.Event.{Event}
use Rattle.unix_calls.specs.declared.event.Event.TheVariants as event
use Rattle.unix_calls.specs.declared.event.Rec.{Rec}
use Rattle.call_journal.specs.Matching.{same_file, same_stream, has_event}
use Rattle.call_journal.specs.Files.{is_opened_at, opens_of}
use Rattle.call_journal.specs.Formed.{is_shared_stream}
use Rattle.call_journal.specs.WorthRecords.{is_opened_stream}
use Rattle.trace_forms.specs.declared.places.OpenAt.{OpenAt}
use Rattle.trace_forms.specs.Opens.{mode_number, has_stream, has_open, shared_behind, opens_behind}
use Rattle.record_worth.specs.declared.keys.StreamOf.{StreamOf}
use Rattle.record_worth.specs.declared.streams.Streams.{Streams}

-- whether they are among those kept
abbrev pub same_opened : StreamOf → StreamOf → Bool
same_opened a b = same_file a.file b.file && same_stream a.stream b.stream

abbrev pub has_opened : List StreamOf → StreamOf → Bool
has_opened opened one = list_any (same_opened one) opened

-- a stream may become shared, or close
abbrev pub may_stream : Streams → Event → Bool
may_stream judge (event.Shared file stream) =
    has_opened judge.opened.keys (record { file = file; stream = stream }) && not (has_stream judge.shared.keys stream)
may_stream judge (event.Closed file stream kernel m) =
    has_open judge.opens.keys (record { file = file; stream = stream; kernel = kernel; mode = mode_number m })
may_stream judge _ = true

-- what is kept behind an event
abbrev pub opened_behind : Event → StreamOf → Bool → Bool
opened_behind (event.Opened f s kernel m) one before = if same_opened (record { file = f; stream = s }) one then true else before
opened_behind _ one before = before

pub record KeepsStreams (e : Event) (old new : Streams) : Type 0 where
  pub opened : (one : StreamOf) → has_opened new.opened.keys one ≡ opened_behind e one (has_opened old.opened.keys one)
  pub shared : (stream : StreamNo) → has_stream new.shared.keys stream ≡ shared_behind e stream (has_stream old.shared.keys stream)
  pub opens : (one : OpenAt) → has_open new.opens.keys one ≡ opens_behind e one (has_open old.opens.keys one)

-- what is kept is what the records tell
pub record TellsStreams (judge : Streams) (records : List Rec) : Type 0 where
  pub opened_told : (one : StreamOf) → has_opened judge.opened.keys one ≡ list_any (has_event (is_opened_stream one.file one.stream)) records
  pub shared_told : (stream : StreamNo) → has_stream judge.shared.keys stream ≡ list_any (has_event (is_shared_stream stream)) records
  pub opens_told :
      (file : FileId) (stream : StreamNo) (kernel : ℕ) (m : Mode) →
      has_open judge.opens.keys (record { file = file; stream = stream; kernel = kernel; mode = mode_number m })
      ≡ list_any (is_opened_at stream kernel m) (opens_of file records)
