-- A kernel stops caching a file only where the file is shared for writing, or truncated while it is open.
use Rattle.std.specs.Prelude.{ℕ, ◌==◌, Bool, true, false, ◌&&◌, ◌||◌, not, if◌then◌else◌, List, [], ◌∷◌, nat_lt, length, Option, Some, None}
use Rattle.std.specs.List.{list_any}
use Rattle.sprite_ids.specs.declared.names.FileId.{FileId}
use Rattle.process_machine.specs.declared.call.Call.{Call}
use Rattle.process_machine.specs.declared.call.Call.TheVariants as call
use Rattle.unix_calls.specs.declared.description.Description.{Description}
use Rattle.unix_calls.specs.declared.entry.Entry.{Entry}
use Rattle.unix_calls.specs.declared.event.Event.{Event}
use Rattle.unix_calls.specs.declared.event.Event.TheVariants as event
use Rattle.unix_calls.specs.declared.event.Rec.{Rec}
use Rattle.call_journal.specs.Past.{Past, Seen, Tie, folded, seen_from, tied, each_record}
use Rattle.call_journal.specs.Matching.{same_file, is_off, is_stop, has_event, writes}
use Rattle.call_journal.specs.Files.{OpenStream, opens_by}
use Rattle.call_journal.specs.Formed.{is_closed_of}
use Rattle.call_journal.specs.Drops.{is_opened_of, is_truncated}

-- a grant Off, or a stop, of that file and stamp to the kernel
abbrev pub turns_off : FileId → ℕ → ℕ → Event → Bool
turns_off file kernel stamp (event.Grant f to s mode) = same_file f file && to == kernel && s == stamp && is_off mode
turns_off file kernel stamp (event.Callback f to s kind) = same_file f file && to == kernel && s == stamp && is_stop kind
turns_off file kernel stamp _ = false

-- two kernels have the file open, and one of them for writing
abbrev pub is_other_kernel : OpenStream → OpenStream → Bool
is_other_kernel a b = not (a.kernel == b.kernel)

abbrev pub is_written_beside : List OpenStream → OpenStream → Bool
is_written_beside opens a = writes a.mode && list_any (is_other_kernel a) opens

abbrev pub is_write_shared : List OpenStream → Bool
is_write_shared opens = list_any (is_written_beside opens) opens

-- a Closed of an Opened's stream directly behind it: the move is done there
abbrev pub is_leaving : FileId → Option Event → Event → Bool
is_leaving file (Some (event.Opened f stream kernel mode)) event = same_file f file && is_closed_of file stream event
is_leaving file _ event = false

-- a stream of the file became shared
abbrev pub is_sharing : FileId → Event → Bool
is_sharing file (event.Shared f stream) = same_file f file
is_sharing file _ = false

-- what is known of a file at a place: where it is open, whether it was open before the last record, that record's event, and
-- whether a licence to stop its caching stands since it was open nowhere
pub record Watch : Type 0 where
  pub opens : List OpenStream
  pub was_open : Bool
  pub last : Option Event
  pub is_licensed : Bool

-- before a record the file is shared for writing, and it isn't a move on its way
abbrev pub is_shared_before : FileId → Watch → Event → Bool
is_shared_before file s event = is_write_shared s.opens && not (is_leaving file s.last event)

-- a record is the entry of an open that truncates the file, which was open before its Opened
abbrev pub is_truncated_open : FileId → Watch → Seen → Bool
is_truncated_open file s seen = s.was_open && is_truncated file s.last seen

-- a record is a licence: a stream becomes shared, or the file is truncated while it is open; or the file was shared for writing
-- before it
abbrev pub is_licence : FileId → Watch → Seen → Bool
is_licence file s seen =
    is_shared_before file s seen.rec.event || is_sharing file seen.rec.event || is_truncated_open file s seen

-- the same, one record later; where the file is open nowhere no licence stands
abbrev pub watch_by : FileId → Watch → Seen → List OpenStream → Watch
watch_by file s seen opens =
    record {
      opens = opens;
      was_open = nat_lt 0 (length s.opens);
      last = Some seen.rec.event;
      is_licensed = nat_lt 0 (length opens) && (s.is_licensed || is_licence file s seen);
    }

abbrev pub watch_step : FileId → List Seen → Seen → Watch → Watch
watch_step file before seen s = watch_by file s seen (opens_by file seen.rec.event s.opens)

abbrev pub no_watch : Watch
no_watch = record { opens = []; was_open = false; last = None; is_licensed = false }

abbrev pub watch_of : FileId → List Seen → Watch
watch_of file seen = folded (watch_step file) no_watch seen

-- a licence stands at the next Opened of the file: behind it the file is shared for writing; where a move's Closed stands directly
-- behind it, behind that; or the entry of that open truncates
abbrev pub is_licensed_behind : FileId → Watch → List Seen → Bool
is_licensed_behind file s [] = is_write_shared s.opens
is_licensed_behind file s (seen ∷ rest) =
    if is_leaving file s.last seen.rec.event
    then is_write_shared (opens_by file seen.rec.event s.opens)
    else is_write_shared s.opens || is_truncated_open file s seen

-- a licence stands up to the next Opened of the file, or the end
abbrev pub is_licensed_on : FileId → Watch → List Seen → Bool
is_licensed_on file s [] = is_write_shared s.opens
is_licensed_on file s (seen ∷ rest) =
    is_licence file s seen
    || (if is_opened_of file seen.rec.event
    then is_licensed_behind file (watch_step file [] seen s) rest
    else is_licensed_on file (watch_step file [] seen s) rest)

-- a licence stands between where the file was last open nowhere and the next Opened of it
abbrev pub has_licence : Description → Past → FileId → Rec → List Rec → Bool
has_licence c past file rec rest =
    c.cache == 0 || (watch_of file past.seen).is_licensed
    || is_licensed_on file (watch_of file past.seen) (seen_from c past.unix (rec ∷ rest))

-- a stop that no open of the file follows needs none
abbrev pub is_opened_later : FileId → List Rec → Bool
is_opened_later file rest = list_any (has_event (is_opened_of file)) rest

-- from a callback of a file to the next Opened of it
abbrev pub called_by : FileId → Event → Bool → Bool
called_by file (event.Callback f to stamp kind) before = same_file f file || before
called_by file (event.Opened f stream kernel mode) before = not (same_file f file) && before
called_by file _ before = before

abbrev pub called_step : FileId → List Rec → Rec → Bool → Bool
called_step file before rec called = called_by file rec.event called

abbrev pub is_called_back : FileId → List Rec → Bool
is_called_back file records = folded (called_step file) false records

-- the descriptor of an operation that may enter at a file's server
abbrev pub operation_on : Option Call → Option ℕ
operation_on (Some (call.Read fd many)) = Some fd
operation_on (Some (call.Write fd bytes)) = Some fd
operation_on (Some (call.Size fd)) = Some fd
operation_on (Some (call.Seek fd offset)) = Some fd
operation_on _ = None

-- no operation on it enters at its server
abbrev pub is_waited_for : Past → ℕ → Option Tie → Bool
is_waited_for past kernel None = true
is_waited_for past kernel (Some tie) = not (kernel == tie.file.server && is_called_back tie.file past.records)

abbrev pub tie_of_operation : Past → Entry → Option ℕ → Option Tie
tie_of_operation past entry None = None
tie_of_operation past entry (Some fd) = tied past entry.pid fd

abbrev pub stops_well : Description → Past → Rec → ℕ → Event → List Rec → Bool
stops_well c past rec kernel (event.Mode file stamp mode) rest =
    if is_off mode then list_any (has_event (turns_off file kernel stamp)) past.records else true
stops_well c past rec kernel (event.Grant file to stamp mode) rest =
    if is_off mode then has_licence c past file rec rest else true
stops_well c past rec kernel (event.Callback file to stamp kind) rest =
    if is_stop kind && is_opened_later file rest then has_licence c past file rec rest else true
stops_well c past rec kernel (event.Enter entry) rest =
    is_waited_for past kernel (tie_of_operation past entry (operation_on entry.call))
stops_well c past rec kernel _ rest = true

-- each is so
abbrev pub caching_stops_only_for_sharing : Description → List Rec → Bool
caching_stops_only_for_sharing c trace = each_record c (λ past rec rest. stops_well c past rec rec.kernel rec.event rest) trace
