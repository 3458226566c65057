-- What is kept of one file tells what is known of it at a place of a trace, and what it asks of the records that come.
use Rattle.std.specs.Prelude.{◌≡◌, ◌==◌, Bool, true, false, ◌&&◌, ◌||◌, not, if◌then◌else◌, List, ◌∷◌, map, Option, Some, None, nat_lt, length}
use Rattle.std.specs.List.{list_any}
use Rattle.std.specs.Option.{is_some}
use Rattle.sprite_ids.specs.declared.names.FileId.{FileId}
use Rattle.sprite_ids.specs.declared.names.StreamNo.{StreamNo}
use Rattle.unix_calls.specs.declared.description.Description.{Description}
use Rattle.unix_calls.specs.declared.event.Event.{Event}
use Rattle.unix_calls.specs.declared.event.Event.TheVariants as event
use Rattle.unix_calls.specs.declared.event.Rec.{Rec}
use Rattle.call_journal.specs.Past.{Past, Seen, holds, seen_from}
use Rattle.call_journal.specs.Matching.{same_file, is_off, is_stop, has_event}
use Rattle.call_journal.specs.Files.{OpenStream}
use Rattle.call_journal.specs.Formed.{is_closed_of}
use Rattle.call_journal.specs.Drops.{is_opened_of}
use Rattle.call_journal.specs.Sharing.{Watch, watch_of, is_write_shared, is_leaving, is_licensed_on, is_licensed_behind, is_opened_later, is_called_back, turns_off}
use Rattle.write_sharing.specs.declared.kept.OpenedAt.{OpenedAt}
use Rattle.write_sharing.specs.declared.kept.Opening.{Opening}
use Rattle.write_sharing.specs.declared.kept.Sharing.{Sharing}
use Rattle.write_sharing.specs.declared.kept.StampAt.{StampAt}
use Rattle.write_sharing.specs.Kept.{without_one, opens_at, is_open_in, is_shared_in, has_file, called_behind, has_stamp}

-- the open of a file that the last record tells
pub record Fresh : Type 0 where
  pub stream : StreamNo
  pub was_open : Bool
  pub is_due : Bool

-- what is kept of one file
pub record FileKept : Type 0 where
  pub opens : List OpenedAt
  pub licensed : Bool
  pub grants : Bool
  pub stops : Bool
  pub called : Bool
  pub fresh : Option Fresh

abbrev pub fresh_by : Opening → Bool → Option Fresh
fresh_by o same =
    if same then Some (record { stream = o.stream; was_open = o.was_open; is_due = o.is_due }) else None

abbrev pub fresh_for : Option Opening → FileId → Option Fresh
fresh_for None file = None
fresh_for (Some o) file = fresh_by o (same_file o.file file)

abbrev pub file_at : Sharing → FileId → FileKept
file_at kept file =
    record {
      opens = opens_at kept.opens.entries file;
      licensed = has_file kept.licensed.keys file;
      grants = has_file kept.grants.keys file;
      stops = has_file kept.stops.keys file;
      called = has_file kept.called.keys file;
      fresh = fresh_for kept.last file;
    }

-- ---- one record later

abbrev pub opens_for : Event → FileId → List OpenedAt → List OpenedAt
opens_for (event.Opened f stream kernel mode) file streams =
    if same_file f file
    then record { stream = stream; kernel = kernel; mode = mode } ∷ without_one (record { stream = stream; kernel = kernel; mode = mode }) streams
    else streams
opens_for (event.Closed f stream kernel mode) file streams =
    if same_file f file then without_one (record { stream = stream; kernel = kernel; mode = mode }) streams else streams
opens_for _ file streams = streams

-- the event closes the stream that was just opened
abbrev pub leaves : FileId → Option Fresh → Event → Bool
leaves file None e = false
leaves file (Some o) e = is_closed_of file o.stream e

-- it is the entry of that open, and truncates
abbrev pub truncates_open : Option Fresh → Bool → Bool
truncates_open None truncates = false
truncates_open (Some o) truncates = o.was_open && truncates

abbrev pub licence_for : Event → Bool → FileId → Option Fresh → List OpenedAt → List OpenedAt → Bool
licence_for e truncates file None before after = false
licence_for e truncates file (Some o) before after =
    if is_closed_of file o.stream e then is_shared_in after else is_shared_in before || o.was_open && truncates

-- a licence stands, where the open before the event is settled; and behind the event
abbrev pub settled_for : Event → Bool → FileId → FileKept → Bool
settled_for e truncates file m = licence_for e truncates file m.fresh m.opens (opens_for e file m.opens) || m.licensed

abbrev pub licensed_for : Event → FileId → List OpenedAt → Bool → Bool
licensed_for (event.Closed f stream kernel mode) file after settled =
    if same_file f file then is_open_in after && settled else settled
licensed_for (event.Shared f stream) file after settled = if same_file f file then is_open_in after || settled else settled
licensed_for _ file after settled = settled

-- who asks waits
abbrev pub waits_for : Description → Bool → Bool
waits_for c licensed = not (c.cache == 0) && not licensed

abbrev pub grants_for : Description → Event → FileId → Bool → Bool → Bool
grants_for c (event.Opened f stream kernel mode) file settled before = if same_file f file then false else before
grants_for c (event.Shared f stream) file settled before = if same_file f file then false else before
grants_for c (event.Grant f to stamp mode) file settled before =
    if same_file f file then is_off mode && waits_for c settled || before else before
grants_for c _ file settled before = before

abbrev pub stops_for : Description → Event → FileId → Bool → Bool → Bool
stops_for c (event.Opened f stream kernel mode) file settled before = if same_file f file then false else before
stops_for c (event.Shared f stream) file settled before = if same_file f file then false else before
stops_for c (event.Callback f to stamp kind) file settled before =
    if same_file f file then is_stop kind && waits_for c settled || before else before
stops_for c _ file settled before = before

abbrev pub fresh_behind : Event → FileId → FileKept → Option Fresh
fresh_behind (event.Opened f stream kernel mode) file m =
    if same_file f file
    then Some (record { stream = stream; was_open = is_open_in m.opens; is_due = m.grants || m.stops })
    else None
fresh_behind _ file m = None

abbrev pub file_behind : Description → Event → Bool → FileId → FileKept → FileKept
file_behind c e truncates file m =
    record {
      opens = opens_for e file m.opens;
      licensed = licensed_for e file (opens_for e file m.opens) (settled_for e truncates file m);
      grants = grants_for c e file (settled_for e truncates file m) m.grants;
      stops = stops_for c e file (settled_for e truncates file m) m.stops;
      called = called_behind e file m.called;
      fresh = fresh_behind e file m;
    }

-- ---- what is told

abbrev pub open_of : OpenedAt → OpenStream
open_of o = record { stream = o.stream; kernel = o.kernel; mode = o.mode }

abbrev pub is_any_open : List OpenStream → Bool
is_any_open opens = nat_lt 0 (length opens)

abbrev pub TellsFresh : Option Fresh → Watch → Type 0
TellsFresh None s = Unit {0}
TellsFresh (Some o) s = (o.was_open ≡ s.was_open) × (is_any_open s.opens ≡ true)

pub record TellsFile (m : FileKept) (file : FileId) (s : Watch) (called : Bool) : Type 0 where
  pub opens_told : map open_of m.opens ≡ s.opens
  pub licensed_told : m.licensed ≡ (s.is_licensed || is_write_shared s.opens && not (is_some m.fresh))
  pub none_waits : (m.grants || m.stops) ≡ true → (is_write_shared s.opens || is_some m.fresh) ≡ false
  pub called_told : m.called ≡ called
  pub open_told : s.is_licensed ≡ true → is_any_open s.opens ≡ true
  pub leaving_told : (e : Event) → is_leaving file s.last e ≡ leaves file m.fresh e
  pub opening_told : holds (is_opened_of file) s.last ≡ is_some m.fresh
  pub fresh_told : TellsFresh m.fresh s

pub record TellsSharing (kept : Sharing) (past : Past) : Type 0 where
  pub files : (file : FileId) → TellsFile (file_at kept file) file (watch_of file past.seen) (is_called_back file past.records)
  pub stopped_told : (at : StampAt) → has_stamp kept.stopped.keys at ≡ list_any (has_event (turns_off at.file at.kernel at.stamp)) past.records

-- ---- what is asked of the records that come

abbrev pub is_due_in : Option Fresh → Bool
is_due_in None = false
is_due_in (Some o) = o.is_due

-- who waits has a licence up to the file's next open, a stop only where there is one; and one stands behind the open that the last
-- record tells, where that is due
abbrev pub is_owed_on : FileKept → FileId → Watch → List Seen → List Rec → Bool
is_owed_on m file s seen rest =
    (not (m.grants || m.stops && is_opened_later file rest) || is_licensed_on file s seen)
    && (not (is_due_in m.fresh) || is_licensed_behind file s seen)

abbrev pub Owes : Description → Sharing → Past → List Rec → Type 0
Owes c kept past rest =
    (file : FileId) → is_owed_on (file_at kept file) file (watch_of file past.seen) (seen_from c past.unix rest) rest ≡ true
