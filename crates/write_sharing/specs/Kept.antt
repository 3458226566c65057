-- What is kept of files to judge for what cause their caching stops.
use Rattle.std.specs.Prelude.{◌≡◌, ℕ, ◌==◌, Bool, true, false, ◌&&◌, ◌||◌, not, if◌then◌else◌, List, [], ◌∷◌, filter, nat_lt, length, Option, Some, None}
use Rattle.std.specs.List.{list_any}
use Rattle.std.specs.Map.{lookup}
use Rattle.std.specs.Option.{is_some}
use Rattle.sprite_ids.specs.declared.names.FileId.{FileId}
use Rattle.process_machine.specs.declared.call.Call.{Call}
use Rattle.unix_calls.specs.declared.description.Description.{Description}
use Rattle.unix_calls.specs.declared.event.Event.{Event}
use Rattle.unix_calls.specs.declared.event.Event.TheVariants as event
use Rattle.unix_calls.specs.declared.event.Rec.{Rec}
use Rattle.call_journal.specs.Matching.{same_file, same_stream, same_mode, is_off, is_stop, writes}
use Rattle.call_journal.specs.Formed.{is_closed_of}
use Rattle.call_journal.specs.Sharing.{operation_on}
use Rattle.trace_tables.specs.declared.tied.Tied.{Tied}
use Rattle.write_sharing.specs.declared.kept.OpenedAt.{OpenedAt}
use Rattle.write_sharing.specs.declared.kept.Opening.{Opening}
use Rattle.write_sharing.specs.declared.kept.Sharing.{Sharing}
use Rattle.write_sharing.specs.declared.kept.StampAt.{StampAt}

-- ---- the streams that are open

-- the same stream at the same kernel, with the same mode
abbrev pub same_open : OpenedAt → OpenedAt → Bool
same_open one o = same_stream o.stream one.stream && o.kernel == one.kernel && same_mode o.mode one.mode

abbrev pub without_one : OpenedAt → List OpenedAt → List OpenedAt
without_one one streams = filter (λ o. not (same_open one o)) streams

-- those of a file
abbrev pub list_or : Option (List OpenedAt) → List OpenedAt
list_or None = []
list_or (Some streams) = streams

abbrev pub opens_at : List (FileId × List OpenedAt) → FileId → List OpenedAt
opens_at opens file = list_or (lookup (same_file file) opens)

abbrev pub is_open_in : List OpenedAt → Bool
is_open_in streams = nat_lt 0 (length streams)

-- another kernel than that one has the file open
abbrev pub is_beside : List OpenedAt → ℕ → Bool
is_beside streams kernel = list_any (λ (o : OpenedAt). not (kernel == o.kernel)) streams

-- two kernels have it open, and one of them for writing: some other one beside the first that may write
abbrev pub shared_from : List OpenedAt → List OpenedAt → Bool
shared_from all [] = false
shared_from all (o ∷ rest) = if writes o.mode then is_beside all o.kernel else shared_from all rest

abbrev pub is_shared_in : List OpenedAt → Bool
is_shared_in streams = shared_from streams streams

-- those of a file behind an event
abbrev pub opens_behind : Event → List (FileId × List OpenedAt) → FileId → List OpenedAt
opens_behind (event.Opened f stream kernel mode) opens file =
    if same_file f file
    then record { stream = stream; kernel = kernel; mode = mode } ∷ without_one (record { stream = stream; kernel = kernel; mode = mode }) (opens_at opens f)
    else opens_at opens file
opens_behind (event.Closed f stream kernel mode) opens file =
    if same_file f file
    then without_one (record { stream = stream; kernel = kernel; mode = mode }) (opens_at opens f)
    else opens_at opens file
opens_behind _ opens file = opens_at opens file

abbrev pub OpensOn : Event → List (FileId × List OpenedAt) → List (FileId × List OpenedAt) → Type 0
OpensOn e before after = (file : FileId) → opens_at after file ≡ opens_behind e before file

-- ---- files with a mark

abbrev pub has_file : List FileId → FileId → Bool
has_file files file = list_any (same_file file) files

-- ---- the file that the last record opened

-- whether it is shared for writing
abbrev pub shared_last : List (FileId × List OpenedAt) → Option Opening → Bool
shared_last opens None = false
shared_last opens (Some o) = is_shared_in (opens_at opens o.file)

-- what an event opens
abbrev pub opening_by : Event → List (FileId × List OpenedAt) → List FileId → List FileId → Option Opening
opening_by (event.Opened f stream kernel mode) opens grants stops =
    Some (record { file = f; stream = stream; was_open = is_open_in (opens_at opens f); is_due = has_file grants f || has_file stops f })
opening_by _ opens grants stops = None

-- a licence stands behind that open: the file is shared for writing there, before the event and behind it; where the event closes that
-- very stream, behind it; or the event is that open's entry, and truncates what was open before
abbrev pub licence_behind : Option Opening → Event → Bool → Bool → Bool → Bool
licence_behind None e truncates before after = false
licence_behind (Some o) e truncates before after =
    if is_closed_of o.file o.stream e then after else before || o.was_open && truncates

-- the licence that is due behind it stands
abbrev pub pays_last : Option Opening → Bool → Bool
pays_last None licence = true
pays_last (Some o) licence = not o.is_due || licence

-- ---- marks of files

-- a file is put there, or taken away, if it is to be
abbrev pub PutsFile : Bool → FileId → List FileId → List FileId → Type 0
PutsFile on f before after = (file : FileId) → has_file after file ≡ (if on && same_file f file then true else has_file before file)

abbrev pub CutsFile : Bool → FileId → List FileId → List FileId → Type 0
CutsFile on f before after = (file : FileId) → has_file after file ≡ (if on && same_file f file then false else has_file before file)

-- a licence stands for the file that the last record opened
abbrev pub licensed_by : Option Opening → Bool → FileId → Bool → Bool
licensed_by None licence file before = before
licensed_by (Some o) licence file before = if licence && same_file o.file file then true else before

abbrev pub SettlesOn : Option Opening → Bool → List FileId → List FileId → Type 0
SettlesOn last licence before after = (file : FileId) → has_file after file ≡ licensed_by last licence file (has_file before file)

-- a licence stands, behind an event with these streams open behind it
abbrev pub licensed_behind : Event → List (FileId × List OpenedAt) → FileId → Bool → Bool
licensed_behind (event.Closed f stream kernel mode) opens file before =
    if not (is_open_in (opens_at opens f)) && same_file f file then false else before
licensed_behind (event.Shared f stream) opens file before =
    if is_open_in (opens_at opens f) && same_file f file then true else before
licensed_behind _ opens file before = before

abbrev pub LicensedOn : Event → List (FileId × List OpenedAt) → List FileId → List FileId → Type 0
LicensedOn e opens before after = (file : FileId) → has_file after file ≡ licensed_behind e opens file (has_file before file)

-- who asks waits where caching is done and no licence stands
abbrev pub waits_in : Description → List FileId → FileId → Bool
waits_in c licensed file = not (c.cache == 0) && not (has_file licensed file)

abbrev pub grants_behind : Description → Event → List FileId → FileId → Bool → Bool
grants_behind c (event.Opened f stream kernel mode) licensed file before = if true && same_file f file then false else before
grants_behind c (event.Shared f stream) licensed file before = if true && same_file f file then false else before
grants_behind c (event.Grant f to stamp mode) licensed file before =
    if (is_off mode && waits_in c licensed f) && same_file f file then true else before
grants_behind c _ licensed file before = before

abbrev pub GrantsOn : Description → Event → List FileId → List FileId → List FileId → Type 0
GrantsOn c e licensed before after = (file : FileId) → has_file after file ≡ grants_behind c e licensed file (has_file before file)

abbrev pub stops_behind : Description → Event → List FileId → FileId → Bool → Bool
stops_behind c (event.Opened f stream kernel mode) licensed file before = if true && same_file f file then false else before
stops_behind c (event.Shared f stream) licensed file before = if true && same_file f file then false else before
stops_behind c (event.Callback f to stamp kind) licensed file before =
    if (is_stop kind && waits_in c licensed f) && same_file f file then true else before
stops_behind c _ licensed file before = before

abbrev pub StopsOn : Description → Event → List FileId → List FileId → List FileId → Type 0
StopsOn c e licensed before after = (file : FileId) → has_file after file ≡ stops_behind c e licensed file (has_file before file)

abbrev pub called_behind : Event → FileId → Bool → Bool
called_behind (event.Opened f stream kernel mode) file before = if true && same_file f file then false else before
called_behind (event.Callback f to stamp kind) file before = if true && same_file f file then true else before
called_behind _ file before = before

abbrev pub CalledOn : Event → List FileId → List FileId → Type 0
CalledOn e before after = (file : FileId) → has_file after file ≡ called_behind e file (has_file before file)

-- ---- the stamps that turn caching off

abbrev pub same_stamp : StampAt → StampAt → Bool
same_stamp a b = same_file a.file b.file && (a.kernel == b.kernel && a.stamp == b.stamp)

abbrev pub has_stamp : List StampAt → StampAt → Bool
has_stamp stopped at = list_any (same_stamp at) stopped

abbrev pub PutsStamp : Bool → StampAt → List StampAt → List StampAt → Type 0
PutsStamp on one before after = (at : StampAt) → has_stamp after at ≡ (if on && same_stamp one at then true else has_stamp before at)

abbrev pub stopped_behind : Event → StampAt → Bool → Bool
stopped_behind (event.Grant f to stamp mode) at before =
    if is_off mode && same_stamp (record { file = f; kernel = to; stamp = stamp }) at then true else before
stopped_behind (event.Callback f to stamp kind) at before =
    if is_stop kind && same_stamp (record { file = f; kernel = to; stamp = stamp }) at then true else before
stopped_behind _ at before = before

abbrev pub StoppedOn : Event → List StampAt → List StampAt → Type 0
StoppedOn e before after = (at : StampAt) → has_stamp after at ≡ stopped_behind e at (has_stamp before at)

-- ---- one record

-- whether an entry's call is an operation that may enter at a file's server
abbrev pub is_operation : Option Call → Bool
is_operation call = is_some (operation_on call)

-- the kernel doesn't serve a file that was called back
abbrev pub is_free_in : List FileId → ℕ → Option Tied → Bool
is_free_in called kernel None = true
is_free_in called kernel (Some tied) = not (kernel == tied.file.server && has_file called tied.file)

-- a record keeps the rule by those before it
abbrev pub is_well_stopped : List StampAt → List FileId → ℕ → Event → Option Tied → Bool
is_well_stopped stopped called kernel (event.Mode file stamp mode) tied =
    not (is_off mode) || has_stamp stopped (record { file = file; kernel = kernel; stamp = stamp })
is_well_stopped stopped called kernel (event.Enter entry) tied = not (is_operation entry.call) || is_free_in called kernel tied
is_well_stopped stopped called kernel _ tied = true

-- whether a licence stands behind the last record's open, by all that is kept
abbrev pub licence_by : Sharing → Event → Bool → List (FileId × List OpenedAt) → Bool
licence_by old e truncates opens =
    licence_behind old.last e truncates (shared_last old.opens.entries old.last) (shared_last opens old.last)

-- a record is taken: it keeps the rule by those before it, and pays for the open before it; and what is kept goes on
pub record TakesSo (c : Description) (rec : Rec) (tied : Option Tied) (truncates fits : Bool) (old new : Sharing) : Type 0 where
  pub licensed : List FileId
  pub fits_is : fits ≡ (is_well_stopped old.stopped.keys old.called.keys rec.kernel rec.event tied && pays_last old.last (licence_by old rec.event truncates new.opens.entries))
  pub opens_on : OpensOn rec.event old.opens.entries new.opens.entries
  pub settled : SettlesOn old.last (licence_by old rec.event truncates new.opens.entries) old.licensed.keys licensed
  pub licensed_on : LicensedOn rec.event new.opens.entries licensed new.licensed.keys
  pub grants_on : GrantsOn c rec.event licensed old.grants.keys new.grants.keys
  pub stops_on : StopsOn c rec.event licensed old.stops.keys new.stops.keys
  pub called_on : CalledOn rec.event old.called.keys new.called.keys
  pub stopped_on : StoppedOn rec.event old.stopped.keys new.stopped.keys
  pub last_on : new.last ≡ opening_by rec.event old.opens.entries old.grants.keys old.stops.keys

-- nothing is asked of further records
abbrev pub is_paid_in : Sharing → Bool
is_paid_in sharing =
    (length sharing.grants.keys == 0) && pays_last sharing.last (shared_last sharing.opens.entries sharing.last)
