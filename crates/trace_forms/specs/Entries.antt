-- What is kept of the entries that open files.
use Rattle.std.specs.Prelude.{◌≡◌, ℕ, ◌==◌, Bool, true, false, ◌&&◌, if◌then◌else◌, List, Option, Some, None}
use Rattle.std.specs.List.{list_any}
use Rattle.std.specs.Map.{lookup}
use Rattle.sprite_ids.specs.declared.names.FileId.{FileId}
use Rattle.unix_calls.specs.declared.description.Description.{Description}
use Rattle.unix_calls.specs.declared.event.Event.{Event}
use Rattle.unix_calls.specs.declared.event.Event.TheVariants as event
use Rattle.unix_calls.specs.declared.event.Rec.{Rec}
use Rattle.unix_calls.specs.declared.state.FileName.{FileName}
use Rattle.unix_calls.specs.declared.state.FileName.TheVariants.{Boot, Made}
use Rattle.unix_calls.specs.declared.state.Object.{Object}
use Rattle.unix_calls.specs.declared.state.Object.TheVariants.{OfFile}
use Rattle.unix_calls.specs.declared.state.Stream.{Stream}
use Rattle.unix_calls.specs.State.{same_file as same_name}
use Rattle.call_journal.specs.Formed.{is_due_name}
use Rattle.call_journal.specs.Matching.{same_file}
use Rattle.call_journal.specs.Past.{Past, Tie, last_event}
use Rattle.trace_places.specs.declared.places.Place.{Place}
use Rattle.trace_places.specs.Places.{TellsPlaces, is_kernel_of, place_kept}
use Rattle.trace_forms.specs.Openings.{openings_from}
use Rattle.trace_forms.specs.declared.places.FileFor.{FileFor}
use Rattle.trace_forms.specs.declared.entries.Names.{Names}

-- ---- names of files

abbrev pub name_at : List (FileId × FileName) → FileId → Option FileName
name_at names file = lookup (same_file file) names

abbrev pub place_at : List (ℕ × FileId) → ℕ → Option FileId
place_at files place = lookup (λ other. place == other) files

abbrev pub file_at : Names → FileName → Option FileId
file_at names (Boot place) = place_at names.boots.entries place
file_at names (Made place) = place_at names.mades.entries place

-- whether a name, and a file, isn't another one than that kept
abbrev pub is_free_name : Option FileName → FileName → Bool
is_free_name None name = true
is_free_name (Some other) name = same_name other name

abbrev pub is_free_file : Option FileId → FileId → Bool
is_free_file None file = true
is_free_file (Some other) file = same_file other file

abbrev pub PutsName : FileName → FileId → Names → Names → Type 0
PutsName name file old new =
    ((other : FileId) → name_at new.names.entries other ≡ (if same_file file other then Some name else name_at old.names.entries other))
    × ((other : FileName) → file_at new other ≡ (if same_name name other then Some file else file_at old other))

abbrev pub PutsObject : Object → FileId → Names → Names → Type 0
PutsObject (OfFile name) file old new = PutsName name file old new
PutsObject _ file old new = new ≡ old

abbrev pub KeepsNames : Option Stream → Option FileFor → Names → Names → Type 0
KeepsNames None opened old new = new ≡ old
KeepsNames (Some stream) None old new = new ≡ old
KeepsNames (Some stream) (Some opened) old new = PutsObject stream.object opened.file old new

-- ---- looking

abbrev pub opened_by : Event → Option FileFor
opened_by (event.Opened file stream to mode) = Some (record { file = file; to = to })
opened_by _ = None

abbrev pub opened_in : Option Event → Option FileFor
opened_in None = None
opened_in (Some e) = opened_by e

abbrev pub object_fits : Description → Names → FileId → Object → Bool
object_fits c names file (OfFile name) =
    is_due_name c name file && is_free_name (name_at names.names.entries file) name && is_free_file (file_at names name) file
object_fits c names file _ = true

-- an entry that makes a stream of a file, behind what the last record opened
abbrev pub stream_fits : Description → List (ℕ × Place) → Names → ℕ → ℕ → Option FileFor → Option Stream → Bool
stream_fits c places names kernel pid opened None = true
stream_fits c places names kernel pid None (Some stream) = false
stream_fits c places names kernel pid (Some opened) (Some stream) =
    is_kernel_of opened.to (place_kept places pid) && kernel == opened.file.server && object_fits c names opened.file stream.object

abbrev pub entry_fits : Description → List (ℕ × Place) → Names → Option FileFor → ℕ → Event → Option Stream → Bool
entry_fits c places names opened kernel (event.Enter entry) made = stream_fits c places names kernel entry.pid opened made
entry_fits c places names opened kernel _ made = true

-- ---- what is kept tells of the records

abbrev pub is_pair : FileName → FileId → Tie → Bool
is_pair name file tie = same_name tie.name name && same_file tie.file file

abbrev pub is_named : Option FileName → FileName → Bool
is_named None name = false
is_named (Some other) name = same_name other name

abbrev pub is_filed : Option FileId → FileId → Bool
is_filed None file = false
is_filed (Some other) file = same_file other file

pub record TellsNames (names : Names) (ties : List Tie) : Type 0 where
  pub names_told : (file : FileId) (name : FileName) → is_named (name_at names.names.entries file) name ≡ list_any (is_pair name file) ties
  pub files_told : (name : FileName) (file : FileId) → is_filed (file_at names name) file ≡ list_any (is_pair name file) ties

pub record TellsEntries (c : Description) (places : List (ℕ × Place)) (names : Names) (opened : Option FileFor) (openings : List (Option Stream)) (past : Past) (rest : List Rec) : Type 0 where
  pub places_told : TellsPlaces places past.processes
  pub are_named : TellsNames names past.ties
  pub opened_told : opened ≡ opened_in (last_event past.records)
  pub openings_told : openings ≡ openings_from c past.unix rest
