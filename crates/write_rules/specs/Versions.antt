-- The versions of files that kernels hold, by what is kept of them.
use Rattle.std.specs.Prelude.{◌≡◌, ◌≤◌, ℕ, ◌+◌, ◌==◌, Bool, true, false, ◌&&◌, ◌||◌, not, if◌then◌else◌, List, [], nat_lt, Option, Some, None}
use Rattle.std.specs.List.{list_any}
use Rattle.std.specs.Map.{lookup}
use Rattle.sprite_ids.specs.declared.caching.CacheMode.{CacheMode}
use Rattle.sprite_ids.specs.declared.caching.CacheMode.TheVariants as cache
use Rattle.sprite_ids.specs.declared.names.FileId.{FileId}
use Rattle.sprite_ids.specs.declared.names.Mode.{Mode}
use Rattle.unix_calls.specs.declared.entry.Entry.{Entry}
use Rattle.unix_calls.specs.declared.event.Event.{Event}
use Rattle.unix_calls.specs.declared.event.Event.TheVariants as event
use Rattle.unix_calls.specs.declared.event.Rec.{Rec}
use Rattle.call_journal.specs.Past.{Past, last_event}
use Rattle.call_journal.specs.Matching.{same_file, is_at, writes}
use Rattle.call_journal.specs.Files.{mode_of}
use Rattle.call_journal.specs.Calls.{is_truncating}
use Rattle.call_journal.specs.Drops.{before_filled, has_missed, is_outdated, is_taken, last_seen, last_stamp}
use Rattle.trace_rules.specs.declared.place.BlockAt.{BlockAt}
use Rattle.trace_rules.specs.declared.place.FileAt.{FileAt}
use Rattle.trace_rules.specs.declared.place.StampAt.{StampAt}
use Rattle.write_rules.specs.declared.versions.Change.{Change}
use Rattle.write_rules.specs.declared.versions.Filling.{Filling}
use Rattle.write_rules.specs.declared.versions.Last.{Last}
use Rattle.write_rules.specs.declared.versions.Last.TheVariants as last
use Rattle.write_rules.specs.declared.versions.Taken.{Taken}
use Rattle.write_rules.specs.declared.versions.Versions.{Versions}
use Rattle.trace_rules.specs.Places.{same_place, same_use, same_stamp, file_of, has_stamp}

-- ---- looking

-- what a kernel took of a file last, its stamp, and whether its mode is off
abbrev pub taken_at : List (FileAt × Taken) → FileAt → Option Taken
taken_at modes at = lookup (same_use at) modes

abbrev pub stamp_or : Option Taken → Option ℕ
stamp_or None = None
stamp_or (Some taken) = Some taken.stamp

abbrev pub stamp_at : List (FileAt × Taken) → FileAt → Option ℕ
stamp_at modes at = stamp_or (taken_at modes at)

abbrev pub mode_or : Option Taken → CacheMode
mode_or None = cache.None
mode_or (Some taken) = taken.mode

abbrev pub is_off_or : CacheMode → Bool
is_off_or cache.Off = true
is_off_or _ = false

abbrev pub is_off_taken : Option Taken → Bool
is_off_taken None = false
is_off_taken (Some taken) = is_off_or taken.mode

abbrev pub is_off_in : List (FileAt × Taken) → FileAt → Bool
is_off_in modes at = is_off_taken (taken_at modes at)

-- where a block came in last, and the stamp then
abbrev pub filled_at : List (BlockAt × Filling) → BlockAt → Option Filling
filled_at filled at = lookup (same_place at) filled

abbrev pub filling_place : Option Filling → ℕ
filling_place None = 0
filling_place (Some filling) = filling.place

abbrev pub filling_stamp : Option Filling → Option ℕ
filling_stamp None = None
filling_stamp (Some filling) = filling.stamp

-- where a file changed last, for a kernel
abbrev pub change_of : List (FileId × Change) → FileId → Option Change
change_of changed file = lookup (same_file file) changed

abbrev pub change_for : Option Change → ℕ → ℕ
change_for None kernel = 0
change_for (Some change) kernel = if change.kernel == kernel then change.other else change.place

-- a place that is kept, or the one before all
abbrev pub place_or : Option ℕ → ℕ
place_or None = 0
place_or (Some place) = place

abbrev pub given_at : List (StampAt × ℕ) → StampAt → Option ℕ
given_at given at = lookup (same_stamp at) given

abbrev pub missed_at : List (FileAt × ℕ) → FileAt → Option ℕ
missed_at missed at = lookup (same_use at) missed

abbrev pub stamp_of : FileAt → ℕ → StampAt
stamp_of at stamp = record { kernel = at.kernel; file = at.file; stamp = stamp }

abbrev pub has_missed_in : List (StampAt × ℕ) → List (FileAt × ℕ) → FileAt → ℕ → Bool
has_missed_in given missed at stamp = nat_lt (place_or (given_at given (stamp_of at stamp))) (place_or (missed_at missed at))

abbrev pub has_missed_since : List (StampAt × ℕ) → List (FileAt × ℕ) → FileAt → Option ℕ → Bool
has_missed_since given missed at None = false
has_missed_since given missed at (Some stamp) = has_missed_in given missed at stamp

-- a block is of an old version
abbrev pub is_old_version : List (BlockAt × Filling) → List (FileId × Change) → List (StampAt × ℕ) → List (FileAt × ℕ) → BlockAt → Bool
is_old_version filled changed given missed at =
    nat_lt (filling_place (filled_at filled at)) (change_for (change_of changed at.file) at.kernel)
    || has_missed_since given missed (file_of at) (filling_stamp (filled_at filled at))

-- ---- one record more

abbrev pub StampsBy : ℕ → Event → List StampAt → List StampAt → Type 0
StampsBy kernel (event.Mode file stamp mode) old new =
    (at : StampAt) → has_stamp new at ≡ (if same_stamp (record { kernel = kernel; file = file; stamp = stamp }) at then true else has_stamp old at)
StampsBy kernel _ old new = new ≡ old

abbrev pub ModesBy : ℕ → Event → List (FileAt × Taken) → List (FileAt × Taken) → Type 0
ModesBy kernel (event.Mode file stamp mode) old new =
    (at : FileAt) → taken_at new at ≡ (if same_use (record { kernel = kernel; file = file }) at then Some (record { stamp = stamp; mode = mode }) else taken_at old at)
ModesBy kernel _ old new = new ≡ old

abbrev pub FillsBy : ℕ → Event → ℕ → List (FileAt × Taken) → List (BlockAt × Filling) → List (BlockAt × Filling) → Type 0
FillsBy kernel (event.Filled file block) place modes old new =
    (at : BlockAt) → filled_at new at ≡ (if same_place (record { kernel = kernel; file = file; block = block }) at then Some (record { place = place; stamp = stamp_at modes (record { kernel = kernel; file = file }) }) else filled_at old at)
FillsBy kernel _ place modes old new = new ≡ old

abbrev pub PutsPlace : StampAt → ℕ → List (StampAt × ℕ) → List (StampAt × ℕ) → Type 0
PutsPlace stamp place old new = (at : StampAt) → given_at new at ≡ (if same_stamp stamp at then Some place else given_at old at)

abbrev pub GivesBy : Event → ℕ → List (StampAt × ℕ) → List (StampAt × ℕ) → Type 0
GivesBy (event.Grant file to stamp mode) place old new = PutsPlace (record { kernel = to; file = file; stamp = stamp }) place old new
GivesBy (event.Callback file to stamp kind) place old new = PutsPlace (record { kernel = to; file = file; stamp = stamp }) place old new
GivesBy _ place old new = new ≡ old

-- a kernel writes a file at a place
abbrev pub next_change : Option Change → ℕ → ℕ → Change
next_change before kernel place = record { kernel = kernel; place = place; other = change_for before kernel }

abbrev pub PutsChange : FileId → Change → List (FileId × Change) → List (FileId × Change) → Type 0
PutsChange file change old new = (other : FileId) → change_of new other ≡ (if same_file file other then Some change else change_of old other)

abbrev pub OpensIf : Bool → FileId → ℕ → ℕ → List (FileId × Change) → List (FileId × Change) → Type 0
OpensIf true file kernel place old new = PutsChange file (next_change (change_of old file) kernel place) old new
OpensIf false file kernel place old new = new ≡ old

abbrev pub OpensBy : FileId → ℕ → Mode → ℕ → List (FileId × Change) → List (FileId × Change) → Type 0
OpensBy file kernel mode place old new = OpensIf (writes mode) file kernel place old new

abbrev pub TruncatesIf : Bool → ℕ → ℕ → Last → List (FileId × Change) → List (FileId × Change) → Type 0
TruncatesIf true kernel place (last.Opened file) old new = PutsChange file (record { kernel = kernel; place = place; other = place }) old new
TruncatesIf true kernel place _ old new = new ≡ old
TruncatesIf false kernel place last old new = new ≡ old

abbrev pub TruncatesBy : ℕ → Entry → Bool → ℕ → Last → List (FileId × Change) → List (FileId × Change) → Type 0
TruncatesBy kernel entry mark place last old new = TruncatesIf (mark && is_truncating entry) kernel place last old new

abbrev pub ChangesBy : ℕ → Event → Bool → ℕ → Last → List (FileId × Change) → List (FileId × Change) → Type 0
ChangesBy kernel (event.Opened file stream by mode) mark place last old new = OpensBy file by mode place old new
ChangesBy kernel (event.Enter entry) mark place last old new = TruncatesBy kernel entry mark place last old new
ChangesBy kernel _ mark place last old new = new ≡ old

-- the last record gave a kernel leave to use a file, which it never takes
abbrev pub is_untaken_in : Last → List StampAt → FileAt → Bool
is_untaken_in (last.Granted stamp) taken at = stamp.kernel == at.kernel && same_file stamp.file at.file && not (has_stamp taken stamp)
is_untaken_in _ taken at = false

abbrev pub MissesIf : Bool → FileAt → ℕ → List (FileAt × ℕ) → List (FileAt × ℕ) → Type 0
MissesIf true file place old new = (at : FileAt) → missed_at new at ≡ (if same_use file at then Some place else missed_at old at)
MissesIf false file place old new = new ≡ old

abbrev pub MissesBy : Event → ℕ → Last → List StampAt → List (FileAt × ℕ) → List (FileAt × ℕ) → Type 0
MissesBy (event.Opened file stream kernel mode) place last taken old new =
    MissesIf (writes mode && is_untaken_in last taken (record { kernel = kernel; file = file })) (record { kernel = kernel; file = file }) place old new
MissesBy _ place last taken old new = new ≡ old

abbrev pub last_of : Event → Last
last_of (event.Grant file to stamp mode) = last.Granted (record { kernel = to; file = file; stamp = stamp })
last_of (event.Opened file stream kernel mode) = last.Opened file
last_of _ = last.Other

pub record VersionsOn (kernel : ℕ) (e : Event) (mark : Bool) (old new : Versions) : Type 0 where
  pub taken : new.taken.keys ≡ old.taken.keys
  pub modes : ModesBy kernel e old.modes.entries new.modes.entries
  pub filled : FillsBy kernel e (old.place + 1) old.modes.entries old.filled.entries new.filled.entries
  pub changed : ChangesBy kernel e mark (old.place + 1) old.last old.changed.entries new.changed.entries
  pub given : GivesBy e (old.place + 1) old.given.entries new.given.entries
  pub missed : MissesBy e (old.place + 1) old.last old.taken.keys old.missed.entries new.missed.entries
  pub last_is : new.last ≡ last_of e
  pub place_is : new.place ≡ old.place + 1

-- ---- what the records tell

-- before the first record of a trace
pub record StartsOn (trace : List Rec) (versions : Versions) : Type 0 where
  pub taken : (at : StampAt) → has_stamp versions.taken.keys at ≡ list_any (is_at at.kernel (is_taken at.file at.stamp)) trace
  pub modes : versions.modes.entries ≡ []
  pub filled : versions.filled.entries ≡ []
  pub changed : versions.changed.entries ≡ []
  pub given : versions.given.entries ≡ []
  pub missed : versions.missed.entries ≡ []
  pub last_is : versions.last ≡ last.Other
  pub place_is : versions.place ≡ 0

abbrev pub last_or : Option Event → Last
last_or None = last.Other
last_or (Some e) = last_of e

pub record TellsVersions (trace : List Rec) (versions : Versions) (past : Past) : Type 0 where
  pub taken : (at : StampAt) → has_stamp versions.taken.keys at ≡ list_any (is_at at.kernel (is_taken at.file at.stamp)) trace
  pub modes : (at : FileAt) → mode_or (taken_at versions.modes.entries at) ≡ mode_of at.kernel at.file past.records
  pub stamps : (at : FileAt) → stamp_at versions.modes.entries at ≡ last_stamp at.kernel at.file past.records
  pub fillings : (at : BlockAt) → filling_stamp (filled_at versions.filled.entries at) ≡ last_stamp at.kernel at.file (before_filled at.kernel at.file at.block past.records)
  pub outdated : (at : BlockAt) → nat_lt (filling_place (filled_at versions.filled.entries at)) (change_for (change_of versions.changed.entries at.file) at.kernel) ≡ is_outdated at.kernel at.file at.block past.seen
  pub missed : (at : FileAt) (stamp : ℕ) → has_missed_in versions.given.entries versions.missed.entries at stamp ≡ has_missed at.kernel at.file (Some stamp) past.records trace
  pub last_is : versions.last ≡ last_or (last_event past.records)
  pub seen : last_seen past.seen ≡ last_event past.records
  pub fillings_before : (at : BlockAt) → filling_place (filled_at versions.filled.entries at) ≤ versions.place
  pub changes_before : (file : FileId) (kernel : ℕ) → change_for (change_of versions.changed.entries file) kernel ≤ versions.place
  pub given_before : (at : StampAt) → place_or (given_at versions.given.entries at) ≤ versions.place
  pub missed_before : (at : FileAt) → place_or (missed_at versions.missed.entries at) ≤ versions.place
