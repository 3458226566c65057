-- The stamps of files that were given.
use Rattle.std.specs.Prelude.{◌≡◌, ℕ, Bool, true, if◌then◌else◌, List, Option, Some}
use Rattle.std.specs.Map.{lookup}
use Rattle.sprite_ids.specs.declared.names.FileId.{FileId}
use Rattle.unix_calls.specs.declared.event.Event.{Event}
use Rattle.unix_calls.specs.declared.event.Event.TheVariants as event
use Rattle.unix_calls.specs.declared.event.Rec.{Rec}
use Rattle.call_journal.specs.Matching.{same_file}
use Rattle.call_journal.specs.WorthRecords.{is_stamp_new}
use Rattle.trace_rules.specs.Greatest.{is_less, later}

-- the greatest stamp of a file
abbrev pub greatest : List (FileId × ℕ) → FileId → Option ℕ
greatest given file = lookup (same_file file) given

-- a stamp may be given
abbrev pub may_give : List (FileId × ℕ) → Event → Bool
may_give given (event.Grant file to stamp mode) = is_less (greatest given file) stamp
may_give given (event.Callback file to stamp kind) = is_less (greatest given file) stamp
may_give given _ = true

-- what is kept of a file, where a stamp is given
abbrev pub given_put : FileId → ℕ → List (FileId × ℕ) → FileId → Option ℕ
given_put file stamp before other = if same_file file other then Some (later stamp (greatest before file)) else greatest before other

abbrev pub PutsLater : FileId → ℕ → List (FileId × ℕ) → List (FileId × ℕ) → Type 0
PutsLater file stamp before after = (other : FileId) → greatest after other ≡ given_put file stamp before other

abbrev pub given_behind : Event → List (FileId × ℕ) → FileId → Option ℕ
given_behind (event.Grant file to stamp mode) before other = given_put file stamp before other
given_behind (event.Callback file to stamp kind) before other = given_put file stamp before other
given_behind _ before other = greatest before other

abbrev pub RisesOn : Event → List (FileId × ℕ) → List (FileId × ℕ) → Type 0
RisesOn e before after = (file : FileId) → greatest after file ≡ given_behind e before file

-- what is kept is what the records tell
abbrev pub TellsStamps : List (FileId × ℕ) → List Rec → Type 0
TellsStamps given records = (file : FileId) (stamp : ℕ) → is_less (greatest given file) stamp ≡ is_stamp_new file stamp records
