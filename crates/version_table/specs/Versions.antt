-- The files of one server.
use Rattle.std.specs.Prelude.{◌≡◌, ℕ, ◌==◌, Bool, ◌&&◌, List, [], Option, Some, None}
use Rattle.std.specs.List.{AllByRecursion}
use Rattle.std.specs.Map.{lookup, remove_entry}
use Rattle.indexmap.specs.IndexMap.{insert_entry}
use Rattle.lru.specs.LruCache.{LruCache}
use Rattle.sprite_ids.specs.declared.FileId.{FileId}
use Rattle.sprite_ids.specs.declared.StreamNo.{StreamNo}
use Rattle.version_table.specs.declared.versioned.Versioned.{Versioned}
use Rattle.version_table.specs.Files.{fresh, closed}
use Rattle.version_table.specs.Coherence.{IsKept}

-- the files that anybody opened, in the order of their first opens, each with what is kept of it
abbrev pub Files : Type 0
Files = List (FileId × Versioned)

-- the files of a list that is made with the first of them
abbrev pub files_in : Option (LruCache FileId Versioned) → Files
files_in None = []
files_in (Some list) = list.entries

-- whether clients have a cache, and the files
pub record Table : Type 0 where
  pub cached : Bool
  pub files : Files

-- whether the two are one file
abbrev pub is_file : FileId → FileId → Bool
is_file file other = (file.server == other.server) && (file.number == other.number)

-- a looked-up file, or one that nobody opened so far
abbrev pub or_fresh : FileId → Option Versioned → Versioned
or_fresh file (Some versioned) = versioned
or_fresh file None = fresh file

-- what is kept of the file
abbrev pub file_of : Files → FileId → Versioned
file_of files file = or_fresh file (lookup (is_file file) files)

-- the files after one of them changed
abbrev pub with_file : Files → FileId → Versioned → Files
with_file files file versioned = insert_entry is_file files file versioned

-- the files after a close of a looked-up file
abbrev pub closing_in : Files → FileId → ℕ → StreamNo → ℕ → Option Versioned → Files
closing_in files file kernel stream grants (Some versioned) = with_file files file (closed versioned kernel stream grants)
closing_in files file kernel stream grants None = files

-- the files after a close: one that nobody opened stays so
abbrev pub with_closed : Files → FileId → ℕ → StreamNo → ℕ → Files
with_closed files file kernel stream grants = closing_in files file kernel stream grants (lookup (is_file file) files)

-- the files after what is kept of one was dropped
abbrev pub forgotten : Files → FileId → Files
forgotten files file = remove_entry (is_file file) files

-- what holds of each file of the table: what is kept under its name is its own, and it is coherent, with what waits prepared
pub record IsFile (entry : FileId × Versioned) : Type 0 where
  pub own : entry.1.file ≡ entry.0
  pub kept : IsKept entry.1

abbrev pub AreKept : Files → Type 0
AreKept files = AllByRecursion IsFile files
