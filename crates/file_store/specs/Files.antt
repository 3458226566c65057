-- The files of one server.
use Rattle.std.specs.Prelude.{ℕ, ◌≤◌, ◌==◌, Bool, ◌&&◌, not, is_some, List, [], ◌∷◌, ◌++◌, length, Option, Some, None}
use Rattle.std.specs.List.{AllByRecursion, filter}
use Rattle.std.specs.Map.{lookup, set_value}
use Rattle.lru.specs.LruCache.{LruCache}
use Rattle.sprite_ids.specs.declared.FileId.{FileId}

-- files and their bytes
abbrev pub Kept : Type 0
Kept = List (FileId × List ℕ)

-- the files of a list that is made with the first of them
abbrev pub files_in : Option (LruCache FileId (List ℕ)) → Kept
files_in None = []
files_in (Some list) = list.entries

-- the most bytes that a file may have, and the files in the order in which they were made
pub record Files : Type 0 where
  pub limit : ℕ
  pub files : Kept

-- whether the two are one file
abbrev pub is_file : FileId → FileId → Bool
is_file file other = (file.server == other.server) && (file.number == other.number)

-- the file's bytes, where it is there
abbrev pub bytes_of : Kept → FileId → Option (List ℕ)
bytes_of files file = lookup (is_file file) files

-- whether the file is there
abbrev pub is_there : Kept → FileId → Bool
is_there files file = is_some (bytes_of files file)

-- looked-up bytes, or none
abbrev pub or_none : Option (List ℕ) → List ℕ
or_none (Some bytes) = bytes
or_none None = []

-- the bytes of a file that is there
abbrev pub held : Kept → FileId → List ℕ
held files file = or_none (bytes_of files file)

-- the files with other bytes in one of them
abbrev pub with_bytes : Kept → FileId → List ℕ → Kept
with_bytes files file bytes = set_value (is_file file) files bytes

-- the files and an empty one
abbrev pub with_new : Kept → FileId → Kept
with_new files file = files ++ (file, []) ∷ []

-- the files but one
abbrev pub without : Kept → FileId → Kept
without files file = filter (λ stored. not (is_file file stored.0)) files

-- no file is longer than the limit
abbrev pub AreWithin : ℕ → Kept → Type 0
AreWithin limit files = AllByRecursion (λ (stored : FileId × List ℕ). length stored.1 ≤ limit) files
