-- What the definitions promise together.
use Rattle.std.specs.Prelude.{◌≡◌, ℕ, ◌≤◌, true, false, List, length, Some}
use Rattle.sprite_ids.specs.declared.FileId.{FileId}
use Rattle.file_store.specs.Content.{read_of, written}
use Rattle.file_store.specs.Files.{Kept, is_there, bytes_of, with_bytes, with_new, without}

-- other bytes in one file, a new file and a file that goes leave every other file's bytes as they are
pub record OtherFilesStay : Type 0 where
  pub changed : (files : Kept) (file other : FileId) (bytes : List ℕ) → (other ≡ file → ⊥) → bytes_of (with_bytes files file bytes) other ≡ bytes_of files other
  pub made : (files : Kept) (file other : FileId) → (other ≡ file → ⊥) → bytes_of (with_new files file) other ≡ bytes_of files other
  pub gone : (files : Kept) (file other : FileId) → (other ≡ file → ⊥) → bytes_of (without files file) other ≡ bytes_of files other

-- a file is there once it is made, also with other bytes, and until it goes
pub record FilesAreThere : Type 0 where
  pub changed : (files : Kept) (file other : FileId) (bytes : List ℕ) → is_there (with_bytes files file bytes) other ≡ is_there files other
  pub made : (files : Kept) (file : FileId) → is_there (with_new files file) file ≡ true
  pub gone : (files : Kept) (file : FileId) → is_there (without files file) file ≡ false

-- a file that is there has the bytes that it is given
abbrev pub WrittenFileIsHeld : Type 0
WrittenFileIsHeld = (files : Kept) (file : FileId) (bytes : List ℕ) → is_there files file ≡ true → bytes_of (with_bytes files file bytes) file ≡ Some bytes

-- what was written is read again
abbrev pub WrittenBytesAreRead : Type 0
WrittenBytesAreRead = (bytes new : List ℕ) (from : ℕ) → read_of (written bytes from new) from (length new) ≡ new

-- a read is at most as long as was asked
abbrev pub ReadsAreShort : Type 0
ReadsAreShort = (bytes : List ℕ) (from many : ℕ) → length (read_of bytes from many) ≤ many
