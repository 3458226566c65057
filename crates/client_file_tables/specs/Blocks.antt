-- The cached blocks, each call with the tests that it needs: where one fails, nothing changes.
use Rattle.std.specs.Prelude.{ℕ, ◌+◌, nat_le, nat_lt, Bool, false, ◌&&◌, if◌then◌else◌, List, [], length, Option, Some, None, is_some}
use Rattle.sprite_ids.specs.declared.FileId.{FileId}
use Rattle.sprite_ids.specs.declared.BlockNo.{BlockNo}
use Rattle.block_cache.specs.declared.BlockKey.{BlockKey}
use Rattle.block_cache.specs.declared.Block.{Block}
use Rattle.block_cache.specs.declared.FileState.{FileState}
use Rattle.block_cache.specs.declared.Filled.{Filled}
use Rattle.block_cache.specs.declared.Filled.TheVariants as fillings
use Rattle.block_cache.specs.Files as files
use Rattle.block_cache.specs.Held as held
use Rattle.unix_calls.specs.declared.DropCause.TheVariants.{Full}
use Rattle.unix_calls.specs.declared.Event.TheVariants as events
use Rattle.client_file_tables.specs.declared.client_files.ClientFiles.{ClientFiles}
use Rattle.client_file_tables.specs.declared.extent.Extent.{Extent}
use Rattle.client_file_tables.specs.Extents.{is_within, first_of, last_of}
use Rattle.client_file_tables.specs.Says.{notes}

-- what is known of the file
abbrev pub state_in : FileId → ClientFiles → FileState
state_in file s = files.known s.cache.files file

-- whether the file is cached
abbrev pub is_cached : FileId → ClientFiles → Bool
is_cached file s = (state_in file s).on

-- the first block of the range that isn't held
abbrev pub missing_in : FileId → Extent → ClientFiles → Option BlockNo
missing_in file extent s = if is_within extent then held.missing s.cache file extent.from extent.length else None

-- another cache
abbrev pub with_cache : held.Held → ClientFiles → ClientFiles
with_cache cache s = record s { cache = cache }

-- a block that was put in is noted
abbrev pub fills_as : Filled → FileId → BlockNo → ClientFiles → ClientFiles
fills_as fillings.Filled file block s = notes (events.Filled file block) s
fills_as fillings.Kept file block s = s
fills_as fillings.Old file block s = s
fills_as fillings.Full file block s = s

abbrev pub fills_by : Filled → FileId → BlockNo → List ℕ → ClientFiles → ClientFiles
fills_by filled file block bytes s = fills_as filled file block (with_cache (held.after_fill s.cache file block bytes filled) s)

-- whether a block of that number and those bytes may be put in
abbrev pub may_fill : FileId → BlockNo → List ℕ → ClientFiles → Bool
may_fill file block bytes s = nat_lt block.0 1024 && nat_le (length bytes) 4096 && is_cached file s

-- a block that was fetched under that stamp is put in: part of the Delivering of a Fetch, or the zeros of a writing
abbrev pub fills : FileId → ℕ → BlockNo → List ℕ → ClientFiles → ClientFiles
fills file stamp block bytes s = if may_fill file block bytes s then fills_by (held.fill_answer s.cache file stamp block.0) file block bytes s else s

-- whether the range's file is cached, and it lies where a file may have bytes
abbrev pub may_use : FileId → Extent → ClientFiles → Bool
may_use file extent s = is_within extent && is_cached file s

-- the bytes of the range where no block is missing
abbrev pub bytes_found : Option BlockNo → FileId → Extent → ClientFiles → List ℕ
bytes_found None file extent s = held.read_of s.cache file extent.from extent.length
bytes_found (Some block) file extent s = []

abbrev pub bytes_read : FileId → Extent → ClientFiles → List ℕ
bytes_read file extent s = if may_use file extent s then bytes_found (held.missing s.cache file extent.from extent.length) file extent s else []

-- the blocks of the range are used where none is missing
abbrev pub reads_found : Option BlockNo → FileId → Extent → ClientFiles → ClientFiles
reads_found None file extent s = with_cache (held.after_read s.cache file extent.from extent.length) s
reads_found (Some block) file extent s = s

abbrev pub reads : FileId → Extent → ClientFiles → ClientFiles
reads file extent s = if may_use file extent s then reads_found (held.missing s.cache file extent.from extent.length) file extent s else s

-- the bytes are written where no block is missing
abbrev pub writes_found : Option BlockNo → FileId → ℕ → List ℕ → ClientFiles → ClientFiles
writes_found None file start bytes s = with_cache (held.after_write s.cache file start bytes) s
writes_found (Some block) file start bytes s = s

abbrev pub may_write : FileId → ℕ → List ℕ → ClientFiles → Bool
may_write file start bytes s = nat_le (start + length bytes) 4194304 && is_cached file s

abbrev pub writes : FileId → ℕ → List ℕ → ClientFiles → ClientFiles
writes file start bytes s = if may_write file start bytes s then writes_found (held.missing s.cache file start (length bytes)) file start bytes s else s

-- a clean block outside those of the range, where there is one
abbrev pub clean_outside : FileId → Extent → ClientFiles → Option (BlockKey × Block)
clean_outside file extent s = held.oldest_clean s.cache file (first_of extent) (last_of extent)

-- whether there is one
abbrev pub has_clean : FileId → Extent → ClientFiles → Bool
has_clean file extent s = if is_within extent then is_some (clean_outside file extent s) else false

-- that it was dropped is noted
abbrev pub notes_full : Option (BlockKey × Block) → ClientFiles → ClientFiles
notes_full (Some entry) s = notes (events.Dropped entry.0.file entry.0.block Full) s
notes_full None s = s

-- the least recently used clean block outside those of the range is dropped, where there is one
abbrev pub drops_full : FileId → Extent → ClientFiles → ClientFiles
drops_full file extent s =
    if is_within extent then notes_full (clean_outside file extent s) (with_cache (held.after_drop s.cache file (first_of extent) (last_of extent)) s) else s
