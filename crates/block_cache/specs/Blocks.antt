-- The blocks of all files that a client holds, the most recently used first.
use Rattle.std.specs.Prelude.{ℕ, zero, suc, ◌+◌, ◌-◌, ◌*◌, ◌==◌, nat_le, Bool, true, ◌&&◌, not, is_some, if◌then◌else◌, List, [], ◌∷◌, ◌++◌, map, Option, Some, None}
use Rattle.std.specs.List.{IsDistinct, filter}
use Rattle.std.specs.Option.{option_or}
use Rattle.std.specs.Map.{keys_of, lookup, remove_entry, set_value}
use Rattle.sprite_ids.specs.declared.FileId.{FileId}
use Rattle.sprite_ids.specs.declared.BlockNo.{BlockNo}
use Rattle.lru.specs.LruCache.{promoted}
use Rattle.block_cache.specs.declared.key.BlockKey.{BlockKey}
use Rattle.block_cache.specs.declared.block.Block.{Block}
use Rattle.block_cache.specs.Files.{is_file}
use Rattle.block_cache.specs.Ranges.{part, piece, over, cut}

-- blocks, the most recently used first
abbrev pub Blocks : Type 0
Blocks = List (BlockKey × Block)

-- whether it is that block of that file
abbrev pub is_at : FileId → ℕ → BlockKey → Bool
is_at file number key = is_file file key.file && (number == key.block.0)

-- whether two keys are one
abbrev pub is_key : BlockKey → BlockKey → Bool
is_key key other = is_at key.file key.block.0 other

-- no block is held twice
abbrev pub AreOnce : Blocks → Type 0
AreOnce blocks = IsDistinct is_key (keys_of blocks)

-- a block that is held
abbrev pub block_at : Blocks → FileId → ℕ → Option Block
block_at blocks file number = lookup (is_at file number) blocks

-- whether the block is held
abbrev pub is_held : Blocks → FileId → ℕ → Bool
is_held blocks file number = is_some (block_at blocks file number)

-- the dirty number of a looked-up block
abbrev pub number_of : Option Block → Option ℕ
number_of (Some block) = block.dirty
number_of None = None

-- the block's dirty number, where it is held dirty
abbrev pub dirty_at : Blocks → FileId → ℕ → Option ℕ
dirty_at blocks file number = number_of (block_at blocks file number)

-- the bytes of a looked-up block
abbrev pub bytes_of : Option Block → List ℕ
bytes_of (Some block) = block.bytes
bytes_of None = []

-- the bytes of a block that is held
abbrev pub bytes_at : Blocks → FileId → ℕ → List ℕ
bytes_at blocks file number = bytes_of (block_at blocks file number)

-- the blocks of the other files
abbrev pub without : Blocks → FileId → Blocks
without blocks file = filter (λ entry. not (is_file file entry.0.file)) blocks

-- the blocks that are held of the file, of those under that one
abbrev pub held_under : Blocks → FileId → ℕ → List BlockNo
held_under blocks file zero = []
held_under blocks file (suc n) = held_under blocks file n ++ (if is_held blocks file n then record { 0 = n } ∷ [] else [])

-- the blocks that are dirty of the file, of those under that one
abbrev pub dirty_under : Blocks → FileId → ℕ → List BlockNo
dirty_under blocks file zero = []
dirty_under blocks file (suc n) = dirty_under blocks file n ++ (if is_some (dirty_at blocks file n) then record { 0 = n } ∷ [] else [])

-- the bytes of these blocks that stand before the file's size
abbrev pub flushed : Blocks → FileId → ℕ → List BlockNo → List (BlockNo × List ℕ)
flushed blocks file size numbers = map (λ block. (block, cut (bytes_at blocks file block.0) block.0 size)) numbers

-- a looked-up block made clean among the others
abbrev pub cleaned_there : Blocks → FileId → ℕ → Option Block → Blocks
cleaned_there blocks file number (Some block) = set_value (is_at file number) blocks (record block { dirty = None })
cleaned_there blocks file number None = blocks

-- the blocks with one made clean
abbrev pub cleaned : Blocks → FileId → ℕ → Blocks
cleaned blocks file number = cleaned_there blocks file number (block_at blocks file number)

-- the blocks with those of a file made clean that are under that one
abbrev pub cleaned_under : Blocks → FileId → ℕ → Blocks
cleaned_under blocks file zero = blocks
cleaned_under blocks file (suc n) = cleaned (cleaned_under blocks file n) file n

-- the blocks with those of a file dropped that are under that one
abbrev pub dropped_under : Blocks → FileId → ℕ → Blocks
dropped_under blocks file zero = blocks
dropped_under blocks file (suc n) = remove_entry (is_at file n) (dropped_under blocks file n)

-- the first block that isn't held, of that many from there on
abbrev pub missing_of : Blocks → FileId → ℕ → ℕ → Option BlockNo
missing_of blocks file first zero = None
missing_of blocks file first (suc n) = if is_held blocks file first then missing_of blocks file (first + 1) n else Some (record { 0 = first })

-- the order after that many blocks from there on were used, in turn
abbrev pub used : Blocks → FileId → ℕ → ℕ → Blocks
used blocks file first zero = blocks
used blocks file first (suc n) = promoted (is_at file (first + n)) (used blocks file first n)

-- the bytes of that many blocks from there on that stand in the range
abbrev pub parts : Blocks → FileId → ℕ → ℕ → ℕ → ℕ → List ℕ
parts blocks file from end first zero = []
parts blocks file from end first (suc n) = parts blocks file from end first n ++ part (bytes_at blocks file (first + n)) (first + n) from end

-- a block after a write of the bytes from there on, made dirty with that number
abbrev pub written_block : Block → ℕ → ℕ → List ℕ → ℕ → Block
written_block block number from new dirty = record { bytes = over block.bytes (from - 4096 * number) (piece new number from); dirty = Some dirty }

-- a looked-up block written, and used, among the others
abbrev pub written_there : Blocks → FileId → ℕ → ℕ → List ℕ → ℕ → Option Block → Blocks
written_there blocks file number from new dirty (Some block) = set_value (is_at file number) (promoted (is_at file number) blocks) (written_block block number from new dirty)
written_there blocks file number from new dirty None = blocks

-- the blocks with that many from there on written in turn, with the numbers after that one
abbrev pub written : Blocks → FileId → ℕ → List ℕ → ℕ → ℕ → ℕ → Blocks
written blocks file from new last first zero = blocks
written blocks file from new last first (suc n) =
    let before = written blocks file from new last first n in
    written_there before file (first + n) from new (last + n + 1) (block_at before file (first + n))

-- the least recently used entry that the test finds
abbrev pub oldest : (BlockKey × Block → Bool) → Blocks → Option (BlockKey × Block)
oldest test [] = None
oldest test (entry ∷ rest) = option_or (oldest test rest) (if test entry then Some entry else None)

-- whether a block is dirty
abbrev pub is_dirty : BlockKey × Block → Bool
is_dirty entry = is_some entry.1.dirty

-- whether the block is one of the file, or of any
abbrev pub is_of : Option FileId → BlockKey → Bool
is_of (Some file) key = is_file file key.file
is_of None key = true

-- whether it is a dirty block of the file, or of any
abbrev pub is_dirty_of : Option FileId → BlockKey × Block → Bool
is_dirty_of file entry = is_of file entry.0 && is_dirty entry

-- whether it is one of these blocks of the file
abbrev pub is_within : FileId → BlockNo → BlockNo → BlockKey → Bool
is_within file first last key = is_file file key.file && nat_le first.0 key.block.0 && nat_le key.block.0 last.0

-- whether it is a clean block outside these of the file
abbrev pub is_clean_outside : FileId → BlockNo → BlockNo → BlockKey × Block → Bool
is_clean_outside file first last entry = not (is_dirty entry) && not (is_within file first last entry.0)
