-- What the definitions promise together.
use Rattle.std.specs.Prelude.{◌≡◌, ℕ, ◌+◌, ◌≤◌, nat_le, nat_lt, Bool, true, false, ◌&&◌, is_some, List, length, Option, Some, None}
use Rattle.sprite_ids.specs.declared.FileId.{FileId}
use Rattle.sprite_ids.specs.declared.BlockNo.{BlockNo}
use Rattle.sprite_ids.specs.declared.Grant.{Grant}
use Rattle.sprite_ids.specs.declared.CallKind.{CallKind}
use Rattle.block_cache.specs.declared.key.BlockKey.{BlockKey}
use Rattle.block_cache.specs.declared.block.Block.{Block}
use Rattle.block_cache.specs.Files.{is_file, known, keeps}
use Rattle.block_cache.specs.Ranges.{first_block, block_count}
use Rattle.block_cache.specs.Blocks.{AreOnce, block_at, number_of}
use Rattle.block_cache.specs.Held.{Held, IsSound, after_grant, after_callback, missing, fill_answer, after_fill, read_of, after_read, after_write, after_drop}

-- the block of that key, where it is held
abbrev pub block_of : Held → BlockKey → Option Block
block_of held key = block_at held.blocks key.file key.block.0

-- whether a range of the file touches the block
abbrev pub is_touched : FileId → ℕ → ℕ → BlockKey → Bool
is_touched file from many key =
    is_file file key.file && nat_le (first_block from) key.block.0 && nat_lt key.block.0 (first_block from + block_count from many)

-- a grant that isn't newer changes nothing
abbrev pub OlderGrantsDoNothing : Type 0
OlderGrantsDoNothing = (held : Held) (grant : Grant) → grant.stamp ≤ (known held.files grant.file).stamp → after_grant held grant ≡ held

-- what was written is read again
abbrev pub WrittenBytesAreRead : Type 0
WrittenBytesAreRead = (held : Held) (file : FileId) (from : ℕ) (new : List ℕ) → IsSound held → missing held file from (length new) ≡ None → read_of (after_write held file from new) file from (length new) ≡ new

-- a read gives as many bytes as were asked
abbrev pub ReadsAreWhole : Type 0
ReadsAreWhole = (held : Held) (file : FileId) (from many : ℕ) → IsSound held → missing held file from many ≡ None → length (read_of held file from many) ≡ many

-- a dirty block is left as it is by fills, reads, the dropping of clean blocks, and grants that let blocks stay, and
-- stays dirty at writes
pub record DirtyBlocksStay : Type 0 where
  pub filled : (held : Held) (file : FileId) (stamp : ℕ) (block : BlockNo) (bytes : List ℕ) (key : BlockKey) (kept : Block) → block_of held key ≡ Some kept → block_of (after_fill held file block bytes (fill_answer held file stamp block.0)) key ≡ Some kept
  pub used : (held : Held) (file : FileId) (from many : ℕ) (key : BlockKey) → block_of (after_read held file from many) key ≡ block_of held key
  pub dropped : (held : Held) (file : FileId) (first last : BlockNo) (key : BlockKey) (kept : Block) → AreOnce held.blocks → block_of held key ≡ Some kept → is_some kept.dirty ≡ true → block_of (after_drop held file first last) key ≡ Some kept
  pub granted : (held : Held) (grant : Grant) (key : BlockKey) → keeps (known held.files grant.file) grant ≡ true → block_of (after_grant held grant) key ≡ block_of held key
  pub written : (held : Held) (file : FileId) (from : ℕ) (new : List ℕ) (key : BlockKey) → is_some (number_of (block_of held key)) ≡ true → is_some (number_of (block_of (after_write held file from new) key)) ≡ true

-- a write leaves the blocks that it doesn't touch; grants and callbacks leave those of other files
pub record OtherBlocksStay : Type 0 where
  pub written : (held : Held) (file : FileId) (from : ℕ) (new : List ℕ) (key : BlockKey) → is_touched file from (length new) key ≡ false → block_of (after_write held file from new) key ≡ block_of held key
  pub granted : (held : Held) (grant : Grant) (key : BlockKey) → is_file grant.file key.file ≡ false → block_of (after_grant held grant) key ≡ block_of held key
  pub called : (held : Held) (file : FileId) (stamp : ℕ) (kind : CallKind) (key : BlockKey) → is_file file key.file ≡ false → block_of (after_callback held file stamp kind) key ≡ block_of held key
