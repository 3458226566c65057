-- What a client holds, and what each call makes of it.
use Rattle.std.specs.Prelude.{◌≡◌, ℕ, ◌+◌, ◌≤◌, ◌<◌, ◌==◌, nat_le, nat_lt, Bool, true, false, ◌&&◌, not, if◌then◌else◌, List, [], ◌∷◌, length, Option, Some, None}
use Rattle.std.specs.List.{AllByRecursion, list_all}
use Rattle.std.specs.Map.{remove_entry, values_of}
use Rattle.sprite_ids.specs.declared.FileId.{FileId}
use Rattle.sprite_ids.specs.declared.BlockNo.{BlockNo}
use Rattle.sprite_ids.specs.declared.Grant.{Grant}
use Rattle.sprite_ids.specs.declared.CallKind.{CallKind}
use Rattle.sprite_ids.specs.declared.CallKind.TheVariants.{Recall, Stop}
use Rattle.sprite_ids.specs.declared.Flushed.{Flushed}
use Rattle.block_cache.specs.declared.key.BlockKey.{BlockKey}
use Rattle.block_cache.specs.declared.block.Block.{Block}
use Rattle.block_cache.specs.declared.file_state.FileState.{FileState}
use Rattle.block_cache.specs.declared.filled.Filled.{Filled}
use Rattle.block_cache.specs.declared.filled.Filled.TheVariants.{Filled as PutIn, Kept, Old, Full}
use Rattle.block_cache.specs.Files.{Files, known, with_state, granted, keeps, called, grown, is_low}
use Rattle.block_cache.specs.Ranges.{file_blocks, first_block, block_count, padded}
use Rattle.block_cache.specs.Blocks.{Blocks, is_at, is_held, dirty_at, without, dirty_under, flushed, cleaned, cleaned_under, missing_of, used, parts, written, oldest, is_dirty_of, is_clean_outside}

-- how many blocks there may be, what is known of files, the blocks, and the dirty number that was given last
pub record Held : Type 0 where
  pub size : ℕ
  pub files : Files
  pub blocks : Blocks
  pub last : ℕ

-- a number that may be there is at most another
abbrev pub IsUpTo : Option ℕ → ℕ → Type 0
IsUpTo (Some number) last = number ≤ last
IsUpTo None last = Unit {0}

-- a block is one of the 1,024 of its file
abbrev pub IsReached : BlockKey × Block → Type 0
IsReached entry = entry.0.block.0 < 1024

-- what is true of each block that is held: it is one of 1,024, whole, of a file that is cached, and its number was given
pub record IsKept (files : Files) (last : ℕ) (entry : BlockKey × Block) : Type 0 where
  pub reached : entry.0.block.0 < 1024
  pub whole : length entry.1.bytes ≡ 4096
  pub cached : (known files entry.0.file).on ≡ true
  pub given : IsUpTo entry.1.dirty last

-- what is true of each cache
pub record IsSound (held : Held) : Type 0 where
  pub fits : length held.blocks ≤ held.size
  pub kept : AllByRecursion (IsKept held.files held.last) held.blocks

-- whether each counter is at most 2,000,000,000
abbrev pub has_room : Held → Bool
has_room held = nat_le held.last 2000000000 && list_all is_low (values_of held.files)

-- whether there is no room for one more block
abbrev pub is_full : Held → Bool
is_full held = nat_le held.size (length held.blocks)

-- the blocks, or those of other files alone
abbrev pub kept_blocks : Bool → Blocks → FileId → Blocks
kept_blocks true blocks file = blocks
kept_blocks false blocks file = without blocks file

-- whether the grant is newer than what is known of its file
abbrev pub is_newer : Held → Grant → Bool
is_newer held grant = nat_lt (known held.files grant.file).stamp grant.stamp

-- after a grant that is newer
abbrev pub after_newer : Held → Grant → FileState → Held
after_newer held grant state = record held { files = with_state held.files grant.file (granted state grant); blocks = kept_blocks (keeps state grant) held.blocks grant.file }

-- after a grant
abbrev pub after_grant : Held → Grant → Held
after_grant held grant = if is_newer held grant then after_newer held grant (known held.files grant.file) else held

-- the blocks after a callback
abbrev pub called_blocks : CallKind → Blocks → FileId → Blocks
called_blocks Recall blocks file = cleaned_under blocks file file_blocks
called_blocks Stop blocks file = without blocks file

-- after a callback
abbrev pub after_callback : Held → FileId → ℕ → CallKind → Held
after_callback held file stamp kind = record held { files = with_state held.files file (called (known held.files file) stamp kind); blocks = called_blocks kind held.blocks file }

-- the answer to a callback
abbrev pub flushed_of : Held → FileId → Flushed
flushed_of held file =
    record { size = (known held.files file).size; blocks = flushed held.blocks file (known held.files file).size (dirty_under held.blocks file file_blocks) }

-- the first block of the range that isn't held
abbrev pub missing : Held → FileId → ℕ → ℕ → Option BlockNo
missing held file from many = missing_of held.blocks file (first_block from) (block_count from many)

-- what becomes of a fetched block
abbrev pub fill_answer : Held → FileId → ℕ → ℕ → Filled
fill_answer held file stamp number =
    if not ((known held.files file).stamp == stamp) then Old
    else if is_held held.blocks file number then Kept
    else if is_full held then Full
    else PutIn

-- a clean block with these bytes, and zeros behind them
abbrev pub clean_block : List ℕ → Block
clean_block bytes = record { bytes = padded bytes; dirty = None }

-- after a fetched block
abbrev pub after_fill : Held → FileId → BlockNo → List ℕ → Filled → Held
after_fill held file block bytes PutIn = record held { blocks = (record { file = file; block = block }, clean_block bytes) ∷ held.blocks }
after_fill held file block bytes Kept = held
after_fill held file block bytes Old = held
after_fill held file block bytes Full = held

-- the bytes of a range
abbrev pub read_of : Held → FileId → ℕ → ℕ → List ℕ
read_of held file from many = parts held.blocks file from (from + many) (first_block from) (block_count from many)

-- after a read
abbrev pub after_read : Held → FileId → ℕ → ℕ → Held
after_read held file from many = record held { blocks = used held.blocks file (first_block from) (block_count from many) }

-- after a write of some bytes
abbrev pub after_writing : Held → FileId → ℕ → List ℕ → Held
after_writing held file from new =
    record held {
      files = with_state held.files file (grown (known held.files file) (from + length new));
      blocks = written held.blocks file from new held.last (first_block from) (block_count from (length new));
      last = held.last + block_count from (length new);
    }

-- after a write; one of no bytes changes nothing
abbrev pub after_write : Held → FileId → ℕ → List ℕ → Held
after_write held file from [] = held
after_write held file from (first ∷ rest) = after_writing held file from (first ∷ rest)

-- what a block with that dirty number is written back by: its file, its place in it and the number
abbrev pub named : BlockKey × Block → Option ℕ → Option (FileId × BlockNo × ℕ)
named entry (Some number) = Some (entry.0.file, entry.0.block, number)
named entry None = None

-- what a looked-up block is written back by
abbrev pub named_of : Option (BlockKey × Block) → Option (FileId × BlockNo × ℕ)
named_of (Some entry) = named entry entry.1.dirty
named_of None = None

-- the least recently used dirty block of the file, or of all
abbrev pub write_back_next : Held → Option FileId → Option (FileId × BlockNo × ℕ)
write_back_next held file = named_of (oldest (is_dirty_of file) held.blocks)

-- whether a number that may be there is that one
abbrev pub is_number : Option ℕ → ℕ → Bool
is_number (Some number) other = number == other
is_number None other = false

-- whether the block is dirty with that number, under the file's current stamp
abbrev pub is_written_back : Held → FileId → ℕ → ℕ → ℕ → Bool
is_written_back held file stamp number dirty = ((known held.files file).stamp == stamp) && is_number (dirty_at held.blocks file number) dirty

-- after an answer to a write-back
abbrev pub after_write_back : Held → FileId → ℕ → ℕ → ℕ → Held
after_write_back held file stamp number dirty =
    if is_written_back held file stamp number dirty then record held { blocks = cleaned held.blocks file number } else held

-- the least recently used clean block outside these of the file
abbrev pub oldest_clean : Held → FileId → BlockNo → BlockNo → Option (BlockKey × Block)
oldest_clean held file first last = oldest (is_clean_outside file first last) held.blocks

-- the blocks without a looked-up one
abbrev pub without_one : Blocks → Option (BlockKey × Block) → Blocks
without_one blocks (Some entry) = remove_entry (is_at entry.0.file entry.0.block.0) blocks
without_one blocks None = blocks

-- after a clean block was dropped
abbrev pub after_drop : Held → FileId → BlockNo → BlockNo → Held
after_drop held file first last = record held { blocks = without_one held.blocks (oldest_clean held file first last) }
