-- What a client keeps of the file, and what each thing that happens there makes of it.
use Rattle.std.specs.Prelude.{ℕ, ◌+◌, ◌-◌, ◌*◌, ◌%◌, ◌==◌, nat_le, nat_lt, min, max, Bool, true, false, ◌&&◌, not, is_some, is_none, if◌then◌else◌, List, [], ◌∷◌, ◌++◌, length, take, drop, map, filter, Option, Some, None}
use Rattle.sprite_ids.specs.declared.BlockNo.{BlockNo}
use Rattle.sprite_ids.specs.declared.StreamNo.{StreamNo}
use Rattle.sprite_ids.specs.declared.CacheMode.{CacheMode}
use Rattle.sprite_ids.specs.declared.CacheMode.TheVariants as cache
use Rattle.sprite_ids.specs.declared.CallKind.{CallKind}
use Rattle.sprite_ids.specs.declared.CallKind.TheVariants.{Recall, Stop}
use Rattle.file_views.specs.declared.grant.FileGrant.{FileGrant}
use Rattle.file_views.specs.declared.client.Held.{Held}
use Rattle.file_views.specs.declared.client.Client.{Client}
use Rattle.file_views.specs.declared.step.FileStep.{FileStep}
use Rattle.file_views.specs.declared.step.FileStep.TheVariants as act
use Rattle.file_views.specs.Setting.{Setting}
use Rattle.file_views.specs.Contents.{zeros, whole, cut, blocks_between}
use Rattle.file_views.specs.Streams.{same_stream}

-- a client that knows nothing of the file
abbrev pub new_client : Client
new_client = record { stamp = 0; version = 0; size = 0; mode = cache.None; blocks = []; streams = []; waiting = []; count = 0 }

-- whether a client with that mode uses its cache
abbrev pub is_on : CacheMode → Bool
is_on cache.On = true
is_on cache.Off = false
is_on cache.None = false

-- the mode of a grant
abbrev pub mode_of : Bool → CacheMode
mode_of true = cache.On
mode_of false = cache.Off

-- the block with that number
abbrev pub held : List Held → ℕ → Option Held
held [] number = None
held (one ∷ rest) number = if one.block.0 == number then Some one else held rest number

-- the other blocks
abbrev pub without_block : ℕ → List Held → List Held
without_block number blocks = filter (λ one. not (one.block.0 == number)) blocks

-- a block in the place of the one with its number
abbrev pub with_block : Held → List Held → List Held
with_block new blocks = without_block new.block.0 blocks ++ new ∷ []

-- the dirty ones
abbrev pub dirty_blocks : List Held → List Held
dirty_blocks blocks = filter (λ one. is_some one.dirty) blocks

-- a block made clean
abbrev pub cleaned : Held → Held
cleaned one = record one { dirty = None }

-- whether two numbers that may be there are there and equal
abbrev pub same_number : Option ℕ → Option ℕ → Bool
same_number (Some number) (Some other) = number == other
same_number (Some number) None = false
same_number None other = false

-- the client after a grant that is newer than its stamp: its blocks stay where it may cache and its version is the old one; its
-- size stays where besides it was the holder
abbrev pub granted : Client → FileGrant → Client
granted c grant = record c {
  stamp = grant.stamp;
  version = grant.new;
  size = (if grant.holder && (c.version == grant.old) then c.size else grant.size);
  mode = mode_of grant.on;
  blocks = (if grant.on && (c.version == grant.old) then c.blocks else []);
}

-- the client after a grant; one that isn't newer changes nothing
abbrev pub take_grant : Client → FileGrant → Client
take_grant c grant = if nat_le grant.stamp c.stamp then c else granted c grant

-- the dirty blocks, each cut at the client's size
abbrev pub pieces : Setting → ℕ → List Held → List (BlockNo × List ℕ)
pieces z size blocks = map (λ one. (one.block, cut z one.bytes one.block.0 size)) (dirty_blocks blocks)

-- the mode and the blocks after a callback
abbrev pub mode_after : CacheMode → CallKind → CacheMode
mode_after mode Recall = mode
mode_after mode Stop = cache.Off

abbrev pub blocks_after : List Held → CallKind → List Held
blocks_after blocks Recall = map cleaned blocks
blocks_after blocks Stop = []

-- the client after a callback
abbrev pub take_callback : Client → ℕ → CallKind → Client
take_callback c stamp kind = record c { stamp = stamp; mode = mode_after c.mode kind; blocks = blocks_after c.blocks kind }

-- the blocks after one came in, where it is wanted
abbrev pub blocks_filled : Setting → List Held → BlockNo → List ℕ → Bool → List Held
blocks_filled z blocks block piece true = with_block (record { block = block; bytes = whole z piece; dirty = None }) blocks
blocks_filled z blocks block piece false = blocks

-- the client after a block came in; an old one, and one that is held, change nothing
abbrev pub fill : Setting → Client → ℕ → BlockNo → List ℕ → Client
fill z c stamp block piece = record c { blocks = blocks_filled z c.blocks block piece ((stamp == c.stamp) && is_none (held c.blocks block.0)) }

-- the blocks after a looked-up one was written back, where its number and the stamp are still those
abbrev pub blocks_written_back : List Held → Option ℕ → Bool → Option Held → List Held
blocks_written_back blocks dirty current (Some one) = if current && same_number one.dirty dirty then with_block (cleaned one) blocks else blocks
blocks_written_back blocks dirty current None = blocks

-- the client after a write-back is done
abbrev pub wrote_back : Client → ℕ → ℕ → Option ℕ → Client
wrote_back c stamp number dirty = record c { blocks = blocks_written_back c.blocks dirty (stamp == c.stamp) (held c.blocks number) }

-- the client with a stream's grant more
abbrev pub install : Client → StreamNo → Client
install c stream = record c { streams = c.streams ++ stream ∷ [] }

-- the client without the stream
abbrev pub uninstall : Client → StreamNo → Client
uninstall c stream = record c { streams = filter (λ other. not (same_stream stream other)) c.streams }

-- the place where a reading, writing or append begins in a file of that size
abbrev pub low_of : ℕ → FileStep → ℕ
low_of size (act.Reading pid number kernel stream from length) = from
low_of size (act.Writing pid number kernel stream from bytes) = from
low_of size (act.Append pid number kernel stream bytes) = size
low_of size step = 0

-- the place behind its last byte
abbrev pub high_of : ℕ → FileStep → ℕ
high_of size (act.Reading pid number kernel stream from length) = min (from + length) size
high_of size (act.Writing pid number kernel stream from bytes) = from + length bytes
high_of size (act.Append pid number kernel stream bytes) = size + length bytes
high_of size step = 0

-- the bytes that it writes
abbrev pub bytes_of : FileStep → List ℕ
bytes_of (act.Writing pid number kernel stream from bytes) = bytes
bytes_of (act.Append pid number kernel stream bytes) = bytes
bytes_of step = []

-- whether it is an append that would pass the most that a file may have
abbrev pub is_too_big : Setting → ℕ → FileStep → Bool
is_too_big z size (act.Append pid number kernel stream bytes) = nat_lt z.most (size + length bytes)
is_too_big z size step = false

-- the blocks that it touches
abbrev pub range_of : Setting → ℕ → FileStep → List ℕ
range_of z size step = blocks_between z (low_of size step) (high_of size step)

-- the first of the blocks that begins before the client's size and isn't held
abbrev pub first_absent : Setting → Client → List ℕ → Option ℕ
first_absent z c [] = None
first_absent z c (number ∷ rest) = if nat_lt (number * z.block) c.size && is_none (held c.blocks number) then Some number else first_absent z c rest

-- the first block that must come in before the reading, writing or append is done in the cache
abbrev pub missing : Setting → Client → FileStep → Option ℕ
missing z c step = if is_too_big z c.size step then None else first_absent z c (range_of z c.size step)

-- the bytes of a looked-up block; a block past the end is of zeros
abbrev pub held_bytes : Setting → Option Held → List ℕ
held_bytes z (Some one) = one.bytes
held_bytes z None = zeros z.block

-- the bytes of these blocks in a row
abbrev pub joined : Setting → List Held → List ℕ → List ℕ
joined z blocks [] = []
joined z blocks (number ∷ rest) = held_bytes z (held blocks number) ++ joined z blocks rest

-- the bytes that a client reads in its cache
abbrev pub cached_bytes : Setting → Client → ℕ → ℕ → List ℕ
cached_bytes z c low high = take (high - low) (drop (low % z.block) (joined z c.blocks (blocks_between z low high)))

-- a block after a write of the bytes from the low place on, with its dirty number
abbrev pub block_written : Setting → List ℕ → ℕ → ℕ → List ℕ → ℕ → Held
block_written z old number low bytes dirty =
    let start : ℕ = number * z.block in
    let first : ℕ = max low start - start in
    let behind : ℕ = min (low + length bytes) (start + z.block) - start in
    record { block = record { 0 = number }; bytes = take first old ++ take (behind - first) (drop (start - low) bytes) ++ drop behind old; dirty = Some dirty }

-- the blocks after these were written in a row; each takes the next dirty number
abbrev pub blocks_written : Setting → List Held → ℕ → List ℕ → ℕ → List ℕ → List Held
blocks_written z blocks low bytes count [] = blocks
blocks_written z blocks low bytes count (number ∷ rest) = blocks_written z (with_block (block_written z (held_bytes z (held blocks number)) number low bytes (count + 1)) blocks) low bytes (count + 1) rest

-- the size after a write; one of no bytes leaves it
abbrev pub size_written : ℕ → ℕ → List ℕ → ℕ
size_written size low [] = size
size_written size low (first ∷ rest) = max size (low + length (first ∷ rest))

-- the client after a write in its cache
abbrev pub write_cached : Setting → Client → ℕ → List ℕ → Client
write_cached z c low bytes = record c {
  blocks = blocks_written z c.blocks low bytes c.count (blocks_between z low (low + length bytes));
  count = c.count + length (blocks_between z low (low + length bytes));
  size = size_written c.size low bytes;
}

-- the client after a reading, writing or append is done in its cache, of which no block is missing
abbrev pub done_cached : Setting → Client → FileStep → Client
done_cached z c (act.Writing pid number kernel stream from bytes) = write_cached z c from bytes
done_cached z c (act.Append pid number kernel stream bytes) = if nat_lt z.most (c.size + length bytes) then c else write_cached z c c.size bytes
done_cached z c step = c
