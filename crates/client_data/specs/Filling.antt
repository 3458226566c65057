-- Blocks that a reading or writing needs: zeros behind the file's end, room, and fetches.
use Rattle.std.specs.Prelude.{ℕ, zero, suc, ◌*◌, nat_le, Bool, true, if◌then◌else◌, [], Option, Some, None}
use Rattle.sprite_ids.specs.declared.TxNo.{TxNo}
use Rattle.sprite_ids.specs.declared.FileId.{FileId}
use Rattle.sprite_ids.specs.declared.BlockNo.{BlockNo}
use Rattle.sprite_ids.specs.declared.Tries.TheVariants.{Always}
use Rattle.packet_bodies.specs.declared.Request.TheVariants as requests
use Rattle.unix_calls.specs.declared.SendKind.TheVariants as sendings
use Rattle.kernel_steps.specs.declared.Sending.{Sending}
use Rattle.block_cache.specs.Held.{is_full, write_back_next}
use Rattle.client_file_tables.specs.declared.ClientFiles.{ClientFiles}
use Rattle.client_file_tables.specs.declared.DataCall.{DataCall}
use Rattle.client_file_tables.specs.declared.DataState.TheVariants.{Turn, Room, Fetching}
use Rattle.client_file_tables.specs.declared.Extent.{Extent}
use Rattle.client_file_tables.specs.Says.{about_of, sends_for, to_one}
use Rattle.client_file_tables.specs.Fillers.{is_filling, begins_filling}
use Rattle.client_file_tables.specs.Blocks.{state_in, missing_in, fills, has_clean, drops_full}
use Rattle.client_file_tables.specs.WriteBacks.{current_write_back}
use Rattle.client_data.specs.Finishes.{keeps_data}
use Rattle.client_data.specs.WriteBacks.{sends_back}
use Rattle.client_data.specs.Cached.{missing_of, does_cached}

-- whether there is room for one more block, or a clean block outside the range to be dropped
abbrev pub gets_room : FileId → Extent → ClientFiles → Bool
gets_room file extent s = if is_full s.cache then has_clean file extent s else true

-- where the cache is full a clean block is dropped: a WritingBack of a clean block of its file
abbrev pub makes_room : FileId → Extent → ClientFiles → ClientFiles
makes_room file extent s = if is_full s.cache then drops_full file extent s else s

-- whether the block begins at the file's end or behind it
abbrev pub is_past_end : FileId → BlockNo → ClientFiles → Bool
is_past_end file block s = nat_le (state_in file s).size (4096 * block.0)

-- the block is filled with zeros: the step called zeros
abbrev pub puts_zero : FileId → BlockNo → ClientFiles → ClientFiles
puts_zero file block s = fills file (state_in file s).stamp block [] s

-- where there is room for it
abbrev pub zeros_within : FileId → Extent → BlockNo → ClientFiles → ClientFiles
zeros_within file extent block s = if gets_room file extent s then puts_zero file block (makes_room file extent s) else makes_room file extent s

abbrev pub zeros_at : FileId → Extent → BlockNo → ClientFiles → ClientFiles
zeros_at file extent block s = if is_past_end file block s then zeros_within file extent block s else s

-- the first missing block, where it lies behind the end
abbrev pub zeros_first : Option BlockNo → FileId → Extent → ClientFiles → ClientFiles
zeros_first (Some block) file extent s = zeros_at file extent block s
zeros_first None file extent s = s

abbrev pub fills_zero : FileId → Extent → ClientFiles → ClientFiles
fills_zero file extent s = zeros_first (missing_in file extent s) file extent s

-- as many such turns
abbrev pub zero_turns : ℕ → FileId → Extent → ClientFiles → ClientFiles
zero_turns zero file extent s = s
zero_turns (suc count) file extent s = fills_zero file extent (zero_turns count file extent s)

-- all missing blocks behind the end, of which a range has at most five
unfoldable pub fills_zeros : FileId → Extent → ClientFiles → ClientFiles
fills_zeros file extent s = zero_turns 5 file extent s

-- the request for a block, under the stamp that the file has here
abbrev pub fetch_sending : ℕ → DataCall → BlockNo → ClientFiles → Sending
fetch_sending pid call block s =
    to_one call.file.server Always (Some (about_of pid call.number))
    (requests.Fetch (record { file = call.file; stamp = (state_in call.file s).stamp; block = block }))

abbrev pub sends_fetch : ℕ → DataCall → BlockNo → ClientFiles → ClientFiles
sends_fetch pid call block s = sends_for pid (fetch_sending pid call block s) (sendings.Fetch call.file block) s

-- the block is asked for: a Reading, Writing or Append that misses a block, or the step called fetch of one that waited
abbrev pub fetches : ℕ → DataCall → BlockNo → ClientFiles → ClientFiles
fetches pid call block s = keeps_data pid call (Fetching s.out.next block) (sends_fetch pid call block s)

-- a dirty block is written back, or the answer to its write-back is waited for: a WritingBack of its file, or no step
abbrev pub sends_for_room : ℕ → DataCall → FileId → BlockNo → ℕ → ClientFiles → ClientFiles
sends_for_room pid call file block number s =
    keeps_data pid call (Room s.out.next) (sends_back file block number (Some (about_of pid call.number)) s)

abbrev pub waits_by : Option TxNo → ℕ → DataCall → FileId → BlockNo → ℕ → ClientFiles → ClientFiles
waits_by (Some tx) pid call file block number s = keeps_data pid call (Room tx) s
waits_by None pid call file block number s = sends_for_room pid call file block number s

abbrev pub waits_for_back : ℕ → DataCall → FileId → BlockNo → ℕ → ClientFiles → ClientFiles
waits_for_back pid call file block number s = waits_by (current_write_back file block s) pid call file block number s

-- the least recently used dirty block
abbrev pub waits_oldest : Option (FileId × BlockNo × ℕ) → ℕ → DataCall → ClientFiles → ClientFiles
waits_oldest (Some oldest) pid call s = waits_for_back pid call oldest.0 oldest.1 oldest.2 s
waits_oldest None pid call s = keeps_data pid call Turn s

abbrev pub waits_for_room : ℕ → DataCall → ClientFiles → ClientFiles
waits_for_room pid call s = waits_oldest (write_back_next s.cache None) pid call s

-- the block is asked for where there is room for it
abbrev pub needs_block : ℕ → DataCall → Extent → BlockNo → ClientFiles → ClientFiles
needs_block pid call extent block s =
    if gets_room call.file extent s then fetches pid call block (makes_room call.file extent s)
    else waits_for_room pid call (makes_room call.file extent s)

abbrev pub needs_first : Option BlockNo → ℕ → DataCall → Extent → ClientFiles → ClientFiles
needs_first (Some block) pid call extent s = needs_block pid call extent block s
needs_first None pid call extent s = does_cached pid call extent s

abbrev pub fills_next : ℕ → DataCall → Extent → ClientFiles → ClientFiles
fills_next pid call extent s = needs_first (missing_of call extent s) pid call extent s

-- the process whose turn it is fills
abbrev pub fills_own : ℕ → DataCall → Extent → ClientFiles → ClientFiles
fills_own pid call extent s = fills_next pid call extent (fills_zeros call.file extent s)

-- another one waits for its turn
abbrev pub fills_turn : ℕ → DataCall → Extent → ClientFiles → ClientFiles
fills_turn pid call extent s = if is_filling pid s then fills_own pid call extent s else keeps_data pid call Turn s

abbrev pub fills_first : ℕ → DataCall → Extent → ClientFiles → ClientFiles
fills_first pid call extent s = fills_turn pid call extent (begins_filling pid s)
