-- What the records before a place tell of files: modes, cached blocks and opens.
use Rattle.std.specs.Prelude.{ℕ, ◌==◌, Bool, true, false, ◌&&◌, not, if◌then◌else◌, List, [], ◌∷◌, filter, map}
use Rattle.std.specs.List.{list_any}
use Rattle.sprite_ids.specs.declared.names.FileId.{FileId}
use Rattle.sprite_ids.specs.declared.names.StreamNo.{StreamNo}
use Rattle.sprite_ids.specs.declared.names.BlockNo.{BlockNo}
use Rattle.sprite_ids.specs.declared.names.Mode.{Mode}
use Rattle.sprite_ids.specs.declared.caching.CacheMode.{CacheMode}
use Rattle.sprite_ids.specs.declared.caching.CacheMode.TheVariants as cache
use Rattle.unix_calls.specs.declared.event.Event.{Event}
use Rattle.unix_calls.specs.declared.event.Event.TheVariants as event
use Rattle.unix_calls.specs.declared.event.Rec.{Rec}
use Rattle.call_journal.specs.Past.{folded}
use Rattle.call_journal.specs.Matching.{same_file, same_stream, same_block, same_mode, is_recall, has_event}

-- the mode of a file at a kernel: the one that it took last
abbrev pub mode_by : FileId → Event → CacheMode → CacheMode
mode_by file (event.Mode f stamp mode) before = if same_file f file then mode else before
mode_by file _ before = before

abbrev pub mode_step : ℕ → FileId → List Rec → Rec → CacheMode → CacheMode
mode_step kernel file before rec mode = if rec.kernel == kernel then mode_by file rec.event mode else mode

abbrev pub mode_of : ℕ → FileId → List Rec → CacheMode
mode_of kernel file records = folded (mode_step kernel file) cache.None records

-- a block that a kernel holds, clean or dirty
pub record HeldBlock : Type 0 where
  pub file : FileId
  pub block : BlockNo
  pub is_dirty : Bool

-- whether it is that block
abbrev pub is_block : FileId → BlockNo → HeldBlock → Bool
is_block file block held = same_block held.file held.block file block

-- the blocks without one
abbrev pub without_block : FileId → BlockNo → List HeldBlock → List HeldBlock
without_block file block blocks = filter (λ held. not (is_block file block held)) blocks

-- one block is made dirty, or clean
abbrev pub marked : FileId → BlockNo → Bool → List HeldBlock → List HeldBlock
marked file block is_dirty blocks =
    map (λ (held : HeldBlock). if is_block file block held then record held { is_dirty = is_dirty } else held) blocks

-- all blocks of a file are clean
abbrev pub all_clean : FileId → List HeldBlock → List HeldBlock
all_clean file blocks = map (λ (held : HeldBlock). if same_file held.file file then record held { is_dirty = false } else held) blocks

-- a recall of that file with that stamp went to the kernel
abbrev pub is_recall_to : ℕ → FileId → ℕ → Event → Bool
is_recall_to kernel file stamp (event.Callback f to s kind) = same_file f file && to == kernel && s == stamp && is_recall kind
is_recall_to kernel file stamp _ = false

-- the blocks after an event of the kernel, with the records before it: a block that came in is clean; where a recall's stamp is
-- taken, the file's blocks are clean
abbrev pub blocks_by : ℕ → List Rec → Event → List HeldBlock → List HeldBlock
blocks_by kernel before (event.Filled file block) blocks =
    record { file = file; block = block; is_dirty = false } ∷ without_block file block blocks
blocks_by kernel before (event.Dropped file block cause) blocks = without_block file block blocks
blocks_by kernel before (event.Dirtied file block) blocks = marked file block true blocks
blocks_by kernel before (event.WroteBack file block) blocks = marked file block false blocks
blocks_by kernel before (event.Mode file stamp mode) blocks =
    if list_any (has_event (is_recall_to kernel file stamp)) before then all_clean file blocks else blocks
blocks_by kernel before _ blocks = blocks

abbrev pub held_step : ℕ → List Rec → Rec → List HeldBlock → List HeldBlock
held_step kernel before rec blocks = if rec.kernel == kernel then blocks_by kernel before rec.event blocks else blocks

-- the blocks that a kernel holds: those that came in and were not dropped since
abbrev pub held_of : ℕ → List Rec → List HeldBlock
held_of kernel records = folded (held_step kernel) [] records

-- whether it holds a block
abbrev pub holds_block : ℕ → FileId → BlockNo → List Rec → Bool
holds_block kernel file block records = list_any (is_block file block) (held_of kernel records)

-- a stream that a kernel has open
pub record OpenStream : Type 0 where
  pub stream : StreamNo
  pub kernel : ℕ
  pub mode : Mode

-- whether it is that stream at that kernel, with that mode
abbrev pub is_opened_at : StreamNo → ℕ → Mode → OpenStream → Bool
is_opened_at stream kernel mode opened = same_stream opened.stream stream && opened.kernel == kernel && same_mode opened.mode mode

abbrev pub without_open : StreamNo → ℕ → Mode → List OpenStream → List OpenStream
without_open stream kernel mode opens = filter (λ opened. not (is_opened_at stream kernel mode opened)) opens

-- the opens of a file after an event: of a stream, a kernel and a mode each is there once, and is closed by its own record
abbrev pub opens_by : FileId → Event → List OpenStream → List OpenStream
opens_by file (event.Opened f stream kernel mode) opens =
    if same_file f file
    then record { stream = stream; kernel = kernel; mode = mode } ∷ without_open stream kernel mode opens
    else opens
opens_by file (event.Closed f stream kernel mode) opens =
    if same_file f file then without_open stream kernel mode opens else opens
opens_by file _ opens = opens

abbrev pub opens_step : FileId → List Rec → Rec → List OpenStream → List OpenStream
opens_step file before rec opens = opens_by file rec.event opens

-- where a file is open: what was opened and not closed since
abbrev pub opens_of : FileId → List Rec → List OpenStream
opens_of file records = folded (opens_step file) [] records
