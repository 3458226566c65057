-- Blocks, files and stamps, as kernels have them, and the blocks that kernels hold.
use Rattle.std.specs.Prelude.{◌≡◌, ℕ, ◌==◌, Bool, true, false, ◌&&◌, not, if◌then◌else◌, List}
use Rattle.std.specs.List.{list_any}
use Rattle.unix_calls.specs.declared.event.SendKind.TheVariants as send
use Rattle.unix_calls.specs.declared.event.Event.{Event}
use Rattle.unix_calls.specs.declared.event.Event.TheVariants as event
use Rattle.unix_calls.specs.declared.event.Rec.{Rec}
use Rattle.call_journal.specs.Matching.{same_file, same_block}
use Rattle.call_journal.specs.Files.{holds_block}
use Rattle.trace_rules.specs.declared.place.BlockAt.{BlockAt}
use Rattle.trace_rules.specs.declared.place.FileAt.{FileAt}
use Rattle.trace_rules.specs.declared.place.StampAt.{StampAt}

-- the same block, file and stamp at the same kernel
abbrev pub same_place : BlockAt → BlockAt → Bool
same_place a b = a.kernel == b.kernel && same_block a.file a.block b.file b.block

abbrev pub same_use : FileAt → FileAt → Bool
same_use a b = a.kernel == b.kernel && same_file a.file b.file

abbrev pub same_stamp : StampAt → StampAt → Bool
same_stamp a b = a.kernel == b.kernel && (same_file a.file b.file && a.stamp == b.stamp)

-- the file of a block, and of a stamp
abbrev pub file_of : BlockAt → FileAt
file_of at = record { kernel = at.kernel; file = at.file }

abbrev pub stamped_file : StampAt → FileAt
stamped_file at = record { kernel = at.kernel; file = at.file }

-- whether a stamp is among some
abbrev pub has_stamp : List StampAt → StampAt → Bool
has_stamp stamps at = list_any (same_stamp at) stamps

-- whether a block is among those held
abbrev pub has_block : List BlockAt → BlockAt → Bool
has_block held at = list_any (same_place at) held

-- a fetch of a kernel is of a block that it doesn't hold
abbrev pub is_due_fetch : List BlockAt → ℕ → Event → Bool
is_due_fetch held kernel (event.Send tx to about (send.Fetch file block)) =
    not (has_block held (record { kernel = kernel; file = file; block = block }))
is_due_fetch held kernel _ = true

-- whether a block is held behind an event of a kernel
abbrev pub held_behind : ℕ → Event → BlockAt → Bool → Bool
held_behind kernel (event.Filled file block) at before =
    if same_place (record { kernel = kernel; file = file; block = block }) at then true else before
held_behind kernel (event.Dropped file block cause) at before =
    if same_place (record { kernel = kernel; file = file; block = block }) at then false else before
held_behind kernel _ at before = before

-- those held behind a record
abbrev pub HoldsOn : Rec → List BlockAt → List BlockAt → Type 0
HoldsOn rec before after = (at : BlockAt) → has_block after at ≡ held_behind rec.kernel rec.event at (has_block before at)

-- those held are the ones of the records
abbrev pub TellsHeld : List BlockAt → List Rec → Type 0
TellsHeld held records = (at : BlockAt) → has_block held at ≡ holds_block at.kernel at.file at.block records
