-- The blocks that kernels hold, clean or dirty, by what is kept of them.
use Rattle.std.specs.Prelude.{◌≡◌, ◌≤◌, ℕ, ◌+◌, ◌-◌, ◌==◌, Bool, true, false, ◌&&◌, if◌then◌else◌, List, [], ◌∷◌, nat_le, nat_lt, Option, Some, None}
use Rattle.std.specs.List.{list_any}
use Rattle.std.specs.Map.{lookup}
use Rattle.sprite_ids.specs.Lists.{one_if}
use Rattle.sprite_ids.specs.declared.caching.CallKind.TheVariants as kind
use Rattle.sprite_ids.specs.declared.names.FileId.{FileId}
use Rattle.sprite_ids.specs.declared.names.BlockNo.{BlockNo}
use Rattle.unix_calls.specs.declared.description.Description.{Description}
use Rattle.unix_calls.specs.declared.event.Event.{Event}
use Rattle.unix_calls.specs.declared.event.Event.TheVariants as event
use Rattle.unix_calls.specs.declared.event.Rec.{Rec}
use Rattle.call_journal.specs.Matching.{same_file, same_block, has_event}
use Rattle.call_journal.specs.Files.{HeldBlock, is_recall_to, held_of}
use Rattle.write_rules.specs.declared.held.Counts.{Counts}
use Rattle.write_rules.specs.declared.held.FileCounts.{FileCounts}
use Rattle.write_rules.specs.declared.held.Held.{Held}
use Rattle.write_rules.specs.declared.held.State.{State}
use Rattle.write_rules.specs.declared.held.State.TheVariants as state
use Rattle.trace_rules.specs.declared.place.BlockAt.{BlockAt}
use Rattle.trace_rules.specs.declared.place.FileAt.{FileAt}
use Rattle.trace_rules.specs.declared.place.StampAt.{StampAt}
use Rattle.trace_rules.specs.Places.{same_place, same_use, same_stamp, file_of, stamped_file, has_stamp}

-- ---- looking

-- the mark of a block
abbrev pub mark_at : List (BlockAt × ℕ) → BlockAt → Option ℕ
mark_at blocks at = lookup (same_place at) blocks

-- the counts of a file at a kernel, and those of a kernel; of which none are kept, they are 0
abbrev pub file_kept : List (FileAt × FileCounts) → FileAt → Option FileCounts
file_kept files at = lookup (same_use at) files

abbrev pub file_or : Option FileCounts → FileCounts
file_or None = record { recalls = 0; dirty = 0 }
file_or (Some counts) = counts

abbrev pub file_counts : List (FileAt × FileCounts) → FileAt → FileCounts
file_counts files at = file_or (file_kept files at)

abbrev pub counts_kept : List (ℕ × Counts) → ℕ → Option Counts
counts_kept kernels kernel = lookup (λ other. kernel == other) kernels

abbrev pub counts_or : Option Counts → Counts
counts_or None = record { held = 0; dirty = 0 }
counts_or (Some counts) = counts

abbrev pub counts_at : List (ℕ × Counts) → ℕ → Counts
counts_at kernels kernel = counts_or (counts_kept kernels kernel)

-- how a block is held, by its mark and the recalls of its file so far
abbrev pub state_by : Option ℕ → ℕ → State
state_by None recalls = state.Absent
state_by (Some mark) recalls = if nat_lt recalls mark then state.Dirty else state.Clean

abbrev pub state_in : List (BlockAt × ℕ) → List (FileAt × FileCounts) → BlockAt → State
state_in blocks files at = state_by (mark_at blocks at) (file_counts files (file_of at)).recalls

-- a full cache, with at most four clean blocks in it
abbrev pub is_pressed_in : Description → Counts → Bool
is_pressed_in c counts = counts.held == c.cache && nat_le (counts.held - counts.dirty) 4

-- ---- one record more

-- a block that is held is dirty now, or clean
abbrev pub dirtied : State → State
dirtied state.Absent = state.Absent
dirtied state.Clean = state.Dirty
dirtied state.Dirty = state.Dirty

abbrev pub cleaned : State → State
cleaned state.Absent = state.Absent
cleaned state.Clean = state.Clean
cleaned state.Dirty = state.Clean

-- what a block in a state adds to the blocks that are held, and to those that are dirty
abbrev pub held_one : State → ℕ
held_one state.Absent = 0
held_one state.Clean = 1
held_one state.Dirty = 1

abbrev pub dirty_one : State → ℕ
dirty_one state.Absent = 0
dirty_one state.Clean = 0
dirty_one state.Dirty = 1

-- the counts behind a block's change
abbrev pub counts_moved : State → State → Counts → Counts
counts_moved was next counts =
    record {
      held = (counts.held + held_one next) - held_one was;
      dirty = (counts.dirty + dirty_one next) - dirty_one was;
    }

abbrev pub file_moved : State → State → FileCounts → FileCounts
file_moved was next counts = record { recalls = counts.recalls; dirty = (counts.dirty + dirty_one next) - dirty_one was }

-- the mark of a block in a state
abbrev pub mark_for : State → ℕ → Option ℕ
mark_for state.Absent recalls = None
mark_for state.Clean recalls = Some 0
mark_for state.Dirty recalls = Some (recalls + 1)

abbrev pub PutsMark : BlockAt → State → ℕ → List (BlockAt × ℕ) → List (BlockAt × ℕ) → Type 0
PutsMark at next recalls old new = (o : BlockAt) → mark_at new o ≡ (if same_place at o then mark_for next recalls else mark_at old o)

-- one block's state is another
pub record Puts (at : BlockAt) (next : State) (old new : Held) : Type 0 where
  pub blocks : PutsMark at next (file_counts old.files.entries (file_of at)).recalls old.blocks.entries new.blocks.entries
  pub files : (o : FileAt) → file_kept new.files.entries o ≡ (if same_use (file_of at) o then Some (file_moved (state_in old.blocks.entries old.files.entries at) next (file_counts old.files.entries (file_of at))) else file_kept old.files.entries o)
  pub kernels : (kernel : ℕ) → counts_kept new.kernels.entries kernel ≡ (if at.kernel == kernel then Some (counts_moved (state_in old.blocks.entries old.files.entries at) next (counts_at old.kernels.entries at.kernel)) else counts_kept old.kernels.entries kernel)
  pub recalled : new.recalled.keys ≡ old.recalled.keys

-- all blocks of a file at a kernel are clean
pub record Cleans (at : FileAt) (old new : Held) : Type 0 where
  pub blocks : new.blocks.entries ≡ old.blocks.entries
  pub files : (o : FileAt) → file_kept new.files.entries o ≡ (if same_use at o then Some (record { recalls = (file_counts old.files.entries at).recalls + 1; dirty = 0 }) else file_kept old.files.entries o)
  pub kernels : (kernel : ℕ) → counts_kept new.kernels.entries kernel ≡ (if at.kernel == kernel then Some (record { held = (counts_at old.kernels.entries at.kernel).held; dirty = (counts_at old.kernels.entries at.kernel).dirty - (file_counts old.files.entries at).dirty }) else counts_kept old.kernels.entries kernel)
  pub recalled : new.recalled.keys ≡ old.recalled.keys

-- a recall is out
pub record Notes (at : StampAt) (old new : Held) : Type 0 where
  pub blocks : new.blocks.entries ≡ old.blocks.entries
  pub files : new.files.entries ≡ old.files.entries
  pub kernels : new.kernels.entries ≡ old.kernels.entries
  pub recalled : (o : StampAt) → has_stamp new.recalled.keys o ≡ (if same_stamp at o then true else has_stamp old.recalled.keys o)

-- nothing changes
pub record Keeps (old new : Held) : Type 0 where
  pub blocks : new.blocks.entries ≡ old.blocks.entries
  pub files : new.files.entries ≡ old.files.entries
  pub kernels : new.kernels.entries ≡ old.kernels.entries
  pub recalled : new.recalled.keys ≡ old.recalled.keys

-- a stamp is taken, which is a recall's or isn't
abbrev pub TakesBy : Bool → FileAt → Held → Held → Type 0
TakesBy true at old new = Cleans at old new
TakesBy false at old new = Keeps old new

abbrev pub Takes : StampAt → Held → Held → Type 0
Takes at old new = TakesBy (has_stamp old.recalled.keys at) (stamped_file at) old new

-- what is kept behind an event of a kernel
abbrev pub HeldBy : ℕ → Event → Held → Held → Type 0
HeldBy kernel (event.Filled file block) old new = Puts (record { kernel = kernel; file = file; block = block }) state.Clean old new
HeldBy kernel (event.Dropped file block cause) old new = Puts (record { kernel = kernel; file = file; block = block }) state.Absent old new
HeldBy kernel (event.Dirtied file block) old new =
    Puts (record { kernel = kernel; file = file; block = block }) (dirtied (state_in old.blocks.entries old.files.entries (record { kernel = kernel; file = file; block = block }))) old new
HeldBy kernel (event.WroteBack file block) old new =
    Puts (record { kernel = kernel; file = file; block = block }) (cleaned (state_in old.blocks.entries old.files.entries (record { kernel = kernel; file = file; block = block }))) old new
HeldBy kernel (event.Callback file to stamp kind.Recall) old new = Notes (record { kernel = to; file = file; stamp = stamp }) old new
HeldBy kernel (event.Mode file stamp mode) old new = Takes (record { kernel = kernel; file = file; stamp = stamp }) old new
HeldBy kernel _ old new = Keeps old new

abbrev pub HeldOn : Rec → Held → Held → Type 0
HeldOn rec old new = HeldBy rec.kernel rec.event old new

-- ---- what the records tell

-- how many blocks of a scope are held, and how many of these are dirty
abbrev pub held_in : (FileId → BlockNo → Bool) → List HeldBlock → ℕ
held_in scope [] = 0
held_in scope (held ∷ rest) = one_if (scope held.file held.block) + held_in scope rest

abbrev pub dirty_in : (FileId → BlockNo → Bool) → List HeldBlock → ℕ
dirty_in scope [] = 0
dirty_in scope (held ∷ rest) = one_if (scope held.file held.block && held.is_dirty) + dirty_in scope rest

-- all blocks, those of a file, and one
abbrev pub any_block : FileId → BlockNo → Bool
any_block file block = true

abbrev pub of_file : FileId → FileId → BlockNo → Bool
of_file wanted file block = same_file file wanted

abbrev pub of_block : FileId → BlockNo → FileId → BlockNo → Bool
of_block wanted place file block = same_block file block wanted place

-- a mark, or none
abbrev pub mark_or : Option ℕ → ℕ
mark_or None = 0
mark_or (Some mark) = mark

-- what is kept is what the records tell
pub record TellsHeld (held : Held) (records : List Rec) : Type 0 where
  pub blocks_held : (at : BlockAt) → held_one (state_in held.blocks.entries held.files.entries at) ≡ held_in (of_block at.file at.block) (held_of at.kernel records)
  pub blocks_dirty : (at : BlockAt) → dirty_one (state_in held.blocks.entries held.files.entries at) ≡ dirty_in (of_block at.file at.block) (held_of at.kernel records)
  pub marks : (at : BlockAt) → mark_or (mark_at held.blocks.entries at) ≤ (file_counts held.files.entries (file_of at)).recalls + 1
  pub files_dirty : (at : FileAt) → (file_counts held.files.entries at).dirty ≡ dirty_in (of_file at.file) (held_of at.kernel records)
  pub kernels_held : (kernel : ℕ) → (counts_at held.kernels.entries kernel).held ≡ held_in any_block (held_of kernel records)
  pub kernels_dirty : (kernel : ℕ) → (counts_at held.kernels.entries kernel).dirty ≡ dirty_in any_block (held_of kernel records)
  pub recalled : (at : StampAt) → has_stamp held.recalled.keys at ≡ list_any (has_event (is_recall_to at.kernel at.file at.stamp)) records
