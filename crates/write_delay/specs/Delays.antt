-- The list of dirty blocks with the steps at which they were made dirty, the last one first.
use Rattle.std.specs.Prelude.{ℕ, ◌+◌, ◌≤◌, ◌==◌, nat_le, Bool, ◌&&◌, if◌then◌else◌, List, [], ◌∷◌, Option, Some, None, option_map}
use Rattle.std.specs.List.{AllByRecursion, IsDistinct, list_any}
use Rattle.std.specs.Option.{option_or}
use Rattle.std.specs.Map.{keys_of}
use Rattle.sprite_ids.specs.declared.FileId.{FileId}
use Rattle.sprite_ids.specs.declared.BlockNo.{BlockNo}
use Rattle.sprite_ids.specs.Lists.{without}
use Rattle.write_delay.specs.declared.delayed_block.DelayedBlock.{DelayedBlock}

-- dirty blocks with their steps
abbrev pub Listed : Type 0
Listed = List (DelayedBlock × ℕ)

-- whether two blocks are one
abbrev pub is_block : DelayedBlock → DelayedBlock → Bool
is_block block other = (block.file.server == other.file.server) && (block.file.number == other.file.number) && (block.block.0 == other.block.0)

-- whether the entry is of that block of that file
abbrev pub is_of : FileId → BlockNo → DelayedBlock × ℕ → Bool
is_of file block entry = is_block (record { file = file; block = block }) entry.0

-- no block is listed twice
abbrev pub AreOnce : Listed → Type 0
AreOnce entries = IsDistinct is_block (keys_of entries)

-- whether the block is listed
abbrev pub listed : Listed → FileId → BlockNo → Bool
listed entries file block = list_any (is_of file block) entries

-- the list after the block was made dirty at that step: its old entry gives way to the new one
abbrev pub dirtied : Listed → FileId → BlockNo → ℕ → Listed
dirtied entries file block step = (record { file = file; block = block }, step) ∷ without (is_of file block) entries

-- whether the block was made dirty at least 30 steps before that step
abbrev pub is_due : ℕ → DelayedBlock × ℕ → Bool
is_due step entry = nat_le (entry.1 + 30) step

-- of the entries that are due, the one that was made first
abbrev pub oldest_due : Listed → ℕ → Option (DelayedBlock × ℕ)
oldest_due [] step = None
oldest_due (entry ∷ rest) step = option_or (oldest_due rest step) (if is_due step entry then Some entry else None)

-- a block by its file and its number
abbrev pub named : DelayedBlock → FileId × BlockNo
named block = (block.file, block.block)

-- the block of that entry
abbrev pub due : Listed → ℕ → Option (FileId × BlockNo)
due entries step = option_map (λ entry. named entry.0) (oldest_due entries step)

-- no entry is newer by its step than one that was made after it
abbrev pub Falls : Listed → Type 0
Falls [] = Unit {0}
Falls (entry ∷ rest) = AllByRecursion (λ older. older.1 ≤ entry.1) rest × Falls rest

-- they are so with one more before them, of that step
abbrev pub FallsFrom : ℕ → Listed → Type 0
FallsFrom step entries = AllByRecursion (λ older. older.1 ≤ step) entries × Falls entries
