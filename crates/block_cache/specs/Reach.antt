-- How far the blocks of files reach.
use Rattle.std.specs.Prelude.{◌≡◌, ℕ, ◌<◌, max, true, List, Option, Some, None}
use Rattle.std.specs.List.{AllByRecursion}
use Rattle.std.specs.Map.{lookup}
use Rattle.indexmap.specs.IndexMap.{insert_entry}
use Rattle.sprite_ids.specs.declared.FileId.{FileId}
use Rattle.block_cache.specs.declared.key.BlockKey.{BlockKey}
use Rattle.block_cache.specs.declared.block.Block.{Block}
use Rattle.block_cache.specs.Files.{is_file}
use Rattle.block_cache.specs.Blocks.{Blocks}

-- files, each with a number
abbrev pub Ends : Type 0
Ends = List (FileId × ℕ)

-- a looked-up number, or 0
abbrev pub or_zero : Option ℕ → ℕ
or_zero (Some end) = end
or_zero None = 0

-- the number of the file, or 0
abbrev pub end_of : Ends → FileId → ℕ
end_of ends file = or_zero (lookup (is_file file) ends)

-- the numbers after the file's was raised to one, where it is less
abbrev pub raised : Ends → FileId → ℕ → Ends
raised ends file end = insert_entry is_file ends file (max (end_of ends file) end)

-- a block, if it is the file's, is under that number
abbrev pub IsUnder : FileId → ℕ → BlockKey × Block → Type 0
IsUnder file end entry = is_file file entry.0.file ≡ true → entry.0.block.0 < end

-- each block is under its file's number
abbrev pub AreUnder : Ends → Blocks → Type 0
AreUnder ends blocks = AllByRecursion (λ (entry : BlockKey × Block). entry.0.block.0 < end_of ends entry.0.file) blocks
