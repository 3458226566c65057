-- The blocks by the numbers of their last uses.
use Rattle.std.specs.Prelude.{◌≡◌, ℕ, ◌+◌, ◌<◌, Bool, true, not, if◌then◌else◌, List, [], ◌∷◌, ◌++◌, map, Option, Some, None, option_map}
use Rattle.std.specs.Ordering.{nat_cmp}
use Rattle.std.specs.BTreeMap.{insert_entry, is_at as is_age}
use Rattle.std.specs.List.{find}
use Rattle.std.specs.Map.{remove_entry, set_value, values_of}
use Rattle.lru.specs.LruCache.{LruCache, promoted}
use Rattle.sprite_ids.specs.declared.FileId.{FileId}
use Rattle.sprite_ids.specs.declared.BlockNo.{BlockNo}
use Rattle.block_cache.specs.declared.key.BlockKey.{BlockKey}
use Rattle.block_cache.specs.declared.block.Block.{Block}
use Rattle.block_cache.specs.declared.kept.Kept.{Kept}
use Rattle.block_cache.specs.declared.kept.LastUse.{LastUse}
use Rattle.block_cache.specs.Blocks.{Blocks, is_dirty, is_of, is_within, written_block}

-- blocks, the most recently used first, and how many there may be
abbrev pub Order : Type 0
Order = LruCache BlockKey Block

-- the blocks that are held, the most recently used first, each with the number of its last use
abbrev pub Rows : Type 0
Rows = List (BlockKey × Kept)

-- a block without the number of its last use
abbrev pub plain_of : BlockKey × Kept → BlockKey × Block
plain_of row = (row.0, row.1.block)

-- the blocks without those numbers
abbrev pub plain : Rows → Blocks
plain rows = map plain_of rows

-- a block's last use
abbrev pub last_of : Kept → LastUse
last_of kept = record { age = kept.age; dirty = kept.block.dirty }

-- the clean blocks and the dirty ones, each under the number of its last use, in ascending order, the number of the next
-- use, and whether these lists are kept
pub record Lists : Type 0 where
  pub clean : List (ℕ × BlockKey)
  pub dirty : List (ℕ × (BlockKey × ℕ))
  pub next : ℕ
  pub kept : Bool

abbrev pub ages_of : List (ℕ × BlockKey) → List (ℕ × (BlockKey × ℕ)) → ℕ → Bool → Lists
ages_of clean dirty next kept = record { clean = clean; dirty = dirty; next = next; kept = kept }

-- with the block of that use taken out
abbrev pub forgotten_by : Lists → ℕ → Option ℕ → Lists
forgotten_by ages age (Some number) = record ages { dirty = remove_entry (is_age (nat_cmp age)) ages.dirty }
forgotten_by ages age None = record ages { clean = remove_entry (is_age (nat_cmp age)) ages.clean }

abbrev pub forgotten : Lists → LastUse → Lists
forgotten ages last = forgotten_by ages last.age last.dirty

-- with a block put in under that use
abbrev pub noted_by : Lists → BlockKey → ℕ → Option ℕ → Lists
noted_by ages key age (Some number) = record ages { dirty = insert_entry nat_cmp ages.dirty age (key, number) }
noted_by ages key age None = record ages { clean = insert_entry nat_cmp ages.clean age key }

abbrev pub noted : Lists → BlockKey → LastUse → Lists
noted ages key last = noted_by ages key last.age last.dirty

-- with a block put in under the next use
abbrev pub used_anew : Lists → BlockKey → Option ℕ → Lists
used_anew ages key dirty = record (noted_by ages key ages.next dirty) { next = ages.next + 1 }

-- the first clean block that isn't one of these of the file
abbrev pub first_clean : FileId → BlockNo → BlockNo → List (ℕ × BlockKey) → Option BlockKey
first_clean file first last blocks = find (λ key. not (is_within file first last key)) (values_of blocks)

-- a dirty block, as it is written back
abbrev pub name_of : BlockKey × ℕ → FileId × BlockNo × ℕ
name_of block = (block.0.file, block.0.block, block.1)

-- the first dirty block of the file, or of all, with its number
abbrev pub first_dirty : Option FileId → List (ℕ × (BlockKey × ℕ)) → Option (FileId × BlockNo × ℕ)
first_dirty file blocks = option_map name_of (find (λ block. is_of file block.0) (values_of blocks))

-- what is listed of a block, under its number
abbrev pub listed : {V : Type 0} → ℕ → Option V → List (ℕ × V)
listed age (Some v) = (age, v) ∷ []
listed age None = []

-- what is listed of blocks, the least recently used first
abbrev pub aged : {V : Type 0} → (BlockKey × Block → Option V) → Rows → List (ℕ × V)
aged pick [] = []
aged pick (row ∷ rest) = aged pick rest ++ listed row.1.age (pick (plain_of row))

-- of a clean block its key
abbrev pub clean_key : BlockKey × Block → Option BlockKey
clean_key entry = if is_dirty entry then None else Some entry.0

-- of a dirty block its key and its number
abbrev pub dirty_key : BlockKey × Block → Option (BlockKey × ℕ)
dirty_key entry = option_map (λ number. (entry.0, number)) entry.1.dirty

-- the numbers descend from one that isn't given yet
abbrev pub Descend : ℕ → Rows → Type 0
Descend next [] = Unit {0}
Descend next (row ∷ rest) = (row.1.age < next) × Descend row.1.age rest

-- the lists are those of the blocks
pub record IsTold (ages : Lists) (rows : Rows) : Type 0 where
  pub clean : ages.clean ≡ aged clean_key rows
  pub dirty : ages.dirty ≡ aged dirty_key rows
  pub descend : Descend ages.next rows

-- they are, where they are kept
abbrev pub AreTold : Lists → Rows → Type 0
AreTold ages rows = ages.kept ≡ true → IsTold ages rows

-- the blocks with a looked-up one used, under that number
abbrev pub used_there : (BlockKey → Bool) → Rows → ℕ → Option Kept → Rows
used_there test rows age (Some kept) = set_value test (promoted test rows) (record kept { age = age })
used_there test rows age None = rows

-- the blocks with a looked-up one written, and used under that number
abbrev pub soiled_there : (BlockKey → Bool) → Rows → ℕ → ℕ → List ℕ → ℕ → ℕ → Option Kept → Rows
soiled_there test rows number from new dirty age (Some kept) =
    set_value test (promoted test rows) (record { block = written_block kept.block number from new dirty; age = age })
soiled_there test rows number from new dirty age None = rows

-- the blocks with a looked-up one made clean
abbrev pub cleaned_row : (BlockKey → Bool) → Rows → Option Kept → Rows
cleaned_row test rows (Some kept) = set_value test rows (record kept { block = record kept.block { dirty = None } })
cleaned_row test rows None = rows
