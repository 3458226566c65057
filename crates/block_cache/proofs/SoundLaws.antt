-- What is true of each cache is true of what a call makes of it.
use Rattle.std.proofs.Common.{◌≡◌, ℕ, ◌<◌, ◌≤◌, ◌^◌, max, length, sym, subst}
use Rattle.lru.specs.LruCache.{LruCache, lru_cache}
use Rattle.block_cache.specs.declared.key.BlockKey.{BlockKey}
use Rattle.block_cache.specs.declared.block.Block.{Block}
use Rattle.block_cache.specs.Files.{Files}
use Rattle.block_cache.specs.Blocks.{Blocks}
use Rattle.block_cache.specs.Held.{Held, IsSound}
use Rattle.block_cache.specs.Reach.{Ends, AreUnder}
use Rattle.block_cache.proofs.KeptLaws.{AreKept}

abbrev pub held_of : ℕ → Files → Blocks → ℕ → Held
held_of size files blocks last = record { size = size; files = files; blocks = blocks; last = last }

-- of the fields
abbrev pub AreSound : ℕ → Files → LruCache BlockKey Block → ℕ → Ends → Type 0
AreSound size files blocks last ends = (blocks.cap ≡ max 1 size) × (last < 2 ^ 64) × IsSound (held_of size files blocks.entries last) × AreUnder ends blocks.entries

pub sound_next : (size : ℕ) (files : Files) (old new : LruCache BlockKey Block) (blocks : Blocks) (last : ℕ) (ends : Ends) → old.cap ≡ max 1 size → new ≡ lru_cache blocks old.cap → last < 2 ^ 64 → length blocks ≤ size → AreKept files last blocks → AreUnder ends blocks → AreSound size files new last ends
sound_next size files old new blocks last ends cap is below fits kept under =
    subst (λ (cache : LruCache BlockKey Block). AreSound size files cache last ends) (sym is) (cap, below, record { fits = fits; kept = kept }, under)
