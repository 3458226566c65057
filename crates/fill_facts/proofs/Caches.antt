-- Each call of a cache keeps that no block is held twice, and no more than there is room for.
use Rattle.std.proofs.Common.{arith, ◌≡◌, ℕ, zero, suc, ◌+◌, ◌≤◌, ◌==◌, nat_le, Bool, true, false, not, cond, List, [], ◌∷◌, length, Option, Some, None, is_some, refl, sym, subst}
use Rattle.std.proofs.lemmas.Bool.{leb-false}
use Rattle.std.specs.List.{AllByRecursion, IsDistinct, filter}
use Rattle.std.specs.Option.{option_map_or}
use Rattle.std.specs.Map.{keys_of, lookup, lookup_entry, remove_entry, set_value}
use Rattle.lru.specs.LruCache.{promoted}
use Rattle.sprite_ids.specs.declared.BlockNo.{BlockNo}
use Rattle.sprite_ids.specs.declared.CallKind.{CallKind}
use Rattle.sprite_ids.specs.declared.CallKind.TheVariants.{Recall, Stop}
use Rattle.sprite_ids.specs.declared.FileId.{FileId}
use Rattle.sprite_ids.specs.declared.Grant.{Grant}
use Rattle.block_cache.specs.declared.BlockKey.{BlockKey}
use Rattle.block_cache.specs.declared.Block.{Block}
use Rattle.block_cache.specs.declared.Filled.TheVariants as fillings
use Rattle.block_cache.specs.Blocks.{AreOnce, Blocks, block_at, cleaned, cleaned_there, cleaned_under, is_at, is_held, is_key, used, without, written, written_block, written_there}
use Rattle.block_cache.specs.Files as files
use Rattle.block_cache.specs.Held as held
use Rattle.block_cache.specs.Held.{Held, is_full}
use Rattle.block_cache.specs.Ranges.{block_count, file_blocks, first_block}
use Rattle.block_cache.proofs.EachLaws.{each_removed, each_set_value, removed_length}
use Rattle.block_cache.proofs.KeptLaws.{cleaned_count, cleaned_under_count, used_count, without_count, written_count}
use Rattle.block_cache.proofs.KeyLaws.{one_block}
use Rattle.client_data.specs.Grants.{usable}
use Rattle.file_walks.proofs.Caches.{CacheCall, CallsBack, Drops, Fills, Grants, Reads, Settles, Writes, after}
use Rattle.fill_facts.specs.FillFacts.{HasEight}

-- another block than that one
abbrev pub IsApart : BlockKey → BlockKey × Block → Type 0
IsApart key entry = is_key key entry.0 ≡ false

-- each block is another than all behind it
abbrev pub Apart : Blocks → Type 0
Apart [] = Unit {0}
Apart (entry ∷ rest) = AllByRecursion (IsApart entry.0) rest × Apart rest

keys_apart : (key : BlockKey) (rest : Blocks) → AllByRecursion (λ other. is_key key other ≡ false) (keys_of rest) → AllByRecursion (IsApart key) rest
keys_apart key [] h = tt
keys_apart key (entry ∷ rest) h = (h.0, keys_apart key rest h.1)

apart_keys : (key : BlockKey) (rest : Blocks) → AllByRecursion (IsApart key) rest → AllByRecursion (λ other. is_key key other ≡ false) (keys_of rest)
apart_keys key [] h = tt
apart_keys key (entry ∷ rest) h = (h.0, apart_keys key rest h.1)

pub apart_of : (blocks : Blocks) → AreOnce blocks → Apart blocks
unfolding IsDistinct
apart_of [] h = tt
apart_of (entry ∷ rest) h = (keys_apart entry.0 rest h.0, apart_of rest h.1)

pub once_of : (blocks : Blocks) → Apart blocks → AreOnce blocks
unfolding IsDistinct
once_of [] h = tt
once_of (entry ∷ rest) h = (apart_keys entry.0 rest h.0, once_of rest h.1)

-- One that is taken out

removed_by : (test : BlockKey → Bool) (entry : BlockKey × Block) (rest : Blocks) (b : Bool) → AllByRecursion (IsApart entry.0) rest → Apart rest → Apart (remove_entry test rest) → Apart (cond b rest (entry ∷ remove_entry test rest))
removed_by test entry rest true first all less = all
removed_by test entry rest false first all less = (each_removed test (IsApart entry.0) rest first, less)

pub removed_apart : (test : BlockKey → Bool) (blocks : Blocks) → Apart blocks → Apart (remove_entry test blocks)
removed_apart test [] h = tt
removed_apart test (entry ∷ rest) h = removed_by test entry rest (test entry.0) h.0 h.1 (removed_apart test rest h.1)

-- another block of that key's
abbrev pub IsElsewhere : FileId → ℕ → BlockKey × Block → Type 0
IsElsewhere file number entry = is_at file number entry.0 ≡ false

same_key : (file : FileId) (number : ℕ) (key : BlockKey) (rest : Blocks) → is_at file number key ≡ true → AllByRecursion (IsApart key) rest → AllByRecursion (IsElsewhere file number) rest
same_key file number key rest is h =
    let same = one_block file number key is in
    subst (λ (f : FileId). AllByRecursion (IsElsewhere f number) rest) (sym same.0) (subst (λ (n : ℕ). AllByRecursion (IsElsewhere key.file n) rest) (sym same.1) h)

none_by : (file : FileId) (number : ℕ) (entry : BlockKey × Block) (rest : Blocks) (b : Bool) → is_at file number entry.0 ≡ b → AllByRecursion (IsApart entry.0) rest → AllByRecursion (IsElsewhere file number) (remove_entry (is_at file number) rest) → AllByRecursion (IsElsewhere file number) (cond b rest (entry ∷ remove_entry (is_at file number) rest))
none_by file number entry rest true is first less = same_key file number entry.0 rest is first
none_by file number entry rest false is first less = (is, less)

-- then it isn't there any more
pub removed_none : (file : FileId) (number : ℕ) (blocks : Blocks) → Apart blocks → AllByRecursion (IsElsewhere file number) (remove_entry (is_at file number) blocks)
removed_none file number [] h = tt
removed_none file number (entry ∷ rest) h = none_by file number entry rest (is_at file number entry.0) refl h.0 (removed_none file number rest h.1)

-- Blocks that are used, written and made clean

found_by : (test : BlockKey → Bool) (entry found : BlockKey × Block) (rest : Blocks) (b : Bool) → test entry.0 ≡ b → (lookup_entry test rest ≡ Some found → test found.0 ≡ true) → cond b (Some entry) (lookup_entry test rest) ≡ Some found → test found.0 ≡ true
found_by test entry found rest true e later is = subst (λ (o : Option (BlockKey × Block)). option_map_or (λ (other : BlockKey × Block). test other.0) o true ≡ true) is e
found_by test entry found rest false e later is = later is

found_passes : (test : BlockKey → Bool) (blocks : Blocks) (found : BlockKey × Block) → lookup_entry test blocks ≡ Some found → test found.0 ≡ true
found_passes test [] found is = absurd (cc)
found_passes test (entry ∷ rest) found is = found_by test entry found rest (test entry.0) refl (found_passes test rest found) is

elsewhere_apart : (file : FileId) (number : ℕ) (key : BlockKey) (rest : Blocks) → is_at file number key ≡ true → AllByRecursion (IsElsewhere file number) rest → AllByRecursion (IsApart key) rest
elsewhere_apart file number key rest is h =
    let same = one_block file number key is in
    subst (λ (n : ℕ). AllByRecursion (IsElsewhere key.file n) rest) same.1 (subst (λ (f : FileId). AllByRecursion (IsElsewhere f number) rest) same.0 h)

promoted_by : (file : FileId) (number : ℕ) (blocks : Blocks) (o : Option (BlockKey × Block)) → lookup_entry (is_at file number) blocks ≡ o → Apart blocks → Apart (option_map_or (λ (entry : BlockKey × Block). entry ∷ remove_entry (is_at file number) blocks) o blocks)
promoted_by file number blocks None is h = h
promoted_by file number blocks (Some entry) is h = (elsewhere_apart file number entry.0 (remove_entry (is_at file number) blocks) (found_passes (is_at file number) blocks entry is) (removed_none file number blocks h), removed_apart (is_at file number) blocks h)

promoted_apart : (file : FileId) (number : ℕ) (blocks : Blocks) → Apart blocks → Apart (promoted (is_at file number) blocks)
promoted_apart file number blocks h = promoted_by file number blocks (lookup_entry (is_at file number) blocks) refl h

set_by : (test : BlockKey → Bool) (entry : BlockKey × Block) (rest : Blocks) (block : Block) (b : Bool) → AllByRecursion (IsApart entry.0) rest → Apart rest → Apart (set_value test rest block) → Apart (cond b ((entry.0, block) ∷ rest) (entry ∷ set_value test rest block))
set_by test entry rest block true first all more = (first, all)
set_by test entry rest block false first all more = (each_set_value test (IsApart entry.0) rest block (λ key old p. p) first, more)

set_apart : (test : BlockKey → Bool) (blocks : Blocks) (block : Block) → Apart blocks → Apart (set_value test blocks block)
set_apart test [] block h = tt
set_apart test (entry ∷ rest) block h = set_by test entry rest block (test entry.0) h.0 h.1 (set_apart test rest block h.1)

used_apart : (blocks : Blocks) (file : FileId) (first n : ℕ) → Apart blocks → Apart (used blocks file first n)
used_apart blocks file first zero h = h
used_apart blocks file first (suc n) h = promoted_apart file (first + n) (used blocks file first n) (used_apart blocks file first n h)

written_by : (blocks : Blocks) (file : FileId) (number from : ℕ) (new : List ℕ) (dirty : ℕ) (o : Option Block) → Apart blocks → Apart (written_there blocks file number from new dirty o)
written_by blocks file number from new dirty (Some block) h = set_apart (is_at file number) (promoted (is_at file number) blocks) (written_block block number from new dirty) (promoted_apart file number blocks h)
written_by blocks file number from new dirty None h = h

written_apart : (blocks : Blocks) (file : FileId) (from : ℕ) (new : List ℕ) (last first n : ℕ) → Apart blocks → Apart (written blocks file from new last first n)
written_apart blocks file from new last first zero h = h
written_apart blocks file from new last first (suc n) h =
    let before : Blocks = written blocks file from new last first n in
    written_by before file (first + n) from new (last + n + 1) (block_at before file (first + n)) (written_apart blocks file from new last first n h)

cleaned_by : (blocks : Blocks) (file : FileId) (number : ℕ) (o : Option Block) → Apart blocks → Apart (cleaned_there blocks file number o)
cleaned_by blocks file number (Some block) h = set_apart (is_at file number) blocks (record block { dirty = None }) h
cleaned_by blocks file number None h = h

cleaned_apart : (blocks : Blocks) (file : FileId) (number : ℕ) → Apart blocks → Apart (cleaned blocks file number)
cleaned_apart blocks file number h = cleaned_by blocks file number (block_at blocks file number) h

cleaned_all : (blocks : Blocks) (file : FileId) (n : ℕ) → Apart blocks → Apart (cleaned_under blocks file n)
cleaned_all blocks file zero h = h
cleaned_all blocks file (suc n) h = cleaned_apart (cleaned_under blocks file n) file n (cleaned_all blocks file n h)

-- The blocks of other files

kept_by : (P : BlockKey × Block → Type 0) (entry : BlockKey × Block) (rest : Blocks) (b : Bool) → P entry → AllByRecursion P rest → AllByRecursion P (cond b (entry ∷ rest) rest)
kept_by P entry rest true first h = (first, h)
kept_by P entry rest false first h = h

each_filtered : (P : BlockKey × Block → Type 0) (test : BlockKey × Block → Bool) (blocks : Blocks) → AllByRecursion P blocks → AllByRecursion P (filter test blocks)
each_filtered P test [] h = tt
each_filtered P test (entry ∷ rest) h = kept_by P entry (filter test rest) (test entry) h.0 (each_filtered P test rest h.1)

filtered_by : (entry : BlockKey × Block) (rest : Blocks) (b : Bool) → AllByRecursion (IsApart entry.0) rest → Apart rest → Apart (cond b (entry ∷ rest) rest)
filtered_by entry rest true first h = (first, h)
filtered_by entry rest false first h = h

filtered_apart : (test : BlockKey × Block → Bool) (blocks : Blocks) → Apart blocks → Apart (filter test blocks)
filtered_apart test [] h = tt
filtered_apart test (entry ∷ rest) h = filtered_by entry (filter test rest) (test entry) (each_filtered (IsApart entry.0) test rest h.0) (filtered_apart test rest h.1)

-- One that is put in

absent_by : (test : BlockKey → Bool) (entry : BlockKey × Block) (rest : Blocks) (b : Bool) → test entry.0 ≡ b → is_some (cond b (Some entry.1) (lookup test rest)) ≡ false → (is_some (lookup test rest) ≡ false → AllByRecursion (λ (other : BlockKey × Block). test other.0 ≡ false) rest) → AllByRecursion (λ (other : BlockKey × Block). test other.0 ≡ false) (entry ∷ rest)
absent_by test entry rest true e none later = absurd (cc)
absent_by test entry rest false e none later = (e, later none)

absent : (test : BlockKey → Bool) (blocks : Blocks) → is_some (lookup test blocks) ≡ false → AllByRecursion (λ (other : BlockKey × Block). test other.0 ≡ false) blocks
absent test [] none = tt
absent test (entry ∷ rest) none = absent_by test entry rest (test entry.0) refl none (absent test rest)

-- A call

-- what holds of a cache while a step runs
pub record Roomy (cache : Held) : Type 0 where
  pub size : 8 ≤ cache.size
  pub fits : length cache.blocks ≤ cache.size
  pub apart : Apart cache.blocks

pub roomy_of : (cache : Held) → HasEight cache → Roomy cache
roomy_of cache h = record { size = h.size; fits = h.fits; apart = apart_of cache.blocks h.once }

pub eight_of : (cache : Held) → Roomy cache → HasEight cache
eight_of cache h = record { size = h.size; fits = h.fits; once = once_of cache.blocks h.apart }

-- other blocks, as many at most
fewer : (a b c : ℕ) → a ≤ b → b ≤ c → a ≤ c
fewer a b c h k = omega arith

as_many : (a b c : ℕ) → a ≡ b → b ≤ c → a ≤ c
as_many a b c h k = omega arith

one_more : (n size : ℕ) → nat_le size n ≡ false → suc n ≤ size
one_more n size e = (let less = leb-false size n e in omega arith)

filled_as : (cache : Held) (file : FileId) (block : BlockNo) (bytes : List ℕ) (old there full : Bool) → is_held cache.blocks file block.0 ≡ there → is_full cache ≡ full → Roomy cache → Roomy (held.after_fill cache file block bytes (cond old fillings.Old (cond there fillings.Kept (cond full fillings.Full fillings.Filled))))
filled_as cache file block bytes true there full e f h = h
filled_as cache file block bytes false true full e f h = h
filled_as cache file block bytes false false true e f h = h
filled_as cache file block bytes false false false e f h = record { size = h.size; fits = one_more (length cache.blocks) cache.size f; apart = (absent (is_at file block.0) cache.blocks e, h.apart) }

kept_if : (b : Bool) (blocks : Blocks) (file : FileId) (size : ℕ) → length blocks ≤ size → Apart blocks → (length (held.kept_blocks b blocks file) ≤ size) × Apart (held.kept_blocks b blocks file)
kept_if true blocks file size fits apart = (fits, apart)
kept_if false blocks file size fits apart = (fewer (length (without blocks file)) (length blocks) size (without_count blocks file) fits, filtered_apart _ blocks apart)

granted_if : (b : Bool) (cache : Held) (grant : Grant) → Roomy cache → Roomy (cond b (held.after_newer cache grant (files.known cache.files grant.file)) cache)
granted_if true cache grant h = let kept = kept_if (files.keeps (files.known cache.files grant.file) grant) cache.blocks grant.file cache.size h.fits h.apart in record { size = h.size; fits = kept.0; apart = kept.1 }
granted_if false cache grant h = h

called_as : (kind : CallKind) (cache : Held) (file : FileId) (stamp : ℕ) → Roomy cache → Roomy (held.after_callback cache file stamp kind)
called_as Recall cache file stamp h = record { size = h.size; fits = as_many (length (cleaned_under cache.blocks file file_blocks)) (length cache.blocks) cache.size (cleaned_under_count cache.blocks file file_blocks) h.fits; apart = cleaned_all cache.blocks file file_blocks h.apart }
called_as Stop cache file stamp h = record { size = h.size; fits = fewer (length (without cache.blocks file)) (length cache.blocks) cache.size (without_count cache.blocks file) h.fits; apart = filtered_apart _ cache.blocks h.apart }

wrote_as : (new : List ℕ) (cache : Held) (file : FileId) (from : ℕ) → Roomy cache → Roomy (held.after_write cache file from new)
wrote_as [] cache file from h = h
wrote_as (first ∷ rest) cache file from h =
    let many : ℕ = block_count from (length (first ∷ rest)) in
    record {
      size = h.size;
      fits = as_many (length (written cache.blocks file from (first ∷ rest) cache.last (first_block from) many)) (length cache.blocks) cache.size (written_count cache.blocks file from (first ∷ rest) cache.last (first_block from) many) h.fits;
      apart = written_apart cache.blocks file from (first ∷ rest) cache.last (first_block from) many h.apart;
    }

dropped_as : (o : Option (BlockKey × Block)) (cache : Held) → Roomy cache → Roomy (record cache { blocks = held.without_one cache.blocks o })
dropped_as None cache h = h
dropped_as (Some entry) cache h = record { size = h.size; fits = fewer (length (remove_entry (is_at entry.0.file entry.0.block.0) cache.blocks)) (length cache.blocks) cache.size (removed_length (is_at entry.0.file entry.0.block.0) cache.blocks) h.fits; apart = removed_apart (is_at entry.0.file entry.0.block.0) cache.blocks h.apart }

settled_if : (b : Bool) (cache : Held) (file : FileId) (number : ℕ) → Roomy cache → Roomy (cond b (record cache { blocks = cleaned cache.blocks file number }) cache)
settled_if true cache file number h = record { size = h.size; fits = as_many (length (cleaned cache.blocks file number)) (length cache.blocks) cache.size (cleaned_count cache.blocks file number) h.fits; apart = cleaned_apart cache.blocks file number h.apart }
settled_if false cache file number h = h

pub stays_roomy : (call : CacheCall) (cache : Held) → Roomy cache → Roomy (after call cache)
stays_roomy (Fills file stamp block bytes) cache h = filled_as cache file block bytes (not ((files.known cache.files file).stamp == stamp)) (is_held cache.blocks file block.0) (is_full cache) refl refl h
stays_roomy (Reads file from many) cache h = record { size = h.size; fits = as_many (length (used cache.blocks file (first_block from) (block_count from many))) (length cache.blocks) cache.size (used_count cache.blocks file (first_block from) (block_count from many)) h.fits; apart = used_apart cache.blocks file (first_block from) (block_count from many) h.apart }
stays_roomy (Writes file from new) cache h = wrote_as new cache file from h
stays_roomy (Drops file first last) cache h = dropped_as (held.oldest_clean cache file first last) cache h
stays_roomy (Grants grant) cache h = let taken : Grant = usable cache grant in granted_if (held.is_newer cache taken) cache taken h
stays_roomy (CallsBack file stamp kind) cache h = called_as kind cache file stamp h
stays_roomy (Settles file stamp block number) cache h = settled_if (held.is_written_back cache file stamp block number) cache file block h
