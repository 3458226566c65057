-- What is true of each block stays true.
use Rattle.std.proofs.Common.{◌≡◌, ℕ, zero, suc, ◌+◌, ◌-◌, ◌*◌, ◌≤◌, Bool, true, false, not, cond, List, [], ◌∷◌, length, Option, Some, None, refl, ap, ◌∙◌, arith, length-append, length-take, length-drop}
use Rattle.std.proofs.lemmas.List.{length-replicate}
use Rattle.std.specs.List.{AllByRecursion}
use Rattle.sprite_ids.specs.declared.FileId.{FileId}
use Rattle.sprite_ids.proofs.ListLaws.{each_weaken}
use Rattle.lru.specs.LruCache.{promoted}
use Rattle.block_cache.specs.declared.key.BlockKey.{BlockKey}
use Rattle.block_cache.specs.declared.block.Block.{Block}
use Rattle.block_cache.specs.declared.file_state.FileState.{FileState}
use Rattle.block_cache.specs.Files.{Files, is_file, known, with_state}
use Rattle.block_cache.specs.Ranges.{over, piece, padded}
use Rattle.block_cache.specs.Blocks.{Blocks, is_at, block_at, without, cleaned, cleaned_there, cleaned_under, used, written, written_there, written_block}
use Rattle.block_cache.specs.Held.{IsUpTo, IsKept, IsReached}
use Rattle.block_cache.proofs.EachLaws.{each_promoted, each_set_value, each_value, promoted_length, set_length, filter_length}
use Rattle.block_cache.proofs.StateLaws.{stays_on, known_elsewhere}

-- blocks of which it is true
abbrev pub AreKept : Files → ℕ → Blocks → Type 0
AreKept files last blocks = AllByRecursion (IsKept files last) blocks

up_to : (number : Option ℕ) (last more : ℕ) → last ≤ more → IsUpTo number last → IsUpTo number more
up_to None last more le h = tt
up_to (Some number) last more le h = omega (arith, le, h)

kept_with : (files next : Files) (last more : ℕ) (entry : BlockKey × Block) → ((known files entry.0.file).on ≡ true → (known next entry.0.file).on ≡ true) → last ≤ more → IsKept files last entry → IsKept next more entry
kept_with files next last more entry on le h = record { reached = h.reached; whole = h.whole; cached = on h.cached; given = up_to entry.1.dirty last more le h.given }

-- with a higher last number
pub kept_later : (files : Files) (last more : ℕ) (blocks : Blocks) → last ≤ more → AreKept files last blocks → AreKept files more blocks
kept_later files last more blocks le h =
    each_weaken (IsKept files last) (IsKept files more) blocks (λ entry k. kept_with files files last more entry (λ on. on) le k) h

-- with another state of a file, which is cached still if it was
pub kept_state : (files : Files) (last : ℕ) (blocks : Blocks) (file : FileId) (state : FileState) → ((known files file).on ≡ true → state.on ≡ true) → AreKept files last blocks → AreKept (with_state files file state) last blocks
kept_state files last blocks file state stays h =
    each_weaken (IsKept files last) (IsKept (with_state files file state) last) blocks (λ entry k. kept_with files (with_state files file state) last last entry (stays_on files file entry.0.file state stays) (omega arith) k) h

without_by : (files : Files) (last : ℕ) (entry : BlockKey × Block) (rest : Blocks) (file : FileId) (state : FileState) (b : Bool) → is_file file entry.0.file ≡ b → IsKept files last entry → AreKept (with_state files file state) last (without rest file) → AreKept (with_state files file state) last (cond (not b) (entry ∷ without rest file) (without rest file))
without_by files last entry rest file state true e k h = h
without_by files last entry rest file state false e k h =
    (kept_with files (with_state files file state) last last entry (λ on. ap (λ (s : FileState). s.on) (known_elsewhere files file entry.0.file state e) ∙ on) (omega arith) k, h)

-- with any state of a file whose blocks are dropped
pub kept_without : (files : Files) (last : ℕ) (blocks : Blocks) (file : FileId) (state : FileState) → AreKept files last blocks → AreKept (with_state files file state) last (without blocks file)
kept_without files last [] file state h = tt
kept_without files last (entry ∷ rest) file state h =
    without_by files last entry rest file state (is_file file entry.0.file) refl h.0 (kept_without files last rest file state h.1)

-- another block at the same key
kept_block : (files : Files) (last : ℕ) (key : BlockKey) (old new : Block) → length new.bytes ≡ 4096 → IsUpTo new.dirty last → IsKept files last (key, old) → IsKept files last (key, new)
kept_block files last key old new whole given h = record { reached = h.reached; whole = whole; cached = h.cached; given = given }

-- a block that is held is whole
pub held_whole : (files : Files) (last : ℕ) (blocks : Blocks) (file : FileId) (number : ℕ) (block : Block) → AreKept files last blocks → block_at blocks file number ≡ Some block → length block.bytes ≡ 4096
held_whole files last blocks file number block h is = (each_value (is_at file number) (IsKept files last) blocks block h is).1.whole

cleaned_by : (files : Files) (last : ℕ) (blocks : Blocks) (file : FileId) (number : ℕ) (o : Option Block) → block_at blocks file number ≡ o → AreKept files last blocks → AreKept files last (cleaned_there blocks file number o)
cleaned_by files last blocks file number None is h = h
cleaned_by files last blocks file number (Some block) is h =
    each_set_value (is_at file number) (IsKept files last) blocks (record block { dirty = None }) (λ key old k. kept_block files last key old (record block { dirty = None }) (held_whole files last blocks file number block h is) tt k) h

-- with a block made clean
pub kept_cleaned : (files : Files) (last : ℕ) (blocks : Blocks) (file : FileId) (number : ℕ) → AreKept files last blocks → AreKept files last (cleaned blocks file number)
kept_cleaned files last blocks file number h = cleaned_by files last blocks file number (block_at blocks file number) refl h

pub kept_cleaned_under : (files : Files) (last : ℕ) (blocks : Blocks) (file : FileId) (n : ℕ) → AreKept files last blocks → AreKept files last (cleaned_under blocks file n)
kept_cleaned_under files last blocks file zero h = h
kept_cleaned_under files last blocks file (suc n) h = kept_cleaned files last (cleaned_under blocks file n) file n (kept_cleaned_under files last blocks file n h)

-- with blocks used
pub kept_used : (files : Files) (last : ℕ) (blocks : Blocks) (file : FileId) (first n : ℕ) → AreKept files last blocks → AreKept files last (used blocks file first n)
kept_used files last blocks file first zero h = h
kept_used files last blocks file first (suc n) h =
    each_promoted (is_at file (first + n)) (IsKept files last) (used blocks file first n) (kept_used files last blocks file first n h)

-- a block with zeros behind its bytes is whole
pub padded_whole : (bytes : List ℕ) → length bytes ≤ 4096 → length (padded bytes) ≡ 4096
padded_whole bytes h = simp (length-append, length-replicate) (omega (arith, h))

-- a block with bytes written over others is whole
over_whole : (bytes new : List ℕ) (at : ℕ) → length bytes ≡ 4096 → at + length new ≤ 4096 → length (over bytes at new) ≡ 4096
over_whole bytes new at h k = simp (length-append, length-take, length-drop) (omega (arith, h, k))

piece_short : (new : List ℕ) (number from : ℕ) → from ≤ 4096 * number + 4096 → (from - 4096 * number) + length (piece new number from) ≤ 4096
piece_short new number from h = simp (length-take, length-drop) (omega (arith, h))

pub written_whole : (block : Block) (number from : ℕ) (new : List ℕ) (dirty : ℕ) → from ≤ 4096 * number + 4096 → length block.bytes ≡ 4096 → length (written_block block number from new dirty).bytes ≡ 4096
written_whole block number from new dirty touches whole = over_whole block.bytes (piece new number from) (from - 4096 * number) whole (piece_short new number from touches)

written_by : (files : Files) (last : ℕ) (blocks : Blocks) (file : FileId) (number from : ℕ) (new : List ℕ) (dirty : ℕ) (o : Option Block) → block_at blocks file number ≡ o → from ≤ 4096 * number + 4096 → dirty ≤ last → AreKept files last blocks → AreKept files last (written_there blocks file number from new dirty o)
written_by files last blocks file number from new dirty None is touches le h = h
written_by files last blocks file number from new dirty (Some block) is touches le h =
    let next = written_block block number from new dirty in
    each_set_value (is_at file number) (IsKept files last) (promoted (is_at file number) blocks) next (λ key old k. kept_block files last key old next (written_whole block number from new dirty touches (held_whole files last blocks file number block h is)) le k) (each_promoted (is_at file number) (IsKept files last) blocks h)

-- with blocks written
pub kept_written : (files : Files) (last : ℕ) (blocks : Blocks) (file : FileId) (from : ℕ) (new : List ℕ) (first n : ℕ) → from ≤ 4096 * first + 4096 → AreKept files last blocks → AreKept files (last + n) (written blocks file from new last first n)
kept_written files last blocks file from new first zero touches h = kept_later files last (last + 0) blocks (omega arith) h
kept_written files last blocks file from new first (suc n) touches h =
    let before = written blocks file from new last first n in
    let kept = kept_written files last blocks file from new first n touches h in
    written_by files (last + suc n) before file (first + n) from new (last + n + 1) (block_at before file (first + n)) refl (omega (arith, touches)) (omega arith) (kept_later files (last + n) (last + suc n) before (omega arith) kept)

-- how many blocks there are
cleaned_count_by : (blocks : Blocks) (file : FileId) (number : ℕ) (o : Option Block) → length (cleaned_there blocks file number o) ≡ length blocks
cleaned_count_by blocks file number None = refl
cleaned_count_by blocks file number (Some block) = set_length (is_at file number) blocks (record block { dirty = None })

pub cleaned_count : (blocks : Blocks) (file : FileId) (number : ℕ) → length (cleaned blocks file number) ≡ length blocks
cleaned_count blocks file number = cleaned_count_by blocks file number (block_at blocks file number)

pub cleaned_under_count : (blocks : Blocks) (file : FileId) (n : ℕ) → length (cleaned_under blocks file n) ≡ length blocks
cleaned_under_count blocks file zero = refl
cleaned_under_count blocks file (suc n) = cleaned_count (cleaned_under blocks file n) file n ∙ cleaned_under_count blocks file n

pub used_count : (blocks : Blocks) (file : FileId) (first n : ℕ) → length (used blocks file first n) ≡ length blocks
used_count blocks file first zero = refl
used_count blocks file first (suc n) = promoted_length (is_at file (first + n)) (used blocks file first n) ∙ used_count blocks file first n

written_count_by : (blocks : Blocks) (file : FileId) (number from : ℕ) (new : List ℕ) (dirty : ℕ) (o : Option Block) → length (written_there blocks file number from new dirty o) ≡ length blocks
written_count_by blocks file number from new dirty None = refl
written_count_by blocks file number from new dirty (Some block) =
    set_length (is_at file number) (promoted (is_at file number) blocks) (written_block block number from new dirty) ∙ promoted_length (is_at file number) blocks

pub written_count : (blocks : Blocks) (file : FileId) (from : ℕ) (new : List ℕ) (last first n : ℕ) → length (written blocks file from new last first n) ≡ length blocks
written_count blocks file from new last first zero = refl
written_count blocks file from new last first (suc n) =
    let before = written blocks file from new last first n in
    written_count_by before file (first + n) from new (last + n + 1) (block_at before file (first + n)) ∙ written_count blocks file from new last first n

pub without_count : (blocks : Blocks) (file : FileId) → length (without blocks file) ≤ length blocks
without_count blocks file = filter_length (λ (entry : BlockKey × Block). not (is_file file entry.0.file)) blocks

-- blocks of which it is true are each one of the 1,024
pub kept_reached : (files : Files) (last : ℕ) (blocks : Blocks) → AreKept files last blocks → AllByRecursion IsReached blocks
kept_reached files last blocks h = each_weaken (IsKept files last) IsReached blocks (λ entry k. k.reached) h
