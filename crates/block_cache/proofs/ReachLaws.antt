-- Each block is under the number of its file, and a walk that ends there meets all of the file's.
use Rattle.std.proofs.Common.{◌≡◌, ℕ, zero, suc, ◌+◌, ◌<◌, ◌≤◌, ◌==◌, max, Bool, true, false, cond, List, [], ◌∷◌, ◌++◌, Option, Some, None, is_some, refl, sym, ap, subst, ◌∙◌, arith}
use Rattle.std.specs.List.{AllByRecursion}
use Rattle.std.proofs.lemmas.Bool.{and_parts, eqb-true}
use Rattle.std.proofs.lemmas.List.{append-nil}
use Rattle.lru.specs.LruCache.{promoted}
use Rattle.sprite_ids.specs.declared.FileId.{FileId}
use Rattle.sprite_ids.proofs.ListLaws.{each_filter, each_weaken}
use Rattle.block_cache.specs.declared.key.BlockKey.{BlockKey}
use Rattle.block_cache.specs.declared.block.Block.{Block}
use Rattle.block_cache.specs.Files.{is_file}
use Rattle.block_cache.specs.Ranges.{file_blocks}
use Rattle.block_cache.specs.Blocks.{Blocks, is_at, block_at, number_of, held_under, dirty_under, cleaned, cleaned_there, cleaned_under, without, used, written, written_there, written_block}
use Rattle.block_cache.specs.Held.{IsReached}
use Rattle.block_cache.specs.Reach.{Ends, or_zero, end_of, raised, IsUnder, AreUnder}
use Rattle.block_cache.proofs.EachLaws.{each_promoted, each_set_value}
use Rattle.block_cache.proofs.KeyLaws.{one_file}
use Rattle.block_cache.proofs.StateLaws.{value_there, value_elsewhere}

-- a fact of each block's key, after each edit of the blocks
module _ (P : BlockKey → Type 0) where
  abbrev pub EachKey : Blocks → Type 0
  EachKey blocks = AllByRecursion (λ (entry : BlockKey × Block). P entry.0) blocks

  cleaned_by : (blocks : Blocks) (file : FileId) (number : ℕ) (o : Option Block) → EachKey blocks → EachKey (cleaned_there blocks file number o)
  cleaned_by blocks file number None h = h
  cleaned_by blocks file number (Some block) h = each_set_value (is_at file number) (λ (entry : BlockKey × Block). P entry.0) blocks (record block { dirty = None }) (λ key old p. p) h

  pub keys_cleaned : (blocks : Blocks) (file : FileId) (number : ℕ) → EachKey blocks → EachKey (cleaned blocks file number)
  keys_cleaned blocks file number h = cleaned_by blocks file number (block_at blocks file number) h

  pub keys_cleaned_under : (blocks : Blocks) (file : FileId) (n : ℕ) → EachKey blocks → EachKey (cleaned_under blocks file n)
  keys_cleaned_under blocks file zero h = h
  keys_cleaned_under blocks file (suc n) h = keys_cleaned (cleaned_under blocks file n) file n (keys_cleaned_under blocks file n h)

  pub keys_used : (blocks : Blocks) (file : FileId) (first n : ℕ) → EachKey blocks → EachKey (used blocks file first n)
  keys_used blocks file first zero h = h
  keys_used blocks file first (suc n) h = each_promoted (is_at file (first + n)) (λ (entry : BlockKey × Block). P entry.0) (used blocks file first n) (keys_used blocks file first n h)

  pub keys_without : (blocks : Blocks) (file : FileId) → EachKey blocks → EachKey (without blocks file)
  keys_without blocks file h = each_filter (λ (entry : BlockKey × Block). P entry.0) _ blocks h

  written_by : (blocks : Blocks) (file : FileId) (number from : ℕ) (new : List ℕ) (dirty : ℕ) (o : Option Block) → EachKey blocks → EachKey (written_there blocks file number from new dirty o)
  written_by blocks file number from new dirty None h = h
  written_by blocks file number from new dirty (Some block) h =
      each_set_value (is_at file number) (λ (entry : BlockKey × Block). P entry.0) (promoted (is_at file number) blocks) (written_block block number from new dirty) (λ key old p. p) (each_promoted (is_at file number) (λ (entry : BlockKey × Block). P entry.0) blocks h)

  pub keys_written : (blocks : Blocks) (file : FileId) (from : ℕ) (new : List ℕ) (last first n : ℕ) → EachKey blocks → EachKey (written blocks file from new last first n)
  keys_written blocks file from new last first zero h = h
  keys_written blocks file from new last first (suc n) h =
      let before = written blocks file from new last first n in
      written_by before file (first + n) from new (last + n + 1) (block_at before file (first + n)) (keys_written blocks file from new last first n h)

-- all blocks of one file are under its number
pub under_end : (ends : Ends) (file : FileId) (blocks : Blocks) → AreUnder ends blocks → AllByRecursion (IsUnder file (end_of ends file)) blocks
under_end ends file blocks h =
    each_weaken (λ (entry : BlockKey × Block). entry.0.block.0 < end_of ends entry.0.file) (IsUnder file (end_of ends file)) blocks (λ entry below is. subst (λ (f : FileId). entry.0.block.0 < end_of ends f) (sym (one_file file entry.0.file is)) below) h

-- and under 1,024
pub under_all : (file : FileId) (blocks : Blocks) → AllByRecursion IsReached blocks → AllByRecursion (IsUnder file file_blocks) blocks
unfolding file_blocks
under_all file blocks h = each_weaken IsReached (IsUnder file file_blocks) blocks (λ entry below is. below) h

raised_by : (ends : Ends) (file other : FileId) (end : ℕ) (b : Bool) → is_file file other ≡ b → end_of ends other ≤ end_of (raised ends file end) other
raised_by ends file other end true is =
    let more : end_of ends file ≤ max (end_of ends file) end = omega arith in
    let there : end_of (raised ends file end) file ≡ max (end_of ends file) end = ap or_zero (value_there ends file (max (end_of ends file) end)) in
    subst (λ (f : FileId). end_of ends f ≤ end_of (raised ends file end) f) (one_file file other is) (subst (λ (n : ℕ). end_of ends file ≤ n) (sym there) more)
raised_by ends file other end false is =
    let same : end_of (raised ends file end) other ≡ end_of ends other = ap or_zero (value_elsewhere ends file other (max (end_of ends file) end) is) in
    subst (λ (n : ℕ). end_of ends other ≤ n) (sym same) (omega arith)

-- blocks are under their files' numbers after one is raised
pub under_raised : (ends : Ends) (file : FileId) (end : ℕ) (blocks : Blocks) → AreUnder ends blocks → AreUnder (raised ends file end) blocks
under_raised ends file end blocks h =
    each_weaken (λ (entry : BlockKey × Block). entry.0.block.0 < end_of ends entry.0.file) (λ (entry : BlockKey × Block). entry.0.block.0 < end_of (raised ends file end) entry.0.file) blocks (λ entry below. omega (arith, below, raised_by ends file entry.0.file end (is_file file entry.0.file) refl)) h

-- and so is a block of that file under the number
pub new_under : (ends : Ends) (file : FileId) (number : ℕ) → number < end_of (raised ends file (number + 1)) file
new_under ends file number =
    let there : end_of (raised ends file (number + 1)) file ≡ max (end_of ends file) (number + 1) = ap or_zero (value_there ends file (max (end_of ends file) (number + 1))) in
    subst (λ (n : ℕ). number < n) (sym there) (omega arith)

absent_by : (entry : BlockKey × Block) (rest : Blocks) (file : FileId) (n m : ℕ) (b : Bool) → is_at file m entry.0 ≡ b → IsUnder file n entry → n ≤ m → block_at rest file m ≡ None → cond b (Some entry.1) (block_at rest file m) ≡ None
absent_by entry rest file n m true is under le h =
    let parts = and_parts (is_file file entry.0.file) (m == entry.0.block.0) is in
    let same = eqb-true m entry.0.block.0 parts.1 in
    absurd (omega (arith, under parts.0, same, le))
absent_by entry rest file n m false is under le h = h

-- no block past the number is held
pub absent_past : (blocks : Blocks) (file : FileId) (n m : ℕ) → AllByRecursion (IsUnder file n) blocks → n ≤ m → block_at blocks file m ≡ None
absent_past [] file n m h le = refl
absent_past (entry ∷ rest) file n m h le = absent_by entry rest file n m (is_at file m entry.0) refl h.0 le (absent_past rest file n m h.1 le)

-- a walk of k blocks more meets none
module _ (blocks : Blocks) (file : FileId) (n : ℕ) (under : AllByRecursion (IsUnder file n) blocks) where
  held_on : (k m : ℕ) → m ≡ n + k → held_under blocks file m ≡ held_under blocks file n
  held_on zero m is =
      let none : n + zero ≡ n = omega arith in
      ap (held_under blocks file) (is ∙ none)
  held_on (suc k) m is =
      let step : n + suc k ≡ suc (n + k) = omega arith in
      let none = absent_past blocks file n (n + k) under (omega arith) in
      let rest : held_under blocks file (suc (n + k)) ≡ held_under blocks file (n + k) ++ [] = ap (λ (o : Option Block). held_under blocks file (n + k) ++ cond (is_some o) (record { 0 = n + k } ∷ []) []) none in
      ap (held_under blocks file) (is ∙ step) ∙ rest ∙ append-nil (held_under blocks file (n + k)) ∙ held_on k (n + k) refl

  dirty_on : (k m : ℕ) → m ≡ n + k → dirty_under blocks file m ≡ dirty_under blocks file n
  dirty_on zero m is =
      let none : n + zero ≡ n = omega arith in
      ap (dirty_under blocks file) (is ∙ none)
  dirty_on (suc k) m is =
      let step : n + suc k ≡ suc (n + k) = omega arith in
      let none = absent_past blocks file n (n + k) under (omega arith) in
      let rest : dirty_under blocks file (suc (n + k)) ≡ dirty_under blocks file (n + k) ++ [] = ap (λ (o : Option Block). dirty_under blocks file (n + k) ++ cond (is_some (number_of o)) (record { 0 = n + k } ∷ []) []) none in
      ap (dirty_under blocks file) (is ∙ step) ∙ rest ∙ append-nil (dirty_under blocks file (n + k)) ∙ dirty_on k (n + k) refl

  cleaned_on : (k m : ℕ) → m ≡ n + k → cleaned_under blocks file m ≡ cleaned_under blocks file n
  cleaned_on zero m is =
      let none : n + zero ≡ n = omega arith in
      ap (cleaned_under blocks file) (is ∙ none)
  cleaned_on (suc k) m is =
      let step : n + suc k ≡ suc (n + k) = omega arith in
      let before = cleaned_under blocks file (n + k) in
      let still = keys_cleaned_under (λ (key : BlockKey). is_file file key.file ≡ true → key.block.0 < n) blocks file (n + k) under in
      let none = absent_past before file n (n + k) still (omega arith) in
      ap (cleaned_under blocks file) (is ∙ step) ∙ ap (cleaned_there before file (n + k)) none ∙ cleaned_on k (n + k) refl

-- a walk to any number that all of the file's blocks are under meets the same
module _ (blocks : Blocks) (file : FileId) (n m : ℕ) (under : AllByRecursion (IsUnder file n) blocks) (below : AllByRecursion (IsUnder file m) blocks) where
  pub held_same : held_under blocks file n ≡ held_under blocks file m
  held_same = sym (held_on blocks file n under m (n + m) refl) ∙ held_on blocks file m below n (n + m) (omega arith)

  pub dirty_same : dirty_under blocks file n ≡ dirty_under blocks file m
  dirty_same = sym (dirty_on blocks file n under m (n + m) refl) ∙ dirty_on blocks file m below n (n + m) (omega arith)

  pub cleaned_same : cleaned_under blocks file n ≡ cleaned_under blocks file m
  cleaned_same = sym (cleaned_on blocks file n under m (n + m) refl) ∙ cleaned_on blocks file m below n (n + m) (omega arith)
