-- What is looked up after an edit of the blocks.
use Rattle.std.proofs.Common.{◌≡◌, ℕ, zero, suc, ◌+◌, ◌==◌, Bool, true, false, ◌&&◌, not, cond, List, [], ◌∷◌, Option, Some, None, is_some, option_map, refl, sym, ap, ◌∙◌}
use Rattle.std.specs.Option.{option_map_or}
use Rattle.std.specs.Map.{lookup, lookup_entry, remove_entry, set_value}
use Rattle.lru.specs.LruCache.{promoted}
use Rattle.sprite_ids.specs.declared.FileId.{FileId}
use Rattle.sprite_ids.proofs.ListLaws.{some_is}
use Rattle.block_cache.specs.declared.key.BlockKey.{BlockKey}
use Rattle.block_cache.specs.declared.block.Block.{Block}
use Rattle.block_cache.specs.Files.{is_file}
use Rattle.block_cache.specs.Blocks.{Blocks, is_at, block_at, without, cleaned, cleaned_there, cleaned_under, used, written_there, written_block}
use Rattle.block_cache.proofs.KeyLaws.{one_file, one_block}

module _ {K V : Type 0} (test : K → Bool) where
  entry_value : (e found : K × V) (es : List (K × V)) (b : Bool) → test e.0 ≡ b → (lookup_entry test es ≡ Some found → (lookup test es ≡ Some found.1) × (test found.0 ≡ true)) → cond b (Some e) (lookup_entry test es) ≡ Some found → (cond b (Some e.1) (lookup test es) ≡ Some found.1) × (test found.0 ≡ true)
  entry_value e found es true t h is =
      let same = some_is e found is in
      (ap (λ (p : K × V). Some p.1) same, sym (ap (λ (p : K × V). test p.0) same) ∙ t)
  entry_value e found es false t h is = h is

  -- the entry that is found has the value that is found, and passes
  pub found_value : (es : List (K × V)) (found : K × V) → lookup_entry test es ≡ Some found → (lookup test es ≡ Some found.1) × (test found.0 ≡ true)
  found_value [] found is = cc
  found_value (e ∷ es) found is = entry_value e found es (test e.0) refl (λ later. found_value es found later) is

  front_by : (es : List (K × V)) (o : Option (K × V)) → lookup_entry test es ≡ o → lookup test (option_map_or (λ e. e ∷ remove_entry test es) o es) ≡ lookup test es
  front_by es None is = refl
  front_by es (Some e) is =
      let known = found_value es e is in
      ap (λ b. cond b (Some e.1) (lookup test (remove_entry test es))) known.1 ∙ sym known.0

  -- the value that was moved to the front
  pub promoted_same : (es : List (K × V)) → lookup test (promoted test es) ≡ lookup test es
  promoted_same es = front_by es (lookup_entry test es) refl

  put_by : (e : K × V) (es : List (K × V)) (w : V) (b : Bool) → test e.0 ≡ b → (is_some (lookup test es) ≡ true → lookup test (set_value test es w) ≡ Some w) → is_some (cond b (Some e.1) (lookup test es)) ≡ true → lookup test (cond b ((e.0, w) ∷ es) (e ∷ set_value test es w)) ≡ Some w
  put_by e es w true t h is = ap (λ b. cond b (Some w) (lookup test es)) t
  put_by e es w false t h is = ap (λ b. cond b (Some e.1) (lookup test (set_value test es w))) t ∙ h is

  -- the value that was put
  pub set_same : (es : List (K × V)) (w : V) → is_some (lookup test es) ≡ true → lookup test (set_value test es w) ≡ Some w
  set_same [] w is = absurd (cc)
  set_same (e ∷ es) w is = put_by e es w (test e.0) refl (λ later. set_same es w later) is

  module _ (other : K → Bool) (apart : (k : K) → test k ≡ true → other k ≡ false) where
    past : (e : K × V) (es : List (K × V)) → other e.0 ≡ false → lookup other (e ∷ es) ≡ lookup other es
    past e es away = ap (λ b. cond b (Some e.1) (lookup other es)) away

    removed_by : (e : K × V) (es : List (K × V)) (b : Bool) → test e.0 ≡ b → lookup other (remove_entry test es) ≡ lookup other es → lookup other (cond b es (e ∷ remove_entry test es)) ≡ lookup other (e ∷ es)
    removed_by e es true t h = sym (past e es (apart e.0 t))
    removed_by e es false t h = ap (cond (other e.0) (Some e.1)) h

    -- another value, after one is left out
    pub removed_other : (es : List (K × V)) → lookup other (remove_entry test es) ≡ lookup other es
    removed_other [] = refl
    removed_other (e ∷ es) = removed_by e es (test e.0) refl (removed_other es)

    set_by : (e : K × V) (es : List (K × V)) (w : V) (b : Bool) → test e.0 ≡ b → lookup other (set_value test es w) ≡ lookup other es → lookup other (cond b ((e.0, w) ∷ es) (e ∷ set_value test es w)) ≡ lookup other (e ∷ es)
    set_by e es w true t h = past (e.0, w) es (apart e.0 t) ∙ sym (past e es (apart e.0 t))
    set_by e es w false t h = ap (cond (other e.0) (Some e.1)) h

    -- after one is put
    pub set_other : (es : List (K × V)) (w : V) → lookup other (set_value test es w) ≡ lookup other es
    set_other [] w = refl
    set_other (e ∷ es) w = set_by e es w (test e.0) refl (set_other es w)

    moved_by : (es : List (K × V)) (o : Option (K × V)) → lookup_entry test es ≡ o → lookup other (option_map_or (λ e. e ∷ remove_entry test es) o es) ≡ lookup other es
    moved_by es None is = refl
    moved_by es (Some e) is = past e (remove_entry test es) (apart e.0 (found_value es e is).1) ∙ removed_other es

    -- after one is moved to the front
    pub promoted_other : (es : List (K × V)) → lookup other (promoted test es) ≡ lookup other es
    promoted_other es = moved_by es (lookup_entry test es) refl

-- a test of blocks that finds no block of that key
apart_by : (file : FileId) (number : ℕ) (key middle : BlockKey) (b : Bool) → is_at key.file key.block.0 middle ≡ b → is_at file number key ≡ false → is_at file number middle ≡ true → b ≡ false
apart_by file number key middle true e away is =
    let one = one_block key.file key.block.0 middle e in
    let found : is_at file number key ≡ true = ap (λ (f : FileId). is_file file f && (number == key.block.0)) one.0 ∙ ap (λ (n : ℕ). is_file file middle.file && (number == n)) one.1 ∙ is in
    sym found ∙ away
apart_by file number key middle false e away is = refl

pub apart : (file : FileId) (number : ℕ) (key : BlockKey) → is_at file number key ≡ false → (middle : BlockKey) → is_at file number middle ≡ true → is_at key.file key.block.0 middle ≡ false
apart file number key away middle is = apart_by file number key middle (is_at key.file key.block.0 middle) refl away is

-- where it is that block, a look-up is one of that block
pub at_key : (file : FileId) (number : ℕ) (key : BlockKey) → is_at file number key ≡ true → (blocks : Blocks) → block_at blocks file number ≡ block_at blocks key.file key.block.0
at_key file number key is blocks =
    let one = one_block file number key is in
    ap (λ (f : FileId). block_at blocks f number) one.0 ∙ ap (λ (n : ℕ). block_at blocks key.file n) one.1

used_by : (blocks : Blocks) (file : FileId) (number : ℕ) (key : BlockKey) (b : Bool) → is_at file number key ≡ b → block_at (promoted (is_at file number) blocks) key.file key.block.0 ≡ block_at blocks key.file key.block.0
used_by blocks file number key true is =
    sym (at_key file number key is (promoted (is_at file number) blocks)) ∙ promoted_same (is_at file number) blocks ∙ at_key file number key is blocks
used_by blocks file number key false away =
    promoted_other (is_at file number) (is_at key.file key.block.0) (apart file number key away) blocks

-- a use changes no block
pub used_at : (blocks : Blocks) (file : FileId) (first n : ℕ) (key : BlockKey) → block_at (used blocks file first n) key.file key.block.0 ≡ block_at blocks key.file key.block.0
used_at blocks file first zero key = refl
used_at blocks file first (suc n) key =
    used_by (used blocks file first n) file (first + n) key (is_at file (first + n) key) refl ∙ used_at blocks file first n key

cleaned_other_by : (blocks : Blocks) (file : FileId) (number : ℕ) (key : BlockKey) (o : Option Block) → is_at file number key ≡ false → block_at (cleaned_there blocks file number o) key.file key.block.0 ≡ block_at blocks key.file key.block.0
cleaned_other_by blocks file number key None away = refl
cleaned_other_by blocks file number key (Some block) away =
    set_other (is_at file number) (is_at key.file key.block.0) (apart file number key away) blocks (record block { dirty = None })

-- a block made clean leaves every other
pub cleaned_other : (blocks : Blocks) (file : FileId) (number : ℕ) (key : BlockKey) → is_at file number key ≡ false → block_at (cleaned blocks file number) key.file key.block.0 ≡ block_at blocks key.file key.block.0
cleaned_other blocks file number key away = cleaned_other_by blocks file number key (block_at blocks file number) away

not_at : (file : FileId) (number : ℕ) (key : BlockKey) → is_file file key.file ≡ false → is_at file number key ≡ false
not_at file number key away = ap (λ b. b && (number == key.block.0)) away

pub cleaned_elsewhere : (blocks : Blocks) (file : FileId) (n : ℕ) (key : BlockKey) → is_file file key.file ≡ false → block_at (cleaned_under blocks file n) key.file key.block.0 ≡ block_at blocks key.file key.block.0
cleaned_elsewhere blocks file zero key away = refl
cleaned_elsewhere blocks file (suc n) key away =
    cleaned_other (cleaned_under blocks file n) file n key (not_at file n key away) ∙ cleaned_elsewhere blocks file n key away

other_file_by : (file other middle : FileId) (b : Bool) → is_file other middle ≡ b → is_file file other ≡ false → is_file file middle ≡ true → b ≡ false
other_file_by file other middle true e away is =
    let found : is_file file other ≡ true = ap (is_file file) (one_file other middle e) ∙ is in
    sym found ∙ away
other_file_by file other middle false e away is = refl

without_by : (entry : BlockKey × Block) (rest : Blocks) (file : FileId) (key : BlockKey) (b : Bool) → is_file file entry.0.file ≡ b → is_file file key.file ≡ false → block_at (without rest file) key.file key.block.0 ≡ block_at rest key.file key.block.0 → block_at (cond (not b) (entry ∷ without rest file) (without rest file)) key.file key.block.0 ≡ block_at (entry ∷ rest) key.file key.block.0
without_by entry rest file key true is away h =
    let passed = not_at key.file key.block.0 entry.0 (other_file_by file key.file entry.0.file (is_file key.file entry.0.file) refl away is) in
    h ∙ sym (ap (λ b. cond b (Some entry.1) (block_at rest key.file key.block.0)) passed)
without_by entry rest file key false is away h = ap (cond (is_at key.file key.block.0 entry.0) (Some entry.1)) h

-- the blocks of a file dropped leave those of every other
pub without_elsewhere : (blocks : Blocks) (file : FileId) (key : BlockKey) → is_file file key.file ≡ false → block_at (without blocks file) key.file key.block.0 ≡ block_at blocks key.file key.block.0
without_elsewhere [] file key away = refl
without_elsewhere (entry ∷ rest) file key away =
    without_by entry rest file key (is_file file entry.0.file) refl away (without_elsewhere rest file key away)

written_other_by : (blocks : Blocks) (file : FileId) (number from : ℕ) (new : List ℕ) (dirty : ℕ) (key : BlockKey) (o : Option Block) → is_at file number key ≡ false → block_at (written_there blocks file number from new dirty o) key.file key.block.0 ≡ block_at blocks key.file key.block.0
written_other_by blocks file number from new dirty key None away = refl
written_other_by blocks file number from new dirty key (Some block) away =
    set_other (is_at file number) (is_at key.file key.block.0) (apart file number key away) (promoted (is_at file number) blocks) (written_block block number from new dirty)
    ∙ promoted_other (is_at file number) (is_at key.file key.block.0) (apart file number key away) blocks

-- a block written leaves every other
pub written_other : (blocks : Blocks) (file : FileId) (number from : ℕ) (new : List ℕ) (dirty : ℕ) (key : BlockKey) → is_at file number key ≡ false → block_at (written_there blocks file number from new dirty (block_at blocks file number)) key.file key.block.0 ≡ block_at blocks key.file key.block.0
written_other blocks file number from new dirty key away = written_other_by blocks file number from new dirty key (block_at blocks file number) away

written_same_by : (blocks : Blocks) (file : FileId) (number from : ℕ) (new : List ℕ) (dirty : ℕ) (o : Option Block) → block_at blocks file number ≡ o → block_at (written_there blocks file number from new dirty o) file number ≡ option_map (λ block. written_block block number from new dirty) o
written_same_by blocks file number from new dirty None is = is
written_same_by blocks file number from new dirty (Some block) is =
    set_same (is_at file number) (promoted (is_at file number) blocks) (written_block block number from new dirty) (ap is_some (promoted_same (is_at file number) blocks ∙ is))

-- and is written
pub written_same : (blocks : Blocks) (file : FileId) (number from : ℕ) (new : List ℕ) (dirty : ℕ) → block_at (written_there blocks file number from new dirty (block_at blocks file number)) file number ≡ option_map (λ block. written_block block number from new dirty) (block_at blocks file number)
written_same blocks file number from new dirty = written_same_by blocks file number from new dirty (block_at blocks file number) refl
