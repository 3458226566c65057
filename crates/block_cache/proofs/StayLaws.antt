-- What stays at the calls, and what a read gives after a write.
use Rattle.std.proofs.Common.{◌≡◌, ℕ, zero, suc, ◌+◌, ◌-◌, ◌*◌, ◌/◌, ◌<◌, ◌≤◌, ◌==◌, nat_le, nat_lt, Bool, true, false, ◌&&◌, not, cond, List, [], ◌∷◌, length, Option, Some, None, is_some, option_map, refl, sym, ap, subst, ◌∙◌, arith}
use Rattle.std.specs.List.{AllByRecursion, IsDistinct}
use Rattle.std.specs.Option.{option_or}
use Rattle.std.specs.Map.{keys_of, remove_entry}
use Rattle.std.proofs.lemmas.List.{take_all}
use Rattle.std.proofs.lemmas.Bool.{lt-ltb, le-ltb, le-leb}
use Rattle.sprite_ids.specs.declared.FileId.{FileId}
use Rattle.sprite_ids.specs.declared.BlockNo.{BlockNo}
use Rattle.sprite_ids.specs.declared.Grant.{Grant}
use Rattle.sprite_ids.specs.declared.CallKind.{CallKind}
use Rattle.sprite_ids.specs.declared.CallKind.TheVariants.{Recall, Stop}
use Rattle.sprite_ids.proofs.ListLaws.{some_is}
use Rattle.block_cache.specs.declared.key.BlockKey.{BlockKey}
use Rattle.block_cache.specs.declared.block.Block.{Block}
use Rattle.block_cache.specs.declared.filled.Filled.{Filled}
use Rattle.block_cache.specs.declared.filled.Filled.TheVariants.{Filled as PutIn, Kept, Old, Full}
use Rattle.block_cache.specs.Files.{is_file, known, keeps}
use Rattle.block_cache.specs.Ranges.{file_blocks, first_block, block_count}
use Rattle.block_cache.specs.Blocks.{Blocks, AreOnce, is_at, is_key, is_held, block_at, number_of, missing_of, oldest, written, written_there, written_block, is_clean_outside}
use Rattle.block_cache.specs.Held.{Held, IsSound, is_newer, is_full, kept_blocks, after_newer, after_grant, after_callback, missing, fill_answer, clean_block, after_fill, read_of, after_write, without_one, oldest_clean, after_drop}
use Rattle.block_cache.specs.Laws.{block_of, is_touched}
use Rattle.block_cache.proofs.KeyLaws.{one_block, same_block, same_file}
use Rattle.block_cache.proofs.LookupLaws.{apart, at_key, removed_other, written_other, written_same, cleaned_elsewhere, without_elsewhere}
use Rattle.block_cache.proofs.WriteLaws.{read_written, parts_length, apart_number}

-- an older grant does nothing
pub older_grant : (held : Held) (grant : Grant) → grant.stamp ≤ (known held.files grant.file).stamp → after_grant held grant ≡ held
older_grant held grant h = ap (λ c. cond c (after_newer held grant (known held.files grant.file)) held) (le-ltb (known held.files grant.file).stamp grant.stamp h)

held_first : (blocks : Blocks) (file : FileId) (first n : ℕ) (b : Bool) → is_held blocks file first ≡ b → cond b (missing_of blocks file (first + 1) n) (Some (record { 0 = first })) ≡ None → (b ≡ true) × (missing_of blocks file (first + 1) n ≡ None)
held_first blocks file first n true e h = (refl, h)
held_first blocks file first n false e h = absurd (cc)

-- where nothing is missing, each block is held
all_held : (blocks : Blocks) (file : FileId) (first n : ℕ) → missing_of blocks file first n ≡ None → (m : ℕ) → m < n → is_held blocks file (first + m) ≡ true
all_held blocks file first zero h m under = absurd (omega (arith, under))
all_held blocks file first (suc n) h zero under =
    let here = held_first blocks file first n (is_held blocks file first) refl h in
    let same : first + 0 ≡ first = omega arith in
    ap (is_held blocks file) same ∙ here.0
all_held blocks file first (suc n) h (suc m) under =
    let here = held_first blocks file first n (is_held blocks file first) refl h in
    let same : first + suc m ≡ first + 1 + m = omega arith in
    ap (is_held blocks file) same ∙ all_held blocks file (first + 1) n here.1 m (omega (arith, under))

count_of : (from n : ℕ) → block_count from (suc n) ≡ (from + suc n - 1) / 4096 + 1 - from / 4096
count_of from n = ap (λ b. cond b 0 ((from + suc n - 1) / 4096 + 1 - from / 4096)) (apart_number (suc n) 0 (λ e. omega (arith, e)))

below : (from : ℕ) → 4096 * (from / 4096) ≤ from
below from = omega arith

above : (from : ℕ) → from ≤ 4096 * (from / 4096) + 4096
above from = omega arith

reaches : (from n : ℕ) → from + suc n ≤ 4096 * (from / 4096 + ((from + suc n - 1) / 4096 + 1 - from / 4096))
reaches from n = omega arith

-- what was written is read again
pub read_again : (held : Held) (file : FileId) (from : ℕ) (new : List ℕ) → IsSound held → missing held file from (length new) ≡ None → read_of (after_write held file from new) file from (length new) ≡ new
read_again held file from [] sound there = refl
read_again held file from (x ∷ xs) sound there =
    let new = x ∷ xs in
    let first = first_block from in
    let count = block_count from (length new) in
    let reached : length new ≤ 4096 * (first + count) - from = subst (λ (c : ℕ). length new ≤ 4096 * (first + c) - from) (sym (count_of from (length xs))) (omega (arith, reaches from (length xs))) in
    read_written held.files held.last held.blocks file from new held.last first count (below from) (above from) sound.kept (all_held held.blocks file first count there)
    ∙ take_all (4096 * (first + count) - from) new reached

read_long : (held : Held) (file : FileId) (from n : ℕ) → IsSound held → missing held file from (suc n) ≡ None → length (read_of held file from (suc n)) ≡ suc n
read_long held file from n sound there =
    let first = first_block from in
    let count = block_count from (suc n) in
    let reached : from + suc n ≤ 4096 * (first + count) = subst (λ (c : ℕ). from + suc n ≤ 4096 * (first + c)) (sym (count_of from n)) (reaches from n) in
    parts_length held.files held.last held.blocks file from (from + suc n) first count (omega arith) (below from) (above from) sound.kept (all_held held.blocks file first count there)
    ∙ omega (arith, reached)

-- a read gives as many bytes as were asked
pub read_whole : (held : Held) (file : FileId) (from many : ℕ) → IsSound held → missing held file from many ≡ None → length (read_of held file from many) ≡ many
read_whole held file from zero sound there = refl
read_whole held file from (suc n) sound there = read_long held file from n sound there

put_in_only : (a h f : Bool) → cond a Old (cond h Kept (cond f Full PutIn)) ≡ PutIn → h ≡ false
put_in_only true h f e = absurd (cc)
put_in_only false true f e = absurd (cc)
put_in_only false false f e = refl

put_by : (blocks : Blocks) (file : FileId) (block : BlockNo) (new kept : Block) (key : BlockKey) (b : Bool) → is_at key.file key.block.0 (record { file = file; block = block }) ≡ b → is_held blocks file block.0 ≡ false → block_at blocks key.file key.block.0 ≡ Some kept → cond b (Some new) (block_at blocks key.file key.block.0) ≡ Some kept
put_by blocks file block new kept key true is absent h =
    let there : block_at blocks file block.0 ≡ Some kept = sym (at_key key.file key.block.0 (record { file = file; block = block }) is blocks) ∙ h in
    absurd (cc)
put_by blocks file block new kept key false is absent h = h

filled_by : (held : Held) (file : FileId) (block : BlockNo) (bytes : List ℕ) (key : BlockKey) (kept : Block) (answer : Filled) → (answer ≡ PutIn → is_held held.blocks file block.0 ≡ false) → block_of held key ≡ Some kept → block_of (after_fill held file block bytes answer) key ≡ Some kept
filled_by held file block bytes key kept PutIn absent h =
    put_by held.blocks file block (clean_block bytes) kept key (is_at key.file key.block.0 (record { file = file; block = block })) refl (absent refl) h
filled_by held file block bytes key kept Kept absent h = h
filled_by held file block bytes key kept Old absent h = h
filled_by held file block bytes key kept Full absent h = h

-- a fill leaves what is held
pub filled_stays : (held : Held) (file : FileId) (stamp : ℕ) (block : BlockNo) (bytes : List ℕ) (key : BlockKey) (kept : Block) → block_of held key ≡ Some kept → block_of (after_fill held file block bytes (fill_answer held file stamp block.0)) key ≡ Some kept
filled_stays held file stamp block bytes key kept h =
    filled_by held file block bytes key kept (fill_answer held file stamp block.0) (put_in_only (not ((known held.files file).stamp == stamp)) (is_held held.blocks file block.0) (is_full held)) h

none_there : (key : BlockKey) (rest : Blocks) → AllByRecursion (λ other. is_key key other ≡ false) (keys_of rest) → block_at rest key.file key.block.0 ≡ None
none_there key [] h = refl
none_there key (entry ∷ rest) h = ap (λ b. cond b (Some entry.1) (block_at rest key.file key.block.0)) h.0 ∙ none_there key rest h.1

not_first_by : (key : BlockKey) (entry : BlockKey × Block) (rest : Blocks) (block : Block) (b : Bool) → is_at key.file key.block.0 entry.0 ≡ b → AllByRecursion (λ other. is_key entry.0 other ≡ false) (keys_of rest) → block_at rest key.file key.block.0 ≡ Some block → cond b (Some entry.1) (block_at rest key.file key.block.0) ≡ Some block
not_first_by key entry rest block true is others h =
    let none = at_key key.file key.block.0 entry.0 is rest ∙ none_there entry.0 rest others in
    absurd (cc)
not_first_by key entry rest block false is others h = h

module _ (test : BlockKey × Block → Bool) where
  first_by : (entry found : BlockKey × Block) (rest : Blocks) (b : Bool) → test entry ≡ b → cond b (Some entry) None ≡ Some found → (test found ≡ true) × (block_at (entry ∷ rest) found.0.file found.0.block.0 ≡ Some found.1)
  first_by entry found rest true t e =
      let same = some_is entry found e in
      let at : block_at (entry ∷ rest) entry.0.file entry.0.block.0 ≡ Some entry.1 = ap (λ b. cond b (Some entry.1) (block_at rest entry.0.file entry.0.block.0)) (same_block entry.0) in
      subst (λ (x : BlockKey × Block). (test x ≡ true) × (block_at (entry ∷ rest) x.0.file x.0.block.0 ≡ Some x.1)) same (t, at)
  first_by entry found rest false t e = absurd (cc)

  later_by : (entry found : BlockKey × Block) (rest : Blocks) (o : Option (BlockKey × Block)) → AllByRecursion (λ other. is_key entry.0 other ≡ false) (keys_of rest) → (o ≡ Some found → (test found ≡ true) × (block_at rest found.0.file found.0.block.0 ≡ Some found.1)) → option_or o (cond (test entry) (Some entry) None) ≡ Some found → (test found ≡ true) × (block_at (entry ∷ rest) found.0.file found.0.block.0 ≡ Some found.1)
  later_by entry found rest None others h e = first_by entry found rest (test entry) refl e
  later_by entry found rest (Some x) others h e =
      let known = h e in
      (known.0, not_first_by found.0 entry rest found.1 (is_at found.0.file found.0.block.0 entry.0) refl others known.1)

  -- the oldest passes, and is what a look-up finds
  oldest_known : (blocks : Blocks) (found : BlockKey × Block) → AreOnce blocks → oldest test blocks ≡ Some found → (test found ≡ true) × (block_at blocks found.0.file found.0.block.0 ≡ Some found.1)
  unfolding IsDistinct
  oldest_known [] found once e = absurd (cc)
  oldest_known (entry ∷ rest) found once e =
      later_by entry found rest (oldest test rest) once.0 (λ later. oldest_known rest found once.1 later) e

is_clean : (dirty : Option ℕ) (b : Bool) → (not (is_some dirty) && b) ≡ true → is_some dirty ≡ true → ⊥
is_clean None b h d = absurd (cc)
is_clean (Some number) b h d = absurd (cc)

dropped_at : (blocks : Blocks) (entry : BlockKey × Block) (key : BlockKey) (kept : Block) (b : Bool) → is_at entry.0.file entry.0.block.0 key ≡ b → (is_some entry.1.dirty ≡ true → ⊥) → block_at blocks entry.0.file entry.0.block.0 ≡ Some entry.1 → block_at blocks key.file key.block.0 ≡ Some kept → is_some kept.dirty ≡ true → block_at (remove_entry (is_at entry.0.file entry.0.block.0) blocks) key.file key.block.0 ≡ Some kept
dropped_at blocks entry key kept true is clean there h dirty =
    let same = some_is entry.1 kept (sym there ∙ at_key entry.0.file entry.0.block.0 key is blocks ∙ h) in
    absurd (clean (ap (λ (block : Block). is_some block.dirty) same ∙ dirty))
dropped_at blocks entry key kept false is clean there h dirty =
    removed_other (is_at entry.0.file entry.0.block.0) (is_at key.file key.block.0) (apart entry.0.file entry.0.block.0 key is) blocks ∙ h

dropped_by : (held : Held) (file : FileId) (first last : BlockNo) (key : BlockKey) (kept : Block) (o : Option (BlockKey × Block)) → oldest_clean held file first last ≡ o → AreOnce held.blocks → block_of held key ≡ Some kept → is_some kept.dirty ≡ true → block_at (without_one held.blocks o) key.file key.block.0 ≡ Some kept
dropped_by held file first last key kept None is once h dirty = h
dropped_by held file first last key kept (Some entry) is once h dirty =
    let found = oldest_known (is_clean_outside file first last) held.blocks entry once is in
    dropped_at held.blocks entry key kept (is_at entry.0.file entry.0.block.0 key) refl (is_clean entry.1.dirty _ found.0) found.1 h dirty

-- a dirty block isn't dropped for room
pub dropped_stays : (held : Held) (file : FileId) (first last : BlockNo) (key : BlockKey) (kept : Block) → AreOnce held.blocks → block_of held key ≡ Some kept → is_some kept.dirty ≡ true → block_of (after_drop held file first last) key ≡ Some kept
dropped_stays held file first last key kept once h dirty = dropped_by held file first last key kept (oldest_clean held file first last) refl once h dirty

granted_by : (held : Held) (grant : Grant) (key : BlockKey) (b : Bool) → block_at (kept_blocks (keeps (known held.files grant.file) grant) held.blocks grant.file) key.file key.block.0 ≡ block_of held key → block_of (cond b (after_newer held grant (known held.files grant.file)) held) key ≡ block_of held key
granted_by held grant key true h = h
granted_by held grant key false h = refl

-- a grant that lets the blocks stay leaves them
pub granted_stays : (held : Held) (grant : Grant) (key : BlockKey) → keeps (known held.files grant.file) grant ≡ true → block_of (after_grant held grant) key ≡ block_of held key
granted_stays held grant key h =
    granted_by held grant key (is_newer held grant) (ap (λ b. block_at (kept_blocks b held.blocks grant.file) key.file key.block.0) h)

dropped_elsewhere : (blocks : Blocks) (file : FileId) (key : BlockKey) (b : Bool) → is_file file key.file ≡ false → block_at (kept_blocks b blocks file) key.file key.block.0 ≡ block_at blocks key.file key.block.0
dropped_elsewhere blocks file key true away = refl
dropped_elsewhere blocks file key false away = without_elsewhere blocks file key away

pub granted_elsewhere : (held : Held) (grant : Grant) (key : BlockKey) → is_file grant.file key.file ≡ false → block_of (after_grant held grant) key ≡ block_of held key
granted_elsewhere held grant key away =
    granted_by held grant key (is_newer held grant) (dropped_elsewhere held.blocks grant.file key (keeps (known held.files grant.file) grant) away)

pub called_elsewhere : (held : Held) (file : FileId) (stamp : ℕ) (kind : CallKind) (key : BlockKey) → is_file file key.file ≡ false → block_of (after_callback held file stamp kind) key ≡ block_of held key
called_elsewhere held file stamp Recall key away = cleaned_elsewhere held.blocks file file_blocks key away
called_elsewhere held file stamp Stop key away = without_elsewhere held.blocks file key away

dirty_written : (o : Option Block) (number from : ℕ) (new : List ℕ) (dirty : ℕ) → is_some (number_of o) ≡ true → is_some (number_of (option_map (λ block. written_block block number from new dirty) o)) ≡ true
dirty_written None number from new dirty h = h
dirty_written (Some block) number from new dirty h = refl

dirty_step : (blocks : Blocks) (file : FileId) (number from : ℕ) (new : List ℕ) (dirty : ℕ) (key : BlockKey) (b : Bool) → is_at file number key ≡ b → is_some (number_of (block_at blocks key.file key.block.0)) ≡ true → is_some (number_of (block_at (written_there blocks file number from new dirty (block_at blocks file number)) key.file key.block.0)) ≡ true
dirty_step blocks file number from new dirty key true is h =
    let there = sym (at_key file number key is (written_there blocks file number from new dirty (block_at blocks file number))) ∙ written_same blocks file number from new dirty in
    ap (λ (o : Option Block). is_some (number_of o)) there
    ∙ dirty_written (block_at blocks file number) number from new dirty (ap (λ (o : Option Block). is_some (number_of o)) (at_key file number key is blocks) ∙ h)
dirty_step blocks file number from new dirty key false is h =
    ap (λ (o : Option Block). is_some (number_of o)) (written_other blocks file number from new dirty key is) ∙ h

dirty_after : (blocks : Blocks) (file : FileId) (from : ℕ) (new : List ℕ) (last first n : ℕ) (key : BlockKey) → is_some (number_of (block_at blocks key.file key.block.0)) ≡ true → is_some (number_of (block_at (written blocks file from new last first n) key.file key.block.0)) ≡ true
dirty_after blocks file from new last first zero key h = h
dirty_after blocks file from new last first (suc n) key h =
    dirty_step (written blocks file from new last first n) file (first + n) from new (last + n + 1) key (is_at file (first + n) key) refl (dirty_after blocks file from new last first n key h)

-- a dirty block stays dirty at a write
pub written_stays : (held : Held) (file : FileId) (from : ℕ) (new : List ℕ) (key : BlockKey) → is_some (number_of (block_of held key)) ≡ true → is_some (number_of (block_of (after_write held file from new) key)) ≡ true
written_stays held file from [] key h = h
written_stays held file from (x ∷ xs) key h =
    dirty_after held.blocks file from (x ∷ xs) held.last (first_block from) (block_count from (length (x ∷ xs))) key h

touched_by : (file : FileId) (from many m : ℕ) (key : BlockKey) (b : Bool) → is_at file (first_block from + m) key ≡ b → m < block_count from many → is_touched file from many key ≡ false → b ≡ false
touched_by file from many m key true is under away =
    let one = one_block file (first_block from + m) key is in
    let here : is_file file key.file ≡ true = ap (λ (f : FileId). is_file file f) (sym one.0) ∙ same_file file in
    let low : nat_le (first_block from) key.block.0 ≡ true = le-leb (first_block from) key.block.0 (omega (arith, one.1)) in
    let high : nat_lt key.block.0 (first_block from + block_count from many) ≡ true = lt-ltb key.block.0 (first_block from + block_count from many) (omega (arith, one.1, under)) in
    let touched : is_touched file from many key ≡ true = rw (here, low, high) refl in
    sym touched ∙ away
touched_by file from many m key false is under away = refl

untouched : (blocks : Blocks) (file : FileId) (from many : ℕ) (new : List ℕ) (last n : ℕ) (key : BlockKey) → n ≤ block_count from many → is_touched file from many key ≡ false → block_at (written blocks file from new last (first_block from) n) key.file key.block.0 ≡ block_at blocks key.file key.block.0
untouched blocks file from many new last zero key h away = refl
untouched blocks file from many new last (suc n) key h away =
    written_other (written blocks file from new last (first_block from) n) file (first_block from + n) from new (last + n + 1) key (touched_by file from many n key (is_at file (first_block from + n) key) refl (omega (arith, h)) away)
    ∙ untouched blocks file from many new last n key (omega (arith, h)) away

-- a write leaves what it doesn't touch
pub written_elsewhere : (held : Held) (file : FileId) (from : ℕ) (new : List ℕ) (key : BlockKey) → is_touched file from (length new) key ≡ false → block_of (after_write held file from new) key ≡ block_of held key
written_elsewhere held file from [] key away = refl
written_elsewhere held file from (x ∷ xs) key away =
    untouched held.blocks file from (length (x ∷ xs)) (x ∷ xs) held.last (block_count from (length (x ∷ xs))) key (omega arith) away
