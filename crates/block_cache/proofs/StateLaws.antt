-- What is known of files after one of them has another state.
use Rattle.std.proofs.Common.{◌≡◌, Bool, true, false, cond, List, [], ◌∷◌, Some, None, refl, sym, ap, ◌∙◌}
use Rattle.std.specs.Map.{lookup}
use Rattle.indexmap.specs.IndexMap.{insert_entry}
use Rattle.sprite_ids.specs.declared.FileId.{FileId}
use Rattle.block_cache.specs.declared.file_state.FileState.{FileState}
use Rattle.block_cache.specs.Files.{Files, is_file, state_of, known, or_new, with_state}
use Rattle.block_cache.proofs.KeyLaws.{one_file, same_file}

-- a file that isn't the one is found past it
apart_by : (file other middle : FileId) (b : Bool) → is_file other middle ≡ b → is_file file other ≡ false → is_file file middle ≡ true → b ≡ false
apart_by file other middle true e away is =
    let found : is_file file other ≡ true = ap (is_file file) (one_file other middle e) ∙ is in
    sym found ∙ away
apart_by file other middle false e away is = refl

from_turned : (file other : FileId) (b : Bool) → is_file other file ≡ b → is_file file other ≡ false → b ≡ false
from_turned file other true e away =
    let found : is_file file other ≡ true = ap (is_file file) (one_file other file e) ∙ same_file file in
    sym found ∙ away
from_turned file other false e away = refl

module _ {V : Type 0} where
  put_head : (entry : FileId × V) (rest : List (FileId × V)) (file : FileId) (value : V) (b : Bool) → is_file file entry.0 ≡ b → lookup (is_file file) (insert_entry is_file rest file value) ≡ Some value → lookup (is_file file) (insert_entry is_file (entry ∷ rest) file value) ≡ Some value
  put_head entry rest file value true e h =
      ap (λ b. lookup (is_file file) (cond b ((entry.0, value) ∷ rest) (entry ∷ insert_entry is_file rest file value))) e
      ∙ ap (λ b. cond b (Some value) (lookup (is_file file) rest)) e
  put_head entry rest file value false e h =
      ap (λ b. lookup (is_file file) (cond b ((entry.0, value) ∷ rest) (entry ∷ insert_entry is_file rest file value))) e
      ∙ ap (λ b. cond b (Some entry.1) (lookup (is_file file) (insert_entry is_file rest file value))) e
      ∙ h

  -- the file has the value that was put
  pub value_there : (files : List (FileId × V)) (file : FileId) (value : V) → lookup (is_file file) (insert_entry is_file files file value) ≡ Some value
  value_there [] file value = ap (λ b. cond b (Some value) None) (same_file file)
  value_there (entry ∷ rest) file value = put_head entry rest file value (is_file file entry.0) refl (value_there rest file value)

  past : (entry : FileId × V) (rest : List (FileId × V)) (other : FileId) → is_file other entry.0 ≡ false → lookup (is_file other) (entry ∷ rest) ≡ lookup (is_file other) rest
  past entry rest other e = ap (λ b. cond b (Some entry.1) (lookup (is_file other) rest)) e

  other_head : (entry : FileId × V) (rest : List (FileId × V)) (file other : FileId) (value : V) (b : Bool) → is_file file entry.0 ≡ b → is_file file other ≡ false → lookup (is_file other) (insert_entry is_file rest file value) ≡ lookup (is_file other) rest → lookup (is_file other) (insert_entry is_file (entry ∷ rest) file value) ≡ lookup (is_file other) (entry ∷ rest)
  other_head entry rest file other value true e away h =
      let apart = apart_by file other entry.0 (is_file other entry.0) refl away e in
      ap (λ b. lookup (is_file other) (cond b ((entry.0, value) ∷ rest) (entry ∷ insert_entry is_file rest file value))) e
      ∙ past (entry.0, value) rest other apart
      ∙ sym (past entry rest other apart)
  other_head entry rest file other value false e away h =
      ap (λ b. lookup (is_file other) (cond b ((entry.0, value) ∷ rest) (entry ∷ insert_entry is_file rest file value))) e
      ∙ ap (cond (is_file other entry.0) (Some entry.1)) h

  -- every other file has what it had
  pub value_elsewhere : (files : List (FileId × V)) (file other : FileId) (value : V) → is_file file other ≡ false → lookup (is_file other) (insert_entry is_file files file value) ≡ lookup (is_file other) files
  value_elsewhere [] file other value away = ap (λ b. cond b (Some value) None) (from_turned file other (is_file other file) refl away)
  value_elsewhere (entry ∷ rest) file other value away =
      other_head entry rest file other value (is_file file entry.0) refl away (value_elsewhere rest file other value away)

-- and so with states
pub state_there : (files : Files) (file : FileId) (state : FileState) → state_of (with_state files file state) file ≡ Some state
state_there files file state = value_there files file state

pub state_elsewhere : (files : Files) (file other : FileId) (state : FileState) → is_file file other ≡ false → state_of (with_state files file state) other ≡ state_of files other
state_elsewhere files file other state away = value_elsewhere files file other state away

pub known_there : (files : Files) (file : FileId) (state : FileState) → known (with_state files file state) file ≡ state
known_there files file state = ap or_new (state_there files file state)

pub known_elsewhere : (files : Files) (file other : FileId) (state : FileState) → is_file file other ≡ false → known (with_state files file state) other ≡ known files other
known_elsewhere files file other state away = ap or_new (state_elsewhere files file other state away)

on_by : (files : Files) (file other : FileId) (state : FileState) (b : Bool) → is_file file other ≡ b → ((known files file).on ≡ true → state.on ≡ true) → (known files other).on ≡ true → (known (with_state files file state) other).on ≡ true
on_by files file other state true e stays on =
    let same = one_file file other e in
    let was : (known files file).on ≡ true = ap (λ (f : FileId). (known files f).on) same ∙ on in
    sym (ap (λ (f : FileId). (known (with_state files file state) f).on) same) ∙ ap (λ (s : FileState). s.on) (known_there files file state) ∙ stays was
on_by files file other state false e stays on =
    ap (λ (s : FileState). s.on) (known_elsewhere files file other state e) ∙ on

-- a file that is cached is so still, where the one that changed is so still if it was
pub stays_on : (files : Files) (file other : FileId) (state : FileState) → ((known files file).on ≡ true → state.on ≡ true) → (known files other).on ≡ true → (known (with_state files file state) other).on ≡ true
stays_on files file other state stays on = on_by files file other state (is_file file other) refl stays on
