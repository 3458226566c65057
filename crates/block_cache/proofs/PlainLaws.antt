-- Blocks with the numbers of their last uses, and without them.
use Rattle.std.proofs.Common.{◌≡◌, ℕ, suc, Bool, true, false, cond, List, [], ◌∷◌, ◌++◌, length, Option, Some, None, option_map, is_some, refl, sym, ap, ◌∙◌}
use Rattle.std.specs.Option.{option_map_or}
use Rattle.std.specs.Map.{keys_of, lookup, lookup_entry, remove_entry, set_value}
use Rattle.lru.specs.LruCache.{promoted}
use Rattle.sprite_ids.specs.declared.FileId.{FileId}
use Rattle.sprite_ids.proofs.ListLaws.{some_is}
use Rattle.block_cache.specs.declared.key.BlockKey.{BlockKey}
use Rattle.block_cache.specs.declared.block.Block.{Block}
use Rattle.block_cache.specs.declared.kept.Kept.{Kept}
use Rattle.block_cache.specs.Blocks.{is_at, block_at, cleaned, cleaned_there, written_there, written_block}
use Rattle.block_cache.specs.Ages.{Rows, plain_of, plain, used_there, soiled_there, cleaned_row}
use Rattle.block_cache.proofs.HeldLaws.{absent_entry}
use Rattle.block_cache.proofs.LookupLaws.{promoted_same}

abbrev pub block_of : Kept → Block
block_of kept = kept.block

pub plain_append : (xs ys : Rows) → plain (xs ++ ys) ≡ plain xs ++ plain ys
plain_append [] ys = refl
plain_append (x ∷ xs) ys = ap (λ es. plain_of x ∷ es) (plain_append xs ys)

pub keys_plain : (rows : Rows) → keys_of (plain rows) ≡ keys_of rows
keys_plain [] = refl
keys_plain (row ∷ rest) = ap (λ keys. row.0 ∷ keys) (keys_plain rest)

pub length_plain : (rows : Rows) → length (plain rows) ≡ length rows
length_plain [] = refl
length_plain (row ∷ rest) = ap suc (length_plain rest)

-- a value that is put in its own place
module _ {K V : Type 0} (test : K → Bool) where
  unchanged_by : (e : K × V) (es : List (K × V)) (v : V) (b : Bool) → (lookup test es ≡ Some v → set_value test es v ≡ es) → cond b (Some e.1) (lookup test es) ≡ Some v → cond b ((e.0, v) ∷ es) (e ∷ set_value test es v) ≡ e ∷ es
  unchanged_by e es v true h is = ap (λ w. (e.0, w) ∷ es) (sym (some_is e.1 v is))
  unchanged_by e es v false h is = ap (λ xs. e ∷ xs) (h is)

  pub unchanged : (es : List (K × V)) (v : V) → lookup test es ≡ Some v → set_value test es v ≡ es
  unchanged [] v is = refl
  unchanged (e ∷ es) v is = unchanged_by e es v (test e.0) (unchanged es v) is

  absent_by : (es : List (K × V)) → lookup_entry test es ≡ None → promoted test es ≡ es
  absent_by es none = ap (λ o. option_map_or (λ e. e ∷ remove_entry test es) o es) none

  -- a use of what isn't there
  pub unused : (es : List (K × V)) → lookup test es ≡ None → promoted test es ≡ es
  unused es none = absent_by es (absent_entry test es (ap is_some none))

  removed_none_by : (e : K × V) (es : List (K × V)) (b : Bool) → (lookup test es ≡ None → remove_entry test es ≡ es) → cond b (Some e.1) (lookup test es) ≡ None → cond b es (e ∷ remove_entry test es) ≡ e ∷ es
  removed_none_by e es true h none = absurd (cc)
  removed_none_by e es false h none = ap (λ xs. e ∷ xs) (h none)

  -- what isn't there left out
  pub removed_none : (es : List (K × V)) → lookup test es ≡ None → remove_entry test es ≡ es
  removed_none [] none = refl
  removed_none (e ∷ es) none = removed_none_by e es (test e.0) (removed_none es) none

module _ (test : BlockKey → Bool) where
  lookup_by : (row : BlockKey × Kept) (rest : Rows) (b : Bool) → lookup test (plain rest) ≡ option_map block_of (lookup test rest) → cond b (Some row.1.block) (lookup test (plain rest)) ≡ option_map block_of (cond b (Some row.1) (lookup test rest))
  lookup_by row rest true h = refl
  lookup_by row rest false h = h

  pub lookup_plain : (rows : Rows) → lookup test (plain rows) ≡ option_map block_of (lookup test rows)
  lookup_plain [] = refl
  lookup_plain (row ∷ rest) = lookup_by row rest (test row.0) (lookup_plain rest)

  there_by : (o : Option Kept) → is_some (option_map block_of o) ≡ is_some o
  there_by None = refl
  there_by (Some kept) = refl

  -- whether it is held
  pub held_plain : (rows : Rows) → is_some (lookup test (plain rows)) ≡ is_some (lookup test rows)
  held_plain rows = ap is_some (lookup_plain rows) ∙ there_by (lookup test rows)

  entry_by : (row : BlockKey × Kept) (rest : Rows) (b : Bool) → lookup_entry test (plain rest) ≡ option_map plain_of (lookup_entry test rest) → cond b (Some (plain_of row)) (lookup_entry test (plain rest)) ≡ option_map plain_of (cond b (Some row) (lookup_entry test rest))
  entry_by row rest true h = refl
  entry_by row rest false h = h

  pub entry_plain : (rows : Rows) → lookup_entry test (plain rows) ≡ option_map plain_of (lookup_entry test rows)
  entry_plain [] = refl
  entry_plain (row ∷ rest) = entry_by row rest (test row.0) (entry_plain rest)

  removed_by : (row : BlockKey × Kept) (rest : Rows) (b : Bool) → remove_entry test (plain rest) ≡ plain (remove_entry test rest) → cond b (plain rest) (plain_of row ∷ remove_entry test (plain rest)) ≡ plain (cond b rest (row ∷ remove_entry test rest))
  removed_by row rest true h = refl
  removed_by row rest false h = ap (λ es. plain_of row ∷ es) h

  pub removed_plain : (rows : Rows) → remove_entry test (plain rows) ≡ plain (remove_entry test rows)
  removed_plain [] = refl
  removed_plain (row ∷ rest) = removed_by row rest (test row.0) (removed_plain rest)

  set_by : (row : BlockKey × Kept) (rest : Rows) (kept : Kept) (b : Bool) → set_value test (plain rest) kept.block ≡ plain (set_value test rest kept) → cond b ((row.0, kept.block) ∷ plain rest) (plain_of row ∷ set_value test (plain rest) kept.block) ≡ plain (cond b ((row.0, kept) ∷ rest) (row ∷ set_value test rest kept))
  set_by row rest kept true h = refl
  set_by row rest kept false h = ap (λ es. plain_of row ∷ es) h

  pub set_plain : (rows : Rows) (kept : Kept) → set_value test (plain rows) kept.block ≡ plain (set_value test rows kept)
  set_plain [] kept = refl
  set_plain (row ∷ rest) kept = set_by row rest kept (test row.0) (set_plain rest kept)

  front_by : (rows : Rows) (o : Option (BlockKey × Kept)) → option_map_or (λ e. e ∷ remove_entry test (plain rows)) (option_map plain_of o) (plain rows) ≡ plain (option_map_or (λ e. e ∷ remove_entry test rows) o rows)
  front_by rows None = refl
  front_by rows (Some e) = ap (λ es. plain_of e ∷ es) (removed_plain rows)

  pub promoted_plain : (rows : Rows) → promoted test (plain rows) ≡ plain (promoted test rows)
  promoted_plain rows =
      ap (λ o. option_map_or (λ e. e ∷ remove_entry test (plain rows)) o (plain rows)) (entry_plain rows) ∙ front_by rows (lookup_entry test rows)

  -- a block that is put in after a use
  renewed_plain : (rows : Rows) (kept : Kept) → plain (set_value test (promoted test rows) kept) ≡ set_value test (promoted test (plain rows)) kept.block
  renewed_plain rows kept =
      sym (set_plain (promoted test rows) kept) ∙ ap (λ es. set_value test es kept.block) (sym (promoted_plain rows))

  used_by : (rows : Rows) (age : ℕ) (o : Option Kept) → lookup test rows ≡ o → plain (used_there test rows age o) ≡ promoted test (plain rows)
  used_by rows age None is = sym (unused test (plain rows) (lookup_plain rows ∙ ap (option_map block_of) is))
  used_by rows age (Some kept) is =
      renewed_plain rows (record kept { age = age })
      ∙ unchanged test (promoted test (plain rows)) kept.block (promoted_same test (plain rows) ∙ lookup_plain rows ∙ ap (option_map block_of) is)

  pub used_plain : (rows : Rows) (age : ℕ) → plain (used_there test rows age (lookup test rows)) ≡ promoted test (plain rows)
  used_plain rows age = used_by rows age (lookup test rows) refl

module _ (file : FileId) (number : ℕ) where
  soiled_by : (rows : Rows) (from : ℕ) (new : List ℕ) (dirty age : ℕ) (o : Option Kept) → plain (soiled_there (is_at file number) rows number from new dirty age o) ≡ written_there (plain rows) file number from new dirty (option_map block_of o)
  soiled_by rows from new dirty age None = refl
  soiled_by rows from new dirty age (Some kept) = renewed_plain (is_at file number) rows (record { block = written_block kept.block number from new dirty; age = age })

  pub soiled_plain : (rows : Rows) (from : ℕ) (new : List ℕ) (dirty age : ℕ) → plain (soiled_there (is_at file number) rows number from new dirty age (lookup (is_at file number) rows)) ≡ written_there (plain rows) file number from new dirty (block_at (plain rows) file number)
  soiled_plain rows from new dirty age =
      soiled_by rows from new dirty age (lookup (is_at file number) rows) ∙ ap (written_there (plain rows) file number from new dirty) (sym (lookup_plain (is_at file number) rows))

  cleaned_by : (rows : Rows) (o : Option Kept) → plain (cleaned_row (is_at file number) rows o) ≡ cleaned_there (plain rows) file number (option_map block_of o)
  cleaned_by rows None = refl
  cleaned_by rows (Some kept) = sym (set_plain (is_at file number) rows (record kept { block = record kept.block { dirty = None } }))

  pub cleaned_plain : (rows : Rows) → plain (cleaned_row (is_at file number) rows (lookup (is_at file number) rows)) ≡ cleaned (plain rows) file number
  cleaned_plain rows =
      cleaned_by rows (lookup (is_at file number) rows) ∙ ap (cleaned_there (plain rows) file number) (sym (lookup_plain (is_at file number) rows))

  -- a block that isn't there, or is clean, made clean
  pub none_cleaned : (rows : Rows) → lookup (is_at file number) rows ≡ None → cleaned (plain rows) file number ≡ plain rows
  none_cleaned rows none = ap (cleaned_there (plain rows) file number) (lookup_plain (is_at file number) rows ∙ ap (option_map block_of) none)

  pub clean_cleaned : (rows : Rows) (kept : Kept) → lookup (is_at file number) rows ≡ Some kept → kept.block.dirty ≡ None → cleaned (plain rows) file number ≡ plain rows
  clean_cleaned rows kept is clean =
      let there : block_at (plain rows) file number ≡ Some kept.block = lookup_plain (is_at file number) rows ∙ ap (option_map block_of) is in
      let same : record kept.block { dirty = None } ≡ kept.block = λ i. record kept.block { dirty = sym clean i } in
      ap (cleaned_there (plain rows) file number) there ∙ ap (set_value (is_at file number) (plain rows)) same ∙ unchanged (is_at file number) (plain rows) kept.block there
