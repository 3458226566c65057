-- The lists tell the blocks by their last uses, after each edit of the blocks.
use Rattle.std.proofs.Common.{◌≡◌, ℕ, ◌+◌, ◌<◌, Bool, true, false, ◌&&◌, not, cond, List, [], ◌∷◌, ◌++◌, Option, Some, None, option_map, is_some, refl, sym, ap, subst, ◌∙◌, nat_cmp, arith}
use Rattle.std.specs.BTreeMap.{insert_entry, is_at as is_age}
use Rattle.std.specs.List.{find}
use Rattle.std.specs.Option.{option_map_or, option_or}
use Rattle.std.specs.Map.{lookup, lookup_entry, remove_entry, set_value, values_of}
use Rattle.std.proofs.lemmas.Bool.{and_parts}
use Rattle.lru.specs.LruCache.{promoted}
use Rattle.sprite_ids.specs.declared.FileId.{FileId}
use Rattle.sprite_ids.specs.declared.BlockNo.{BlockNo}
use Rattle.sprite_ids.proofs.ListLaws.{some_is}
use Rattle.block_cache.specs.declared.key.BlockKey.{BlockKey}
use Rattle.block_cache.specs.declared.block.Block.{Block}
use Rattle.block_cache.specs.declared.kept.Kept.{Kept}
use Rattle.block_cache.specs.declared.kept.LastUse.{LastUse}
use Rattle.block_cache.specs.Blocks.{Blocks, is_at, is_dirty, is_of, oldest, is_within, is_dirty_of, is_clean_outside, written_block, cleaned}
use Rattle.block_cache.specs.Held.{named, named_of}
use Rattle.block_cache.specs.Ages.{Rows, Lists, plain_of, plain, last_of, forgotten, forgotten_by, noted_by, used_anew, first_clean, first_dirty, name_of, listed, aged, clean_key, dirty_key, Descend, IsTold, AreTold, used_there, soiled_there, cleaned_row}
use Rattle.block_cache.proofs.AgeLaws.{IsPicked, IsLeft, descend_removed, descend_set, front_picked, front_left, removed_picked, removed_left, set_left, set_picked}
use Rattle.block_cache.proofs.KeyLaws.{one_block}
use Rattle.block_cache.proofs.LookupLaws.{found_value}
use Rattle.block_cache.proofs.PlainLaws.{clean_cleaned}

-- which kind a block is of
clean_left : (kept : Kept) (number : ℕ) → kept.block.dirty ≡ Some number → IsLeft clean_key kept
clean_left kept number is key = ap (λ o. cond (is_some o) None (Some key)) is

clean_picked : (kept : Kept) → kept.block.dirty ≡ None → IsPicked clean_key kept (λ key. key)
clean_picked kept is key = ap (λ o. cond (is_some o) None (Some key)) is

dirty_left : (kept : Kept) → kept.block.dirty ≡ None → IsLeft dirty_key kept
dirty_left kept is key = ap (option_map (λ number. (key, number))) is

dirty_picked : (kept : Kept) (number : ℕ) → kept.block.dirty ≡ Some number → IsPicked dirty_key kept (λ key. (key, number))
dirty_picked kept number is key = ap (option_map (λ n. (key, n))) is

module _ (test : BlockKey → Bool) where
  forgotten_told : (ages : Lists) (rows : Rows) (kept : Kept) (o : Option ℕ) → kept.block.dirty ≡ o → IsTold ages rows → lookup test rows ≡ Some kept → IsTold (forgotten_by ages kept.age o) (remove_entry test rows)
  forgotten_told ages rows kept None is told found =
      record {
        clean = ap (remove_entry (is_age (nat_cmp kept.age))) told.clean ∙ removed_picked clean_key test rows kept (λ key. key) ages.next (clean_picked kept is) told.descend found;
        dirty = told.dirty ∙ removed_left dirty_key test rows kept (dirty_left kept is) found;
        descend = descend_removed test rows ages.next told.descend;
      }
  forgotten_told ages rows kept (Some number) is told found =
      record {
        clean = told.clean ∙ removed_left clean_key test rows kept (clean_left kept number is) found;
        dirty = ap (remove_entry (is_age (nat_cmp kept.age))) told.dirty ∙ removed_picked dirty_key test rows kept (λ key. (key, number)) ages.next (dirty_picked kept number is) told.descend found;
        descend = descend_removed test rows ages.next told.descend;
      }

  -- after a block is dropped
  pub told_removed : (ages : Lists) (rows : Rows) (kept : Kept) → IsTold ages rows → lookup test rows ≡ Some kept → IsTold (forgotten ages (last_of kept)) (remove_entry test rows)
  told_removed ages rows kept told found = forgotten_told ages rows kept kept.block.dirty refl told found

  entry_by : (e : BlockKey × Kept) (es : Rows) (v : Kept) (b : Bool) → (lookup test es ≡ Some v → (k : BlockKey) × (lookup_entry test es ≡ Some (k, v))) → cond b (Some e.1) (lookup test es) ≡ Some v → (k : BlockKey) × (cond b (Some e) (lookup_entry test es) ≡ Some (k, v))
  entry_by e es v true more is = (e.0, ap (λ (k : Kept). Some (e.0, k)) (some_is e.1 v is))
  entry_by e es v false more is = more is

  entry_of : (es : Rows) (v : Kept) → lookup test es ≡ Some v → (k : BlockKey) × (lookup_entry test es ≡ Some (k, v))
  entry_of [] v is = cc
  entry_of (e ∷ es) v is = entry_by e es v (test e.0) (λ later. entry_of es v later) is

  -- a block that is used stands at the front
  pub front_set : (rows : Rows) (kept new : Kept) (key : BlockKey) → ((k : BlockKey) → test k ≡ true → key ≡ k) → lookup test rows ≡ Some kept → set_value test (promoted test rows) new ≡ (key, new) ∷ remove_entry test rows
  front_set rows kept new key one found =
      let there = entry_of rows kept found in
      let passes = (found_value test rows (there.0, kept) there.1).1 in
      ap (λ o. set_value test (option_map_or (λ e. e ∷ remove_entry test rows) o rows) new) there.1
      ∙ ap (λ b. cond b ((there.0, new) ∷ remove_entry test rows) ((there.0, kept) ∷ set_value test (remove_entry test rows) new)) passes
      ∙ ap (λ (k : BlockKey). (k, new) ∷ remove_entry test rows) (sym (one there.0 passes))

at_next : (n m : ℕ) (rows : Rows) → m ≡ n → Descend n rows → (m < n + 1) × Descend m rows
at_next n m rows is h = (omega (arith, is), subst (λ k. Descend k rows) (sym is) h)

used_told : (ages : Lists) (rows : Rows) (key : BlockKey) (new : Kept) (o : Option ℕ) → new.block.dirty ≡ o → new.age ≡ ages.next → IsTold ages rows → IsTold (used_anew ages key o) ((key, new) ∷ rows)
used_told ages rows key new None is age told =
    let next = at_next ages.next new.age rows age told.descend in
    record {
      clean = ap (λ xs. insert_entry nat_cmp xs ages.next key) told.clean ∙ ap (λ n. insert_entry nat_cmp (aged clean_key rows) n key) (sym age) ∙ sym (front_picked clean_key rows key new (λ k. k) next.1 (clean_picked new is));
      dirty = told.dirty ∙ sym (front_left dirty_key rows key new (dirty_left new is));
      descend = next;
    }
used_told ages rows key new (Some number) is age told =
    let next = at_next ages.next new.age rows age told.descend in
    record {
      clean = told.clean ∙ sym (front_left clean_key rows key new (clean_left new number is));
      dirty = ap (λ xs. insert_entry nat_cmp xs ages.next (key, number)) told.dirty ∙ ap (λ n. insert_entry nat_cmp (aged dirty_key rows) n (key, number)) (sym age) ∙ sym (front_picked dirty_key rows key new (λ k. (k, number)) next.1 (dirty_picked new number is));
      descend = next;
    }

-- after a block is put in
pub told_put : (ages : Lists) (rows : Rows) (key : BlockKey) (new : Kept) → new.age ≡ ages.next → IsTold ages rows → IsTold (used_anew ages key new.block.dirty) ((key, new) ∷ rows)
told_put ages rows key new age told = used_told ages rows key new new.block.dirty refl age told

-- a key is told by its file and its number
pub same_key : (key k : BlockKey) → is_at key.file key.block.0 k ≡ true → key ≡ k
same_key key k is =
    let one = one_block key.file key.block.0 k is in
    λ i. record { file = one.0 i; block = record { 0 = one.1 i } }

-- after a block is used, or written
pub told_renewed : (ages : Lists) (rows : Rows) (key : BlockKey) (kept new : Kept) → new.age ≡ ages.next → IsTold ages rows → lookup (is_at key.file key.block.0) rows ≡ Some kept → IsTold (used_anew (forgotten ages (last_of kept)) key new.block.dirty) (set_value (is_at key.file key.block.0) (promoted (is_at key.file key.block.0) rows) new)
told_renewed ages rows key kept new age told found =
    let test = is_at key.file key.block.0 in
    let out = told_removed test ages rows kept told found in
    let next : (forgotten ages (last_of kept)).next ≡ ages.next = forgotten_next ages kept.age kept.block.dirty in
    let put = told_put (forgotten ages (last_of kept)) (remove_entry test rows) key new (age ∙ sym next) out in
    subst (λ (r : Rows). IsTold (used_anew (forgotten ages (last_of kept)) key new.block.dirty) r) (sym (front_set test rows kept new key (same_key key) found)) put
  where
    forgotten_next : (a : Lists) (n : ℕ) (o : Option ℕ) → (forgotten_by a n o).next ≡ a.next
    forgotten_next a n None = refl
    forgotten_next a n (Some number) = refl

cleaned_told : (ages : Lists) (rows : Rows) (key : BlockKey) (kept : Kept) (o : Option ℕ) (number : ℕ) → kept.block.dirty ≡ o → o ≡ Some number → IsTold ages rows → lookup (is_at key.file key.block.0) rows ≡ Some kept → IsTold (noted_by (forgotten_by ages kept.age o) key kept.age None) (cleaned_row (is_at key.file key.block.0) rows (Some kept))
cleaned_told ages rows key kept None number is some told found = absurd (cc)
cleaned_told ages rows key kept (Some n) number is some told found =
    let test = is_at key.file key.block.0 in
    let new : Kept = record kept { block = record kept.block { dirty = None } } in
    record {
      clean = ap (λ xs. insert_entry nat_cmp xs kept.age key) told.clean ∙ set_picked clean_key test rows kept new (λ k. k) key ages.next (same_key key) (clean_left kept n is) (clean_picked new refl) refl told.descend found;
      dirty = ap (remove_entry (is_age (nat_cmp kept.age))) told.dirty ∙ set_left dirty_key test rows kept new (λ k. (k, n)) ages.next (dirty_picked kept n is) (dirty_left new refl) told.descend found;
      descend = descend_set test rows kept new ages.next refl told.descend found;
    }

-- after a dirty block is made clean
pub told_cleaned : (ages : Lists) (rows : Rows) (key : BlockKey) (kept : Kept) (number : ℕ) → kept.block.dirty ≡ Some number → IsTold ages rows → lookup (is_at key.file key.block.0) rows ≡ Some kept → IsTold (noted_by (forgotten ages (last_of kept)) key kept.age None) (cleaned_row (is_at key.file key.block.0) rows (Some kept))
told_cleaned ages rows key kept number is told found = cleaned_told ages rows key kept kept.block.dirty number refl is told found

forgotten_kept : (ages : Lists) (age : ℕ) (o : Option ℕ) → (forgotten_by ages age o).kept ≡ ages.kept
forgotten_kept ages age None = refl
forgotten_kept ages age (Some number) = refl

noted_kept : (ages : Lists) (key : BlockKey) (age : ℕ) (o : Option ℕ) → (noted_by ages key age o).kept ≡ ages.kept
noted_kept ages key age None = refl
noted_kept ages key age (Some number) = refl

kept_of : (o : Option Kept) (last : LastUse) → Some last ≡ option_map last_of o → (kept : Kept) × (o ≡ Some kept) × (last ≡ last_of kept)
kept_of None last is = absurd (cc)
kept_of (Some kept) last is = (kept, refl, some_is last (last_of kept) is)

-- a block that isn't there
pub none_of : (o : Option Kept) → None ≡ option_map last_of o → o ≡ None
none_of None is = refl
none_of (Some kept) is = absurd (cc)

-- where the lists are kept they tell the blocks, after one is put in
pub put_told : (ages after : Lists) (rows : Rows) (key : BlockKey) (new : Kept) → AreTold ages rows → new.age ≡ ages.next → new.block.dirty ≡ None → (after.kept ≡ true → after ≡ used_anew ages key None) → AreTold after ((key, new) ∷ rows)
put_told ages after rows key new told age clean is kept =
    let were : ages.kept ≡ true = sym (ap (λ (a : Lists). a.kept) (is kept)) ∙ kept in
    subst (λ (a : Lists). IsTold a ((key, new) ∷ rows)) (sym (is kept)) (used_told ages rows key new None clean age (told were))

-- after one is dropped
pub pop_told : (ages : Lists) (rows : Rows) (key : BlockKey) (last : LastUse) → AreTold ages rows → Some last ≡ option_map last_of (lookup (is_at key.file key.block.0) rows) → AreTold (forgotten ages last) (remove_entry (is_at key.file key.block.0) rows)
pop_told ages rows key last told found kept =
    let test = is_at key.file key.block.0 in
    let held = kept_of (lookup test rows) last found in
    let were : ages.kept ≡ true = sym (forgotten_kept ages last.age last.dirty) ∙ kept in
    subst (λ (l : LastUse). IsTold (forgotten ages l) (remove_entry test rows)) (sym held.2) (told_removed test ages rows held.0 (told were) held.1)

renew_by : (ages after : Lists) (rows : Rows) (key : BlockKey) (kept new : Kept) (dirty : Option ℕ) → AreTold ages rows → lookup (is_at key.file key.block.0) rows ≡ Some kept → new.age ≡ ages.next → new.block.dirty ≡ dirty → (after.kept ≡ true → after ≡ used_anew (forgotten ages (last_of kept)) key dirty) → AreTold after (set_value (is_at key.file key.block.0) (promoted (is_at key.file key.block.0) rows) new)
renew_by ages after rows key kept new dirty told found age soiled is stays =
    let test = is_at key.file key.block.0 in
    let out = forgotten ages (last_of kept) in
    let were : ages.kept ≡ true = sym (ap (λ (a : Lists). a.kept) (is stays) ∙ noted_kept out key out.next dirty ∙ forgotten_kept ages kept.age kept.block.dirty) ∙ stays in
    let there = told_renewed ages rows key kept new age (told were) found in
    subst (λ (a : Lists). IsTold a (set_value test (promoted test rows) new)) (ap (used_anew out key) soiled ∙ sym (is stays)) there

-- after one is used
pub use_told : (ages after : Lists) (rows : Rows) (key : BlockKey) (last : LastUse) (age : ℕ) → AreTold ages rows → Some last ≡ option_map last_of (lookup (is_at key.file key.block.0) rows) → age ≡ ages.next → (after.kept ≡ true → after ≡ used_anew (forgotten ages last) key last.dirty) → AreTold after (used_there (is_at key.file key.block.0) rows age (lookup (is_at key.file key.block.0) rows))
use_told ages after rows key last age told found next is =
    let test = is_at key.file key.block.0 in
    let held = kept_of (lookup test rows) last found in
    let kept = held.0 in
    let now : Kept = record kept { age = age } in
    let same : used_anew (forgotten ages last) key last.dirty ≡ used_anew (forgotten ages (last_of kept)) key kept.block.dirty = ap (λ (l : LastUse). used_anew (forgotten ages l) key l.dirty) held.2 in
    let done = renew_by ages after rows key kept now kept.block.dirty told held.1 next refl (λ stays. is stays ∙ same) in
    subst (λ (o : Option Kept). AreTold after (used_there test rows age o)) (sym held.1) done

-- after one is written
pub write_told : (ages after : Lists) (rows : Rows) (key : BlockKey) (last : LastUse) (from : ℕ) (bytes : List ℕ) (number age : ℕ) → AreTold ages rows → Some last ≡ option_map last_of (lookup (is_at key.file key.block.0) rows) → age ≡ ages.next → (after.kept ≡ true → after ≡ used_anew (forgotten ages last) key (Some number)) → AreTold after (soiled_there (is_at key.file key.block.0) rows key.block.0 from bytes number age (lookup (is_at key.file key.block.0) rows))
write_told ages after rows key last from bytes number age told found next is =
    let test = is_at key.file key.block.0 in
    let held = kept_of (lookup test rows) last found in
    let kept = held.0 in
    let now : Kept = record { block = written_block kept.block key.block.0 from bytes number; age = age } in
    let same : used_anew (forgotten ages last) key (Some number) ≡ used_anew (forgotten ages (last_of kept)) key (Some number) = ap (λ (l : LastUse). used_anew (forgotten ages l) key (Some number)) held.2 in
    let done = renew_by ages after rows key kept now (Some number) told held.1 next refl (λ stays. is stays ∙ same) in
    subst (λ (o : Option Kept). AreTold after (soiled_there test rows key.block.0 from bytes number age o)) (sym held.1) done

number_of : (o : Option ℕ) → is_some o ≡ true → (number : ℕ) × (o ≡ Some number)
number_of None is = absurd (cc)
number_of (Some number) is = (number, refl)

-- after a dirty one is made clean
pub clean_told : (ages after : Lists) (rows : Rows) (key : BlockKey) (last : LastUse) → AreTold ages rows → Some last ≡ option_map last_of (lookup (is_at key.file key.block.0) rows) → is_some last.dirty ≡ true → (after.kept ≡ true → after ≡ noted_by (forgotten ages last) key last.age None) → AreTold after (cleaned_row (is_at key.file key.block.0) rows (lookup (is_at key.file key.block.0) rows))
clean_told ages after rows key last told found dirty is stays =
    let test = is_at key.file key.block.0 in
    let held = kept_of (lookup test rows) last found in
    let kept = held.0 in
    let soiled = number_of last.dirty dirty in
    let were : ages.kept ≡ true = sym (ap (λ (a : Lists). a.kept) (is stays) ∙ forgotten_kept ages last.age last.dirty) ∙ stays in
    let done = told_cleaned ages rows key kept soiled.0 (ap (λ (l : LastUse). l.dirty) (sym held.2) ∙ soiled.1) (told were) held.1 in
    let now : IsTold (noted_by (forgotten ages last) key last.age None) (cleaned_row test rows (Some kept)) = subst (λ (l : LastUse). IsTold (noted_by (forgotten ages l) key l.age None) (cleaned_row test rows (Some kept))) (sym held.2) done in
    let there = subst (λ (a : Lists). IsTold a (cleaned_row test rows (Some kept))) (sym (is stays)) now in
    subst (λ (o : Option Kept). IsTold after (cleaned_row test rows o)) (sym held.1) there

-- a clean block made clean
pub still_clean : (file : FileId) (number : ℕ) (rows : Rows) (last : LastUse) → Some last ≡ option_map last_of (lookup (is_at file number) rows) → is_some last.dirty ≡ false → cleaned (plain rows) file number ≡ plain rows
still_clean file number rows last found clean =
    let held = kept_of (lookup (is_at file number) rows) last found in
    clean_cleaned file number rows held.0 held.1 (none_by held.0.block.dirty (ap (λ (l : LastUse). is_some l.dirty) (sym held.2) ∙ clean))
  where
    none_by : (o : Option ℕ) → is_some o ≡ false → o ≡ None
    none_by None is = refl
    none_by (Some n) is = absurd (cc)

-- the first that a test finds in two lists
on_by : {W : Type 0} (w : W) (a b c : Option W) (t : Bool) → a ≡ option_or b c → cond t (Some w) a ≡ option_or (cond t (Some w) b) c
on_by w a b c true h = refl
on_by w a b c false h = h

found_on : {V : Type 0} (p : V → Bool) (xs ys : List (ℕ × V)) → find p (values_of (xs ++ ys)) ≡ option_or (find p (values_of xs)) (find p (values_of ys))
found_on p [] ys = refl
found_on p (x ∷ xs) ys = on_by x.1 (find p (values_of (xs ++ ys))) (find p (values_of xs)) (find p (values_of ys)) (p x.1) (found_on p xs ys)

or_map : {X Y : Type 0} (f : X → Y) (a b : Option X) → option_map f (option_or a b) ≡ option_or (option_map f a) (option_map f b)
or_map f None b = refl
or_map f (Some x) b = refl

both : {X : Type 0} {a b c d : Option X} → a ≡ c → b ≡ d → option_or a b ≡ option_or c d
both e f = λ i. option_or (e i) (f i)

module _ (file : FileId) (first last : BlockNo) where
  abbrev outside : BlockKey → Bool
  outside key = not (is_within file first last key)

  outside_by : (entry : BlockKey × Block) (age : ℕ) (d w : Bool) → outside entry.0 ≡ w → option_map (λ (e : BlockKey × Block). e.0) (cond (not d && w) (Some entry) None) ≡ find (λ key. not (is_within file first last key)) (values_of (listed age (cond d None (Some entry.0))))
  outside_by entry age true w is = refl
  outside_by entry age false true is = sym (ap (λ b. cond b (Some entry.0) None) is)
  outside_by entry age false false is = sym (ap (λ b. cond b (Some entry.0) None) is)

  -- the first clean block of the list is the least recently used
  pub clean_first : (rows : Rows) → option_map (λ (e : BlockKey × Block). e.0) (oldest (is_clean_outside file first last) (plain rows)) ≡ first_clean file first last (aged clean_key rows)
  clean_first [] = refl
  clean_first (row ∷ rest) =
      let test = is_clean_outside file first last in
      let entry = plain_of row in
      or_map (λ (e : BlockKey × Block). e.0) (oldest test (plain rest)) (cond (test entry) (Some entry) None)
      ∙ both (clean_first rest) (outside_by entry row.1.age (is_dirty entry) (outside row.0) refl)
      ∙ sym (found_on outside (aged clean_key rest) (listed row.1.age (clean_key entry)))

module _ (test : BlockKey × Block → Bool) where
  passes_by : (e x : BlockKey × Block) (a : Option (BlockKey × Block)) (b : Bool) → test e ≡ b → (a ≡ Some x → test x ≡ true) → option_or a (cond b (Some e) None) ≡ Some x → test x ≡ true
  passes_by e x (Some y) b t more is = more is
  passes_by e x None true t more is = ap test (sym (some_is e x is)) ∙ t
  passes_by e x None false t more is = absurd (cc)

  -- what is found passes
  passes : (es : Blocks) (x : BlockKey × Block) → oldest test es ≡ Some x → test x ≡ true
  passes [] x is = absurd (cc)
  passes (e ∷ es) x is = passes_by e x (oldest test es) (test e) refl (passes es x) is

or_first : {W : Type 0} (o p : Option W) → is_some o ≡ true → o ≡ option_or o p
or_first None p h = absurd (cc)
or_first (Some w) p h = refl

module _ (file : Option FileId) where
  named_by : (x : BlockKey × Block) (o : Option ℕ) → is_some o ≡ true → is_some (named x o) ≡ true
  named_by x None h = h
  named_by x (Some number) h = h

  named_or : (a b : Option (BlockKey × Block)) → ((x : BlockKey × Block) → a ≡ Some x → is_dirty_of file x ≡ true) → named_of (option_or a b) ≡ option_or (named_of a) (named_of b)
  named_or None b h = refl
  named_or (Some x) b h = or_first (named_of (Some x)) (named_of b) (named_by x x.1.dirty (and_parts (is_of file x.0) (is_dirty x) (h x refl)).1)

  moved_in : (entry : BlockKey × Block) (t : Bool) → named_of (cond t (Some entry) None) ≡ cond t (named entry entry.1.dirty) None
  moved_in entry true = refl
  moved_in entry false = refl

  of_by : (entry : BlockKey × Block) (age : ℕ) (o : Option ℕ) (w : Bool) → is_of file entry.0 ≡ w → cond (w && is_some o) (named entry o) None ≡ option_map name_of (find (λ (block : BlockKey × ℕ). is_of file block.0) (values_of (listed age (option_map (λ number. (entry.0, number)) o))))
  of_by entry age None true is = refl
  of_by entry age None false is = refl
  of_by entry age (Some n) true is = sym (ap (λ b. option_map name_of (cond b (Some (entry.0, n)) None)) is)
  of_by entry age (Some n) false is = sym (ap (λ b. option_map name_of (cond b (Some (entry.0, n)) None)) is)

  -- the first dirty block of the list is the least recently used
  pub dirty_first : (rows : Rows) → named_of (oldest (is_dirty_of file) (plain rows)) ≡ first_dirty file (aged dirty_key rows)
  dirty_first [] = refl
  dirty_first (row ∷ rest) =
      let test = is_dirty_of file in
      let entry = plain_of row in
      let before = find (λ (block : BlockKey × ℕ). is_of file block.0) (values_of (aged dirty_key rest)) in
      let there = find (λ (block : BlockKey × ℕ). is_of file block.0) (values_of (listed row.1.age (dirty_key entry))) in
      named_or (oldest test (plain rest)) (cond (test entry) (Some entry) None) (passes test (plain rest))
      ∙ both (dirty_first rest) (moved_in entry (test entry) ∙ of_by entry row.1.age entry.1.dirty (is_of file row.0) refl)
      ∙ sym (or_map name_of before there)
      ∙ sym (ap (option_map name_of) (found_on (λ (block : BlockKey × ℕ). is_of file block.0) (aged dirty_key rest) (listed row.1.age (dirty_key entry))))
