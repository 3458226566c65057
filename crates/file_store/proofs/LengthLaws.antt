-- No file is longer than the limit, after each edit.
use Rattle.std.proofs.Common.{◌≡◌, ℕ, ◌+◌, ◌*◌, ◌≤◌, Bool, true, false, cond, List, [], ◌∷◌, length, Option, Some, None, Result, Ok, Err, OnOk, OnErr, is_some, refl, sym, ap, subst, ◌∙◌, arith}
use Rattle.std.proofs.lemmas.Map.Steps.{set_value_same}
use Rattle.std.proofs.lemmas.List.{length-append, length-replicate, length-take, length-drop}
use Rattle.sprite_ids.specs.declared.FileId.{FileId}
use Rattle.sprite_ids.proofs.ListLaws.{each_filter, each_push, some_is}
use Rattle.file_store.specs.Content.{grown, over, written, block_put}
use Rattle.file_store.specs.Files.{Kept, is_file, bytes_of, held, or_none, is_there, with_bytes, with_new, without, AreWithin}

found_by : (limit : ℕ) (stored : FileId × List ℕ) (rest : Kept) (file : FileId) (bytes : List ℕ) (b : Bool) → length stored.1 ≤ limit → (bytes_of rest file ≡ Some bytes → length bytes ≤ limit) → cond b (Some stored.1) (bytes_of rest file) ≡ Some bytes → length bytes ≤ limit
found_by limit stored rest file bytes true le h is = subst (λ (xs : List ℕ). length xs ≤ limit) (some_is stored.1 bytes is) le
found_by limit stored rest file bytes false le h is = h is

-- what is found is within the limit
pub found_within : (limit : ℕ) (files : Kept) (file : FileId) (bytes : List ℕ) → AreWithin limit files → bytes_of files file ≡ Some bytes → length bytes ≤ limit
found_within limit [] file bytes h is = cc
found_within limit (stored ∷ rest) file bytes h is =
    found_by limit stored rest file bytes (is_file file stored.0) h.0 (λ later. found_within limit rest file bytes h.1 later) is

held_by : (limit : ℕ) (files : Kept) (file : FileId) (o : Option (List ℕ)) → bytes_of files file ≡ o → AreWithin limit files → length (or_none o) ≤ limit
held_by limit files file (Some bytes) is h = found_within limit files file bytes h is
held_by limit files file None is h = omega arith

-- so is what is held
pub held_within : (limit : ℕ) (files : Kept) (file : FileId) → AreWithin limit files → length (held files file) ≤ limit
held_within limit files file h = held_by limit files file (bytes_of files file) refl h

put_by : (limit : ℕ) (stored : FileId × List ℕ) (rest : Kept) (file : FileId) (bytes : List ℕ) (b : Bool) → length stored.1 ≤ limit → length bytes ≤ limit → AreWithin limit rest → AreWithin limit (with_bytes rest file bytes) → AreWithin limit (cond b ((stored.0, bytes) ∷ rest) (stored ∷ with_bytes rest file bytes))
put_by limit stored rest file bytes true le short h r = (short, h)
put_by limit stored rest file bytes false le short h r = (le, r)

-- other bytes in a file
pub changed_within : (limit : ℕ) (files : Kept) (file : FileId) (bytes : List ℕ) → length bytes ≤ limit → AreWithin limit files → AreWithin limit (with_bytes files file bytes)
changed_within limit [] file bytes short h = tt
changed_within limit (stored ∷ rest) file bytes short h =
    put_by limit stored rest file bytes (is_file file stored.0) h.0 short h.1 (changed_within limit rest file bytes short h.1)

-- a new file
pub new_within : (limit : ℕ) (files : Kept) (file : FileId) → AreWithin limit files → AreWithin limit (with_new files file)
new_within limit files file h = each_push (λ (stored : FileId × List ℕ). length stored.1 ≤ limit) files (file, []) h (omega arith)

-- the files but one
pub without_within : (limit : ℕ) (files : Kept) (file : FileId) → AreWithin limit files → AreWithin limit (without files file)
without_within limit files file h = each_filter (λ (stored : FileId × List ℕ). length stored.1 ≤ limit) _ files h

-- after a step that may fail
pub within_after : {A B : Type 0} (r : Result A B) (limit : ℕ) (new changed old : Kept) → OnOk r (new ≡ changed) → OnErr r (new ≡ old) → AreWithin limit changed → AreWithin limit old → AreWithin limit new
within_after (Ok a) limit new changed old went failed c o = subst (AreWithin limit) (sym went) c
within_after (Err b) limit new changed old went failed c o = subst (AreWithin limit) (sym failed) o

grown_short : (limit : ℕ) (bytes : List ℕ) (size : ℕ) → length bytes ≤ limit → size ≤ limit → length (grown bytes size) ≤ limit
grown_short limit bytes size h k = simp (length-append, length-replicate) (omega (arith, h, k))

over_length : (limit : ℕ) (bytes : List ℕ) (from : ℕ) (new : List ℕ) → length bytes ≤ limit → from + length new ≤ limit → length (over bytes from new) ≤ limit
over_length limit bytes from new h k = simp (length-append, length-take, length-drop) (omega (arith, h, k))

-- a write within the limit leaves the file within it
pub written_short : (limit : ℕ) (bytes : List ℕ) (from : ℕ) (new : List ℕ) → length bytes ≤ limit → from + length new ≤ limit → length (written bytes from new) ≤ limit
written_short limit bytes from [] h k = h
written_short limit bytes from (x ∷ xs) h k =
    over_length limit (grown bytes (from + length (x ∷ xs))) from (x ∷ xs) (grown_short limit bytes (from + length (x ∷ xs)) h k) k

-- so does a block
pub block_short : (limit : ℕ) (bytes : List ℕ) (block size : ℕ) (new : List ℕ) → length bytes ≤ limit → size ≤ limit → 4096 * block + length new ≤ limit → length (block_put bytes block size new) ≤ limit
block_short limit bytes block size new h k w = written_short limit (grown bytes size) (4096 * block) new (grown_short limit bytes size h k) w

none_of : (o : Option (List ℕ)) → is_some o ≡ false → o ≡ None
none_of (Some bytes) is = absurd (cc)
none_of None is = refl

-- a file that isn't there isn't found
pub none_by : (files : Kept) (file : FileId) → is_there files file ≡ false → bytes_of files file ≡ None
none_by files file is = none_of (bytes_of files file) is

-- after a step on a file's bytes that failed, the files are as before
pub failed_back : {A B : Type 0} (r : Result A B) (files next : Kept) (file : FileId) (old new : List ℕ) → next ≡ with_bytes files file new → bytes_of files file ≡ Some old → OnErr r (new ≡ old) → OnErr r (next ≡ files)
failed_back (Ok a) files next file old new is found failed = tt
failed_back (Err b) files next file old new is found failed = is ∙ ap (with_bytes files file) failed ∙ set_value_same (is_file file) files old found
