-- A list of files that is never promoted: one that is put in and demoted comes last, and one that is taken out was there once.
use Rattle.std.proofs.Common.{arith, ◌≡◌, ℕ, zero, suc, ◌-◌, ◌<◌, ◌≤◌, true, false, Bool, cond, List, [], ◌∷◌, ◌++◌, length, take, Option, Some, None, refl, sym, ap, subst, ◌∙◌}
use Rattle.std.specs.List.{AllByRecursion, IsDistinct}
use Rattle.std.specs.Option.{option_map_or}
use Rattle.std.specs.Map.{keys_of, lookup_entry, remove_entry}
use Rattle.lru.specs.LruCache.{LruCache, demoted, put_entries}
use Rattle.sprite_ids.specs.declared.FileId.{FileId}
use Rattle.file_store.specs.Files.{Kept, is_file, bytes_of, without}
use Rattle.file_store.proofs.FileLaws.{one_file, removed_all, same_file}

absent_by : (e : FileId × List ℕ) (rest : Option (List ℕ)) (b : Bool) → cond b (Some e.1) rest ≡ None → (b ≡ false) × (rest ≡ None)
absent_by e rest true h = absurd (cc)
absent_by e rest false h = (refl, h)

-- a file that isn't there has no entry
no_entry : (file : FileId) (files : Kept) → bytes_of files file ≡ None → lookup_entry (is_file file) files ≡ None
no_entry file [] h = refl
no_entry file (e ∷ files) h =
    let parts = absent_by e (bytes_of files file) (is_file file e.0) h in
    ap (λ b. cond b (Some e) (lookup_entry (is_file file) files)) parts.0 ∙ no_entry file files parts.1

all_taken : {X : Type 0} (n : ℕ) (xs : List X) → length xs ≤ n → take n xs ≡ xs
all_taken zero [] h = refl
all_taken zero (x ∷ xs) h = absurd (omega arith)
all_taken (suc n) [] h = refl
all_taken (suc n) (x ∷ xs) h = ap (λ ys. x ∷ ys) (all_taken n xs (omega arith))

demoted_first : (file : FileId) (bytes : List ℕ) (files : Kept) (b : Bool) → b ≡ true → option_map_or (λ (e : FileId × List ℕ). cond b files ((file, bytes) ∷ remove_entry (is_file file) files) ++ e ∷ []) (cond b (Some (file, bytes)) (lookup_entry (is_file file) files)) ((file, bytes) ∷ files) ≡ files ++ (file, bytes) ∷ []
demoted_first file bytes files true h = refl
demoted_first file bytes files false h = absurd (cc)

-- a file that isn't there, where there is room, put in and demoted
pub put_last : (list : LruCache FileId (List ℕ)) (file : FileId) (bytes : List ℕ) → length list.entries < list.cap → bytes_of list.entries file ≡ None → demoted (is_file file) (put_entries is_file list file bytes) ≡ list.entries ++ (file, bytes) ∷ []
put_last list file bytes room h =
    let all : take (list.cap - 1) list.entries ≡ list.entries = all_taken (list.cap - 1) list.entries (omega arith) in
    ap (λ (o : Option (FileId × List ℕ)). demoted (is_file file) (option_map_or (λ (e : FileId × List ℕ). (e.0, bytes) ∷ remove_entry (is_file file) list.entries) o ((file, bytes) ∷ take (list.cap - 1) list.entries))) (no_entry file list.entries h) ∙ ap (λ (es : Kept). demoted (is_file file) ((file, bytes) ∷ es)) all ∙ demoted_first file bytes list.entries (is_file file file) (same_file file)

none_among : (file : FileId) (files : Kept) → AllByRecursion (λ other. is_file file other ≡ false) (keys_of files) → bytes_of files file ≡ None
none_among file [] h = refl
none_among file (e ∷ files) h = ap (λ b. cond b (Some e.1) (bytes_of files file)) h.0 ∙ none_among file files h.1

once_parts : (e : FileId × List ℕ) (files : Kept) → IsDistinct is_file (keys_of (e ∷ files)) → AllByRecursion (λ other. is_file e.0 other ≡ false) (keys_of files) × IsDistinct is_file (keys_of files)
unfolding IsDistinct
once_parts e files d = d

gone_by : (file : FileId) (e : FileId × List ℕ) (files : Kept) (b : Bool) → is_file file e.0 ≡ b → AllByRecursion (λ other. is_file e.0 other ≡ false) (keys_of files) → bytes_of (remove_entry (is_file file) files) file ≡ None → bytes_of (cond b files (e ∷ remove_entry (is_file file) files)) file ≡ None
gone_by file e files true t others h = none_among file files (subst (λ (f : FileId). AllByRecursion (λ other. is_file f other ≡ false) (keys_of files)) (sym (one_file file e.0 t)) others)
gone_by file e files false t others h = ap (λ b. cond b (Some e.1) (bytes_of (remove_entry (is_file file) files) file)) t ∙ h

gone : (file : FileId) (files : Kept) → IsDistinct is_file (keys_of files) → bytes_of (remove_entry (is_file file) files) file ≡ None
gone file [] d = refl
gone file (e ∷ files) d =
    let parts = once_parts e files d in
    gone_by file e files (is_file file e.0) refl parts.0 (gone file files parts.1)

-- where each file is there once, its first entry is its only one
pub removed_once : (file : FileId) (files : Kept) → IsDistinct is_file (keys_of files) → remove_entry (is_file file) files ≡ without files file
removed_once file files d = removed_all (is_file file) files (gone file files d)
