-- A list of files that is never promoted: one that is put in and demoted comes last.
use Rattle.std.proofs.Common.{rules, tests, arith, ◌≡◌, ℕ, zero, suc, ◌-◌, ◌<◌, ◌≤◌, true, false, Bool, cond, List, [], ◌∷◌, ◌++◌, length, take, Option, Some, None, refl, sym, ap, ◌∙◌}
use Rattle.std.specs.Option.{option_map_or}
use Rattle.std.specs.Map.{lookup, lookup_entry, remove_entry}
use Rattle.lru.specs.LruCache.{LruCache, demoted, put_entries}
use Rattle.sprite_ids.specs.declared.FileId.{FileId}
use Rattle.version_table.specs.declared.versioned.Versioned.{Versioned}
use Rattle.version_table.specs.Versions.{Files, is_file, with_file}

absent_by : (e : FileId × Versioned) (rest : Option Versioned) (b : Bool) → cond b (Some e.1) rest ≡ None → (b ≡ false) × (rest ≡ None)
absent_by e rest true h = absurd (cc)
absent_by e rest false h = (refl, h)

-- a file that isn't there has no entry
no_entry : (file : FileId) (files : Files) → lookup (is_file file) files ≡ None → lookup_entry (is_file file) files ≡ None
no_entry file [] h = refl
no_entry file (e ∷ files) h =
    let parts = absent_by e (lookup (is_file file) files) (is_file file e.0) h in
    ap (λ b. cond b (Some e) (lookup_entry (is_file file) files)) parts.0 ∙ no_entry file files parts.1

-- it is put behind the others
behind : (file : FileId) (versioned : Versioned) (files : Files) → lookup (is_file file) files ≡ None → with_file files file versioned ≡ files ++ (file, versioned) ∷ []
behind file versioned [] h = refl
behind file versioned (e ∷ files) h =
    let parts = absent_by e (lookup (is_file file) files) (is_file file e.0) h in
    ap (λ b. cond b ((e.0, versioned) ∷ files) (e ∷ with_file files file versioned)) parts.0 ∙ ap (λ es. e ∷ es) (behind file versioned files parts.1)

all_taken : {X : Type 0} (n : ℕ) (xs : List X) → length xs ≤ n → take n xs ≡ xs
all_taken zero [] h = refl
all_taken zero (x ∷ xs) h = absurd (omega arith)
all_taken (suc n) [] h = refl
all_taken (suc n) (x ∷ xs) h = ap (λ ys. x ∷ ys) (all_taken n xs (omega arith))

itself : (file : FileId) → is_file file file ≡ true
itself file = search (rules, tests)

demoted_first : (file : FileId) (versioned : Versioned) (files : Files) (b : Bool) → b ≡ true → option_map_or (λ (e : FileId × Versioned). cond b files ((file, versioned) ∷ remove_entry (is_file file) files) ++ e ∷ []) (cond b (Some (file, versioned)) (lookup_entry (is_file file) files)) ((file, versioned) ∷ files) ≡ files ++ (file, versioned) ∷ []
demoted_first file versioned files true h = refl
demoted_first file versioned files false h = absurd (cc)

-- a file that isn't there, where there is room, put in and demoted
pub put_last : (list : LruCache FileId Versioned) (file : FileId) (versioned : Versioned) → length list.entries < list.cap → lookup (is_file file) list.entries ≡ None → demoted (is_file file) (put_entries is_file list file versioned) ≡ with_file list.entries file versioned
put_last list file versioned room h =
    let all : take (list.cap - 1) list.entries ≡ list.entries = all_taken (list.cap - 1) list.entries (omega arith) in
    ap (λ (o : Option (FileId × Versioned)). demoted (is_file file) (option_map_or (λ (e : FileId × Versioned). (e.0, versioned) ∷ remove_entry (is_file file) list.entries) o ((file, versioned) ∷ take (list.cap - 1) list.entries))) (no_entry file list.entries h) ∙ ap (λ (es : Files). demoted (is_file file) ((file, versioned) ∷ es)) all ∙ demoted_first file versioned list.entries (is_file file file) (itself file) ∙ sym (behind file versioned list.entries h)
