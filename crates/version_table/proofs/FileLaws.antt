-- The files of the table: what is found, put and dropped, and that each stays kept.
use Rattle.std.proofs.Common.{rules, tests, ◌≡◌, ℕ, ◌==◌, Bool, true, false, cond, [], ◌∷◌, Option, Some, None, Result, Ok, Err, OnOk, OnErr, is_some, sym, refl, ap, subst, ◌∙◌}
use Rattle.std.specs.List.{AllByRecursion}
use Rattle.std.specs.Map.{lookup, set_value}
use Rattle.std.proofs.lemmas.Bool.{and_parts, eqb-true}
use Rattle.sprite_ids.specs.declared.FileId.{FileId}
use Rattle.sprite_ids.specs.declared.StreamNo.{StreamNo}
use Rattle.sprite_ids.proofs.ListLaws.{some_is}
use Rattle.version_table.specs.declared.versioned.Asking.{Asking}
use Rattle.version_table.specs.declared.versioned.Versioned.{Versioned}
use Rattle.version_table.specs.Files.{fresh, is_busy, answered, settling, settled, closed, IsPreparedFor, IsPrepared}
use Rattle.version_table.specs.Coherence.{IsKept}
use Rattle.version_table.specs.Versions.{Files, is_file, or_fresh, file_of, with_file, closing_in, with_closed, forgotten, IsFile, AreKept}
use Rattle.version_table.proofs.CoherenceLaws.{fresh_coherent, answered_coherent, settled_coherent, closed_coherent}

one_file : (m n : FileId) → is_file m n ≡ true → m ≡ n
one_file m n e =
    let parts = and_parts (m.server == n.server) (m.number == n.number) e in
    let server = eqb-true m.server n.server parts.0 in
    let number = eqb-true m.number n.number parts.1 in
    λ i. record { server = server i; number = number i }

itself : (file : FileId) → is_file file file ≡ true
itself file = search (rules, tests)

set_by : (file : FileId) (versioned found : Versioned) (e : FileId × Versioned) (files : Files) (b : Bool) → (lookup (is_file file) files ≡ Some found → set_value (is_file file) files versioned ≡ with_file files file versioned) → cond b (Some e.1) (lookup (is_file file) files) ≡ Some found → cond b ((e.0, versioned) ∷ files) (e ∷ set_value (is_file file) files versioned) ≡ cond b ((e.0, versioned) ∷ files) (e ∷ with_file files file versioned)
set_by file versioned found e files true h is = refl
set_by file versioned found e files false h is = ap (λ l. e ∷ l) (h is)

-- a file that is there is changed in its place
pub set_there : (files : Files) (file : FileId) (versioned found : Versioned) → lookup (is_file file) files ≡ Some found → set_value (is_file file) files versioned ≡ with_file files file versioned
set_there [] file versioned found is = absurd (cc)
set_there (e ∷ files) file versioned found is = set_by file versioned found e files (is_file file e.0) (λ later. set_there files file versioned found later) is

same_by : (file : FileId) (versioned : Versioned) (e : FileId × Versioned) (files : Files) (b : Bool) → (lookup (is_file file) files ≡ Some versioned → set_value (is_file file) files versioned ≡ files) → cond b (Some e.1) (lookup (is_file file) files) ≡ Some versioned → cond b ((e.0, versioned) ∷ files) (e ∷ set_value (is_file file) files versioned) ≡ e ∷ files
same_by file versioned e files true h is = ap (λ (v : Versioned). (e.0, v) ∷ files) (sym (some_is e.1 versioned is))
same_by file versioned e files false h is = ap (λ l. e ∷ l) (h is)

-- and none changes where it is put there again
pub set_same : (files : Files) (file : FileId) (versioned : Versioned) → lookup (is_file file) files ≡ Some versioned → set_value (is_file file) files versioned ≡ files
set_same [] file versioned is = refl
set_same (e ∷ files) file versioned is = same_by file versioned e files (is_file file e.0) (λ later. set_same files file versioned later) is

-- a function of a file that is there
pub changed_there : (f : Versioned → Versioned) (files new : Files) (file : FileId) (versioned found : Versioned) → lookup (is_file file) files ≡ Some found → new ≡ set_value (is_file file) files versioned → versioned ≡ f found → new ≡ with_file files file (f (file_of files file))
changed_there f files new file versioned found is en ev =
    en ∙ ap (set_value (is_file file) files) ev ∙ set_there files file (f found) found is ∙ ap (λ o. with_file files file (f (or_fresh file o))) (sym is)

-- likewise where it may fail for want of memory
pub decided_there : {A B : Type 0} (r : Result A B) (f : Versioned → Versioned) (files new : Files) (file : FileId) (versioned found : Versioned) → lookup (is_file file) files ≡ Some found → new ≡ set_value (is_file file) files versioned → OnOk r (versioned ≡ f found) → OnOk r (new ≡ with_file files file (f (file_of files file)))
decided_there (Ok a) f files new file versioned found is en ev = changed_there f files new file versioned found is en ev
decided_there (Err b) f files new file versioned found is en ev = ev

pub failed_there : {A B : Type 0} (r : Result A B) (files new : Files) (file : FileId) (versioned found : Versioned) → lookup (is_file file) files ≡ Some found → new ≡ set_value (is_file file) files versioned → OnErr r (versioned ≡ found) → OnErr r (new ≡ files)
failed_there (Ok a) files new file versioned found is en ev = ev
failed_there (Err b) files new file versioned found is en ev = en ∙ ap (set_value (is_file file) files) ev ∙ set_same files file found is

-- and a close
pub closed_there : (files new : Files) (file : FileId) (kernel : ℕ) (stream : StreamNo) (grants : ℕ) (versioned found : Versioned) → lookup (is_file file) files ≡ Some found → new ≡ set_value (is_file file) files versioned → versioned ≡ closed found kernel stream grants → new ≡ with_closed files file kernel stream grants
closed_there files new file kernel stream grants versioned found is en ev =
    en ∙ ap (set_value (is_file file) files) ev ∙ set_there files file (closed found kernel stream grants) found is ∙ ap (closing_in files file kernel stream grants) (sym is)

put_by : (file : FileId) (versioned : Versioned) (e : FileId × Versioned) (files : Files) (b : Bool) → is_file file e.0 ≡ b → lookup (is_file file) (with_file files file versioned) ≡ Some versioned → lookup (is_file file) (cond b ((e.0, versioned) ∷ files) (e ∷ with_file files file versioned)) ≡ Some versioned
put_by file versioned e files true t h = ap (λ b. cond b (Some versioned) (lookup (is_file file) files)) t
put_by file versioned e files false t h = ap (λ b. cond b (Some e.1) (lookup (is_file file) (with_file files file versioned))) t ∙ h

found_put : (files : Files) (file : FileId) (versioned : Versioned) → lookup (is_file file) (with_file files file versioned) ≡ Some versioned
found_put [] file versioned = ap (λ b. cond b (Some versioned) None) (itself file)
found_put (e ∷ files) file versioned = put_by file versioned e files (is_file file e.0) refl (found_put files file versioned)

-- the file is found as it was put
pub file_put : (files : Files) (file : FileId) (versioned : Versioned) → file_of (with_file files file versioned) file ≡ versioned
file_put files file versioned = ap (or_fresh file) (found_put files file versioned)

-- a fact of each file stays where it holds of the file that is put
pub each_put : (P : FileId × Versioned → Type 0) (files : Files) (file : FileId) (versioned : Versioned) → P (file, versioned) → AllByRecursion P files → AllByRecursion P (with_file files file versioned)
each_put P [] file versioned k h = (k, tt)
each_put P (e ∷ files) file versioned k h = by_name (each_put P files file versioned k h.1) (is_file file e.0) refl
  where
    by_name : AllByRecursion P (with_file files file versioned) → (b : Bool) → is_file file e.0 ≡ b → AllByRecursion P (cond b ((e.0, versioned) ∷ files) (e ∷ with_file files file versioned))
    by_name later true t = (subst (λ (n : FileId). P (n, versioned)) (one_file file e.0 t) k, h.1)
    by_name later false t = (h.0, later)

-- and where one is dropped
pub each_dropped : (P : FileId × Versioned → Type 0) (files : Files) (file : FileId) → AllByRecursion P files → AllByRecursion P (forgotten files file)
each_dropped P [] file h = tt
each_dropped P (e ∷ files) file h =
    elim (is_file file e.0) as (λ b. AllByRecursion P (cond b files (e ∷ forgotten files file))) [ true ↦ h.1 | false ↦ (h.0, each_dropped P files file h.1) ]

-- a fact of each file and of those that nobody opened is one of what is kept of a file
pub each_found : (P : FileId × Versioned → Type 0) (files : Files) (file : FileId) → P (file, fresh file) → AllByRecursion P files → P (file, file_of files file)
each_found P [] file k h = k
each_found P (e ∷ files) file k h = by_name (each_found P files file k h.1) (is_file file e.0) refl
  where
    by_name : P (file, file_of files file) → (b : Bool) → is_file file e.0 ≡ b → P (file, or_fresh file (cond b (Some e.1) (lookup (is_file file) files)))
    by_name later true t = subst (λ (n : FileId). P (n, e.1)) (sym (one_file file e.0 t)) h.0
    by_name later false t = later

fresh_file : (file : FileId) → IsFile (file, fresh file)
fresh_file file = record { own = refl; kept = record { ready = tt; coherent = fresh_coherent file } }

-- what is kept of a file is kept under its name
pub its_own : (files : Files) (file : FileId) → AreKept files → IsFile (file, file_of files file)
its_own files file h = each_found IsFile files file (fresh_file file) h

settled_by : (file : Versioned) (o : Option Asking) → (settling file o).file ≡ file.file
settled_by file (Some asking) = refl
settled_by file None = refl

pub settled_file : (file : Versioned) → (settled file).file ≡ file.file
settled_file file = settled_by file file.asking

settled_ready_by : (file : Versioned) (o : Option Asking) → IsPrepared file → IsPrepared (settling file o)
settled_ready_by file (Some asking) h = tt
settled_ready_by file None h = h

settled_ready : (file : Versioned) → IsPrepared file → IsPrepared (settled file)
settled_ready file h = settled_ready_by file file.asking h

-- a file is kept when it is settled
pub settled_kept : (file : Versioned) → IsKept file → IsKept (settled file)
settled_kept file h = record { ready = settled_ready file h.ready; coherent = settled_coherent file h.ready h.coherent }

answered_ready_by : (file : Versioned) (kernel : ℕ) (o : Option Asking) → IsPreparedFor file o → IsPreparedFor (answered file kernel) o
answered_ready_by file kernel (Some asking) h = h
answered_ready_by file kernel None h = tt

answered_ready : (file : Versioned) (kernel : ℕ) → IsPrepared file → IsPrepared (answered file kernel)
answered_ready file kernel h = answered_ready_by file kernel file.asking h

-- when an answer comes
pub answered_kept : (file : Versioned) (kernel : ℕ) → is_busy file ≡ true → IsKept file → IsKept (answered file kernel)
answered_kept file kernel busy h = record { ready = answered_ready file kernel h.ready; coherent = answered_coherent file kernel busy h.coherent }

closed_ready_by : (file changed : Versioned) (o : Option Asking) → is_some o ≡ false → IsPreparedFor changed o
closed_ready_by file changed (Some asking) h = absurd (cc)
closed_ready_by file changed None h = tt

closed_ready : (file : Versioned) (kernel : ℕ) (stream : StreamNo) (grants : ℕ) → is_busy file ≡ false → IsPrepared (closed file kernel stream grants)
closed_ready file kernel stream grants h = closed_ready_by file (closed file kernel stream grants) file.asking h

-- and at a close
pub closed_kept : (file : Versioned) (kernel : ℕ) (stream : StreamNo) (grants : ℕ) → is_busy file ≡ false → IsKept file → IsKept (closed file kernel stream grants)
closed_kept file kernel stream grants free h = record { ready = closed_ready file kernel stream grants free; coherent = closed_coherent file kernel stream grants free h.coherent }

-- the files stay kept where one of them was changed
pub changed_kept : (files : Files) (file : FileId) (versioned : Versioned) → versioned.file ≡ (file_of files file).file → IsKept versioned → AreKept files → AreKept (with_file files file versioned)
changed_kept files file versioned same kept h =
    each_put IsFile files file versioned (record { own = same ∙ (its_own files file h).own; kept = kept }) h

-- after an answer
pub answered_files : (files : Files) (file : FileId) (kernel : ℕ) → is_busy (file_of files file) ≡ true → AreKept files → AreKept (with_file files file (answered (file_of files file) kernel))
answered_files files file kernel busy h =
    changed_kept files file (answered (file_of files file) kernel) refl (answered_kept (file_of files file) kernel busy (its_own files file h).kept) h

-- after what waits was granted
pub settled_files : (files : Files) (file : FileId) → AreKept files → AreKept (with_file files file (settled (file_of files file)))
settled_files files file h =
    changed_kept files file (settled (file_of files file)) (settled_file (file_of files file)) (settled_kept (file_of files file) (its_own files file h).kept) h

closing_files : (files : Files) (file : FileId) (kernel : ℕ) (stream : StreamNo) (grants : ℕ) (o : Option Versioned) → lookup (is_file file) files ≡ o → is_busy (or_fresh file o) ≡ false → AreKept files → AreKept (closing_in files file kernel stream grants o)
closing_files files file kernel stream grants None e free h = h
closing_files files file kernel stream grants (Some versioned) e free h =
    let here : file_of files file ≡ versioned = ap (or_fresh file) e in
    let kept = subst IsKept here (its_own files file h).kept in
    changed_kept files file (closed versioned kernel stream grants) (ap (λ (v : Versioned). v.file) (sym here)) (closed_kept versioned kernel stream grants free kept) h

-- and after a close
pub closed_files : (files : Files) (file : FileId) (kernel : ℕ) (stream : StreamNo) (grants : ℕ) → is_busy (file_of files file) ≡ false → AreKept files → AreKept (with_closed files file kernel stream grants)
closed_files files file kernel stream grants free h = closing_files files file kernel stream grants (lookup (is_file file) files) refl free h
