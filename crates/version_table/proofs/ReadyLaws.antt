-- What waits after a decision is ready, and the decision in the table.
use Rattle.std.proofs.Common.{◌≡◌, ℕ, zero, suc, ◌+◌, ◌≤◌, nat_le, Bool, true, false, ◌&&◌, List, [], ◌∷◌, length, fold, Option, Some, None, Result, Ok, Err, OnOk, OnErr, refl, sym, subst, arith, length-append}
use Rattle.std.specs.List.{AllByRecursion}
use Rattle.std.proofs.lemmas.Bool.{and_parts}
use Rattle.sprite_ids.specs.declared.FileId.{FileId}
use Rattle.sprite_ids.specs.declared.CallKind.{CallKind}
use Rattle.sprite_ids.specs.declared.Callback.{Callback}
use Rattle.sprite_ids.proofs.ListLaws.{each_push, each_weaken}
use Rattle.version_table.specs.declared.action.Action.{Action}
use Rattle.version_table.specs.declared.versioned.Asking.{Asking}
use Rattle.version_table.specs.declared.versioned.Versioned.{Versioned}
use Rattle.version_table.specs.Opens.{are_roomy}
use Rattle.version_table.specs.Files.{is_uncached, call_of, with_call, calls_to, calls_of, called, told, waiting, deciding, decided, is_roomy, IsPreparedFor, IsPrepared, is_busy}
use Rattle.version_table.specs.Coherence.{IsKept}
use Rattle.version_table.specs.Versions.{Files, file_of, with_file, AreKept}
use Rattle.version_table.proofs.OpenLaws.{is_few}
use Rattle.version_table.proofs.CoherenceLaws.{decided_coherent}
use Rattle.version_table.proofs.FileLaws.{its_own, changed_kept}

few_with : (file : Versioned) (kernel : ℕ) (o : Option CallKind) (calls : List Callback) (n : ℕ) → length calls ≤ n → length (with_call file kernel o calls) ≤ suc n
few_with file kernel (Some kind) calls n h = simp length-append (omega (arith, h))
few_with file kernel None calls n h = omega (arith, h)

few_calls : (uncached : Bool) (file : Versioned) (action : Action) (n : ℕ) → length (calls_to uncached file action n) ≤ n
few_calls uncached file action zero = omega arith
few_calls uncached file action (suc n) =
    few_with file (suc n) (call_of uncached file action (suc n)) (calls_to uncached file action n) n (few_calls uncached file action n)

low_with : (m : ℕ) (file : Versioned) (kernel : ℕ) (o : Option CallKind) (calls : List Callback) → file.stamp + length calls + 1 ≤ m → AllByRecursion (λ (call : Callback). call.stamp ≤ m) calls → AllByRecursion (λ (call : Callback). call.stamp ≤ m) (with_call file kernel o calls)
low_with m file kernel (Some kind) calls k h = each_push (λ (call : Callback). call.stamp ≤ m) calls (record { file = file.file; to = kernel; stamp = file.stamp + length calls + 1; kind = kind }) h k
low_with m file kernel None calls k h = h

low_calls : (uncached : Bool) (file : Versioned) (action : Action) (n : ℕ) → n ≤ 16 → AllByRecursion (λ (call : Callback). call.stamp ≤ file.stamp + 16) (calls_to uncached file action n)
low_calls uncached file action zero h = tt
low_calls uncached file action (suc n) h =
    let few = few_calls uncached file action n in
    low_with (file.stamp + 16) file (suc n) (call_of uncached file action (suc n)) (calls_to uncached file action n) (omega (arith, few, h)) (low_calls uncached file action n (omega (arith, h)))

called_ready_by : (file : Versioned) (call : Callback) (o : Option Asking) → call.stamp ≤ 2000000016 → IsPreparedFor file o → IsPreparedFor (called file call) o
called_ready_by file call (Some asking) k h = (h.0, h.1, k, h.3)
called_ready_by file call None k h = tt

fold_ready : (file : Versioned) (calls : List Callback) → IsPrepared file → AllByRecursion (λ (call : Callback). call.stamp ≤ 2000000016) calls → IsPrepared (fold called file calls)
fold_ready file [] h k = h
fold_ready file (call ∷ calls) h k = fold_ready (called file call) calls (called_ready_by file call file.asking k.0 h) k.1

fold_file : (file : Versioned) (calls : List Callback) → (fold called file calls).file ≡ file.file
fold_file file [] = refl
fold_file file (call ∷ calls) = fold_file (called file call) calls

deciding_file : (file : Versioned) (action : Action) (calls : List Callback) → (deciding file action calls).file ≡ file.file
deciding_file file action [] = refl
deciding_file file action (call ∷ calls) = fold_file (waiting file action) (call ∷ calls)

deciding_ready : (file : Versioned) (action : Action) (calls : List Callback) → file.stamp ≤ 2000000000 → file.version ≤ 2000000000 → AllByRecursion (λ (call : Callback). call.stamp ≤ 2000000016) calls → IsPrepared (deciding file action calls)
deciding_ready file action [] s v k = tt
deciding_ready file action (call ∷ calls) s v k = fold_ready (waiting file action) (call ∷ calls) (refl, refl, omega (arith, s), v) k

pub decided_file : (cached : Bool) (file : Versioned) (action : Action) → (decided cached file action).file ≡ file.file
decided_file cached file action = deciding_file (told (is_uncached cached file action) file) action (calls_of cached file action)

pub decided_ready : (cached : Bool) (file : Versioned) (action : Action) → is_roomy file ≡ true → IsPrepared (decided cached file action)
decided_ready cached file action h =
    let parts = and_parts (nat_le file.stamp 2000000000) (nat_le file.version 2000000000 && are_roomy file.opens) h in
    let more = and_parts (nat_le file.version 2000000000) (are_roomy file.opens) parts.1 in
    let s = is_few file.stamp parts.0 in
    let low = low_calls (is_uncached cached file action) file action 16 (omega arith) in
    let all = each_weaken (λ (call : Callback). call.stamp ≤ file.stamp + 16) (λ (call : Callback). call.stamp ≤ 2000000016) (calls_of cached file action) (λ call l. omega (arith, s, l)) low in
    deciding_ready (told (is_uncached cached file action) file) action (calls_of cached file action) s (is_few file.version more.0) all

-- a decision keeps a file
decided_keeps : (cached : Bool) (file : Versioned) (action : Action) → is_roomy file ≡ true → is_busy file ≡ false → IsKept file → IsKept (decided cached file action)
decided_keeps cached file action room free h = record { ready = decided_ready cached file action room; coherent = decided_coherent cached file action free h.coherent }

-- and so the files
decided_files : (cached : Bool) (files : Files) (file : FileId) (action : Action) → is_roomy (file_of files file) ≡ true → is_busy (file_of files file) ≡ false → AreKept files → AreKept (with_file files file (decided cached (file_of files file) action))
decided_files cached files file action room free h =
    let versioned = file_of files file in
    changed_kept files file (decided cached versioned action) (decided_file cached versioned action) (decided_keeps cached versioned action room free (its_own files file h).kept) h

-- also where the decision may fail for want of memory
pub decided_kept : {A B : Type 0} (r : Result A B) (cached : Bool) (files new : Files) (file : FileId) (action : Action) → OnOk r (new ≡ with_file files file (decided cached (file_of files file) action)) → OnErr r (new ≡ files) → is_roomy (file_of files file) ≡ true → is_busy (file_of files file) ≡ false → AreKept files → AreKept new
decided_kept (Ok a) cached files new file action went failed room free h = subst AreKept (sym went) (decided_files cached files file action room free h)
decided_kept (Err b) cached files new file action went failed room free h = subst AreKept (sym failed) h
