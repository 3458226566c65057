-- A grant is made only with no callback of its file out.
use Rattle.std.proofs.Common.{◌≡◌, ℕ, Bool, true, false, not, List, [], ◌∷◌, Option, Some, None, is_some, refl, sym, ap, subst, ◌∙◌, true≢false}
use Rattle.std.specs.List.{AllByRecursion}
use Rattle.std.specs.Map.{lookup}
use Rattle.std.proofs.lemmas.Bool.{and_parts}
use Rattle.sprite_ids.specs.declared.FileId.{FileId}
use Rattle.sprite_ids.specs.declared.StreamNo.{StreamNo}
use Rattle.sprite_ids.specs.declared.Callback.{Callback}
use Rattle.version_table.specs.declared.action.Action.{Action}
use Rattle.version_table.specs.declared.versioned.Asking.{Asking}
use Rattle.version_table.specs.declared.versioned.Versioned.{Versioned}
use Rattle.version_table.specs.Files.{is_busy, is_any_out, is_uncached, calls_of, told, waiting, deciding, decided, answered, settling, settled, closed}
use Rattle.version_table.specs.Decisions.{answering}
use Rattle.version_table.specs.Laws.{Call, Decides, Answers, Settles, Closes, Forgets, MayBe, table_after, is_grant, GrantsAlone, EachGrantsAlone, GrantsComeAlone}
use Rattle.version_table.specs.Versions.{Table, Files, is_file, or_fresh, file_of, closing_in}
use Rattle.version_table.proofs.CoherenceLaws.{fold_same}
use Rattle.version_table.proofs.FileLaws.{each_put, each_dropped, each_found, file_put}

-- no callback of a file is out that isn't busy
abbrev IsQuiet : FileId × Versioned → Type 0
IsQuiet entry = is_busy entry.1 ≡ false → is_any_out entry.1 ≡ false

abbrev AreQuiet : Files → Type 0
AreQuiet files = AllByRecursion IsQuiet files

quiet : (files : Files) (file : FileId) → AreQuiet files → IsQuiet (file, file_of files file)
quiet files file h = each_found IsQuiet files file (λ free. refl) h

busy_after : (file : Versioned) (action : Action) (call : Callback) (calls : List Callback) → is_busy (deciding file action (call ∷ calls)) ≡ true
busy_after file action call calls = ap is_some (fold_same (λ (v : Versioned). v.asking) (λ v c. refl) (waiting file action) (call ∷ calls))

deciding_quiet : (name : FileId) (file : Versioned) (action : Action) (calls : List Callback) → is_any_out file ≡ false → IsQuiet (name, deciding file action calls)
deciding_quiet name file action [] h free = h
deciding_quiet name file action (call ∷ calls) h free = absurd (true≢false (sym (busy_after file action call calls) ∙ free))

deciding_alone : (file : Versioned) (action : Action) (calls : List Callback) → is_any_out file ≡ false → is_grant (answering file action calls) ≡ true → is_any_out (deciding file action calls) ≡ false
deciding_alone file action [] h granted = h
deciding_alone file action (call ∷ calls) h granted = absurd (true≢false (sym granted))

settling_out : (file : Versioned) (o : Option Asking) → is_any_out (settling file o) ≡ is_any_out file
settling_out file (Some asking) = refl
settling_out file None = refl

untrue : (b : Bool) → not b ≡ true → b ≡ false
untrue true h = absurd (cc)
untrue false h = refl

closing_quiet : (files : Files) (file : FileId) (kernel : ℕ) (stream : StreamNo) (grants : ℕ) (o : Option Versioned) → lookup (is_file file) files ≡ o → is_busy (or_fresh file o) ≡ false → AreQuiet files → AreQuiet (closing_in files file kernel stream grants o)
closing_quiet files file kernel stream grants None e free h = h
closing_quiet files file kernel stream grants (Some versioned) e free h =
    let here : file_of files file ≡ versioned = ap (or_fresh file) e in
    let out : is_any_out versioned ≡ false = subst (λ (v : Versioned). is_busy v ≡ false → is_any_out v ≡ false) here (quiet files file h) free in
    each_put IsQuiet files file (closed versioned kernel stream grants) (λ still. out) h

-- so it stays, whatever call comes
stays_quiet : (table : Table) (call : Call) → MayBe table call → AreQuiet table.files → AreQuiet (table_after table call).files
stays_quiet table (Decides file action) may h =
    let versioned = file_of table.files file in
    each_put IsQuiet table.files file (decided table.cached versioned action) (deciding_quiet file (told (is_uncached table.cached versioned action) versioned) action (calls_of table.cached versioned action) (quiet table.files file h may)) h
stays_quiet table (Answers file kernel) may h =
    let versioned = file_of table.files file in
    each_put IsQuiet table.files file (answered versioned kernel) (λ free. absurd (true≢false (sym may ∙ free))) h
stays_quiet table (Settles file) may h =
    let versioned = file_of table.files file in
    let parts = and_parts (is_busy versioned) (not (is_any_out versioned)) may in
    each_put IsQuiet table.files file (settled versioned) (λ free. settling_out versioned versioned.asking ∙ untrue (is_any_out versioned) parts.1) h
stays_quiet table (Closes file kernel stream grants) may h = closing_quiet table.files file kernel stream grants (lookup (is_file file) table.files) refl may h
stays_quiet table (Forgets file) may h = each_dropped IsQuiet table.files file h

-- and a grant is made only so
granted_alone : (table : Table) (call : Call) → MayBe table call → AreQuiet table.files → GrantsAlone table call
granted_alone table (Decides file action) may h =
    let versioned = file_of table.files file in
    let out = quiet table.files file h may in
    λ granted. (out, ap is_any_out (file_put table.files file (decided table.cached versioned action)) ∙ deciding_alone (told (is_uncached table.cached versioned action) versioned) action (calls_of table.cached versioned action) out granted)
granted_alone table (Answers file kernel) may h = tt
granted_alone table (Settles file) may h =
    let versioned = file_of table.files file in
    let parts = and_parts (is_busy versioned) (not (is_any_out versioned)) may in
    let out = untrue (is_any_out versioned) parts.1 in
    (out, ap is_any_out (file_put table.files file (settled versioned)) ∙ settling_out versioned versioned.asking ∙ out)
granted_alone table (Closes file kernel stream grants) may h = tt
granted_alone table (Forgets file) may h = tt

each_alone : (table : Table) (calls : List Call) → AreQuiet table.files → EachGrantsAlone table calls
each_alone table [] h = tt
each_alone table (call ∷ calls) h = λ may. (granted_alone table call may h, each_alone (table_after table call) calls (stays_quiet table call may h))

pub grants_come_alone : GrantsComeAlone
grants_come_alone cached calls = each_alone (record { cached = cached; files = [] }) calls tt
