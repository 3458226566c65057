-- Every step keeps which callbacks are out.
use Rattle.std.proofs.Common.{◌≡◌, ◌<◌, ◌≤◌, ℕ, zero, suc, ◌+◌, ◌-◌, ◌==◌, Bool, true, false, ◌||◌, not, cond, List, [], ◌∷◌, ◌++◌, length, replicate, slice_get, slice_set, fold, Option, Some, None, is_some, option_map, refl, sym, ap, subst, arith, ◌∙◌, true≢false, eqb-true, eq-eqb, ne_eqb}
use Rattle.std.specs.List.{AllByRecursion, find, list_any}
use Rattle.std.specs.Map.{lookup}
use Rattle.std.proofs.lemmas.Bool.{and_parts, and_from, eqb-false, and_left, and_right}
use Rattle.sprite_ids.specs.declared.BlockNo.{BlockNo}
use Rattle.sprite_ids.specs.declared.CallKind.{CallKind}
use Rattle.sprite_ids.specs.declared.Callback.{Callback}
use Rattle.sprite_ids.specs.declared.FileId.{FileId}
use Rattle.sprite_ids.specs.declared.Flushed.{Flushed}
use Rattle.sprite_ids.specs.declared.Grant.{Grant}
use Rattle.sprite_ids.specs.declared.StreamNo.{StreamNo}
use Rattle.sprite_ids.specs.declared.TxNo.{TxNo}
use Rattle.sprite_ids.specs.Lists.{less}
use Rattle.sprite_ids.proofs.ListLaws.{each_push, get_set_other, get_set_same}
use Rattle.sprite_ids.proofs.OnceLaws.{not_less}
use Rattle.packet_bodies.specs.declared.ReplyBody.{ReplyBody}
use Rattle.packet_bodies.specs.declared.ReplyBody.TheVariants as bodies
use Rattle.kernel_steps.specs.declared.Input.{Input}
use Rattle.kernel_steps.specs.declared.Input.TheVariants as inputs
use Rattle.kernel_steps.specs.Rows.{is_under}
use Rattle.version_table.specs.declared.Action.{Action}
use Rattle.version_table.specs.declared.Asking.{Asking}
use Rattle.version_table.specs.declared.Versioned.{Versioned}
use Rattle.version_table.specs.Files as tables
use Rattle.version_table.specs.Versions.{Files, is_file, or_fresh, file_of, with_file, closing_in, with_closed, forgotten}
use Rattle.version_table.proofs.CoherenceLaws.{fold_same}
use Rattle.version_table.proofs.FileLaws.{file_put, settled_file}
use Rattle.version_table.proofs.ReadyLaws.{decided_file}
use Rattle.server_kernel.specs.declared.Asked.{Asked}
use Rattle.server_kernel.specs.declared.CallOut.{CallOut}
use Rattle.server_kernel.specs.declared.Server.{Server}
use Rattle.server_kernel.specs.Facts.{is_call_to}
use Rattle.server_kernel.specs.Files as files
use Rattle.server_kernel.specs.Grants as grants
use Rattle.server_kernel.specs.Steps as stepping
use Rattle.server_kernel.specs.Waits as waiting
use Rattle.server_kernel.specs.Waits.{first_about, less_about}
use Rattle.server_facts.specs.Asking.{AreFilesOnce, AtMost}
use Rattle.server_facts.specs.Calls.{CallsStand}
use Rattle.server_facts.specs.Steps.{StepKeeps}
use Rattle.server_walks.proofs.Deeds.{Every, Keeps}
use Rattle.server_walks.proofs.ServeWalk.{grants_asked, serves}
use Rattle.server_walks.proofs.StepWalk.{turns}
use Rattle.server_walks.proofs.ListLaws.{each_less}
use Rattle.server_facts.proofs.Tables.{any_last, any_none, by_file, file_gone, file_left, file_other, first_goes, found_any, found_each, itself, most_less, none_found, most_other, once_left, once_put, part_put, removed_one, removed_other, turned}

abbrev pub busy_in : Files → FileId → Bool
busy_in table file = tables.is_busy (file_of table file)

-- whether the mark at a place is set: the places of the kernels, from 1 on
abbrev pub marked : List Bool → ℕ → Bool
marked out at = tables.is_set (slice_get out at)

-- whether a row is a callback of the file to the kernel of that place
abbrev is_to : FileId → ℕ → TxNo × CallOut → Bool
is_to file at row = is_call_to file (suc at) row

pub record Calls (table : Files) (rows : List (TxNo × CallOut)) : Type 0 where
  pub once : AreFilesOnce table
  pub own : (file : FileId) → (file_of table file).file ≡ file
  pub places : (file : FileId) → length (file_of table file).out ≡ 16
  pub quiet : (file : FileId) → busy_in table file ≡ false → (at : ℕ) → marked (file_of table file).out at ≡ false
  pub out : (file : FileId) (at : ℕ) → marked (file_of table file).out at ≡ list_any (is_to file at) rows
  pub one : (file : FileId) (at : ℕ) → AtMost 1 (is_to file at) rows
  pub kernels : AllByRecursion (λ (row : TxNo × CallOut). 0 < row.1.kernel) rows

-- ---- marks

none_marked : (n at : ℕ) → marked (replicate n false) at ≡ false
none_marked zero at = refl
none_marked (suc n) zero = refl
none_marked (suc n) (suc at) = none_marked n at

set_length : {X : Type 0} (xs : List X) (at : ℕ) (x : X) → length (slice_set xs at x) ≡ length xs
set_length [] at x = refl
set_length (y ∷ ys) zero x = refl
set_length (y ∷ ys) (suc at) x = ap suc (set_length ys at x)

unmarked_by : (b : Bool) (rest : List Bool) (at : ℕ) → (b || list_any (λ mark. mark) rest) ≡ false → (list_any (λ mark. mark) rest ≡ false → (at : ℕ) → marked rest at ≡ false) → marked (b ∷ rest) at ≡ false
unmarked_by true rest at e later = absurd (cc)
unmarked_by false rest zero e later = refl
unmarked_by false rest (suc at) e later = later e at

pub unmarked : (out : List Bool) → list_any (λ mark. mark) out ≡ false → (at : ℕ) → marked out at ≡ false
unmarked [] e at = refl
unmarked (b ∷ rest) e at = unmarked_by b rest at e (unmarked rest)

positive : (n : ℕ) → 0 < n → n ≡ suc (n - 1)
positive n h = omega arith

-- ---- changes of the table that leave the marks

module _ (table : Files) (rows : List (TxNo × CallOut)) where
  -- the marks of one file stay, and it is busy or has none
  put_same : (file : FileId) (versioned : Versioned) → versioned.file ≡ (file_of table file).file → versioned.out ≡ (file_of table file).out → (tables.is_busy versioned ≡ false → (at : ℕ) → marked (file_of table file).out at ≡ false) → Calls table rows → Calls (with_file table file versioned) rows
  put_same file versioned named same quiet h = record {
    once = once_put table file versioned h.once;
    own = λ other. part_put (λ (v : Versioned). v.file) table file other versioned named ∙ h.own other;
    places = λ other. ap length (outs other) ∙ h.places other;
    quiet = λ other free at. by_file file other (marked (file_of new other).out at ≡ false)
        (λ e. subst (λ (f : FileId). marked (file_of new f).out at ≡ false) e (ap (λ (out : List Bool). marked out at) (outs file) ∙ quiet (sym (ap tables.is_busy (file_put table file versioned)) ∙ (ap (busy_in new) e ∙ free)) at))
        (λ off. ap (λ (out : List Bool). marked out at) (outs other) ∙ h.quiet other (sym (ap tables.is_busy (file_other table file other versioned (turned file other off))) ∙ free) at);
    out = λ other at. ap (λ (out : List Bool). marked out at) (outs other) ∙ h.out other at;
    one = h.one;
    kernels = h.kernels;
  }
    where
      new : Files
      new = with_file table file versioned

      outs : (other : FileId) → (file_of new other).out ≡ (file_of table other).out
      outs other = part_put (λ (v : Versioned). v.out) table file other versioned same

  -- a file that isn't busy is forgotten
  gone_same : (file : FileId) → busy_in table file ≡ false → Calls table rows → Calls (forgotten table file) rows
  gone_same file free h = record {
    once = once_left table file h.once;
    own = λ other. by_file file other ((file_of new other).file ≡ other)
        (λ e. subst (λ (f : FileId). (file_of new f).file ≡ f) e (ap (λ (v : Versioned). v.file) (file_gone table file h.once)))
        (λ off. ap (λ (v : Versioned). v.file) (left other off) ∙ h.own other);
    places = λ other. by_file file other (length (file_of new other).out ≡ 16)
        (λ e. subst (λ (f : FileId). length (file_of new f).out ≡ 16) e (ap (λ (v : Versioned). length v.out) (file_gone table file h.once)))
        (λ off. ap (λ (v : Versioned). length v.out) (left other off) ∙ h.places other);
    quiet = λ other quiet at. by_file file other (marked (file_of new other).out at ≡ false)
        (λ e. subst (λ (f : FileId). marked (file_of new f).out at ≡ false) e (ap (λ (v : Versioned). marked v.out at) (file_gone table file h.once) ∙ none_marked 16 at))
        (λ off. ap (λ (v : Versioned). marked v.out at) (left other off) ∙ h.quiet other (sym (ap tables.is_busy (left other off)) ∙ quiet) at);
    out = λ other at. by_file file other (marked (file_of new other).out at ≡ list_any (is_to other at) rows)
        (λ e. subst (λ (f : FileId). marked (file_of new f).out at ≡ list_any (is_to f at) rows) e ((ap (λ (v : Versioned). marked v.out at) (file_gone table file h.once) ∙ none_marked 16 at) ∙ sym (sym (h.out file at) ∙ h.quiet file free at)))
        (λ off. ap (λ (v : Versioned). marked v.out at) (left other off) ∙ h.out other at);
    one = h.one;
    kernels = h.kernels;
  }
    where
      new : Files
      new = forgotten table file

      left : (other : FileId) → is_file file other ≡ false → file_of new other ≡ file_of table other
      left other off = file_left table file other (turned file other off)

  closing_same : (o : Option Versioned) (file : FileId) (kernel : ℕ) (stream : StreamNo) (many : ℕ) → lookup (is_file file) table ≡ o → busy_in table file ≡ false → Calls table rows → Calls (closing_in table file kernel stream many o) rows
  closing_same None file kernel stream many e free h = h
  closing_same (Some versioned) file kernel stream many e free h =
      let found : versioned ≡ file_of table file = ap (or_fresh file) (sym e) in
      put_same file (tables.closed versioned kernel stream many) (ap (λ (v : Versioned). v.file) found) (ap (λ (v : Versioned). v.out) found) (λ still at. h.quiet file free at) h

  closed_same : (file : FileId) (kernel : ℕ) (stream : StreamNo) (many : ℕ) → busy_in table file ≡ false → Calls table rows → Calls (with_closed table file kernel stream many) rows
  closed_same file kernel stream many free h = closing_same (lookup (is_file file) table) file kernel stream many refl free h

closing_free : (o : Option Versioned) (table : Files) (file : FileId) (kernel : ℕ) (stream : StreamNo) (many : ℕ) → lookup (is_file file) table ≡ o → busy_in table file ≡ false → busy_in (closing_in table file kernel stream many o) file ≡ false
closing_free None table file kernel stream many e free = free
closing_free (Some versioned) table file kernel stream many e free = ap tables.is_busy (file_put table file (tables.closed versioned kernel stream many)) ∙ (ap (λ (o : Option Versioned). tables.is_busy (or_fresh file o)) (sym e) ∙ free)

-- ---- decisions

granted_out : (cached : Bool) (file : Versioned) (action : Action) → tables.calls_of cached file action ≡ [] → (tables.decided cached file action).out ≡ file.out
granted_out cached file action e = ap (λ (calls : List Callback). (tables.deciding (tables.told (tables.is_uncached cached file action) file) action calls).out) e

asked_busy : (cached : Bool) (file : Versioned) (action : Action) (call : Callback) (calls : List Callback) → tables.calls_of cached file action ≡ call ∷ calls → tables.is_busy (tables.decided cached file action) ≡ true
asked_busy cached file action call calls e =
    let told : Versioned = tables.told (tables.is_uncached cached file action) file in
    ap (λ (calls : List Callback). tables.is_busy (tables.deciding told action calls)) e
    ∙ ap is_some (fold_same (λ (v : Versioned). v.asking) (λ v c. refl) (tables.waiting told action) (call ∷ calls))

settled_out : (file : Versioned) (o : Option Asking) → (tables.settling file o).out ≡ file.out
settled_out file (Some asking) = refl
settled_out file None = refl

-- a callback about the file, to a kernel behind the first so many and within the others
pub record IsNext (file : FileId) (least most : ℕ) (call : Callback) : Type 0 where
  pub named : call.file ≡ file
  pub over : least < call.to
  pub within : call.to ≤ most

-- callbacks about one file, to kernels in ascending order behind the first so many and within the others
abbrev pub Ascend : FileId → ℕ → ℕ → List Callback → Type 0
Ascend file least most [] = Unit {0}
Ascend file least most (call ∷ calls) = IsNext file least most call × Ascend file call.to most calls

ascend_up : (file : FileId) (calls : List Callback) (least most more : ℕ) → most ≤ more → Ascend file least most calls → Ascend file least more calls
ascend_up file [] least most more up h = tt
ascend_up file (call ∷ calls) least most more up h = (record { named = h.0.named; over = h.0.over; within = (let within = h.0.within in omega arith) }, ascend_up file calls call.to most more up h.1)

ascend_push : (file : FileId) (calls : List Callback) (call : Callback) (least most : ℕ) → least ≤ most → most < call.to → call.file ≡ file → Ascend file least most calls → Ascend file least call.to (calls ++ call ∷ [])
ascend_push file [] call least most low high named h = (record { named = named; over = omega arith; within = omega arith }, tt)
ascend_push file (first ∷ calls) call least most low high named h =
    let within = h.0.within in
    (record { named = h.0.named; over = h.0.over; within = omega arith }, ascend_push file calls call first.to most within high named h.1)

ascend_by : (o : Option CallKind) (file : Versioned) (n : ℕ) (calls : List Callback) → Ascend file.file 0 n calls → Ascend file.file 0 (suc n) (tables.with_call file (suc n) o calls)
ascend_by (Some kind) file n calls h = ascend_push file.file calls (record { file = file.file; to = suc n; stamp = file.stamp + length calls + 1; kind = kind }) 0 n (omega arith) (omega arith) refl h
ascend_by None file n calls h = ascend_up file.file calls 0 n (suc n) (omega arith) h

pub ascends : (n : ℕ) (uncached : Bool) (file : Versioned) (action : Action) → Ascend file.file 0 n (tables.calls_to uncached file action n)
ascends zero uncached file action = tt
ascends (suc n) uncached file action = ascend_by (tables.call_of uncached file action (suc n)) file n (tables.calls_to uncached file action n) (ascends n uncached file action)

-- ---- the marks and the rows of one file, while it is called back

record Held (file : FileId) (out : List Bool) (rows : List (TxNo × CallOut)) : Type 0 where
  places : length out ≡ 16
  same : (at : ℕ) → marked out at ≡ list_any (is_to file at) rows
  one : (at : ℕ) → AtMost 1 (is_to file at) rows
  kernels : AllByRecursion (λ (row : TxNo × CallOut). 0 < row.1.kernel) rows

is_there : (file : FileId) (row : TxNo × CallOut) (at : ℕ) → row.1.file ≡ file → row.1.kernel ≡ suc at → is_to file at row ≡ true
is_there file row at named to = and_from (files.is_that file row.1.file) (row.1.kernel == suc at) (subst (λ (f : FileId). files.is_that file f ≡ true) (sym named) (itself file)) (eq-eqb row.1.kernel (suc at) to)

is_elsewhere : (file : FileId) (row : TxNo × CallOut) (at to : ℕ) → row.1.kernel ≡ suc to → (to ≡ at → ⊥) → is_to file at row ≡ false
is_elsewhere file row at to e off = and_right (files.is_that file row.1.file) (row.1.kernel == suc at) (ne_eqb row.1.kernel (suc at) (λ same. off (omega arith)))

is_anothers : (file other : FileId) (row : TxNo × CallOut) (at : ℕ) → row.1.file ≡ file → is_file file other ≡ false → is_to other at row ≡ false
is_anothers file other row at named off = and_left (files.is_that other row.1.file) (row.1.kernel == suc at) (subst (λ (f : FileId). files.is_that other f ≡ false) (sym named) off)

by_place : (one other : ℕ) (G : Type 0) → (one ≡ other → G) → ((one ≡ other → ⊥) → G) → G
by_place one other G here there = by_test (one == other) refl
  where
    by_test : (b : Bool) → (one == other) ≡ b → G
    by_test true e = here (eqb-true one other e)
    by_test false e = there (eqb-false one other e)

one_called : (file : FileId) (out : List Bool) (rows : List (TxNo × CallOut)) (row : TxNo × CallOut) (to : ℕ) → to < 16 → row.1.file ≡ file → row.1.kernel ≡ suc to → marked out to ≡ false → Held file out rows → Held file (slice_set out to true) (rows ++ row ∷ [])
one_called file out rows row to small named kernel free h = record {
  places = set_length out to true ∙ h.places;
  same = λ at. by_place to at (marked (slice_set out to true) at ≡ list_any (is_to file at) (rows ++ row ∷ []))
      (λ e. subst (λ n. marked (slice_set out to true) n ≡ list_any (is_to file n) (rows ++ row ∷ [])) e
      (ap tables.is_set (get_set_same out to true (let many = h.places in omega arith)) ∙ sym (any_last (is_to file to) rows row (is_there file row to named kernel))))
      (λ off. ap tables.is_set (get_set_other out to at true off) ∙ (h.same at ∙ sym (any_none (is_to file at) rows row (is_elsewhere file row at to kernel off))));
  one = λ at. by_place to at (AtMost 1 (is_to file at) (rows ++ row ∷ []))
      (λ e. subst (λ n. AtMost 1 (is_to file n) (rows ++ row ∷ [])) e (first_goes (is_to file to) rows row (sym (h.same to) ∙ free)))
      (λ off. most_other 1 (is_to file at) rows row (is_elsewhere file row at to kernel off) (h.one at));
  kernels = each_push (λ (row : TxNo × CallOut). 0 < row.1.kernel) rows row h.kernels (subst (λ n. 0 < n) (sym kernel) (omega arith));
}

-- the kernels are called back one after the other
all_called : (file : FileId) (calls : List Callback) (least : ℕ) (asked : Asked) (versioned : Versioned) (s : Server) → Ascend file least 16 calls → ((at : ℕ) → least ≤ at → marked versioned.out at ≡ false) → Held file versioned.out s.callbacks
    → Held file (fold tables.called versioned calls).out (grants.calls_all asked calls s).callbacks
all_called file [] least asked versioned s ascend free h = h
all_called file (call ∷ calls) least asked versioned s ascend free h =
    let over : least < call.to = ascend.0.over in
    let within : call.to ≤ 16 = ascend.0.within in
    let row : TxNo × CallOut = (s.out.next, record { file = call.file; kernel = call.to }) in
    all_called file calls call.to asked (tables.called versioned call) (grants.calls_one asked call s) ascend.1
    (λ at high. ap tables.is_set (get_set_other versioned.out (call.to - 1) at true (λ e. absurd (omega arith))) ∙ free at (omega arith))
    (one_called file versioned.out s.callbacks row (call.to - 1) (omega arith) ascend.0.named (positive call.to (omega arith)) (free (call.to - 1) (omega arith)) h)

-- and other files' rows stay
others_called : (file other : FileId) (calls : List Callback) (least at : ℕ) (asked : Asked) (s : Server) → is_file file other ≡ false → Ascend file least 16 calls
    → (list_any (is_to other at) (grants.calls_all asked calls s).callbacks ≡ list_any (is_to other at) s.callbacks) × (AtMost 1 (is_to other at) s.callbacks → AtMost 1 (is_to other at) (grants.calls_all asked calls s).callbacks)
others_called file other [] least at asked s off ascend = (refl, λ h. h)
others_called file other (call ∷ calls) least at asked s off ascend =
    let row : TxNo × CallOut = (s.out.next, record { file = call.file; kernel = call.to }) in
    let later = others_called file other calls call.to at asked (grants.calls_one asked call s) off ascend.1 in (
      later.0 ∙ any_none (is_to other at) s.callbacks row (is_anothers file other row at ascend.0.named off),
      λ h. later.1 (most_other 1 (is_to other at) s.callbacks row (is_anothers file other row at ascend.0.named off) h),
    )

same_table : (calls : List Callback) (asked : Asked) (s : Server) → (grants.calls_all asked calls s).versions.files ≡ s.versions.files
same_table [] asked s = refl
same_table (call ∷ calls) asked s = same_table calls asked (grants.calls_one asked call s)

asks_more : (s : Server) (asked : Asked) (file : FileId) (action : Action) (call : Callback) (calls : List Callback) → files.is_busy file s ≡ false → tables.calls_of s.versions.cached (files.kept_of file s) action ≡ call ∷ calls → Calls s.versions.files s.callbacks
    → Calls (with_file s.versions.files file (tables.decided s.versions.cached (files.kept_of file s) action)) (grants.calls_first asked file (call ∷ calls) (grants.with_decided file action s)).callbacks
asks_more s asked file action call calls free e h = record {
  once = once_put s.versions.files file new h.once;
  own = λ other. part_put (λ (v : Versioned). v.file) s.versions.files file other new (decided_file s.versions.cached versioned action) ∙ h.own other;
  places = λ other. by_file file other (length (file_of table other).out ≡ 16)
      (λ e. subst (λ (f : FileId). length (file_of table f).out ≡ 16) e (ap (λ (v : Versioned). length v.out) now ∙ held.places))
      (λ off. ap (λ (v : Versioned). length v.out) (beside other off) ∙ h.places other);
  quiet = λ other quiet at. by_file file other (marked (file_of table other).out at ≡ false)
      (λ same. absurd (true≢false (sym (ap tables.is_busy (file_put s.versions.files file new) ∙ asked_busy s.versions.cached versioned action call calls e) ∙ (ap (busy_in table) same ∙ quiet))))
      (λ off. ap (λ (v : Versioned). marked v.out at) (beside other off) ∙ h.quiet other (sym (ap tables.is_busy (beside other off)) ∙ quiet) at);
  out = λ other at. by_file file other (marked (file_of table other).out at ≡ list_any (is_to other at) rows)
      (λ e. subst (λ (f : FileId). marked (file_of table f).out at ≡ list_any (is_to f at) rows) e (ap (λ (v : Versioned). marked v.out at) now ∙ held.same at))
      (λ off. ap (λ (v : Versioned). marked v.out at) (beside other off) ∙ (h.out other at ∙ sym (others_called file other (call ∷ calls) 0 at asked before off ascend).0));
  one = λ other at. by_file file other (AtMost 1 (is_to other at) rows)
      (λ e. subst (λ (f : FileId). AtMost 1 (is_to f at) rows) e (held.one at))
      (λ off. (others_called file other (call ∷ calls) 0 at asked before off ascend).1 (h.one other at));
  kernels = held.kernels;
}
  where
    versioned : Versioned
    versioned = files.kept_of file s

    told : Versioned
    told = tables.told (tables.is_uncached s.versions.cached versioned action) versioned

    new : Versioned
    new = tables.decided s.versions.cached versioned action

    table : Files
    table = with_file s.versions.files file new

    before : Server
    before = grants.asks asked file (grants.with_decided file action s)

    rows : List (TxNo × CallOut)
    rows = (grants.calls_all asked (call ∷ calls) before).callbacks

    ascend : Ascend file 0 16 (call ∷ calls)
    ascend = subst (λ (f : FileId). Ascend f 0 16 (call ∷ calls)) (h.own file) (subst (Ascend versioned.file 0 16) e (ascends 16 (tables.is_uncached s.versions.cached versioned action) versioned action))

    held : Held file (fold tables.called (tables.waiting told action) (call ∷ calls)).out rows
    held = all_called file (call ∷ calls) 0 asked (tables.waiting told action) before ascend (λ at low. h.quiet file free at) (record { places = h.places file; same = h.out file; one = h.one file; kernels = h.kernels })

    now : file_of table file ≡ fold tables.called (tables.waiting told action) (call ∷ calls)
    now = file_put s.versions.files file new ∙ ap (λ (calls : List Callback). tables.deciding told action calls) e

    beside : (other : FileId) → is_file file other ≡ false → file_of table other ≡ file_of s.versions.files other
    beside other off = file_other s.versions.files file other new (turned file other off)

-- ---- a server serves

abbrev P : Server → Type 0
P s = Calls s.versions.files s.callbacks

pub keeps_calls : Keeps Every P
keeps_calls = record {
  notes = λ s event told p. p;
  answers = λ s asked reply k is p. p;
  pages = λ s swap p. p;
  shares = λ s shadows p. p;
  writes = λ s file bytes there p. p;
  makes = λ s path node done e off p. p;
  removes = λ s path node e off p. p;
  renames = λ s old new done e p. p;
  creates = λ s path done e p. p;
  unlinks = λ s path file e free opens p. p;
  forgets = λ s path file e free opens p. gone_same s.versions.files s.callbacks file free p;
  waits = λ s asked file k wait busy p. p;
  granted = λ s file action free e p. put_same s.versions.files s.callbacks file _ (decided_file s.versions.cached (files.kept_of file s) action) (granted_out s.versions.cached (files.kept_of file s) action e) (λ still at. p.quiet file free at) p;
  asks = λ s asked file action call calls k may free e p. subst (λ (table : Files). Calls table (grants.calls_first asked file (call ∷ calls) (grants.with_decided file action s)).callbacks) (sym (same_table (call ∷ calls) asked (grants.asks asked file (grants.with_decided file action s)))) (asks_more s asked file action call calls free e p);
  closes = λ s file kernel stream many mode free there last p. closed_same s.versions.files s.callbacks file kernel stream many free p;
  closes_last = λ s file kernel stream many mode free there last p. gone_same (with_closed s.versions.files file kernel stream many) s.callbacks file (closing_free (lookup (is_file file) s.versions.files) s.versions.files file kernel stream many refl free) (closed_same s.versions.files s.callbacks file kernel stream many free p);
}

-- ---- a callback is answered

answered_one : (table : Files) (rows : List (TxNo × CallOut)) (q : TxNo × CallOut → Bool) (row : TxNo × CallOut) (file : FileId) (at : ℕ) → find q rows ≡ Some row → row.1.file ≡ file → row.1.kernel ≡ suc at → busy_in table file ≡ true → Calls table rows
    → Calls (with_file table file (tables.answered (file_of table file) row.1.kernel)) (less q rows)
answered_one table rows q row file at found named kernel busy h = record {
  once = once_put table file new h.once;
  own = λ other. part_put (λ (v : Versioned). v.file) table file other new refl ∙ h.own other;
  places = λ other. part_put (λ (v : Versioned). length v.out) table file other new (set_length (file_of table file).out (row.1.kernel - 1) false) ∙ h.places other;
  quiet = λ other quiet place. by_file file other (marked (file_of after other).out place ≡ false)
      (λ e. absurd (true≢false (sym (ap tables.is_busy (file_put table file new) ∙ busy) ∙ (ap (busy_in after) e ∙ quiet))))
      (λ off. ap (λ (v : Versioned). marked v.out place) (beside other off) ∙ h.quiet other (sym (ap tables.is_busy (beside other off)) ∙ quiet) place);
  out = λ other place. by_file file other (marked (file_of after other).out place ≡ list_any (is_to other place) (less q rows))
      (λ e. subst (λ (f : FileId). marked (file_of after f).out place ≡ list_any (is_to f place) (less q rows)) e (ap (λ (v : Versioned). marked v.out place) (file_put table file new) ∙ its_own place))
      (λ off. ap (λ (v : Versioned). marked v.out place) (beside other off) ∙ (h.out other place ∙ sym (removed_other (is_to other place) q rows row found (is_anothers file other row place named off))));
  one = λ other place. most_less (is_to other place) q rows (h.one other place);
  kernels = each_less (λ (row : TxNo × CallOut). 0 < row.1.kernel) q rows h.kernels;
}
  where
    new : Versioned
    new = tables.answered (file_of table file) row.1.kernel

    after : Files
    after = with_file table file new

    beside : (other : FileId) → is_file file other ≡ false → file_of after other ≡ file_of table other
    beside other off = file_other table file other new (turned file other off)

    gone_mark : (out : List Bool) (at : ℕ) → marked (slice_set out at false) at ≡ false
    gone_mark [] at = refl
    gone_mark (b ∷ out) zero = refl
    gone_mark (b ∷ out) (suc at) = gone_mark out at

    out_is : (place : ℕ) → marked new.out place ≡ marked (slice_set (file_of table file).out at false) place
    out_is place = ap (λ n. marked (slice_set (file_of table file).out n false) place) (let from = kernel in omega arith)

    its_own : (place : ℕ) → marked new.out place ≡ list_any (is_to file place) (less q rows)
    its_own place = out_is place ∙ by_place at place (marked (slice_set (file_of table file).out at false) place ≡ list_any (is_to file place) (less q rows))
        (λ e. subst (λ n. marked (slice_set (file_of table file).out at false) n ≡ list_any (is_to file n) (less q rows)) e (gone_mark (file_of table file).out at ∙ sym (removed_one (is_to file at) q rows row found (is_there file row at named kernel) (h.one file at))))
        (λ off. ap tables.is_set (get_set_other (file_of table file).out at place false off) ∙ (h.out file place ∙ sym (removed_other (is_to file place) q rows row found (is_elsewhere file row place at kernel off))))

-- what asked is granted, once no callback is out
pub settled_calls : (file : FileId) (s : Server) → ((at : ℕ) → marked (files.kept_of file s).out at ≡ false) → P s → P (waiting.with_settled file s)
settled_calls file s none h = put_same s.versions.files s.callbacks file (tables.settled (files.kept_of file s)) (settled_file (files.kept_of file s)) (settled_out (files.kept_of file s) (files.kept_of file s).asking) (λ free at. none at) h

settles : (file : FileId) (s : Server) → P s → P (waiting.settles file s)
settles file s h = by_ready (tables.is_ready (files.kept_of file s)) refl
  where
    granted : (o : Option Grant) (asked : Asked) (s : Server) → ((at : ℕ) → marked (files.kept_of file s).out at ≡ false) → P s → P (waiting.settles_by asked file o s)
    granted (Some grant) asked s none h =
        let after : Server = waiting.with_settled file s in
        let settled : P after = settled_calls file s none h in
        let given : Server = grants.grants asked file grant after in
        turns Every P keeps_calls (λ s file request e p. tt) (λ s file p. p) (length given.waiting) file given (grants_asked Every P keeps_calls asked file grant after tt settled)
    granted None asked s none h = h

    first : (o : Option Asked) (s : Server) → ((at : ℕ) → marked (files.kept_of file s).out at ≡ false) → P s → P (waiting.settles_first file o s)
    first (Some asked) s none h = elim (tables.is_ready (files.kept_of file s)) as (λ b. P (cond b (waiting.settles_by asked file (tables.settled_grant (files.kept_of file s)) s) s)) [ true ↦ granted (tables.settled_grant (files.kept_of file s)) asked s none h | false ↦ h ]
    first None s none h = h

    no_mark : (b : Bool) → not b ≡ true → b ≡ false
    no_mark true e = absurd (cc)
    no_mark false e = refl

    by_ready : (b : Bool) → tables.is_ready (files.kept_of file s) ≡ b → P (cond b (waiting.settles_first file (first_about file s.asking) (record s { asking = less_about file s.asking })) s)
    by_ready true e =
        let none = no_mark (tables.is_any_out (files.kept_of file s)) (and_parts (tables.is_busy (files.kept_of file s)) (not (tables.is_any_out (files.kept_of file s))) e).1 in
        first (first_about file s.asking) (record s { asking = less_about file s.asking }) (unmarked (files.kept_of file s).out none) h
    by_ready false e = h

row_kernel : (table : Files) (rows : List (TxNo × CallOut)) (q : TxNo × CallOut → Bool) (row : TxNo × CallOut) → find q rows ≡ Some row → Calls table rows → row.1.kernel ≡ suc (row.1.kernel - 1)
row_kernel table rows q row found h = positive row.1.kernel (found_each (λ (row : TxNo × CallOut). 0 < row.1.kernel) q rows row found h.kernels)

-- the callback's file, where it is busy
pub answered_calls : (rows : List (TxNo × CallOut)) (q : TxNo × CallOut → Bool) (row : TxNo × CallOut) (s : Server) → find q rows ≡ Some row → s.callbacks ≡ less q rows → files.is_busy row.1.file s ≡ true → Calls s.versions.files rows → P (waiting.with_answer row.1 s)
answered_calls rows q row s found same busy h =
    subst (λ (rows : List (TxNo × CallOut)). Calls (waiting.with_answer row.1 s).versions.files rows) (sym same)
    (answered_one s.versions.files rows q row row.1.file (row.1.kernel - 1) found refl (row_kernel s.versions.files rows q row found h) busy h)

-- and it is busy
pub is_called : (rows : List (TxNo × CallOut)) (q : TxNo × CallOut → Bool) (row : TxNo × CallOut) (s : Server) → find q rows ≡ Some row → Calls s.versions.files rows → files.is_busy row.1.file s ≡ false → ⊥
is_called rows q row s found h free =
    true≢false (sym (found_any (is_to row.1.file (row.1.kernel - 1)) q rows row found (is_there row.1.file row (row.1.kernel - 1) refl (row_kernel s.versions.files rows q row found h)))
    ∙ (sym (h.out row.1.file (row.1.kernel - 1)) ∙ h.quiet row.1.file free (row.1.kernel - 1)))

hears : (rows : List (TxNo × CallOut)) (q : TxNo × CallOut → Bool) (row : TxNo × CallOut) (s : Server) → find q rows ≡ Some row → s.callbacks ≡ less q rows → Calls s.versions.files rows → P (waiting.hears row.1 s)
hears rows q row s found same h = by_busy (files.is_busy row.1.file s) refl
  where
    by_busy : (b : Bool) → files.is_busy row.1.file s ≡ b → P (cond b (waiting.settles row.1.file (waiting.with_answer row.1 s)) s)
    by_busy true busy = settles row.1.file (waiting.with_answer row.1 s) (answered_calls rows q row s found same busy h)
    by_busy false free = absurd (is_called rows q row s found h free)

-- storing what came changes neither
pub stored : (blocks : List (BlockNo × List ℕ)) (file : FileId) (size : ℕ) (s : Server) → ((waiting.puts_all file size blocks s).versions.files ≡ s.versions.files) × ((waiting.puts_all file size blocks s).callbacks ≡ s.callbacks)
stored [] file size s = (refl, refl)
stored (block ∷ blocks) file size s =
    let put : Server = files.block_put_in file block.0 size block.1 s in
    let later = stored blocks file size put in
    (later.0 ∙ either_table _ (files.with_content file _ s) s refl, later.1 ∙ either_rows _ (files.with_content file _ s) s refl)
  where
    either_table : (b : Bool) (one s : Server) → one.versions.files ≡ s.versions.files → (cond b one s).versions.files ≡ s.versions.files
    either_table true one s e = e
    either_table false one s e = refl

    either_rows : (b : Bool) (one s : Server) → one.callbacks ≡ s.callbacks → (cond b one s).callbacks ≡ s.callbacks
    either_rows true one s e = e
    either_rows false one s e = refl

flushes_first : (o : Option (TxNo × CallOut)) (q : TxNo × CallOut → Bool) (rows : List (TxNo × CallOut)) (flushed : Flushed) (s : Server) → find q rows ≡ o → s.callbacks ≡ less q rows → Calls s.versions.files rows → P (waiting.flushes_first flushed (option_map (λ (row : TxNo × CallOut). row.1) o) s)
flushes_first (Some row) q rows flushed s found same h =
    let kept = stored flushed.blocks row.1.file flushed.size s in
    hears rows q row (waiting.puts_all row.1.file flushed.size flushed.blocks s) found (kept.1 ∙ same) (subst (λ (table : Files). Calls table rows) (sym kept.0) h)
flushes_first None q rows flushed s found same h = subst (Calls s.versions.files) (sym (same ∙ not_less q rows (none_found q (λ (row : TxNo × CallOut). row) rows (ap (option_map (λ (row : TxNo × CallOut). row)) found)))) h

-- ---- a step

takes_reply : (body : ReplyBody) (tx : TxNo) (s : Server) → P s → P (stepping.takes_reply tx body s)
takes_reply (bodies.Flushed flushed) tx s h =
    let q = is_under waiting.is_call tx in
    flushes_first (find q s.callbacks) q s.callbacks flushed (record s { callbacks = less q s.callbacks }) refl refl h
takes_reply body tx s h = h

takes : (input : Input) (s : Server) → P s → P (stepping.takes input s)
takes (inputs.Request tx source body) s h = serves Every P keeps_calls (record { tx = tx; from = source; body = body }) s tt h
takes (inputs.Replied tx source body) s h = takes_reply body tx s h
takes input s h = h

-- ---- in the words of the law

calls_so : (s : Server) → P s → CallsStand s
calls_so s h = record {
  out = λ file kernel high. h.out file (kernel - 1) ∙ ap (λ n. list_any (is_call_to file n) s.callbacks) (sym (positive kernel high));
  once = λ file kernel high. subst (λ n. AtMost 1 (is_call_to file n) s.callbacks) (sym (positive kernel high)) (h.one file (kernel - 1));
  quiet = λ file free kernel high. h.quiet file free (kernel - 1);
  places = h.places;
  own = h.own;
  kernels = h.kernels;
  files = h.once;
}

pub calls_from : (s : Server) → CallsStand s → P s
calls_from s h = record {
  once = h.files;
  own = h.own;
  places = h.places;
  quiet = λ file free at. ap (λ n. marked (files.kept_of file s).out n) (back at) ∙ h.quiet file free (suc at) (omega arith);
  out = λ file at. ap (λ n. marked (files.kept_of file s).out n) (back at) ∙ h.out file (suc at) (omega arith);
  one = λ file at. h.once file (suc at) (omega arith);
  kernels = h.kernels;
}
  where
    back : (at : ℕ) → at ≡ suc at - 1
    back at = omega arith

pub step_keeps_calls : StepKeeps CallsStand
step_keeps_calls s input next h = calls_so (stepping.server_step s input next).0 (takes input (stepping.begins next s) (calls_from s h))

pub none_called : (s : Server) → s.versions.files ≡ [] → s.callbacks ≡ [] → CallsStand s
none_called s table rows = calls_so s (subst (λ (t : Files). Calls t s.callbacks) (sym table) (subst (Calls []) (sym rows) begun))
  where
    begun : Calls [] []
    begun = record { once = tt; own = λ file. refl; places = λ file. refl; quiet = λ file free at. none_marked 16 at; out = λ file at. none_marked 16 at; one = λ file at. refl; kernels = tt }
