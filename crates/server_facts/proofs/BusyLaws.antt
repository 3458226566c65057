-- Every step keeps that a file is busy exactly where a callback of it is out.
use Rattle.std.proofs.Common.{◌≡◌, ◌<◌, ◌≤◌, ℕ, zero, suc, ◌-◌, Bool, true, false, ◌&&◌, not, cond, List, [], ◌∷◌, length, slice_set, fold, Option, Some, None, is_some, option_map, refl, sym, ap, subst, arith, ◌∙◌, true≢false}
use Rattle.std.specs.List.{find, list_any}
use Rattle.std.specs.Map.{lookup}
use Rattle.std.proofs.lemmas.Bool.Decides.{same_from_decides}
use Rattle.std.proofs.lemmas.Bool.{not-true, and_parts}
use Rattle.sprite_ids.specs.declared.Callback.{Callback}
use Rattle.sprite_ids.specs.declared.FileId.{FileId}
use Rattle.sprite_ids.specs.declared.Flushed.{Flushed}
use Rattle.sprite_ids.specs.declared.Grant.{Grant}
use Rattle.sprite_ids.specs.declared.StreamNo.{StreamNo}
use Rattle.sprite_ids.specs.declared.TxNo.{TxNo}
use Rattle.sprite_ids.specs.Lists.{less}
use Rattle.packet_bodies.specs.declared.ReplyBody.{ReplyBody}
use Rattle.packet_bodies.specs.declared.ReplyBody.TheVariants as bodies
use Rattle.kernel_steps.specs.declared.Input.{Input}
use Rattle.kernel_steps.specs.declared.Input.TheVariants as inputs
use Rattle.kernel_steps.specs.Rows.{is_under}
use Rattle.version_table.specs.declared.Action.{Action}
use Rattle.version_table.specs.declared.Asking.{Asking}
use Rattle.version_table.specs.declared.Versioned.{Versioned}
use Rattle.version_table.specs.Files as tables
use Rattle.version_table.specs.Versions.{Files, is_file, or_fresh, file_of, with_file, closing_in, with_closed, forgotten}
use Rattle.version_table.proofs.FileLaws.{file_put}
use Rattle.server_kernel.specs.declared.Asked.{Asked}
use Rattle.server_kernel.specs.declared.CallOut.{CallOut}
use Rattle.server_kernel.specs.declared.Server.{Server}
use Rattle.server_kernel.specs.Files as files
use Rattle.server_kernel.specs.Grants as grants
use Rattle.server_kernel.specs.Steps as stepping
use Rattle.server_kernel.specs.Waits as waiting
use Rattle.server_kernel.specs.Waits.{first_about, is_about, less_about}
use Rattle.server_facts.specs.Asking.{AreFilesOnce, AskingStands, has_about}
use Rattle.server_facts.specs.Calls.{BusyStands, CallsStand}
use Rattle.server_facts.specs.Steps.{StepKeeps}
use Rattle.server_facts.proofs.AskingLaws.{Stands, granted_free, keeps_asking, none, settled_free, stands_from, step_keeps_asking}
use Rattle.server_facts.proofs.CallLaws.{Ascend, Calls, answered_calls, ascends, busy_in, calls_from, is_called, keeps_calls, marked, settled_calls, step_keeps_calls, stored, unmarked}
use Rattle.server_walks.proofs.Deeds.{Every, Keeps}
use Rattle.server_walks.proofs.ServeWalk.{grants_asked, puts_all, serves}
use Rattle.server_walks.proofs.StepWalk.{turns}
use Rattle.server_facts.proofs.Tables.{by_file, file_gone, file_left, file_other, none_found, once_put, turned}

-- a busy file has a callback out
abbrev Called : Files → Type 0
Called table = (file : FileId) → busy_in table file ≡ true → tables.is_any_out (file_of table file) ≡ true

-- ---- marks

any_set : (out : List Bool) (at : ℕ) → list_any (λ mark. mark) out ≡ true → list_any (λ mark. mark) (slice_set out at true) ≡ true
any_set [] at h = h
any_set (b ∷ out) zero h = refl
any_set (true ∷ out) (suc at) h = refl
any_set (false ∷ out) (suc at) h = any_set out at h

any_put : (out : List Bool) (at : ℕ) → at < length out → list_any (λ mark. mark) (slice_set out at true) ≡ true
any_put [] at h = absurd (omega arith)
any_put (b ∷ out) zero h = refl
any_put (true ∷ out) (suc at) h = refl
any_put (false ∷ out) (suc at) h = any_put out at (omega arith)

still_any : (calls : List Callback) (file : Versioned) → tables.is_any_out file ≡ true → tables.is_any_out (fold tables.called file calls) ≡ true
still_any [] file h = h
still_any (call ∷ calls) file h = still_any calls (tables.called file call) (any_set file.out (call.to - 1) h)

all_unmarked : (out : List Bool) → ((at : ℕ) → marked out at ≡ false) → list_any (λ mark. mark) out ≡ false
all_unmarked [] h = refl
all_unmarked (true ∷ out) h = absurd (true≢false (h 0))
all_unmarked (false ∷ out) h = all_unmarked out (λ at. h (suc at))

first_any : (call : Callback) (calls : List Callback) (file : Versioned) (name : FileId) → Ascend name 0 16 (call ∷ calls) → length file.out ≡ 16 → tables.is_any_out (fold tables.called file (call ∷ calls)) ≡ true
first_any call calls file name ascend places =
    let over : 0 < call.to = ascend.0.over in
    let within : call.to ≤ 16 = ascend.0.within in
    still_any calls (tables.called file call) (any_put file.out (call.to - 1) (omega arith))

asked_any : (cached : Bool) (file : Versioned) (action : Action) (call : Callback) (calls : List Callback) → tables.calls_of cached file action ≡ call ∷ calls → length file.out ≡ 16 → tables.is_any_out (tables.decided cached file action) ≡ true
asked_any cached file action call calls e places =
    let uncached : Bool = tables.is_uncached cached file action in
    let told : Versioned = tables.told uncached file in
    ap (λ (calls : List Callback). tables.is_any_out (tables.deciding told action calls)) e
    ∙ first_any call calls (tables.waiting told action) file.file (subst (Ascend file.file 0 16) e (ascends 16 uncached file action)) places

-- ---- the table of opens

put_called : (table : Files) (file : FileId) (versioned : Versioned) → (tables.is_busy versioned ≡ true → tables.is_any_out versioned ≡ true) → ((other : FileId) → is_file file other ≡ false → busy_in table other ≡ true → tables.is_any_out (file_of table other) ≡ true) → Called (with_file table file versioned)
put_called table file versioned now others other busy = by_file file other (tables.is_any_out (file_of new other) ≡ true)
    (λ e. subst (λ (f : FileId). tables.is_any_out (file_of new f) ≡ true) e (ap tables.is_any_out put ∙ now (sym (ap tables.is_busy put) ∙ (ap (busy_in new) e ∙ busy))))
    (λ off. ap tables.is_any_out (beside off) ∙ others other off (sym (ap tables.is_busy (beside off)) ∙ busy))
  where
    new : Files
    new = with_file table file versioned

    put : file_of new file ≡ versioned
    put = file_put table file versioned

    beside : is_file file other ≡ false → file_of new other ≡ file_of table other
    beside off = file_other table file other versioned (turned file other off)

gone_called : (table : Files) (file : FileId) → AreFilesOnce table → Called table → Called (forgotten table file)
gone_called table file once h other busy = by_file file other (tables.is_any_out (file_of new other) ≡ true)
    (λ e. absurd (true≢false (sym busy ∙ (sym (ap (busy_in new) e) ∙ ap tables.is_busy (file_gone table file once)))))
    (λ off. ap tables.is_any_out (beside off) ∙ h other (sym (ap tables.is_busy (beside off)) ∙ busy))
  where
    new : Files
    new = forgotten table file

    beside : is_file file other ≡ false → file_of new other ≡ file_of table other
    beside off = file_left table file other (turned file other off)

closing_called : (o : Option Versioned) (table : Files) (file : FileId) (kernel : ℕ) (stream : StreamNo) (many : ℕ) → lookup (is_file file) table ≡ o → Called table → Called (closing_in table file kernel stream many o)
closing_called None table file kernel stream many e h = h
closing_called (Some versioned) table file kernel stream many e h =
    put_called table file (tables.closed versioned kernel stream many) (λ busy. subst (λ (o : Option Versioned). tables.is_busy (or_fresh file o) ≡ true → tables.is_any_out (or_fresh file o) ≡ true) e (h file) busy) (λ other off. h other)

-- ---- a server serves

abbrev P : Server → Type 0
P s = Calls s.versions.files s.callbacks × Called s.versions.files

same_table : (calls : List Callback) (asked : Asked) (s : Server) → (grants.calls_all asked calls s).versions.files ≡ s.versions.files
same_table [] asked s = refl
same_table (call ∷ calls) asked s = same_table calls asked (grants.calls_one asked call s)

keeps_busy : Keeps Every P
keeps_busy = record {
  notes = λ s event told p. p;
  answers = λ s asked reply k is p. p;
  pages = λ s swap p. p;
  shares = λ s shadows p. p;
  writes = λ s file bytes there p. p;
  makes = λ s path node done e off p. p;
  removes = λ s path node e off p. p;
  renames = λ s old new done e p. p;
  creates = λ s path done e p. p;
  unlinks = λ s path file e free opens p. p;
  forgets = λ s path file e free opens p. (keeps_calls.forgets s path file e free opens p.0, gone_called s.versions.files file p.0.once p.1);
  waits = λ s asked file k wait busy p. p;
  granted = λ s file action free e p. (keeps_calls.granted s file action free e p.0, put_called s.versions.files file _ (λ busy. absurd (true≢false (sym busy ∙ granted_free s.versions.cached (files.kept_of file s) action e))) (λ other off. p.1 other));
  asks = λ s asked file action call calls k may free e p. (keeps_calls.asks s asked file action call calls k may free e p.0, subst Called (sym (same_table (call ∷ calls) asked (grants.asks asked file (grants.with_decided file action s)))) (put_called s.versions.files file _ (λ busy. asked_any s.versions.cached (files.kept_of file s) action call calls e (p.0.places file)) (λ other off. p.1 other)));
  closes = λ s file kernel stream many mode free there last p. (keeps_calls.closes s file kernel stream many mode free there last p.0, closing_called (lookup (is_file file) s.versions.files) s.versions.files file kernel stream many refl p.1);
  closes_last = λ s file kernel stream many mode free there last p.
      let closed = closing_called (lookup (is_file file) s.versions.files) s.versions.files file kernel stream many refl p.1 in
      (keeps_calls.closes_last s file kernel stream many mode free there last p.0, gone_called (with_closed s.versions.files file kernel stream many) file (closing_once (lookup (is_file file) s.versions.files) s.versions.files file kernel stream many p.0.once) closed);
}
  where
    closing_once : (o : Option Versioned) (table : Files) (file : FileId) (kernel : ℕ) (stream : StreamNo) (many : ℕ) → AreFilesOnce table → AreFilesOnce (closing_in table file kernel stream many o)
    closing_once None table file kernel stream many once = once
    closing_once (Some versioned) table file kernel stream many once = once_put table file (tables.closed versioned kernel stream many) once

-- ---- a callback is answered

not_ready : (busy out : Bool) → (busy && not out) ≡ false → busy ≡ true → out ≡ true
not_ready true true e k = refl
not_ready true false e k = absurd (cc)
not_ready false out e k = absurd (cc)

settled_by : (o : Option Asking) (asked : Asked) (file : FileId) (s : Server) → (files.kept_of file s).asking ≡ o → is_some o ≡ true → P (waiting.with_settled file s) → P (waiting.settles_by asked file (tables.settling_grant (files.kept_of file s) o) s)
settled_by (Some asking) asked file s e busy p =
    let grant : Grant = tables.grant_of (files.kept_of file s) asking.action in
    let after : Server = waiting.with_settled file s in
    let given : Server = grants.grants asked file grant after in
    turns Every P keeps_busy (λ s file request e p. tt) (λ s file p. p) (length given.waiting) file given (grants_asked Every P keeps_busy asked file grant after tt p)
settled_by None asked file s e busy p = absurd (cc)

settles : (file : FileId) (s : Server) → files.is_busy file s ≡ true → has_about file s.asking ≡ true → Calls s.versions.files s.callbacks → ((other : FileId) → is_file file other ≡ false → busy_in s.versions.files other ≡ true → tables.is_any_out (file_of s.versions.files other) ≡ true) → P (waiting.settles file s)
settles file s busy asks calls others = by_ready (tables.is_ready (files.kept_of file s)) refl
  where
    settled : tables.is_ready (files.kept_of file s) ≡ true → P (waiting.with_settled file s)
    settled ready =
        let none_out = not-true (tables.is_any_out (files.kept_of file s)) (and_parts (tables.is_busy (files.kept_of file s)) (not (tables.is_any_out (files.kept_of file s))) ready).1 in (
          settled_calls file s (unmarked (files.kept_of file s).out none_out) calls,
          put_called s.versions.files file (tables.settled (files.kept_of file s)) (λ still. absurd (true≢false (sym still ∙ settled_free (files.kept_of file s) (files.kept_of file s).asking refl))) others,
        )

    first : (o : Option Asked) → first_about file s.asking ≡ o → tables.is_ready (files.kept_of file s) ≡ true → P (waiting.settles_first file o (record s { asking = less_about file s.asking }))
    first (Some asked) e ready =
        let taken : Server = record s { asking = less_about file s.asking } in
        subst (λ b. P (cond b (waiting.settles_by asked file (tables.settled_grant (files.kept_of file s)) taken) taken)) (sym ready) (settled_by (files.kept_of file s).asking asked file taken refl busy (settled ready))
    first None e ready = absurd (true≢false (sym asks ∙ none_found (is_under is_about file) (λ (row : FileId × Asked). row.1) s.asking e))

    by_ready : (b : Bool) → tables.is_ready (files.kept_of file s) ≡ b → P (cond b (waiting.settles_first file (first_about file s.asking) (record s { asking = less_about file s.asking })) s)
    by_ready true e = first (first_about file s.asking) refl e
    by_ready false e = (
      calls,
      λ other still. by_file file other (tables.is_any_out (file_of s.versions.files other) ≡ true)
          (λ same. subst (λ (f : FileId). tables.is_any_out (file_of s.versions.files f) ≡ true) same (not_ready (tables.is_busy (files.kept_of file s)) (tables.is_any_out (files.kept_of file s)) e busy))
          (λ off. others other off still),
    )

hears : (rows : List (TxNo × CallOut)) (q : TxNo × CallOut → Bool) (row : TxNo × CallOut) (s : Server) → find q rows ≡ Some row → s.callbacks ≡ less q rows → Stands s → Calls s.versions.files rows → Called s.versions.files → P (waiting.hears row.1 s)
hears rows q row s found same asks calls called = by_busy (files.is_busy row.1.file s) refl
  where
    after : Server
    after = waiting.with_answer row.1 s

    beside : (other : FileId) → is_file row.1.file other ≡ false → file_of after.versions.files other ≡ file_of s.versions.files other
    beside other off = file_other s.versions.files row.1.file other (tables.answered (files.kept_of row.1.file s) row.1.kernel) (turned row.1.file other off)

    by_busy : (b : Bool) → files.is_busy row.1.file s ≡ b → P (cond b (waiting.settles row.1.file after) s)
    by_busy true busy = settles row.1.file after (ap tables.is_busy (file_put s.versions.files row.1.file (tables.answered (files.kept_of row.1.file s) row.1.kernel)) ∙ busy) (sym (asks.busy row.1.file) ∙ busy) (answered_calls rows q row s found same busy calls)
        (λ other off busy. ap tables.is_any_out (beside other off) ∙ called other (sym (ap tables.is_busy (beside other off)) ∙ busy))
    by_busy false free = absurd (is_called rows q row s found calls free)

flushes_first : (o : Option (TxNo × CallOut)) (q : TxNo × CallOut → Bool) (rows : List (TxNo × CallOut)) (flushed : Flushed) (s : Server) → find q rows ≡ o → s.callbacks ≡ less q rows → Stands s → Calls s.versions.files rows → Called s.versions.files → Called (waiting.flushes_first flushed (option_map (λ (row : TxNo × CallOut). row.1) o) s).versions.files
flushes_first (Some row) q rows flushed s found same asks calls called =
    let kept = stored flushed.blocks row.1.file flushed.size s in
    let put : Server = waiting.puts_all row.1.file flushed.size flushed.blocks s in
    (hears rows q row put found (kept.1 ∙ same) (puts_all Every Stands (keeps_asking none) flushed.blocks row.1.file flushed.size s asks) (subst (λ (table : Files). Calls table rows) (sym kept.0) calls) (subst Called (sym kept.0) called)).1
flushes_first None q rows flushed s found same asks calls called = called

-- ---- a step

takes_reply : (body : ReplyBody) (tx : TxNo) (s : Server) → Stands s → P s → Called (stepping.takes_reply tx body s).versions.files
takes_reply (bodies.Flushed flushed) tx s asks p =
    let q = is_under waiting.is_call tx in
    flushes_first (find q s.callbacks) q s.callbacks flushed (record s { callbacks = less q s.callbacks }) refl refl asks p.0 p.1
takes_reply body tx s asks p = p.1

takes : (input : Input) (s : Server) → Stands s → P s → Called (stepping.takes input s).versions.files
takes (inputs.Request tx source body) s asks p = (serves Every P keeps_busy (record { tx = tx; from = source; body = body }) s tt p).1
takes (inputs.Replied tx source body) s asks p = takes_reply body tx s asks p
takes input s asks p = p.1

-- ---- in the words of the law

pub busy_so : (s : Server) → AskingStands s → CallsStand s → Called s.versions.files → BusyStands s
busy_so s asking calls called = record {
  busy = λ file. same_from_decides {P = tables.is_any_out (files.kept_of file s) ≡ true} (files.is_busy file s) (tables.is_any_out (files.kept_of file s)) (called file, λ any. busy_by (files.is_busy file s) file any refl) (λ h. h, λ h. h);
  asking = asking;
  calls = calls;
}
  where
    busy_by : (b : Bool) (file : FileId) → tables.is_any_out (files.kept_of file s) ≡ true → files.is_busy file s ≡ b → files.is_busy file s ≡ true
    busy_by true file any e = e
    busy_by false file any e = absurd (true≢false (sym any ∙ all_unmarked (files.kept_of file s).out (λ at. (calls_from s calls).quiet file e at)))

pub step_keeps_busy : StepKeeps BusyStands
step_keeps_busy s input next h =
    busy_so (stepping.server_step s input next).0 (step_keeps_asking s input next h.asking) (step_keeps_calls s input next h.calls)
    (takes input (stepping.begins next s) (stands_from s h.asking) (calls_from s h.calls, λ file busy. sym (h.busy file) ∙ busy))
