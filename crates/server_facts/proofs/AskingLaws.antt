-- Every step keeps which files are busy, and what waits for them.
use Rattle.std.proofs.Common.{◌≡◌, ℕ, zero, suc, ◌+◌, Bool, true, false, not, cond, List, [], ◌∷◌, ◌++◌, length, Option, Some, None, is_some, refl, sym, ap, subst, arith, ◌∙◌, true≢false}
use Rattle.std.specs.Map.{lookup}
use Rattle.std.proofs.lemmas.Bool.{and_parts}
use Rattle.sprite_ids.specs.declared.Callback.{Callback}
use Rattle.sprite_ids.specs.declared.FileId.{FileId}
use Rattle.sprite_ids.specs.declared.Flushed.{Flushed}
use Rattle.sprite_ids.specs.declared.Grant.{Grant}
use Rattle.sprite_ids.specs.declared.StreamNo.{StreamNo}
use Rattle.sprite_ids.specs.declared.TxNo.{TxNo}
use Rattle.sprite_ids.specs.Lists.{less}
use Rattle.sprite_ids.proofs.ListLaws.{some_is}
use Rattle.packet_bodies.specs.declared.ReplyBody.{ReplyBody}
use Rattle.packet_bodies.specs.declared.ReplyBody.TheVariants as bodies
use Rattle.kernel_steps.specs.declared.Input.{Input}
use Rattle.kernel_steps.specs.declared.Input.TheVariants as inputs
use Rattle.kernel_steps.specs.Rows.{first_under, is_under}
use Rattle.version_table.specs.declared.Action.{Action}
use Rattle.version_table.specs.declared.Asking.{Asking}
use Rattle.version_table.specs.declared.Versioned.{Versioned}
use Rattle.version_table.specs.Files as tables
use Rattle.version_table.specs.Versions.{Files, is_file, or_fresh, file_of, with_file, closing_in, with_closed, forgotten}
use Rattle.version_table.proofs.CoherenceLaws.{fold_same}
use Rattle.version_table.proofs.FileLaws.{file_put}
use Rattle.server_kernel.specs.declared.Asked.{Asked}
use Rattle.server_kernel.specs.declared.CallOut.{CallOut}
use Rattle.server_kernel.specs.declared.Server.{Server}
use Rattle.server_kernel.specs.Files as files
use Rattle.server_kernel.specs.Grants as grants
use Rattle.server_kernel.specs.Steps as stepping
use Rattle.server_kernel.specs.Waits as waiting
use Rattle.server_kernel.specs.Waits.{first_about, is_about, less_about}
use Rattle.server_walks.specs.Actions.{action_of}
use Rattle.server_walks.proofs.Deeds.{Every, Keeps}
use Rattle.server_walks.proofs.ServeWalk.{grants_asked, puts_all, serves}
use Rattle.server_facts.specs.Asking.{AreFilesOnce, AskingStands, AtMost, action_in, has_about}
use Rattle.server_facts.specs.Steps.{StepKeeps}
use Rattle.server_facts.proofs.Tables.{any_last, any_none, by_file, file_gone, file_left, file_other, find_apart, find_last, find_none, find_other, first_goes, itself, less_apart, less_none, most_all, most_apart, most_other, none_found, once_left, once_put, part_put, same_file, turned}

abbrev pub busy_in : Files → FileId → Bool
busy_in table file = tables.is_busy (file_of table file)

-- so many requests at most wait for a file that isn't busy: none between two steps, but some while what waits is served
pub record Asks (allow : FileId → ℕ) (table : Files) (asking waits : List (FileId × Asked)) : Type 0 where
  pub once : AreFilesOnce table
  pub busy : (file : FileId) → busy_in table file ≡ has_about file asking
  pub one : (file : FileId) → AtMost 1 (is_under is_about file) asking
  pub action : (file : FileId) (asked : Asked) → first_about file asking ≡ Some asked → action_in (file_of table file).asking ≡ action_of asked
  pub waited : (file : FileId) → busy_in table file ≡ false → AtMost (allow file) (is_under is_about file) waits

-- ---- changes of the table of opens that make no file busy or free

free_none : (o : Option Asking) → is_some o ≡ false → o ≡ None
free_none (Some asking) e = absurd (cc)
free_none None e = refl

no_row : (file : FileId) (asking : List (FileId × Asked)) (asked : Asked) → has_about file asking ≡ false → first_about file asking ≡ Some asked → ⊥
no_row file asking asked none found = let no : None ≡ Some asked = sym (find_none (is_under is_about file) (λ (row : FileId × Asked). row.1) asking none) ∙ found in absurd (cc)

module _ (allow : FileId → ℕ) (table : Files) (asking waits : List (FileId × Asked)) where
  same_busy : (new : Files) → AreFilesOnce new → ((file : FileId) → (file_of new file).asking ≡ (file_of table file).asking) → Asks allow table asking waits → Asks allow new asking waits
  same_busy new once same h = record {
    once = once;
    busy = λ file. ap is_some (same file) ∙ h.busy file;
    one = h.one;
    action = λ file asked found. ap action_in (same file) ∙ h.action file asked found;
    waited = λ file free. h.waited file (sym (ap is_some (same file)) ∙ free);
  }

  put_same : (file : FileId) (versioned : Versioned) → versioned.asking ≡ (file_of table file).asking → Asks allow table asking waits → Asks allow (with_file table file versioned) asking waits
  put_same file versioned e h = same_busy (with_file table file versioned) (once_put table file versioned h.once) (λ other. part_put (λ (v : Versioned). v.asking) table file other versioned e) h

  gone_same : (file : FileId) → busy_in table file ≡ false → Asks allow table asking waits → Asks allow (forgotten table file) asking waits
  gone_same file free h =
      same_busy (forgotten table file) (once_left table file h.once)
      (λ other. by_file other file ((file_of (forgotten table file) other).asking ≡ (file_of table other).asking)
      (λ e. subst (λ (f : FileId). (file_of (forgotten table file) f).asking ≡ (file_of table f).asking) (sym e) (ap (λ (v : Versioned). v.asking) (file_gone table file h.once) ∙ sym (free_none (file_of table file).asking free)))
      (λ off. ap (λ (v : Versioned). v.asking) (file_left table file other off))) h

  closing_same : (o : Option Versioned) (file : FileId) (kernel : ℕ) (stream : StreamNo) (many : ℕ) → lookup (is_file file) table ≡ o → Asks allow table asking waits → Asks allow (closing_in table file kernel stream many o) asking waits
  closing_same None file kernel stream many e h = h
  closing_same (Some versioned) file kernel stream many e h = put_same file (tables.closed versioned kernel stream many) (ap (λ (o : Option Versioned). (or_fresh file o).asking) (sym e)) h

  closed_same : (file : FileId) (kernel : ℕ) (stream : StreamNo) (many : ℕ) → Asks allow table asking waits → Asks allow (with_closed table file kernel stream many) asking waits
  closed_same file kernel stream many h = closing_same (lookup (is_file file) table) file kernel stream many refl h

  -- a request more waits for a busy file
  waits_more : (file : FileId) (request : Asked) → busy_in table file ≡ true → Asks allow table asking waits → Asks allow table asking (waits ++ (file, request) ∷ [])
  waits_more file request busy h = record {
    once = h.once;
    busy = h.busy;
    one = h.one;
    action = h.action;
    waited = λ other free. by_file file other (AtMost (allow other) (is_under is_about other) (waits ++ (file, request) ∷ []))
        (λ e. absurd (true≢false (sym busy ∙ (ap (busy_in table) e ∙ free))))
        (λ off. most_other (allow other) (is_under is_about other) waits (file, request) off (h.waited other free));
  }

  -- a file becomes busy, and one request more asks
  asks_more : (file : FileId) (request : Asked) (versioned : Versioned) → action_in versioned.asking ≡ action_of request → tables.is_busy versioned ≡ true → busy_in table file ≡ false → Asks allow table asking waits → Asks allow (with_file table file versioned) (asking ++ (file, request) ∷ []) waits
  asks_more file request versioned acts busy free h = record {
    once = once_put table file versioned h.once;
    busy = λ other. by_file file other (busy_in new other ≡ has_about other asked)
        (λ e. subst (λ (f : FileId). busy_in new f ≡ has_about f asked) e (now ∙ sym (any_last (is_under is_about file) asking (file, request) (itself file))))
        (λ off. beside other off ∙ (h.busy other ∙ sym (any_none (is_under is_about other) asking (file, request) off)));
    one = λ other. by_file file other (AtMost 1 (is_under is_about other) asked)
        (λ e. subst (λ (f : FileId). AtMost 1 (is_under is_about f) asked) e (first_goes (is_under is_about file) asking (file, request) (sym (h.busy file) ∙ free)))
        (λ off. most_other 1 (is_under is_about other) asking (file, request) off (h.one other));
    action = λ other kept found. by_file file other (action_in (file_of new other).asking ≡ action_of kept)
        (λ e. subst (λ (f : FileId). action_in (file_of new f).asking ≡ action_of kept) e
        (ap (λ (v : Versioned). action_in v.asking) (file_put table file versioned) ∙ (acts ∙ ap action_of (some_is request kept (sym (find_last (is_under is_about file) (λ (row : FileId × Asked). row.1) asking (file, request) (sym (h.busy file) ∙ free) (itself file)) ∙ subst (λ (f : FileId). first_about f asked ≡ Some kept) (sym e) found)))))
        (λ off. ap (λ (v : Versioned). action_in v.asking) (file_other table file other versioned (turned file other off)) ∙ h.action other kept (sym (find_other (is_under is_about other) (λ (row : FileId × Asked). row.1) asking (file, request) off) ∙ found));
    waited = λ other quiet. by_file file other (AtMost (allow other) (is_under is_about other) waits)
        (λ e. absurd (true≢false (sym now ∙ (ap (busy_in new) e ∙ quiet))))
        (λ off. h.waited other (sym (beside other off) ∙ quiet));
  }
    where
      new : Files
      new = with_file table file versioned

      asked : List (FileId × Asked)
      asked = asking ++ (file, request) ∷ []

      now : busy_in new file ≡ true
      now = ap tables.is_busy (file_put table file versioned) ∙ busy

      beside : (other : FileId) → is_file file other ≡ false → busy_in new other ≡ busy_in table other
      beside other off = ap tables.is_busy (file_other table file other versioned (turned file other off))

-- ---- decisions

granted_asking : (cached : Bool) (file : Versioned) (action : Action) → tables.calls_of cached file action ≡ [] → (tables.decided cached file action).asking ≡ None
granted_asking cached file action e = ap (λ (calls : List Callback). (tables.deciding (tables.told (tables.is_uncached cached file action) file) action calls).asking) e

pub granted_free : (cached : Bool) (file : Versioned) (action : Action) → tables.calls_of cached file action ≡ [] → tables.is_busy (tables.decided cached file action) ≡ false
granted_free cached file action e = ap (λ (calls : List Callback). tables.is_busy (tables.deciding (tables.told (tables.is_uncached cached file action) file) action calls)) e

pub asked_busy : (cached : Bool) (file : Versioned) (action : Action) (call : Callback) (calls : List Callback) → tables.calls_of cached file action ≡ call ∷ calls → tables.is_busy (tables.decided cached file action) ≡ true
asked_busy cached file action call calls e =
    let told : Versioned = tables.told (tables.is_uncached cached file action) file in
    ap (λ (calls : List Callback). tables.is_busy (tables.deciding told action calls)) e
    ∙ ap is_some (fold_same (λ (v : Versioned). v.asking) (λ v c. refl) (tables.waiting told action) (call ∷ calls))

asked_action : (cached : Bool) (file : Versioned) (action : Action) (call : Callback) (calls : List Callback) → tables.calls_of cached file action ≡ call ∷ calls → action_in (tables.decided cached file action).asking ≡ Some action
asked_action cached file action call calls e =
    let told : Versioned = tables.told (tables.is_uncached cached file action) file in
    ap (λ (calls : List Callback). action_in (tables.deciding told action calls).asking) e
    ∙ ap action_in (fold_same (λ (v : Versioned). v.asking) (λ v c. refl) (tables.waiting told action) (call ∷ calls))

pub settled_free : (file : Versioned) (o : Option Asking) → file.asking ≡ o → tables.is_busy (tables.settling file o) ≡ false
settled_free file (Some asking) e = refl
settled_free file None e = ap is_some e

-- ---- a server serves

module _ (allow : FileId → ℕ) where
  abbrev P : Server → Type 0
  P s = Asks allow s.versions.files s.asking s.waiting

  calls_all : (calls : List Callback) (asked : Asked) (s : Server) → P s → P (grants.calls_all asked calls s)
  calls_all [] asked s p = p
  calls_all (call ∷ calls) asked s p = calls_all calls asked (grants.calls_one asked call s) p

  pub keeps_asking : Keeps Every P
  keeps_asking = record {
    notes = λ s event told p. p;
    answers = λ s asked reply k is p. p;
    pages = λ s swap p. p;
    shares = λ s shadows p. p;
    writes = λ s file bytes there p. p;
    makes = λ s path node done e off p. p;
    removes = λ s path node e off p. p;
    renames = λ s old new done e p. p;
    creates = λ s path done e p. p;
    unlinks = λ s path file e free opens p. p;
    forgets = λ s path file e free opens p. gone_same allow s.versions.files s.asking s.waiting file free p;
    waits = λ s asked file k wait busy p. waits_more allow s.versions.files s.asking s.waiting file asked busy p;
    granted = λ s file action free e p. put_same allow s.versions.files s.asking s.waiting file _ (granted_asking s.versions.cached (files.kept_of file s) action e ∙ sym (free_none (files.kept_of file s).asking free)) p;
    asks = λ s asked file action call calls k may free e p. calls_all (call ∷ calls) asked (grants.asks asked file (grants.with_decided file action s)) (asks_more allow s.versions.files s.asking s.waiting file asked _ (asked_action s.versions.cached (files.kept_of file s) action call calls e ∙ sym may) (asked_busy s.versions.cached (files.kept_of file s) action call calls e) free p);
    closes = λ s file kernel stream many mode free there last p. closed_same allow s.versions.files s.asking s.waiting file kernel stream many p;
    closes_last = λ s file kernel stream many mode free there last p. gone_same allow (with_closed s.versions.files file kernel stream many) s.asking s.waiting file (still_free s.versions.files file kernel stream many free) (closed_same allow s.versions.files s.asking s.waiting file kernel stream many p);
  }
    where
      free_by : (o : Option Versioned) (table : Files) (file : FileId) (kernel : ℕ) (stream : StreamNo) (many : ℕ) → lookup (is_file file) table ≡ o → busy_in table file ≡ false → busy_in (closing_in table file kernel stream many o) file ≡ false
      free_by None table file kernel stream many e free = free
      free_by (Some versioned) table file kernel stream many e free = ap tables.is_busy (file_put table file (tables.closed versioned kernel stream many)) ∙ (ap (λ (o : Option Versioned). tables.is_busy (or_fresh file o)) (sym e) ∙ free)

      still_free : (table : Files) (file : FileId) (kernel : ℕ) (stream : StreamNo) (many : ℕ) → busy_in table file ≡ false → busy_in (with_closed table file kernel stream many) file ≡ false
      still_free table file kernel stream many free = free_by (lookup (is_file file) table) table file kernel stream many refl free

-- ---- what waited is served

-- so many may wait for that file
abbrev at : FileId → ℕ → FileId → ℕ
at file n other = cond (is_file file other) n 0

abbrev pub none : FileId → ℕ
none file = 0

module _ (file : FileId) where
  abbrev Q : ℕ → Server → Type 0
  Q n s = Asks (at file n) s.versions.files s.asking s.waiting

  here : (n : ℕ) (rows : List (FileId × Asked)) (other : FileId) → file ≡ other → AtMost n (is_under is_about file) rows → AtMost (at file n other) (is_under is_about other) rows
  here n rows other e h = subst (λ (f : FileId). AtMost (at file n f) (is_under is_about f) rows) e (subst (λ b. AtMost (cond b n 0) (is_under is_about file) rows) (sym (itself file)) h)

  there : (n : ℕ) (rows : List (FileId × Asked)) (other : FileId) → is_file file other ≡ false → AtMost 0 (is_under is_about other) rows → AtMost (at file n other) (is_under is_about other) rows
  there n rows other off h = subst (λ b. AtMost (cond b n 0) (is_under is_about other) rows) (sym off) h

  from_here : (n : ℕ) (rows : List (FileId × Asked)) → AtMost (at file n file) (is_under is_about file) rows → AtMost n (is_under is_about file) rows
  from_here n rows h = subst (λ b. AtMost (cond b n 0) (is_under is_about file) rows) (itself file) h

  from_there : (n : ℕ) (rows : List (FileId × Asked)) (other : FileId) → is_file file other ≡ false → AtMost (at file n other) (is_under is_about other) rows → AtMost 0 (is_under is_about other) rows
  from_there n rows other off h = subst (λ b. AtMost (cond b n 0) (is_under is_about other) rows) off h

  -- no row is about both
  apart : (other : FileId) → is_file file other ≡ false → (row : FileId × Asked) → is_under is_about file row ≡ true → is_under is_about other row ≡ false
  apart other off row e = subst (λ (f : FileId). is_file f other ≡ false) (sym (same_file row.0 file e)) off

  -- however many wait, they are no more than there are
  renewed : (n : ℕ) (s : Server) → Q n s → Q (length s.waiting) s
  renewed n s h = record {
    once = h.once;
    busy = h.busy;
    one = h.one;
    action = h.action;
    waited = λ other free. by_file file other (AtMost (at file (length s.waiting) other) (is_under is_about other) s.waiting)
        (λ e. here (length s.waiting) s.waiting other e (most_all s.waiting (length s.waiting) (is_under is_about file) (omega arith)))
        (λ off. there (length s.waiting) s.waiting other off (from_there n s.waiting other off (h.waited other free)));
  }

  -- one that waited is taken out
  one_less : (n : ℕ) (s : Server) → files.is_busy file s ≡ false → Q (suc n) s → Q n (record s { waiting = less_about file s.waiting })
  one_less n s quiet h = record {
    once = h.once;
    busy = h.busy;
    one = h.one;
    action = h.action;
    waited = λ other free. by_file file other (AtMost (at file n other) (is_under is_about other) (less_about file s.waiting))
        (λ e. here n (less_about file s.waiting) other e (from_here (suc n) s.waiting (h.waited file quiet)))
        (λ off. there n (less_about file s.waiting) other off (less_none (is_under is_about other) (is_under is_about file) s.waiting (from_there (suc n) s.waiting other off (h.waited other free))));
  }

  -- while the file is busy, any number may wait
  still_busy : (n m : ℕ) (s : Server) → files.is_busy file s ≡ true → Q n s → Q m s
  still_busy n m s busy h = record {
    once = h.once;
    busy = h.busy;
    one = h.one;
    action = h.action;
    waited = λ other free. by_file file other (AtMost (at file m other) (is_under is_about other) s.waiting)
        (λ e. absurd (true≢false (sym busy ∙ (ap (busy_in s.versions.files) e ∙ free))))
        (λ off. there m s.waiting other off (from_there n s.waiting other off (h.waited other free)));
  }

  served : (o : Option Asked) (n : ℕ) (s : Server) → Q n s → Q n (waiting.serves_first o s)
  served (Some asked) n s h = serves Every (Q n) (keeps_asking (at file n)) asked s tt h
  served None n s h = h

  turned_by : (b : Bool) (n : ℕ) (s : Server) → files.is_busy file s ≡ b → Q (suc n) s → Q n (cond b s (waiting.serves_first (first_about file s.waiting) (record s { waiting = less_about file s.waiting })))
  turned_by true n s e h = still_busy (suc n) n s e h
  turned_by false n s e h = served (first_about file s.waiting) n (record s { waiting = less_about file s.waiting }) (one_less n s e h)

  turns : (count left : ℕ) (s : Server) → Q (left + count) s → Q left (waiting.turns count file s)
  turns zero left s h = subst (λ n. Q n s) (omega arith) h
  turns (suc count) left s h =
      let before : Server = waiting.turns count file s in
      turned_by (files.is_busy file before) left before refl (turns count (suc left) s (subst (λ n. Q n s) (omega arith) h))

  -- ---- the last callback is answered

  settled_more : (table : Files) (asking waits : List (FileId × Asked)) (versioned : Versioned) → tables.is_busy versioned ≡ false → Asks none table asking waits → Asks (at file (length waits)) (with_file table file versioned) (less_about file asking) waits
  settled_more table asking waits versioned free h = record {
    once = once_put table file versioned h.once;
    busy = λ other. by_file file other (busy_in new other ≡ has_about other (less_about file asking))
        (λ e. subst (λ (f : FileId). busy_in new f ≡ has_about f (less_about file asking)) e ((ap tables.is_busy (file_put table file versioned) ∙ free) ∙ sym (h.one file)))
        (λ off. beside other off ∙ (h.busy other ∙ sym (less_apart (is_under is_about other) (is_under is_about file) asking (apart other off))));
    one = λ other. by_file file other (AtMost 1 (is_under is_about other) (less_about file asking))
        (λ e. subst (λ (f : FileId). AtMost 1 (is_under is_about f) (less_about file asking)) e (less_none (is_under is_about file) (is_under is_about file) (less_about file asking) (h.one file)))
        (λ off. most_apart 1 (is_under is_about other) (is_under is_about file) asking (apart other off) (h.one other));
    action = λ other asked found. by_file file other (action_in (file_of new other).asking ≡ action_of asked)
        (λ e. absurd (no_row file (less_about file asking) asked (h.one file) (subst (λ (f : FileId). first_about f (less_about file asking) ≡ Some asked) (sym e) found)))
        (λ off. ap (λ (v : Versioned). action_in v.asking) (file_other table file other versioned (turned file other off)) ∙ h.action other asked (sym (find_apart (is_under is_about other) (is_under is_about file) (λ (row : FileId × Asked). row.1) asking (apart other off)) ∙ found));
    waited = λ other quiet. by_file file other (AtMost (at file (length waits) other) (is_under is_about other) waits)
        (λ e. here (length waits) waits other e (most_all waits (length waits) (is_under is_about file) (omega arith)))
        (λ off. there (length waits) waits other off (h.waited other (sym (beside other off) ∙ quiet)));
  }
    where
      new : Files
      new = with_file table file versioned

      beside : (other : FileId) → is_file file other ≡ false → busy_in new other ≡ busy_in table other
      beside other off = ap tables.is_busy (file_other table file other versioned (turned file other off))

  quiet_again : (s : Server) → Q 0 s → Asks none s.versions.files s.asking s.waiting
  quiet_again s h = record { once = h.once; busy = h.busy; one = h.one; action = h.action; waited = λ other free. subst (λ n. AtMost n (is_under is_about other) s.waiting) (zero_either (is_file file other)) (h.waited other free) }
    where
      zero_either : (b : Bool) → ◌≡◌ {A = ℕ} (cond b 0 0) 0
      zero_either true = refl
      zero_either false = refl

abbrev pub Stands : Server → Type 0
Stands s = Asks none s.versions.files s.asking s.waiting

-- a kernel has answered
pub answered_stands : (call : CallOut) (s : Server) → Stands s → Stands (waiting.with_answer call s)
answered_stands call s h = put_same none s.versions.files s.asking s.waiting call.file (tables.answered (files.kept_of call.file s) call.kernel) refl h

waited_served : (file : FileId) (n : ℕ) (s : Server) → Q file n s → Stands (waiting.serves_waiting file s)
waited_served file n s h =
    let all : Q file (0 + length s.waiting) s = subst (λ n. Q file n s) (omega arith) (renewed file n s h) in
    quiet_again file (waiting.serves_waiting file s) (turns file (length s.waiting) 0 s all)

settled_by : (o : Option Asking) (asked : Asked) (file : FileId) (rows : List (FileId × Asked)) (s : Server) → (files.kept_of file s).asking ≡ o → is_some o ≡ true → Asks none s.versions.files rows s.waiting → s.asking ≡ less_about file rows
    → Stands (waiting.settles_by asked file (tables.settling_grant (files.kept_of file s) o) s)
settled_by (Some asking) asked file rows s e busy h same =
    let grant : Grant = tables.grant_of (files.kept_of file s) asking.action in
    let after : Server = waiting.with_settled file s in
    let free : tables.is_busy (tables.settled (files.kept_of file s)) ≡ false = settled_free (files.kept_of file s) (files.kept_of file s).asking refl in
    let settled : Q file (length s.waiting) after = subst (λ (asking : List (FileId × Asked)). Asks (at file (length s.waiting)) after.versions.files asking s.waiting) (sym same) (settled_more file s.versions.files rows s.waiting _ free h) in
    waited_served file (length s.waiting) (grants.grants asked file grant after) (grants_asked Every (Q file (length s.waiting)) (keeps_asking (at file (length s.waiting))) asked file grant after tt settled)
settled_by None asked file rows s e busy h same = absurd (cc)

settles_first : (o : Option Asked) (file : FileId) (s : Server) → first_about file s.asking ≡ o → tables.is_ready (files.kept_of file s) ≡ true → Stands s → Stands (waiting.settles_first file o (record s { asking = less_about file s.asking }))
settles_first (Some asked) file s e ready h =
    let busy : tables.is_busy (files.kept_of file s) ≡ true = (and_parts (tables.is_busy (files.kept_of file s)) (not (tables.is_any_out (files.kept_of file s))) ready).0 in
    let taken : Server = record s { asking = less_about file s.asking } in
    subst (λ b. Stands (cond b (waiting.settles_by asked file (tables.settled_grant (files.kept_of file s)) taken) taken)) (sym ready)
    (settled_by (files.kept_of file s).asking asked file s.asking taken refl busy h refl)
settles_first None file s e ready h =
    let busy : tables.is_busy (files.kept_of file s) ≡ true = (and_parts (tables.is_busy (files.kept_of file s)) (not (tables.is_any_out (files.kept_of file s))) ready).0 in
    absurd (true≢false (sym busy ∙ (h.busy file ∙ none_found (is_under is_about file) (λ (row : FileId × Asked). row.1) s.asking e)))

settles : (file : FileId) (s : Server) → Stands s → Stands (waiting.settles file s)
settles file s h = by_ready (tables.is_ready (files.kept_of file s)) refl
  where
    by_ready : (b : Bool) → tables.is_ready (files.kept_of file s) ≡ b → Stands (cond b (waiting.settles_first file (first_about file s.asking) (record s { asking = less_about file s.asking })) s)
    by_ready true e = settles_first (first_about file s.asking) file s refl e h
    by_ready false e = h

hears : (call : CallOut) (s : Server) → Stands s → Stands (waiting.hears call s)
hears call s h = elim (files.is_busy call.file s) as (λ b. Stands (cond b (waiting.settles call.file (waiting.with_answer call s)) s)) [
  | true ↦ settles call.file (waiting.with_answer call s) (put_same none s.versions.files s.asking s.waiting call.file (tables.answered (files.kept_of call.file s) call.kernel) refl h)
  | false ↦ h
]

flushes_first : (o : Option CallOut) (flushed : Flushed) (s : Server) → Stands s → Stands (waiting.flushes_first flushed o s)
flushes_first (Some call) flushed s h = hears call (waiting.puts_all call.file flushed.size flushed.blocks s) (puts_all Every Stands (keeps_asking none) flushed.blocks call.file flushed.size s h)
flushes_first None flushed s h = h

-- ---- a step

takes_reply : (body : ReplyBody) (tx : TxNo) (s : Server) → Stands s → Stands (stepping.takes_reply tx body s)
takes_reply (bodies.Flushed flushed) tx s h = flushes_first (first_under waiting.is_call tx s.callbacks) flushed (record s { callbacks = less (is_under waiting.is_call tx) s.callbacks }) h
takes_reply body tx s h = h

takes : (input : Input) (s : Server) → Stands s → Stands (stepping.takes input s)
takes (inputs.Request tx source body) s h = serves Every Stands (keeps_asking none) (record { tx = tx; from = source; body = body }) s tt h
takes (inputs.Replied tx source body) s h = takes_reply body tx s h
takes input s h = h

-- ---- in the words of the law

pub stands_so : (s : Server) → Stands s → AskingStands s
stands_so s h = record { busy = h.busy; waited = h.waited; action = h.action; once = h.one; files = h.once }

pub stands_from : (s : Server) → AskingStands s → Stands s
stands_from s h = record { busy = h.busy; waited = h.waited; action = h.action; one = h.once; once = h.files }

pub step_keeps_asking : StepKeeps AskingStands
step_keeps_asking s input next h = stands_so (stepping.server_step s input next).0 (takes input (stepping.begins next s) (stands_from s h))

pub none_stand : (s : Server) → s.versions.files ≡ [] → s.asking ≡ [] → s.waiting ≡ [] → AskingStands s
none_stand s table asking waits =
    stands_so s (subst (λ (t : Files). Asks none t s.asking s.waiting) (sym table)
    (subst (λ (rows : List (FileId × Asked)). Asks none [] rows s.waiting) (sym asking)
    (subst (λ (rows : List (FileId × Asked)). Asks none [] [] rows) (sym waits) begun)))
  where
    begun : Asks none [] [] []
    begun = record { once = tt; busy = λ file. refl; one = λ file. refl; action = λ file asked found. absurd (cc); waited = λ file free. refl }
