-- Every step keeps that a file without a name is there, and open.
use Rattle.std.proofs.Common.{◌≡◌, ◌≤◌, ℕ, suc, ◌+◌, Bool, true, false, ◌&&◌, not, cond, List, [], ◌∷◌, ◌++◌, Option, Some, None, is_some, Ok, refl, sym, ap, subst, arith, ◌∙◌, true≢false}
use Rattle.std.specs.List.{list_any, position}
use Rattle.std.specs.Map.{lookup}
use Rattle.std.proofs.lemmas.Bool.{and_parts}
use Rattle.sprite_ids.specs.declared.Callback.{Callback}
use Rattle.sprite_ids.specs.declared.FileId.{FileId}
use Rattle.sprite_ids.specs.declared.StreamNo.{StreamNo}
use Rattle.sprite_ids.specs.Lists as lists
use Rattle.sprite_ids.specs.Lists.{less, one_if}
use Rattle.file_store.specs.Files.{Kept, is_there, with_bytes, with_new, without}
use Rattle.file_store.proofs.FileLaws.{changed_there, made_there, others_gone, others_made}
use Rattle.server_names.specs.declared.Node.TheVariants as nodes
use Rattle.version_table.specs.declared.Action.{Action}
use Rattle.version_table.specs.declared.Asking.{Asking}
use Rattle.version_table.specs.declared.Open.{Open}
use Rattle.version_table.specs.declared.Versioned.{Versioned}
use Rattle.version_table.specs.Files as tables
use Rattle.version_table.specs.Lists.{is_any}
use Rattle.version_table.specs.Opens as opens
use Rattle.version_table.specs.Versions.{Files, is_file, or_fresh, file_of, with_file, closing_in, with_closed, forgotten}
use Rattle.version_table.proofs.CoherenceLaws.{fold_same}
use Rattle.version_table.proofs.FileLaws.{file_put}
use Rattle.server_kernel.specs.declared.Asked.{Asked}
use Rattle.server_kernel.specs.declared.Domain.{Domain}
use Rattle.server_kernel.specs.declared.Server.{Server}
use Rattle.server_kernel.specs.Directory as directory
use Rattle.server_kernel.specs.Directory.{Parts}
use Rattle.server_kernel.specs.Files as files
use Rattle.server_kernel.specs.Files.{is_that}
use Rattle.server_kernel.specs.Grants as grants
use Rattle.server_kernel.specs.Opens as opening
use Rattle.server_kernel.specs.Steps as stepping
use Rattle.server_facts.specs.Asking.{AreFilesOnce}
use Rattle.server_facts.specs.Steps.{StepKeeps}
use Rattle.server_facts.specs.Unlinked.{LeadsToOpens, UnlinkedStand, in_domains, times}
use Rattle.server_facts.proofs.NameCounts.{any_times, made_most, no_file, none_times, one_most, removed_most, renamed_most, times_gone, times_less, times_push, unnamed_fewer}
use Rattle.server_walks.proofs.Deeds.{Every, Keeps, changed_in, dropped_files, made_files}
use Rattle.server_walks.proofs.StepWalk.{KeepsSteps, takes}
use Rattle.server_walks.proofs.Bearing.{any_comes}
use Rattle.server_facts.proofs.Tables.{by_file, file_gone, file_left, file_other, itself, once_left, once_put, turned}

-- how many names a file has, with how often it stands among those that have none
abbrev named : FileId → List Domain → List FileId → ℕ
named file domains gone = in_domains file domains + times file gone

pub record Names (domains : List Domain) (next : ℕ) (gone : List FileId) (kept : Kept) (table : Files) : Type 0 where
  pub few : (file : FileId) → named file domains gone ≤ 1
  pub new : (file : FileId) → next ≤ file.number → named file domains gone ≡ 0
  pub there : (file : FileId) → 1 ≤ named file domains gone → is_there kept file ≡ true
  pub opens : (file : FileId) → 1 ≤ times file gone → is_any (file_of table file).opens ≡ true
  pub waits : (file : FileId) → LeadsToOpens (file_of table file).asking
  pub once : AreFilesOnce table

-- ---- numbers

no_more : (a b c : ℕ) → a ≤ b + 0 → b + c ≤ 1 → a + c ≤ 1
no_more a b c h few = omega arith

none_more : (a b c : ℕ) → a ≤ b + 0 → b + c ≡ 0 → a + c ≡ 0
none_more a b c h new = omega arith

some_more : (a b c : ℕ) → a ≤ b + 0 → 1 ≤ a + c → 1 ≤ b + c
some_more a b c h some = omega arith

-- ---- names that are no more than before

pub fewer_names : (domains after : List Domain) (next : ℕ) (gone : List FileId) (kept : Kept) (table : Files) → ((file : FileId) → in_domains file after ≤ in_domains file domains + 0) → Names domains next gone kept table → Names after next gone kept table
fewer_names domains after next gone kept table fewer h = record {
  few = λ file. no_more (in_domains file after) (in_domains file domains) (times file gone) (fewer file) (h.few file);
  new = λ file high. none_more (in_domains file after) (in_domains file domains) (times file gone) (fewer file) (h.new file high);
  there = λ file some. h.there file (some_more (in_domains file after) (in_domains file domains) (times file gone) (fewer file) some);
  opens = h.opens;
  waits = h.waits;
  once = h.once;
}

-- ---- the table of opens

module _ (domains : List Domain) (next : ℕ) (gone : List FileId) (kept : Kept) (table : Files) where
  put_opens : (file : FileId) (versioned : Versioned) → (1 ≤ times file gone → is_any versioned.opens ≡ true) → LeadsToOpens versioned.asking → Names domains next gone kept table → Names domains next gone kept (with_file table file versioned)
  put_opens file versioned has leads h = record {
    few = h.few;
    new = h.new;
    there = h.there;
    opens = λ other some. by_file file other (is_any (file_of new_table other).opens ≡ true)
        (λ e. subst (λ (f : FileId). is_any (file_of new_table f).opens ≡ true) e (ap (λ (v : Versioned). is_any v.opens) now ∙ has (subst (λ (f : FileId). 1 ≤ times f gone) (sym e) some)))
        (λ off. ap (λ (v : Versioned). is_any v.opens) (beside other off) ∙ h.opens other some);
    waits = λ other. by_file file other (LeadsToOpens (file_of new_table other).asking)
        (λ e. subst (λ (f : FileId). LeadsToOpens (file_of new_table f).asking) e (subst (λ (v : Versioned). LeadsToOpens v.asking) (sym now) leads))
        (λ off. subst (λ (v : Versioned). LeadsToOpens v.asking) (sym (beside other off)) (h.waits other));
    once = once_put table file versioned h.once;
  }
    where
      new_table : Files
      new_table = with_file table file versioned

      now : file_of new_table file ≡ versioned
      now = file_put table file versioned

      beside : (other : FileId) → is_file file other ≡ false → file_of new_table other ≡ file_of table other
      beside other off = file_other table file other versioned (turned file other off)

  -- a file that has no name, and wasn't open or was closed last, is forgotten
  forgets : (after : List Domain) (left : List FileId) (file : FileId) (closed : Files) → in_domains file after ≡ 0 → times file (less (is_that file) left) ≡ 0
      → ((other : FileId) → is_file file other ≡ false → in_domains other after ≤ in_domains other domains + 0) → ((other : FileId) → is_file file other ≡ false → times other left ≡ times other gone)
      → AreFilesOnce closed → ((other : FileId) → is_file file other ≡ false → file_of closed other ≡ file_of table other)
      → Names domains next gone kept table → Names after next (less (is_that file) left) (dropped_files kept file) (forgotten closed file)
  forgets after left file closed none unmarked fewer same once beside h = record {
    few = λ other. by_file file other (named other after over ≤ 1)
        (λ e. subst (λ (f : FileId). named f after over ≤ 1) e (let n = none in let m = unmarked in omega arith))
        (λ off. under other (h.few other) off);
    new = λ other high. by_file file other (named other after over ≡ 0)
        (λ e. subst (λ (f : FileId). named f after over ≡ 0) e nothing)
        (λ off. zero_under (named other after over) (named other domains gone) (most other off) (h.new other high));
    there = λ other some. by_file file other (is_there (dropped_files kept file) other ≡ true)
        (λ e. absurd (too_few (named file after over) nothing (subst (λ (f : FileId). 1 ≤ named f after over) (sym e) some)))
        (λ off. dropped_there (is_there kept file) other off (h.there other (some_under (named other after over) (named other domains gone) (most other off) some)));
    opens = λ other some. by_file file other (is_any (file_of (forgotten closed file) other).opens ≡ true)
        (λ e. absurd (too_few (times file over) unmarked (subst (λ (f : FileId). 1 ≤ times f over) (sym e) some)))
        (λ off. ap (λ (v : Versioned). is_any v.opens) (left_over other off) ∙ h.opens other (subst (λ n. 1 ≤ n) (same other off) (some_under (times other over) (times other left) (times_less other (is_that file) left) some)));
    waits = λ other. by_file file other (LeadsToOpens (file_of (forgotten closed file) other).asking)
        (λ e. subst (λ (f : FileId). LeadsToOpens (file_of (forgotten closed file) f).asking) e (subst (λ (v : Versioned). LeadsToOpens v.asking) (sym (file_gone closed file once)) tt))
        (λ off. subst (λ (v : Versioned). LeadsToOpens v.asking) (sym (left_over other off)) (h.waits other));
    once = once_left closed file once;
  }
    where
      over : List FileId
      over = less (is_that file) left

      both_none : (a b : ℕ) → a ≡ 0 → b ≡ 0 → a + b ≡ 0
      both_none a b e f = omega arith

      nothing : named file after over ≡ 0
      nothing = both_none (in_domains file after) (times file over) none unmarked

      too_few : (n : ℕ) → n ≡ 0 → 1 ≤ n → ⊥
      too_few n e some = omega arith

      zero_under : (a b : ℕ) → a ≤ b → b ≡ 0 → a ≡ 0
      zero_under a b h e = omega arith

      some_under : (a b : ℕ) → a ≤ b → 1 ≤ a → 1 ≤ b
      some_under a b h some = omega arith

      sums : (a b c d e : ℕ) → a ≤ b + 0 → c ≤ d → d ≡ e → a + c ≤ b + e
      sums a b c d e h k f = omega arith

      most : (other : FileId) → is_file file other ≡ false → named other after over ≤ named other domains gone
      most other off = sums (in_domains other after) (in_domains other domains) (times other over) (times other left) (times other gone) (fewer other off) (times_less other (is_that file) left) (same other off)

      few_under : (a b : ℕ) → a ≤ b → b ≤ 1 → a ≤ 1
      few_under a b h few = omega arith

      under : (other : FileId) → named other domains gone ≤ 1 → is_file file other ≡ false → named other after over ≤ 1
      under other few off = few_under (named other after over) (named other domains gone) (most other off) few

      apart : (other : FileId) → is_file file other ≡ false → other ≡ file → ⊥
      apart other off e = true≢false (sym (itself file) ∙ (ap (is_file file) (sym e) ∙ off))

      dropped_there : (b : Bool) (other : FileId) → is_file file other ≡ false → is_there kept other ≡ true → is_there (cond b (without kept file) kept) other ≡ true
      dropped_there true other off there = ap is_some (others_gone kept file other (apart other off)) ∙ there
      dropped_there false other off there = there

      left_over : (other : FileId) → is_file file other ≡ false → file_of (forgotten closed file) other ≡ file_of table other
      left_over other off = file_left closed file other (turned file other off) ∙ beside other off

-- ---- a name is taken away

unnamed_names : (o : Option ℕ) (domains : List Domain) (next : ℕ) (gone : List FileId) (kept : Kept) (table : Files) (path : Parts) (file : FileId) → directory.found_by path (directory.at_place domains o) ≡ Ok (nodes.File file) → is_any (file_of table file).opens ≡ true → Names domains next gone kept table
    → Names (changed_in (directory.removed_domain path) o domains) next (gone ++ file ∷ []) kept table
unnamed_names o domains next gone kept table path file found has h = record {
  few = λ other. by_file file other (named other after more ≤ 1)
      (λ e. subst (λ (f : FileId). named f after more ≤ 1) e (moved (in_domains file after) (in_domains file domains) (times file gone) (times file more) fewer pushed (h.few file)))
      (λ off. no_more (in_domains other after) (in_domains other domains) (times other more) (removed_most o other path domains) (subst (λ n. in_domains other domains + n ≤ 1) (sym (same other off)) (h.few other)));
  new = λ other high. by_file file other (named other after more ≡ 0)
      (λ e. absurd (had (in_domains file after) (in_domains file domains) (times file gone) fewer (h.new file (subst (λ (f : FileId). next ≤ f.number) (sym e) high))))
      (λ off. none_more (in_domains other after) (in_domains other domains) (times other more) (removed_most o other path domains) (subst (λ n. in_domains other domains + n ≡ 0) (sym (same other off)) (h.new other high)));
  there = λ other some. by_file file other (is_there kept other ≡ true)
      (λ e. subst (λ (f : FileId). is_there kept f ≡ true) e (h.there file (one_had (in_domains file after) (in_domains file domains) (times file gone) fewer)))
      (λ off. h.there other (subst (λ n. 1 ≤ in_domains other domains + n) (same other off) (some_more (in_domains other after) (in_domains other domains) (times other more) (removed_most o other path domains) some)));
  opens = λ other some. by_file file other (is_any (file_of table other).opens ≡ true)
      (λ e. subst (λ (f : FileId). is_any (file_of table f).opens ≡ true) e has)
      (λ off. h.opens other (subst (λ n. 1 ≤ n) (same other off) some));
  waits = h.waits;
  once = h.once;
}
  where
    after : List Domain
    after = changed_in (directory.removed_domain path) o domains

    more : List FileId
    more = gone ++ file ∷ []

    fewer : suc (in_domains file after) ≤ in_domains file domains
    fewer = unnamed_fewer o file path domains found

    pushed : times file more ≡ times file gone + 1
    pushed = times_push file gone file ∙ ap (λ b. times file gone + one_if b) (itself file)

    plus_zero : (n : ℕ) → n + 0 ≡ n
    plus_zero n = omega arith

    same : (other : FileId) → is_file file other ≡ false → times other more ≡ times other gone
    same other off = times_push other gone file ∙ (ap (λ b. times other gone + one_if b) off ∙ plus_zero (times other gone))

    moved : (a b c d : ℕ) → suc a ≤ b → d ≡ c + 1 → b + c ≤ 1 → a + d ≤ 1
    moved a b c d h e few = omega arith

    had : (a b c : ℕ) → suc a ≤ b → b + c ≡ 0 → ⊥
    had a b c h e = omega arith

    one_had : (a b c : ℕ) → suc a ≤ b → 1 ≤ b + c
    one_had a b c h = omega arith

-- and where nobody has the file open, it is forgotten
forgotten_names : (o : Option ℕ) (domains : List Domain) (next : ℕ) (gone : List FileId) (kept : Kept) (table : Files) (path : Parts) (file : FileId) → directory.found_by path (directory.at_place domains o) ≡ Ok (nodes.File file) → Names domains next gone kept table
    → Names (changed_in (directory.removed_domain path) o domains) next (less (is_that file) (gone ++ file ∷ [])) (dropped_files kept file) (forgotten table file)
forgotten_names o domains next gone kept table path file found h =
    forgets domains next gone kept table after more file table
    (none_left (in_domains file after) (in_domains file domains) (times file gone) fewer (h.few file)) (times_gone file more (one_left (in_domains file after) (in_domains file domains) (times file gone) (times file more) fewer pushed (h.few file)))
    (λ other off. removed_most o other path domains) same h.once (λ other off. refl) h
  where
    after : List Domain
    after = changed_in (directory.removed_domain path) o domains

    more : List FileId
    more = gone ++ file ∷ []

    fewer : suc (in_domains file after) ≤ in_domains file domains
    fewer = unnamed_fewer o file path domains found

    pushed : times file more ≡ times file gone + 1
    pushed = times_push file gone file ∙ ap (λ b. times file gone + one_if b) (itself file)

    plus_zero : (n : ℕ) → n + 0 ≡ n
    plus_zero n = omega arith

    same : (other : FileId) → is_file file other ≡ false → times other more ≡ times other gone
    same other off = times_push other gone file ∙ (ap (λ b. times other gone + one_if b) off ∙ plus_zero (times other gone))

    none_left : (a b c : ℕ) → suc a ≤ b → b + c ≤ 1 → a ≡ 0
    none_left a b c h few = omega arith

    one_left : (a b c d : ℕ) → suc a ≤ b → d ≡ c + 1 → b + c ≤ 1 → d ≤ 1
    one_left a b c d h e few = omega arith

-- ---- a file is made

-- with one name at most more
pub more_names : (domains after : List Domain) (next : ℕ) (gone : List FileId) (kept : Kept) (table : Files) (file : FileId) → file.number ≡ next → ((other : FileId) → in_domains other after ≤ in_domains other domains + one_if (is_that other file)) → Names domains next gone kept table
    → Names after (next + 1) gone (made_files kept file) table
more_names domains after next gone kept table file number gains h = record {
  few = λ other. by_file file other (named other after gone ≤ 1)
      (λ e. subst (λ (f : FileId). named f after gone ≤ 1) e (one_new (in_domains file after) (in_domains file domains) (one_if (is_that file file)) (times file gone) (gains file) (one_most (is_that file file)) fresh))
      (λ off. no_more (in_domains other after) (in_domains other domains) (times other gone) (most other off) (h.few other));
  new = λ other high. by_file file other (named other after gone ≡ 0)
      (λ e. absurd (past other.number next (sym (ap (λ (f : FileId). f.number) e) ∙ number) high))
      (λ off. none_more (in_domains other after) (in_domains other domains) (times other gone) (most other off) (h.new other (below next other.number high)));
  there = λ other some. by_file file other (is_there (made_files kept file) other ≡ true)
      (λ e. subst (λ (f : FileId). is_there (made_files kept file) f ≡ true) e (made_now (is_there kept file) refl))
      (λ off. made_there_still (is_there kept file) other off (h.there other (some_more (in_domains other after) (in_domains other domains) (times other gone) (most other off) some)));
  opens = h.opens;
  waits = h.waits;
  once = h.once;
}
  where
    le_itself : (n m : ℕ) → n ≡ m → m ≤ n
    le_itself n m e = omega arith

    fresh : named file domains gone ≡ 0
    fresh = h.new file (le_itself file.number next number)

    most : (other : FileId) → is_file file other ≡ false → in_domains other after ≤ in_domains other domains + 0
    most other off = subst (λ b. in_domains other after ≤ in_domains other domains + one_if b) off (gains other)

    one_new : (a b c d : ℕ) → a ≤ b + c → c ≤ 1 → b + d ≡ 0 → a + d ≤ 1
    one_new a b c d h k e = omega arith

    past : (n m : ℕ) → n ≡ m → m + 1 ≤ n → ⊥
    past n m e h = omega arith

    below : (n m : ℕ) → n + 1 ≤ m → n ≤ m
    below n m h = omega arith

    apart : (other : FileId) → is_file file other ≡ false → other ≡ file → ⊥
    apart other off e = true≢false (sym (itself file) ∙ (ap (is_file file) (sym e) ∙ off))

    made_now : (b : Bool) → is_there kept file ≡ b → is_there (cond b kept (with_new kept file)) file ≡ true
    made_now true e = e
    made_now false e = made_there kept file

    made_there_still : (b : Bool) (other : FileId) → is_file file other ≡ false → is_there kept other ≡ true → is_there (cond b kept (with_new kept file)) other ≡ true
    made_there_still true other off there = there
    made_there_still false other off there = ap is_some (others_made kept file other (apart other off)) ∙ there

-- a number more is taken
pub raised_names : (domains : List Domain) (next : ℕ) (gone : List FileId) (kept : Kept) (table : Files) → Names domains next gone kept table → Names domains (next + 1) gone kept table
raised_names domains next gone kept table h = record { few = h.few; new = λ file high. h.new file (below next file.number high); there = h.there; opens = h.opens; waits = h.waits; once = h.once }
  where
    below : (n m : ℕ) → n + 1 ≤ m → n ≤ m
    below n m h = omega arith

-- ---- bytes

pub written_names : (domains : List Domain) (next : ℕ) (gone : List FileId) (kept : Kept) (table : Files) (file : FileId) (bytes : List ℕ) → Names domains next gone kept table → Names domains next gone (with_bytes kept file bytes) table
written_names domains next gone kept table file bytes h = record { few = h.few; new = h.new; there = λ other some. changed_there kept file other bytes ∙ h.there other some; opens = h.opens; waits = h.waits; once = h.once }

-- ---- decisions

put_any : (p : Open → Bool) (one : Open) (list : List Open) → is_any (lists.put p one list) ≡ true
put_any p one [] = refl
put_any p one (x ∷ xs) = elim (p x) as (λ b. is_any (cond b (one ∷ xs) (x ∷ lists.put p one xs)) ≡ true) [ true ↦ refl | false ↦ refl ]

opened_any : (list : List Open) (action : Action) → is_any (opens.opened list action) ≡ true
opened_any list action = put_any (opens.is_at (opens.stream_of action) (opens.receiver action)) _ (opens.left_by list action)

granted_opens : (cached : Bool) (file : Versioned) (action : Action) → tables.calls_of cached file action ≡ [] → is_any (tables.decided cached file action).opens ≡ true
granted_opens cached file action e = ap (λ (calls : List Callback). is_any (tables.deciding (tables.told (tables.is_uncached cached file action) file) action calls).opens) e ∙ opened_any file.opens action

granted_leads : (cached : Bool) (file : Versioned) (action : Action) → tables.calls_of cached file action ≡ [] → LeadsToOpens (tables.decided cached file action).asking
granted_leads cached file action e = subst (λ (calls : List Callback). LeadsToOpens (tables.deciding (tables.told (tables.is_uncached cached file action) file) action calls).asking) (sym e) tt

asked_opens : (cached : Bool) (file : Versioned) (action : Action) (call : Callback) (calls : List Callback) → tables.calls_of cached file action ≡ call ∷ calls → (tables.decided cached file action).opens ≡ file.opens
asked_opens cached file action call calls e =
    let told : Versioned = tables.told (tables.is_uncached cached file action) file in
    ap (λ (calls : List Callback). (tables.deciding told action calls).opens) e ∙ fold_same (λ (v : Versioned). v.opens) (λ v c. refl) (tables.waiting told action) (call ∷ calls)

asked_leads : (cached : Bool) (file : Versioned) (action : Action) (call : Callback) (calls : List Callback) → tables.calls_of cached file action ≡ call ∷ calls → LeadsToOpens (tables.decided cached file action).asking
asked_leads cached file action call calls e =
    let told : Versioned = tables.told (tables.is_uncached cached file action) file in
    subst (λ (calls : List Callback). LeadsToOpens (tables.deciding told action calls).asking) (sym e)
    (subst LeadsToOpens (sym (fold_same (λ (v : Versioned). v.asking) (λ v c. refl) (tables.waiting told action) (call ∷ calls))) (opened_any file.opens action))

settled_opens : (o : Option Asking) (file : Versioned) → LeadsToOpens o → is_some o ≡ true → is_any (tables.settling file o).opens ≡ true
settled_opens (Some asking) file leads e = leads
settled_opens None file leads e = absurd (cc)

settled_leads : (o : Option Asking) (file : Versioned) → is_some o ≡ true → LeadsToOpens (tables.settling file o).asking
settled_leads (Some asking) file e = tt
settled_leads None file e = absurd (cc)

-- ---- closes

open_still : (list : Bool) (named : Bool) → (not list && named) ≡ false → named ≡ true → list ≡ true
open_still true named e k = refl
open_still false named e k = absurd (true≢false (sym k ∙ e))

some_named : (file : FileId) (gone : List FileId) → 1 ≤ times file gone → list_any (is_that file) gone ≡ true
some_named file gone some = by_test (list_any (is_that file) gone) refl
  where
    too_few : (n : ℕ) → n ≡ 0 → 1 ≤ n → ⊥
    too_few n e some = omega arith

    by_test : (b : Bool) → list_any (is_that file) gone ≡ b → list_any (is_that file) gone ≡ true
    by_test true e = e
    by_test false e = absurd (too_few (times file gone) (none_times file gone e) some)

closing_names : (o : Option Versioned) (domains : List Domain) (next : ℕ) (gone : List FileId) (kept : Kept) (table : Files) (file : FileId) (kernel : ℕ) (stream : StreamNo) (many : ℕ) → lookup (is_file file) table ≡ o
    → (tables.is_closed (or_fresh file o) kernel stream many && list_any (is_that file) gone) ≡ false → Names domains next gone kept table → Names domains next gone kept (closing_in table file kernel stream many o)
closing_names None domains next gone kept table file kernel stream many e last h = h
closing_names (Some versioned) domains next gone kept table file kernel stream many e last h =
    put_opens domains next gone kept table file (tables.closed versioned kernel stream many)
    (λ some. open_still (is_any (tables.closed versioned kernel stream many).opens) (list_any (is_that file) gone) last (some_named file gone some))
    (subst (λ (o : Option Versioned). LeadsToOpens (or_fresh file o).asking) e (h.waits file)) h

closing_once : (o : Option Versioned) (table : Files) (file : FileId) (kernel : ℕ) (stream : StreamNo) (many : ℕ) → AreFilesOnce table → AreFilesOnce (closing_in table file kernel stream many o)
closing_once None table file kernel stream many once = once
closing_once (Some versioned) table file kernel stream many once = once_put table file (tables.closed versioned kernel stream many) once

closing_beside : (o : Option Versioned) (table : Files) (file other : FileId) (kernel : ℕ) (stream : StreamNo) (many : ℕ) → is_file file other ≡ false → file_of (closing_in table file kernel stream many o) other ≡ file_of table other
closing_beside None table file other kernel stream many off = refl
closing_beside (Some versioned) table file other kernel stream many off = file_other table file other (tables.closed versioned kernel stream many) (turned file other off)

last_names : (s : Server) (file : FileId) (kernel : ℕ) (stream : StreamNo) (many : ℕ) → list_any (is_that file) s.unlinked ≡ true → Names s.domains s.next_file s.unlinked s.store.files s.versions.files
    → Names s.domains s.next_file (less (is_that file) s.unlinked) (dropped_files s.store.files file) (forgotten (with_closed s.versions.files file kernel stream many) file)
last_names s file kernel stream many marked h =
    let here : 1 ≤ times file s.unlinked = any_times file s.unlinked marked in
    forgets s.domains s.next_file s.unlinked s.store.files s.versions.files s.domains s.unlinked file (with_closed s.versions.files file kernel stream many)
    (nameless (in_domains file s.domains) (times file s.unlinked) here (h.few file)) (times_gone file s.unlinked (few_marks (in_domains file s.domains) (times file s.unlinked) (h.few file)))
    (λ other off. no_fewer (in_domains other s.domains)) (λ other off. refl) (closing_once (lookup (is_file file) s.versions.files) s.versions.files file kernel stream many h.once)
    (λ other off. closing_beside (lookup (is_file file) s.versions.files) s.versions.files file other kernel stream many off) h
  where
    nameless : (a b : ℕ) → 1 ≤ b → a + b ≤ 1 → a ≡ 0
    nameless a b some few = omega arith

    few_marks : (a b : ℕ) → a + b ≤ 1 → b ≤ 1
    few_marks a b few = omega arith

    no_fewer : (a : ℕ) → a ≤ a + 0
    no_fewer a = omega arith

-- ---- a server serves

abbrev P : Server → Type 0
P s = Names s.domains s.next_file s.unlinked s.store.files s.versions.files

calls_all : (calls : List Callback) (asked : Asked) (s : Server) → P s → P (grants.calls_all asked calls s)
calls_all [] asked s p = p
calls_all (call ∷ calls) asked s p = calls_all calls asked (grants.calls_one asked call s) p

keeps_names : Keeps Every P
keeps_names = record {
  notes = λ s event told p. p;
  answers = λ s asked reply k is p. p;
  pages = λ s swap p. p;
  shares = λ s shadows p. p;
  writes = λ s file bytes there p. written_names s.domains s.next_file s.unlinked s.store.files s.versions.files file bytes p;
  makes = λ s path node done e off p. fewer_names s.domains _ s.next_file s.unlinked s.store.files s.versions.files (λ file. subst (λ n. in_domains file (changed_in (directory.made_domain path node) (position (directory.has_path path) s.domains) s.domains) ≤ in_domains file s.domains + n) (no_file node file off) (made_most (position (directory.has_path path) s.domains) file path node s.domains)) p;
  removes = λ s path node e off p. fewer_names s.domains _ s.next_file s.unlinked s.store.files s.versions.files (λ file. removed_most (position (directory.has_path path) s.domains) file path s.domains) p;
  renames = λ s old new done e p. fewer_names s.domains _ s.next_file s.unlinked s.store.files s.versions.files (λ file. renamed_most (position (directory.has_path old) s.domains) file old new s.domains) p;
  creates = λ s path done e p. more_names s.domains _ s.next_file s.unlinked s.store.files s.versions.files (opening.new_file s) refl (λ other. made_most (position (directory.has_path path) s.domains) other path (nodes.File (opening.new_file s)) s.domains) p;
  unlinks = λ s path file e free opens p. unnamed_names (position (directory.has_path path) s.domains) s.domains s.next_file s.unlinked s.store.files s.versions.files path file e opens p;
  forgets = λ s path file e free opens p. forgotten_names (position (directory.has_path path) s.domains) s.domains s.next_file s.unlinked s.store.files s.versions.files path file e p;
  waits = λ s asked file k wait busy p. p;
  granted = λ s file action free e p. put_opens s.domains s.next_file s.unlinked s.store.files s.versions.files file _ (λ some. granted_opens s.versions.cached (files.kept_of file s) action e) (granted_leads s.versions.cached (files.kept_of file s) action e) p;
  asks = λ s asked file action call calls k may free e p. calls_all (call ∷ calls) asked (grants.asks asked file (grants.with_decided file action s)) (put_opens s.domains s.next_file s.unlinked s.store.files s.versions.files file _ (λ some. ap is_any (asked_opens s.versions.cached (files.kept_of file s) action call calls e) ∙ p.opens file some) (asked_leads s.versions.cached (files.kept_of file s) action call calls e) p);
  closes = λ s file kernel stream many mode free there last p. closing_names (lookup (is_file file) s.versions.files) s.domains s.next_file s.unlinked s.store.files s.versions.files file kernel stream many refl last p;
  closes_last = λ s file kernel stream many mode free there last p. last_names s file kernel stream many (and_parts (tables.is_closed (files.kept_of file s) kernel stream many) (list_any (is_that file) s.unlinked) last).1 p;
}

-- ---- a step

steps_keep : KeepsSteps Every P
steps_keep = record {
  deeds = keeps_names;
  waited = λ s file asked e p. tt;
  asked = λ s file asked e p. tt;
  less_waiting = λ s file p. p;
  less_asking = λ s file p. p;
  less_callbacks = λ s tx p. p;
  hears = λ s call busy p. put_opens s.domains s.next_file s.unlinked s.store.files s.versions.files call.file (tables.answered (files.kept_of call.file s) call.kernel) (λ some. p.opens call.file some) (p.waits call.file) p;
  settles = λ s file ready p.
      let kept : Versioned = files.kept_of file s in
      let busy : is_some kept.asking ≡ true = (and_parts (tables.is_busy kept) (not (tables.is_any_out kept)) ready).0 in
      put_opens s.domains s.next_file s.unlinked s.store.files s.versions.files file (tables.settled kept) (λ some. settled_opens kept.asking kept (p.waits file) busy) (settled_leads kept.asking kept busy) p;
}

-- ---- in the words of the law

pub names_so : (s : Server) → P s → UnlinkedStand s
names_so s h = record {
  opens = λ file marked. let here : 1 ≤ times file s.unlinked = any_times file s.unlinked marked in (h.there file (more (in_domains file s.domains) (times file s.unlinked) here), h.opens file here);
  few = h.few;
  new = h.new;
  there = h.there;
  waits = h.waits;
  files = h.once;
}
  where
    more : (a b : ℕ) → 1 ≤ b → 1 ≤ a + b
    more a b some = omega arith

names_from : (s : Server) → UnlinkedStand s → P s
names_from s h = record { few = h.few; new = h.new; there = h.there; opens = λ file some. (h.opens file (some_named file s.unlinked some)).1; waits = h.waits; once = h.files }

pub step_keeps_unlinked : StepKeeps UnlinkedStand
step_keeps_unlinked s input next h = names_so (stepping.server_step s input next).0 (takes Every P steps_keep input (stepping.begins next s) (any_comes input) (names_from s h))
