-- What is on its way to a process of a client's kernel, and in which state it waits: sums over rows, and what holds them together.
use Rattle.std.proofs.Common.{arith, ◌≡◌, ℕ, ◌+◌, ◌≤◌, ◌==◌, Bool, true, false, ◌&&◌, cond, List, [], ◌∷◌, length, Option, Some, None, refl, sym, ap, ◌∙◌}
use Rattle.std.proofs.lemmas.Bool.{eq-eqb, eqb-true}
use Rattle.std.specs.BTreeMap.{insert_entry, is_at}
use Rattle.std.specs.List.{AllByRecursion, list_all}
use Rattle.std.specs.Map.{lookup, remove_entry, set_value}
use Rattle.std.specs.Ordering.{is_eq, match_ordering, nat_cmp}
use Rattle.std.specs.declared.cmp.Ordering.{Ordering}
use Rattle.std.specs.declared.cmp.Ordering.TheVariants.{Less, Equal, Greater}
use Rattle.sprite_ids.specs.declared.StreamNo.{StreamNo}
use Rattle.sprite_ids.specs.declared.TxNo.{TxNo}
use Rattle.sprite_ids.specs.Lists.{EachOnce, one_if, total}
use Rattle.sprite_ids.proofs.ListLaws.{some_is}
use Rattle.process_machine.specs.declared.Reply.{Reply}
use Rattle.unix_calls.specs.declared.About.{About}
use Rattle.client_file_tables.specs.declared.moves.Report.{Report}
use Rattle.client_file_tables.specs.declared.pending.Pending.{Pending}
use Rattle.client_file_tables.specs.Rows.{is_pid}
use Rattle.client_homes.specs.declared.client.ClientProcs.{ClientProcs}
use Rattle.client_homes.specs.declared.client.Leaving.{Leaving}
use Rattle.client_homes.specs.declared.client.Parked.{Parked}
use Rattle.client_homes.specs.declared.client.Unfinished.{Unfinished}
use Rattle.client_homes.specs.declared.process.Proc.{Proc}
use Rattle.client_homes.specs.declared.process.ProcState.{ProcState}
use Rattle.client_homes.specs.declared.process.ProcState.TheVariants as states
use Rattle.client_facts.specs.FileFacts.{same_wait}
use Rattle.client_facts.specs.GoingOn.{has_few_fds}
use Rattle.client_facts.specs.ProcFacts.{gets_from}
use Rattle.client_facts.proofs.PlaceLaws.{at_is}
use Rattle.client_rounds.specs.OneThing.{busy_of, call_of, getter_of, getting_of, is_busy, moving_of}
use Rattle.client_rounds.specs.Rounds.{IsUnderWay, ask_of, end_of, move_of, moved_of, of_process, wait_of, work_of}

pub record Whole : Type 0 where
  pub pending : List (ℕ × Pending)
  pub replies : List (ℕ × Reply)
  pub results : List Report
  pub fillers : List ℕ
  pub lock_waits : List (StreamNo × ℕ)
  pub waits : List (ℕ × Parked)
  pub asked : List (About × Option TxNo)
  pub unfinished : List (TxNo × Unfinished)
  pub getters : List (ℕ × ℕ)
  pub procs : List (ℕ × Proc)
  pub leaving : List (ℕ × Leaving)
  pub home : ℕ
  pub births : ℕ

abbrev pub whole_of : ClientProcs → Whole
whole_of s = record {
  pending = s.files.pending;
  replies = s.files.out.replies;
  results = s.files.results;
  fillers = s.files.fillers;
  lock_waits = s.files.lock_waits;
  waits = s.waits;
  asked = s.asked;
  unfinished = s.unfinished;
  getters = s.getters;
  procs = s.procs;
  leaving = s.leaving;
  home = s.home.home;
  births = length s.home.births;
}

abbrev pub owed_at : ℕ → Whole → ℕ
owed_at q v = total (work_of q) v.pending + total (of_process q) v.replies + total (end_of q) v.results + total (wait_of q) v.waits + total (ask_of q) v.asked + total (call_of q) v.unfinished

abbrev pub moves_now : ℕ → Whole → ℕ
moves_now q v = total (move_of q) v.pending + total (moved_of q) v.results

-- the home is that one, with so many births
abbrev pub Kin : ℕ → ℕ → ℕ → ℕ → Type 0
Kin H B home births = (home ≡ H) × (births ≡ B)

-- what holds of a process, a device and a bound of the places where the process is; in hand are: something owed to the process, which is
-- busy; the process, to which nothing is owed; the process as one that leaves; a move of it; and one whose streams move. Where it is asked,
-- the home and the number of its births are known
pub record Bal (q dev A : ℕ) (Q : List Report → Type 0) (g : Bool) (H B d r l m n : ℕ) (v : Whole) : Type 0 where
  pub owed : owed_at q v + d ≤ total (busy_of q) v.procs
  pub gets : total (getter_of dev q) v.getters ≤ total (getting_of dev q) v.procs
  pub room : owed_at q v + d + r + total (getter_of dev q) v.getters ≤ total (of_process q) v.procs
  pub moves : moves_now q v + m ≤ total (moving_of q) v.leaving + n
  pub apart : total (of_process q) v.procs + total (of_process q) v.leaving + l ≤ A
  pub most : A ≤ 1
  pub ways : AllByRecursion (λ (row : ℕ × Leaving). IsUnderWay row.1.step) v.leaving
  pub turns : EachOnce is_pid v.fillers
  pub queues : EachOnce same_wait v.lock_waits
  pub short : list_all has_few_fds v.pending ≡ true
  pub held : Q v.results
  pub kin : g ≡ true → Kin H B v.home v.births

-- for each process and device: nothing is in hand; or what is owed to that process, which is busy; or that process, to which nothing is owed
abbrev pub Rest : (ℕ → ℕ) → (List Report → Type 0) → Bool → ℕ → ℕ → ClientProcs → Type 0
Rest A Q g H B s = (q dev : ℕ) → Bal q dev (A q) Q g H B 0 0 0 0 0 (whole_of s)

abbrev pub Busy : (ℕ → ℕ) → (List Report → Type 0) → Bool → ℕ → ℕ → ℕ → ClientProcs → Type 0
Busy A Q g H B pid s = (q dev : ℕ) → Bal q dev (A q) Q g H B (0 + one_if (pid == q)) 0 0 0 0 (whole_of s)

abbrev pub Free : (ℕ → ℕ) → (List Report → Type 0) → Bool → ℕ → ℕ → ℕ → ClientProcs → Type 0
Free A Q g H B pid s = (q dev : ℕ) → Bal q dev (A q) Q g H B 0 (0 + one_if (pid == q)) 0 0 0 (whole_of s)

-- Sums over processes

abbrev pub is_at_pid : ℕ → ℕ → Bool
is_at_pid pid = is_at (nat_cmp pid)

set_by : (f : ℕ × Proc → ℕ) (pid key : ℕ) (value old new : Proc) (rows more : List (ℕ × Proc)) (o : Option Proc) (b : Bool) → is_at_pid pid key ≡ b → (o ≡ Some old → total f more + f (pid, old) ≡ total f rows + f (pid, new)) → cond b (Some value) o ≡ Some old
    → total f (cond b ((key, new) ∷ rows) ((key, value) ∷ more)) + f (pid, old) ≡ f (key, value) + total f rows + f (pid, new)
set_by f pid key value old new rows more o true e later found =
    let same = eqb-true key pid (sym (at_is pid key) ∙ e) in
    let first = ap (λ (k : ℕ). f (k, new)) same in
    let second = ap (λ (k : ℕ). f (k, value)) same in
    let third = ap (λ (p : Proc). f (pid, p)) (some_is value old found) in
    omega arith
set_by f pid key value old new rows more o false e later found = (let rest = later found in omega arith)

-- where a process is set that was found
pub total_at : (f : ℕ × Proc → ℕ) (pid : ℕ) (rows : List (ℕ × Proc)) (old new : Proc) → lookup (is_at_pid pid) rows ≡ Some old → total f (set_value (is_at_pid pid) rows new) + f (pid, old) ≡ total f rows + f (pid, new)
total_at f pid [] old new found = absurd (cc)
total_at f pid ((key, value) ∷ rows) old new found = set_by f pid key value old new rows (set_value (is_at_pid pid) rows new) (lookup (is_at_pid pid) rows) (is_at_pid pid key) refl (total_at f pid rows old new) found

gone_by : (f : ℕ × Proc → ℕ) (pid key : ℕ) (value old : Proc) (rows more : List (ℕ × Proc)) (o : Option Proc) (b : Bool) → is_at_pid pid key ≡ b → (o ≡ Some old → total f more + f (pid, old) ≡ total f rows) → cond b (Some value) o ≡ Some old
    → total f (cond b rows ((key, value) ∷ more)) + f (pid, old) ≡ f (key, value) + total f rows
gone_by f pid key value old rows more o true e later found =
    let same = eqb-true key pid (sym (at_is pid key) ∙ e) in
    let second = ap (λ (k : ℕ). f (k, value)) same in
    let third = ap (λ (p : Proc). f (pid, p)) (some_is value old found) in
    omega arith
gone_by f pid key value old rows more o false e later found = (let rest = later found in omega arith)

pub total_gone : (f : ℕ × Proc → ℕ) (pid : ℕ) (rows : List (ℕ × Proc)) (old : Proc) → lookup (is_at_pid pid) rows ≡ Some old → total f (remove_entry (is_at_pid pid) rows) + f (pid, old) ≡ total f rows
total_gone f pid [] old found = absurd (cc)
total_gone f pid ((key, value) ∷ rows) old found = gone_by f pid key value old rows (remove_entry (is_at_pid pid) rows) (lookup (is_at_pid pid) rows) (is_at_pid pid key) refl (total_gone f pid rows old) found

-- what is found is among them
pub total_there : (f : ℕ × Proc → ℕ) (pid : ℕ) (rows : List (ℕ × Proc)) (old : Proc) → lookup (is_at_pid pid) rows ≡ Some old → f (pid, old) ≤ total f rows
total_there f pid rows old found = (let gone = total_gone f pid rows old found in omega arith)

-- whether a process is none of those
none_if : (q pid key n : ℕ) (same here : Bool) → (pid == q) ≡ same → (key == q) ≡ here → (key == pid) ≡ false → (same ≡ true → n ≤ 0) → same ≡ true → one_if here + n ≤ 0
none_if q pid key n true true e f g h k = absurd (let first = eqb-true pid q e in let second = eqb-true key q f in let both = eq-eqb key pid (second ∙ sym first) in cc)
none_if q pid key n true false e f g h k = (let rest = h refl in omega arith)
none_if q pid key n false here e f g h k = absurd (cc)

absent_here : (q pid key : ℕ) (value : Proc) (rows : List (ℕ × Proc)) (b : Bool) → is_at_pid pid key ≡ b → cond b (Some value) (lookup (is_at_pid pid) rows) ≡ None → (lookup (is_at_pid pid) rows ≡ None → (pid == q) ≡ true → total (of_process q) rows ≤ 0) → (pid == q) ≡ true → one_if (key == q) + total (of_process q) rows ≤ 0
absent_here q pid key value rows true e found later is = absurd (cc)
absent_here q pid key value rows false e found later is = none_if q pid key (total (of_process q) rows) (pid == q) (key == q) refl refl (sym (at_is pid key) ∙ e) (later found) is

pub absent : (q pid : ℕ) (rows : List (ℕ × Proc)) → lookup (is_at_pid pid) rows ≡ None → (pid == q) ≡ true → total (of_process q) rows ≤ 0
absent q pid [] found is = omega arith
absent q pid ((key, value) ∷ rows) found is = absent_here q pid key value rows (is_at_pid pid key) refl found (absent q pid rows) is

if_same : (b : Bool) (n : ℕ) → (b ≡ true → n ≤ 0) → one_if b ≤ n → one_if b ≤ 0
if_same true n h k = (let none = h refl in omega arith)
if_same false n h k = omega arith

-- a process that isn't found isn't counted
pub none_here : (q pid : ℕ) (rows : List (ℕ × Proc)) → lookup (is_at_pid pid) rows ≡ None → one_if (pid == q) ≤ total (of_process q) rows → one_if (pid == q) ≤ 0
none_here q pid rows found h = if_same (pid == q) (total (of_process q) rows) (absent q pid rows found) h

-- States that exclude each other

both_by : (a b : Bool) (n : ℕ) → (a && b) ≡ false → cond a n 0 + cond b n 0 ≤ n
both_by true true n e = absurd (cc)
both_by true false n e = omega arith
both_by false true n e = omega arith
both_by false false n e = omega arith

three_by : (a b c : Bool) (n : ℕ) → (a && b) ≡ false → (a && c) ≡ false → (b && c) ≡ false → cond a n 0 + cond b n 0 + cond c n 0 ≤ n
three_by true true c n e f g = absurd (cc)
three_by true false true n e f g = absurd (cc)
three_by true false false n e f g = omega arith
three_by false true true n e f g = absurd (cc)
three_by false true false n e f g = omega arith
three_by false false true n e f g = omega arith
three_by false false false n e f g = omega arith

busy_gets : (dev : ℕ) (state : ProcState) → (is_busy state && gets_from dev state) ≡ false
busy_gets dev states.Ready = refl
busy_gets dev (states.Getting device max) = refl
busy_gets dev state = refl

gets_two : (dev other : ℕ) (state : ProcState) → (dev == other) ≡ false → (gets_from dev state && gets_from other state) ≡ false
gets_two dev other (states.Getting device max) e = by_test (device == dev) (device == other) refl refl
  where
    by_test : (a b : Bool) → (device == dev) ≡ a → (device == other) ≡ b → (a && b) ≡ false
    by_test true true f g = absurd (let first = eqb-true device dev f in let second = eqb-true device other g in let both = eq-eqb dev other (sym first ∙ second) in cc)
    by_test true false f g = refl
    by_test false b f g = refl
gets_two dev other state e = refl

-- who is busy gets nothing
pub busy_apart : (q dev : ℕ) (rows : List (ℕ × Proc)) → total (busy_of q) rows + total (getting_of dev q) rows ≤ total (of_process q) rows
busy_apart q dev [] = omega arith
busy_apart q dev (row ∷ rows) =
    let first = both_by (is_busy row.1.state) (gets_from dev row.1.state) (of_process q row) (busy_gets dev row.1.state) in
    let rest = busy_apart q dev rows in
    omega arith

pub three_apart : (q dev other : ℕ) (rows : List (ℕ × Proc)) → (dev == other) ≡ false → total (busy_of q) rows + total (getting_of dev q) rows + total (getting_of other q) rows ≤ total (of_process q) rows
three_apart q dev other [] e = omega arith
three_apart q dev other (row ∷ rows) e =
    let first = three_by (is_busy row.1.state) (gets_from dev row.1.state) (gets_from other row.1.state) (of_process q row) (busy_gets dev row.1.state) (busy_gets other row.1.state) (gets_two dev other row.1.state e) in
    let rest = three_apart q dev other rows e in
    omega arith

-- one that was found, is not busy and doesn't get from there
pub idle_apart : (q dev pid : ℕ) (rows : List (ℕ × Proc)) (old : Proc) → lookup (is_at_pid pid) rows ≡ Some old → is_busy old.state ≡ false → gets_from dev old.state ≡ false → total (busy_of q) rows + total (getting_of dev q) rows + one_if (pid == q) ≤ total (of_process q) rows
idle_apart q dev pid rows old found lazy gets =
    let left = busy_apart q dev (remove_entry (is_at_pid pid) rows) in
    let busy = total_gone (busy_of q) pid rows old found in
    let getting = total_gone (getting_of dev q) pid rows old found in
    let here_so = total_gone (of_process q) pid rows old found in
    let first = ap (λ b. cond b (one_if (pid == q)) 0) lazy in
    let second = ap (λ b. cond b (one_if (pid == q)) 0) gets in
    omega arith

-- A process more

put_by : (f : ℕ × Proc → ℕ) (pid key : ℕ) (value v : Proc) (rows more : List (ℕ × Proc)) (o : Option Proc) (ordering : Ordering) → (o ≡ None → total f more ≡ total f rows + f (pid, v)) → cond (is_eq ordering) (Some value) o ≡ None
    → total f (match_ordering ordering ((pid, v) ∷ (key, value) ∷ rows) ((key, v) ∷ rows) ((key, value) ∷ more)) ≡ f (key, value) + total f rows + f (pid, v)
put_by f pid key value v rows more o Less later none = omega arith
put_by f pid key value v rows more o Equal later none = absurd (cc)
put_by f pid key value v rows more o Greater later none = (let rest = later none in omega arith)

pub total_put : (f : ℕ × Proc → ℕ) (pid : ℕ) (rows : List (ℕ × Proc)) (v : Proc) → lookup (is_at_pid pid) rows ≡ None → total f (insert_entry nat_cmp rows pid v) ≡ total f rows + f (pid, v)
total_put f pid [] v none = omega arith
total_put f pid ((key, value) ∷ rows) v none = put_by f pid key value v rows (insert_entry nat_cmp rows pid v) (lookup (is_at_pid pid) rows) (nat_cmp pid key) (total_put f pid rows v) none

pub one_most : (b : Bool) → one_if b ≤ 1
one_most true = omega arith
one_most false = omega arith

pub cond_most : (b : Bool) (n : ℕ) → cond b n 0 ≤ n
cond_most true n = omega arith
cond_most false n = omega arith
