-- What keeps the facts of remote calls: that a call goes out, an operation is kept or taken out, somebody is woken or looks, and a call is answered.
use Rattle.std.proofs.Common.{arith, ◌≡◌, ◌⊎◌, inl, inr, ℕ, ◌+◌, ◌<◌, ◌≤◌, ◌==◌, Bool, true, false, ◌||◌, cond, List, [], ◌∷◌, ◌++◌, Option, Some, None, option_map, refl, sym, ap, ◌∙◌, subst}
use Rattle.std.proofs.lemmas.Bool.{and_parts, eqb-true}
use Rattle.std.proofs.lemmas.List.Folds.{list_any-append}
use Rattle.std.specs.List.{AllByRecursion, find, list_any}
use Rattle.sprite_ids.specs.declared.TxNo.{TxNo}
use Rattle.sprite_ids.specs.Lists.{EachOnce, less}
use Rattle.sprite_ids.proofs.ListLaws.{each_push, each_weaken, some_is}
use Rattle.sprite_ids.proofs.OnceLaws.{IsSameness, or_false, pushed_once}
use Rattle.kernel_steps.specs.Outs.{number_after}
use Rattle.kernel_steps.specs.Rows.{is_row, is_under}
use Rattle.client_file_tables.specs.declared.pending.Pending.{Pending}
use Rattle.client_file_tables.specs.declared.works.WriteBackOut.{WriteBackOut}
use Rattle.client_file_tables.specs.Rows.{first_of, is_pid, less_of, same_call, same_pid}
use Rattle.client_facts.specs.FileFacts.{same_key, same_process}
use Rattle.stream_table.proofs.OwnerLaws.{eq_turned}
use Rattle.file_facts.specs.CallFacts.{AreBelow, IsBelow}
use Rattle.file_facts.proofs.Books.{Book, Fine, Sound, has_call, is_back, is_woken}

-- Whether one is among rows

pub or_left : (a b : Bool) → a ≡ true → (a || b) ≡ true
or_left a b e = ap (λ c. c || b) e

pub or_right : (a b : Bool) → b ≡ true → (a || b) ≡ true
or_right true b e = refl
or_right false b e = e

pub or_cases : (a b : Bool) → (a || b) ≡ true → (a ≡ true) ⊎ (b ≡ true)
or_cases true b e = inl refl
or_cases false b e = inr e

pub any_before : {X : Type 0} (p : X → Bool) (xs ys : List X) → list_any p xs ≡ true → list_any p (xs ++ ys) ≡ true
any_before p xs ys e = list_any-append p xs ys ∙ or_left (list_any p xs) (list_any p ys) e

pub any_behind : {X : Type 0} (p : X → Bool) (xs ys : List X) → list_any p ys ≡ true → list_any p (xs ++ ys) ≡ true
any_behind p xs ys e = list_any-append p xs ys ∙ or_right (list_any p xs) (list_any p ys) e

none_more : {X : Type 0} (p : X → Bool) (xs : List X) (x : X) → list_any p xs ≡ false → p x ≡ false → list_any p (xs ++ x ∷ []) ≡ false
none_more p [] x e f = ap (λ b. b || false) f
none_more p (y ∷ ys) x e f = let parts = or_false (p y) (list_any p ys) e in ap (λ b. b || list_any p (ys ++ x ∷ [])) parts.0 ∙ none_more p ys x parts.1 f

-- Rows of which the first that passes is taken out

less_each : {X : Type 0} (P : X → Type 0) (x : X) (xs ys : List X) (b : Bool) → P x → AllByRecursion P xs → AllByRecursion P ys → AllByRecursion P (cond b xs (x ∷ ys))
less_each P x xs ys true first all more = all
less_each P x xs ys false first all more = (first, more)

pub each_less : {X : Type 0} (P : X → Type 0) (p : X → Bool) (xs : List X) → AllByRecursion P xs → AllByRecursion P (less p xs)
each_less P p [] all = tt
each_less P p (x ∷ xs) all = less_each P x xs (less p xs) (p x) all.0 all.1 (each_less P p xs all.1)

none_out : {X : Type 0} (x : X) (xs ys : List X) (o : Option X) (b : Bool) → (o ≡ None → ys ≡ xs) → cond b (Some x) o ≡ None → cond b xs (x ∷ ys) ≡ x ∷ xs
none_out x xs ys o true same none = absurd (cc)
none_out x xs ys o false same none = ap (λ rest. x ∷ rest) (same none)

pub less_none : {X : Type 0} (p : X → Bool) (xs : List X) → find p xs ≡ None → less p xs ≡ xs
less_none p [] none = refl
less_none p (x ∷ xs) none = none_out x xs (less p xs) (find p xs) (p x) (less_none p xs) none

-- Numbers

apart_by : (a b : ℕ) (c : Bool) → (a == b) ≡ c → a < b → c ≡ false
apart_by a b true e less = absurd (let same = eqb-true a b e in omega arith)
apart_by a b false e less = refl

lower_apart : (a b : ℕ) → a < b → (a == b) ≡ false
lower_apart a b less = apart_by a b (a == b) refl less

-- a number above all of them is none of them
pub none_above : {V : Type 0} (next : TxNo) (rows : List (TxNo × V)) → AreBelow next rows → list_any (is_under same_call next) rows ≡ false
none_above next [] below = refl
none_above {V} next (row ∷ rows) below = ap (λ b. b || list_any (is_under same_call next) rows) (lower_apart row.0.0 next.0 below.0) ∙ none_above next rows below.1

lower_still : (a b c : ℕ) → a < b → b ≤ c → a < c
lower_still a b c less more = omega arith

next_above : (n : ℕ) → n < n + 1
next_above n = omega arith

next_more : (n : ℕ) → n ≤ n + 1
next_more n = omega arith

pub keys_same : {V : Type 0} → IsSameness (same_key {V = V})
keys_same {V} = record {
  joined = λ x y e z. ap (λ (tx : ℕ). z.0.0 == tx) (sym (eqb-true y.0.0 x.0.0 e));
  turned = λ x y. eq_turned y.0.0 x.0.0;
}

pub below_more : {V : Type 0} (next later : TxNo) (rows : List (TxNo × V)) → next.0 ≤ later.0 → AreBelow next rows → AreBelow later rows
below_more {V} next later rows less below = each_weaken (IsBelow {V = V} next) (IsBelow {V = V} later) rows (λ (row : TxNo × V) (h : row.0.0 < next.0). lower_still row.0.0 next.0 later.0 h less) below

-- one more under the next number: all are once, and below the number behind it
pub pushed_below : {V : Type 0} (next : TxNo) (rows : List (TxNo × V)) (v : V) → AreBelow next rows → AreBelow (number_after next) (rows ++ (next, v) ∷ [])
pushed_below {V} next rows v below = each_push (IsBelow {V = V} (number_after next)) rows (next, v) (below_more next (number_after next) rows (next_more next.0) below) (next_above next.0)

pub pushed_key : {V : Type 0} (next : TxNo) (rows : List (TxNo × V)) (v : V) → AreBelow next rows → EachOnce same_key rows → EachOnce same_key (rows ++ (next, v) ∷ [])
pushed_key {V} next rows v below once = pushed_once same_key keys_same (next, v) rows (none_above next rows below) once

kept_by : (tx next : TxNo) (pid : ℕ) (row : TxNo × ℕ) (rows : List (TxNo × ℕ)) → IsBelow next row → (has_call tx pid rows ≡ true → tx.0 < next.0) → (is_row same_call same_pid tx pid row ≡ true) ⊎ (has_call tx pid rows ≡ true) → tx.0 < next.0
kept_by tx next pid row rows below later (inl here) = (let less : row.0.0 < next.0 = below in let parts = and_parts (row.0.0 == tx.0) (row.1 == pid) here in let same = eqb-true row.0.0 tx.0 parts.0 in omega arith)
kept_by tx next pid row rows below later (inr there) = later there

-- a call that is kept has a lower number
pub kept_below : (tx next : TxNo) (pid : ℕ) (rows : List (TxNo × ℕ)) → AreBelow next rows → has_call tx pid rows ≡ true → tx.0 < next.0
kept_below tx next pid [] below e = absurd (cc)
kept_below tx next pid (row ∷ rows) below e = kept_by tx next pid row rows below.0 (kept_below tx next pid rows below.1) (or_cases (is_row same_call same_pid tx pid row) (has_call tx pid rows) e)

-- Where calls, write-backs and who is woken grow

pub record Grows (b c : Book) : Type 0 where
  pub asked : (tx : TxNo) (pid : ℕ) → has_call tx pid b.asked ≡ true → has_call tx pid c.asked ≡ true
  pub backs : (tx : TxNo) → is_back tx b.backs ≡ true → is_back tx c.backs ≡ true
  pub ready : (pid : ℕ) → is_woken pid b.ready ≡ true → is_woken pid c.ready ≡ true
  pub fresh : (tx : TxNo) → tx.0 < b.next.0 → is_back tx b.backs ≡ false → is_back tx c.backs ≡ false

out_grows : (b c : Book) (tx : TxNo) (pid : ℕ) → Grows b c → (is_back tx b.backs ≡ true) ⊎ (is_woken pid b.ready ≡ true) → (is_back tx c.backs ≡ true) ⊎ (is_woken pid c.ready ≡ true)
out_grows b c tx pid grows (inl out) = inl (grows.backs tx out)
out_grows b c tx pid grows (inr woken) = inr (grows.ready pid woken)

pub fine_grows : (b c : Book) → Grows b c → AreBelow b.next b.asked → (row : ℕ × Pending) → Fine b row → Fine c row
fine_grows b c grows below row fine = record {
  kept = λ tx e. grows.asked tx row.0 (fine.kept tx e);
  out = λ tx e. out_grows b c tx row.0 grows (fine.out tx e);
  apart = λ tx e f. grows.fresh tx (kept_below tx b.next row.0 b.asked below (fine.kept tx e)) (fine.apart tx e f);
}

rows_grow : (b c : Book) → Grows b c → AreBelow b.next b.asked → (rows : List (ℕ × Pending)) → AllByRecursion (Fine b) rows → AllByRecursion (Fine c) rows
rows_grow b c grows below rows all = each_weaken (Fine b) (Fine c) rows (fine_grows b c grows below) all

-- What goes out

abbrev pub said : Book → Book
said b = record b { next = number_after b.next }

abbrev pub expected : Book → ℕ → Book
expected b pid = record b { next = number_after b.next; asked = b.asked ++ (b.next, pid) ∷ [] }

abbrev pub sent_back : Book → WriteBackOut → Book
sent_back b sent = record b { next = number_after b.next; backs = b.backs ++ (b.next, sent) ∷ [] }

abbrev pub sent_own : Book → WriteBackOut → ℕ → Book
sent_own b sent pid = record b { next = number_after b.next; asked = b.asked ++ (b.next, pid) ∷ []; backs = b.backs ++ (b.next, sent) ∷ [] }

pub grows_said : (b : Book) → Grows b (said b)
grows_said b = record { asked = λ tx pid e. e; backs = λ tx e. e; ready = λ pid e. e; fresh = λ tx less e. e }

pub grows_expected : (b : Book) (pid : ℕ) → Grows b (expected b pid)
grows_expected b pid = record { asked = λ tx other e. any_before (is_row same_call same_pid tx other) b.asked _ e; backs = λ tx e. e; ready = λ other e. e; fresh = λ tx less e. e }

still_fresh : (b : Book) (sent : WriteBackOut) (tx : TxNo) → tx.0 < b.next.0 → is_back tx b.backs ≡ false → is_back tx (b.backs ++ (b.next, sent) ∷ []) ≡ false
still_fresh b sent tx less e = none_more (is_under same_call tx) b.backs (b.next, sent) e (eq_turned b.next.0 tx.0 ∙ lower_apart tx.0 b.next.0 less)

pub grows_sent_back : (b : Book) (sent : WriteBackOut) → Grows b (sent_back b sent)
grows_sent_back b sent = record { asked = λ tx pid e. e; backs = λ tx e. any_before (is_under same_call tx) b.backs _ e; ready = λ pid e. e; fresh = still_fresh b sent }

pub grows_sent_own : (b : Book) (sent : WriteBackOut) (pid : ℕ) → Grows b (sent_own b sent pid)
grows_sent_own b sent pid = record { asked = λ tx other e. any_before (is_row same_call same_pid tx other) b.asked _ e; backs = λ tx e. any_before (is_under same_call tx) b.backs _ e; ready = λ other e. e; fresh = still_fresh b sent }

pub says : (b : Book) → Sound b → Sound (said b)
says b s = record {
  rows = rows_grow b (said b) (grows_said b) s.own_below b.rows s.rows;
  own_once = s.own_once;
  back_once = s.back_once;
  own_below = below_more b.next (number_after b.next) b.asked (next_more b.next.0) s.own_below;
  back_below = below_more b.next (number_after b.next) b.backs (next_more b.next.0) s.back_below;
}

pub expects : (b : Book) (pid : ℕ) → Sound b → Sound (expected b pid)
expects b pid s = record {
  rows = rows_grow b (expected b pid) (grows_expected b pid) s.own_below b.rows s.rows;
  own_once = pushed_key b.next b.asked pid s.own_below s.own_once;
  back_once = s.back_once;
  own_below = pushed_below b.next b.asked pid s.own_below;
  back_below = below_more b.next (number_after b.next) b.backs (next_more b.next.0) s.back_below;
}

pub sends_back : (b : Book) (sent : WriteBackOut) → Sound b → Sound (sent_back b sent)
sends_back b sent s = record {
  rows = rows_grow b (sent_back b sent) (grows_sent_back b sent) s.own_below b.rows s.rows;
  own_once = s.own_once;
  back_once = pushed_key b.next b.backs sent s.back_below s.back_once;
  own_below = below_more b.next (number_after b.next) b.asked (next_more b.next.0) s.own_below;
  back_below = pushed_below b.next b.backs sent s.back_below;
}

pub sends_own : (b : Book) (sent : WriteBackOut) (pid : ℕ) → Sound b → Sound (sent_own b sent pid)
sends_own b sent pid s = record {
  rows = rows_grow b (sent_own b sent pid) (grows_sent_own b sent pid) s.own_below b.rows s.rows;
  own_once = pushed_key b.next b.asked pid s.own_below s.own_once;
  back_once = pushed_key b.next b.backs sent s.back_below s.back_once;
  own_below = pushed_below b.next b.asked pid s.own_below;
  back_below = pushed_below b.next b.backs sent s.back_below;
}

-- who is woken

abbrev pub woken_too : Book → List ℕ → Book
woken_too b pids = record b { ready = b.ready ++ pids }

pub wakes : (b : Book) (pids : List ℕ) → Sound b → Sound (woken_too b pids)
wakes b pids s = record {
  rows = rows_grow b (woken_too b pids) (record { asked = λ tx pid e. e; backs = λ tx e. e; ready = λ pid e. any_before (is_pid pid) b.ready pids e; fresh = λ tx less e. e }) s.own_below b.rows s.rows;
  own_once = s.own_once;
  back_once = s.back_once;
  own_below = s.own_below;
  back_below = s.back_below;
}

-- Operations

abbrev pub kept_more : Book → ℕ → Pending → Book
kept_more b pid operation = record b { rows = b.rows ++ (pid, operation) ∷ [] }

fine_rows : (b : Book) (rows : List (ℕ × Pending)) (row : ℕ × Pending) → Fine b row → Fine (record b { rows = rows }) row
fine_rows b rows row fine = record { kept = fine.kept; out = fine.out; apart = fine.apart }

pub with_rows : (b : Book) (rows : List (ℕ × Pending)) → AllByRecursion (Fine b) rows → Sound b → Sound (record b { rows = rows })
with_rows b rows all s = record {
  rows = each_weaken (Fine b) (Fine (record b { rows = rows })) rows (fine_rows b rows) all;
  own_once = s.own_once;
  back_once = s.back_once;
  own_below = s.own_below;
  back_below = s.back_below;
}

pub keeps : (b : Book) (pid : ℕ) (operation : Pending) → Fine b (pid, operation) → Sound b → Sound (kept_more b pid operation)
keeps b pid operation fine s = with_rows b (b.rows ++ (pid, operation) ∷ []) (each_push (Fine b) b.rows (pid, operation) s.rows fine) s

pub taken_out : (b : Book) (pid : ℕ) → Sound b → Sound (record b { rows = less_of pid b.rows })
taken_out b pid s = with_rows b (less_of pid b.rows) (each_less (Fine b) (is_under same_pid pid) b.rows s.rows) s

-- what is so of all rows is so of the one that is found
found_by : (P : ℕ × Pending → Type 0) (pid key : ℕ) (value operation : Pending) (o : Option (ℕ × Pending)) (b : Bool) → (key == pid) ≡ b → P (key, value) → (option_map (λ (row : ℕ × Pending). row.1) o ≡ Some operation → P (pid, operation)) → option_map (λ (row : ℕ × Pending). row.1) (cond b (Some (key, value)) o) ≡ Some operation → P (pid, operation)
found_by P pid key value operation o true e here later found = subst (λ (n : ℕ). P (n, operation)) (eqb-true key pid e) (subst (λ (op : Pending). P (key, op)) (some_is value operation found) here)
found_by P pid key value operation o false e here later found = later found

pub found_each : (P : ℕ × Pending → Type 0) (pid : ℕ) (rows : List (ℕ × Pending)) (operation : Pending) → AllByRecursion P rows → first_of pid rows ≡ Some operation → P (pid, operation)
found_each P pid [] operation all found = absurd (cc)
found_each P pid ((key, value) ∷ rows) operation all found = found_by P pid key value operation (find (is_under same_pid pid) rows) (key == pid) refl all.0 (found_each P pid rows operation all.1) found

-- and what is so of those of others
pub each_other : (P Q : ℕ × Pending → Type 0) (pid : ℕ) (rows : List (ℕ × Pending)) → ((row : ℕ × Pending) → (row.0 == pid) ≡ false → P row → Q row) → list_any (is_under same_pid pid) rows ≡ false → AllByRecursion P rows → AllByRecursion Q rows
each_other P Q pid [] other none all = tt
each_other P Q pid (row ∷ rows) other none all = let parts = or_false (row.0 == pid) (list_any (is_under same_pid pid) rows) none in (other row parts.0 all.0, each_other P Q pid rows other parts.1 all.1)

-- what is so of its operation, where it has one, and of those of others
found_or : (P Q : ℕ × Pending → Type 0) (pid key : ℕ) (value operation : Pending) (rows : List (ℕ × Pending)) (o : Option (ℕ × Pending)) (b : Bool) → (key == pid) ≡ b → list_any (same_process (key, value)) rows ≡ false → (P (pid, operation) → Q (pid, operation)) → ((row : ℕ × Pending) → (row.0 == pid) ≡ false → P row → Q row)
    → (option_map (λ (row : ℕ × Pending). row.1) o ≡ Some operation → AllByRecursion P rows → AllByRecursion Q rows) → option_map (λ (row : ℕ × Pending). row.1) (cond b (Some (key, value)) o) ≡ Some operation → P (key, value) → AllByRecursion P rows → Q (key, value) × AllByRecursion Q rows
found_or P Q pid key value operation rows o true e once own other later found here all =
    let is : key ≡ pid = eqb-true key pid e in
    let same : value ≡ operation = some_is value operation found in
    let mine : P (pid, operation) = subst (λ (n : ℕ). P (n, operation)) is (subst (λ (op : Pending). P (key, op)) same here) in
    let none : list_any (is_under same_pid pid) rows ≡ false = subst (λ (n : ℕ). list_any (is_under same_pid n) rows ≡ false) is once in
    (subst (λ (op : Pending). Q (key, op)) (sym same) (subst (λ (n : ℕ). Q (n, operation)) (sym is) (own mine)), each_other P Q pid rows other none all)
found_or P Q pid key value operation rows o false e once own other later found here all = (other (key, value) e here, later found all)

pub each_found : (P Q : ℕ × Pending → Type 0) (pid : ℕ) (rows : List (ℕ × Pending)) (operation : Pending) → EachOnce same_process rows → first_of pid rows ≡ Some operation → (P (pid, operation) → Q (pid, operation)) → ((row : ℕ × Pending) → (row.0 == pid) ≡ false → P row → Q row) → AllByRecursion P rows → AllByRecursion Q rows
each_found P Q pid [] operation once found own other all = tt
each_found P Q pid ((key, value) ∷ rows) operation once found own other all =
    found_or P Q pid key value operation rows (find (is_under same_pid pid) rows) (key == pid) refl once.0 own other (λ e more. each_found P Q pid rows operation once.1 e own other more) found all.0 all.1

-- A process that was woken looks

pub woken_by : (pid first : ℕ) (pids : List ℕ) → (pid == first) ≡ false → is_woken pid (first ∷ pids) ≡ true → is_woken pid pids ≡ true
woken_by pid first pids e woken = by_case (or_cases (first == pid) (is_woken pid pids) woken)
  where
    by_case : ((first == pid) ≡ true) ⊎ (is_woken pid pids ≡ true) → is_woken pid pids ≡ true
    by_case (inl same) = absurd (let both = sym (eq_turned first pid) ∙ same in let none = sym both ∙ e in cc)
    by_case (inr there) = there

out_looked : (tx : TxNo) (pid first : ℕ) (pids : List ℕ) (backs : List (TxNo × WriteBackOut)) → (pid == first) ≡ false → (is_back tx backs ≡ true) ⊎ (is_woken pid (first ∷ pids) ≡ true) → (is_back tx backs ≡ true) ⊎ (is_woken pid pids ≡ true)
out_looked tx pid first pids backs e (inl out) = inl out
out_looked tx pid first pids backs e (inr woken) = inr (woken_by pid first pids e woken)

pub looks : (b : Book) (first : ℕ) (pids : List ℕ) (rows : List (ℕ × Pending)) → b.ready ≡ first ∷ pids → list_any (is_under same_pid first) rows ≡ false → AllByRecursion (Fine b) rows → Sound b → Sound (record b { rows = rows; ready = pids })
looks b first pids rows e none all s = record {
  rows = each_other (Fine b) (Fine (record b { rows = rows; ready = pids })) first rows other none all;
  own_once = s.own_once;
  back_once = s.back_once;
  own_below = s.own_below;
  back_below = s.back_below;
}
  where
    other : (row : ℕ × Pending) → (row.0 == first) ≡ false → Fine b row → Fine (record b { rows = rows; ready = pids }) row
    other row f fine = record {
      kept = fine.kept;
      out = λ tx g. out_looked tx row.0 first pids b.backs f (subst (λ (ready : List ℕ). (is_back tx b.backs ≡ true) ⊎ (is_woken row.0 ready ≡ true)) e (fine.out tx g));
      apart = fine.apart;
    }
