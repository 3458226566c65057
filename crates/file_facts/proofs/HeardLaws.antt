-- What an answer to a remote call does to the facts of such calls: its row goes, or its write-back is in and who waits for that is woken.
use Rattle.std.proofs.Common.{◌≡◌, ◌⊎◌, inl, inr, ℕ, ◌==◌, Bool, true, false, ◌&&◌, cond, List, [], ◌∷◌, ◌++◌, Option, Some, None, option_map, refl, sym, ap, ◌∙◌, subst}
use Rattle.std.proofs.lemmas.Bool.{and_parts, eq-eqb, eqb-true}
use Rattle.std.specs.List.{AllByRecursion, find, list_any}
use Rattle.sprite_ids.specs.declared.TxNo.{TxNo}
use Rattle.sprite_ids.specs.Lists.{EachOnce, less}
use Rattle.sprite_ids.proofs.ListLaws.{each_weaken, some_is}
use Rattle.kernel_steps.specs.Rows.{is_row, is_under}
use Rattle.client_file_tables.specs.declared.pending.Pending.{Pending}
use Rattle.client_file_tables.specs.declared.pending.Pending.TheVariants as operations
use Rattle.client_file_tables.specs.declared.states.DataState.{DataState}
use Rattle.client_file_tables.specs.declared.states.DataState.TheVariants as states
use Rattle.client_file_tables.specs.declared.states.SyncState.{SyncState}
use Rattle.client_file_tables.specs.declared.states.SyncState.TheVariants as syncs
use Rattle.client_file_tables.specs.declared.works.WriteBackOut.{WriteBackOut}
use Rattle.client_file_tables.specs.Rows.{first_call, is_pid, less_call, same_call, same_pid}
use Rattle.client_file_tables.specs.Steps.{is_other, is_room, waits_for, woken}
use Rattle.client_facts.specs.FileFacts.{own_call, same_key, waited_write_back}
use Rattle.client_facts.proofs.CostLaws.{any_less, less_once}
use Rattle.stream_table.proofs.OwnerLaws.{eq_turned}
use Rattle.file_facts.specs.CallFacts.{IsBelow}
use Rattle.file_facts.proofs.Books.{Book, Fine, Sound, has_call, is_back, is_woken}
use Rattle.file_facts.proofs.BookLaws.{any_before, any_behind, each_less, less_none, or_cases, or_left, or_right}

-- What stays when one is taken out

still_by : {X : Type 0} (q : X → Bool) (x y : X) (ys more : List X) (o : Option X) (b : Bool) → cond b (Some y) o ≡ Some x → q x ≡ false → (o ≡ Some x → list_any q ys ≡ true → list_any q more ≡ true) → (q y ≡ true) ⊎ (list_any q ys ≡ true) → list_any q (cond b ys (y ∷ more)) ≡ true
still_by q x y ys more o true found fails later (inl here) = absurd (let same = ap q (some_is y x found) in let both = sym here ∙ same ∙ fails in cc)
still_by q x y ys more o true found fails later (inr there) = there
still_by q x y ys more o false found fails later (inl here) = or_left (q y) (list_any q more) here
still_by q x y ys more o false found fails later (inr there) = or_right (q y) (list_any q more) (later found there)

any_still : {X : Type 0} (q p : X → Bool) (x : X) (ys : List X) → find p ys ≡ Some x → q x ≡ false → list_any q ys ≡ true → list_any q (less p ys) ≡ true
any_still q p x [] found fails e = absurd (cc)
any_still q p x (y ∷ ys) found fails e = still_by q x y ys (less p ys) (find p ys) (p y) found fails (λ f g. any_still q p x ys f fails g) (or_cases (q y) (list_any q ys) e)

passes_by : {X : Type 0} (p : X → Bool) (x y : X) (o : Option X) (b : Bool) → p y ≡ b → (o ≡ Some x → p x ≡ true) → cond b (Some y) o ≡ Some x → p x ≡ true
passes_by p x y o true e later found = sym (ap p (some_is y x found)) ∙ e
passes_by p x y o false e later found = later found

find_passes : {X : Type 0} (p : X → Bool) (x : X) (ys : List X) → find p ys ≡ Some x → p x ≡ true
find_passes p x [] found = absurd (cc)
find_passes p x (y ∷ ys) found = passes_by p x y (find p ys) (p y) refl (find_passes p x ys) found

and_false : (a b : Bool) → (a ≡ false) ⊎ (b ≡ false) → (a && b) ≡ false
and_false true b (inl e) = absurd (cc)
and_false true b (inr e) = e
and_false false b e = refl

-- the rows of the first call of that number are of that process
not_row : (tx t : TxNo) (pid p : ℕ) (row : TxNo × ℕ) → (row.0.0 == tx.0) ≡ true → row.1 ≡ pid → ((p == pid) ≡ false) ⊎ ((t.0 == tx.0) ≡ false) → is_row same_call same_pid t p row ≡ false
not_row tx t pid p row key value (inl e) = and_false (row.0.0 == t.0) (row.1 == p) (inr (ap (λ (n : ℕ). n == p) value ∙ eq_turned pid p ∙ e))
not_row tx t pid p row key value (inr e) = and_false (row.0.0 == t.0) (row.1 == p) (inl (ap (λ (n : ℕ). n == t.0) (eqb-true row.0.0 tx.0 key) ∙ eq_turned tx.0 t.0 ∙ e))

kept_in : (tx t : TxNo) (pid p : ℕ) (rows : List (TxNo × ℕ)) (o : Option (TxNo × ℕ)) → find (is_under same_call tx) rows ≡ o → option_map (λ (row : TxNo × ℕ). row.1) o ≡ Some pid → ((p == pid) ≡ false) ⊎ ((t.0 == tx.0) ≡ false) → has_call t p rows ≡ true → has_call t p (less_call tx rows) ≡ true
kept_in tx t pid p rows None e found other h = absurd (cc)
kept_in tx t pid p rows (Some row) e found other h =
    any_still (is_row same_call same_pid t p) (is_under same_call tx) row rows e (not_row tx t pid p row (find_passes (is_under same_call tx) row rows e) (some_is row.1 pid found) other) h

-- calls of others, and other calls, are kept still
pub kept_still : (tx t : TxNo) (pid p : ℕ) (rows : List (TxNo × ℕ)) → first_call tx rows ≡ Some pid → ((p == pid) ≡ false) ⊎ ((t.0 == tx.0) ≡ false) → has_call t p rows ≡ true → has_call t p (less_call tx rows) ≡ true
kept_still tx t pid p rows found other h = kept_in tx t pid p rows (find (is_under same_call tx) rows) refl found other h

unheard_by : {V : Type 0} (tx : TxNo) (rows : List (TxNo × V)) (o : Option (TxNo × V)) → find (is_under same_call tx) rows ≡ o → option_map (λ (row : TxNo × V). row.1) o ≡ None → less_call tx rows ≡ rows
unheard_by tx rows None e none = less_none (is_under same_call tx) rows e
unheard_by tx rows (Some row) e none = absurd (cc)

pub unheard : {V : Type 0} (tx : TxNo) (rows : List (TxNo × V)) → first_call tx rows ≡ None → less_call tx rows ≡ rows
unheard tx rows none = unheard_by tx rows (find (is_under same_call tx) rows) refl none

back_by : (tx t : TxNo) (rows : List (TxNo × WriteBackOut)) (o : Option (TxNo × WriteBackOut)) → find (is_under same_call tx) rows ≡ o → (t.0 == tx.0) ≡ false → is_back t rows ≡ true → is_back t (less_call tx rows) ≡ true
back_by tx t rows None e other h = subst (λ (all : List (TxNo × WriteBackOut)). is_back t all ≡ true) (sym (less_none (is_under same_call tx) rows e)) h
back_by tx t rows (Some row) e other h =
    any_still (is_under same_call t) (is_under same_call tx) row rows e (ap (λ (n : ℕ). n == t.0) (eqb-true row.0.0 tx.0 (find_passes (is_under same_call tx) row rows e)) ∙ eq_turned tx.0 t.0 ∙ other) h

-- other write-backs are out still
back_still : (tx t : TxNo) (rows : List (TxNo × WriteBackOut)) → (t.0 == tx.0) ≡ false → is_back t rows ≡ true → is_back t (less_call tx rows) ≡ true
back_still tx t rows other h = back_by tx t rows (find (is_under same_call tx) rows) refl other h

-- Whose a call is

key_by : (t : TxNo) (p : ℕ) (row : TxNo × ℕ) (rows : List (TxNo × ℕ)) → (has_call t p rows ≡ true → list_any (is_under same_call t) rows ≡ true) → (is_row same_call same_pid t p row ≡ true) ⊎ (has_call t p rows ≡ true) → list_any (is_under same_call t) (row ∷ rows) ≡ true
key_by t p row rows later (inl here) = or_left (row.0.0 == t.0) (list_any (is_under same_call t) rows) (and_parts (row.0.0 == t.0) (row.1 == p) here).0
key_by t p row rows later (inr there) = or_right (row.0.0 == t.0) (list_any (is_under same_call t) rows) (later there)

any_key : (t : TxNo) (p : ℕ) (rows : List (TxNo × ℕ)) → has_call t p rows ≡ true → list_any (is_under same_call t) rows ≡ true
any_key t p [] h = absurd (cc)
any_key t p (row ∷ rows) h = key_by t p row rows (any_key t p rows) (or_cases (is_row same_call same_pid t p row) (has_call t p rows) h)

first_by : (tx t : TxNo) (p : ℕ) (row : TxNo × ℕ) (rows : List (TxNo × ℕ)) (o : Option (TxNo × ℕ)) (b : Bool) → (row.0.0 == tx.0) ≡ b → (t.0 == tx.0) ≡ true → list_any (same_key row) rows ≡ false → (has_call t p rows ≡ true → option_map (λ (r : TxNo × ℕ). r.1) o ≡ Some p) → (is_row same_call same_pid t p row ≡ true) ⊎ (has_call t p rows ≡ true) → option_map (λ (r : TxNo × ℕ). r.1) (cond b (Some row) o) ≡ Some p
first_by tx t p row rows o true e same once later (inl here) = ap Some (eqb-true row.1 p (and_parts (row.0.0 == t.0) (row.1 == p) here).1)
first_by tx t p row rows o true e same once later (inr there) =
    absurd (let key : t.0 ≡ row.0.0 = eqb-true t.0 tx.0 same ∙ sym (eqb-true row.0.0 tx.0 e) in
    let more : list_any (same_key row) rows ≡ true = subst (λ (n : ℕ). list_any (λ (other : TxNo × ℕ). other.0.0 == n) rows ≡ true) key (any_key t p rows there) in
    let both = sym more ∙ once in
    cc)
first_by tx t p row rows o false e same once later (inl here) =
    absurd (let key = eqb-true row.0.0 t.0 (and_parts (row.0.0 == t.0) (row.1 == p) here).0 in
    let both = eq-eqb row.0.0 tx.0 (key ∙ eqb-true t.0 tx.0 same) in
    let never = sym both ∙ e in
    cc)
first_by tx t p row rows o false e same once later (inr there) = later there

-- a call that is kept once is the process's for which it is kept
pub held_first : (tx t : TxNo) (p : ℕ) (rows : List (TxNo × ℕ)) → EachOnce same_key rows → (t.0 == tx.0) ≡ true → has_call t p rows ≡ true → first_call tx rows ≡ Some p
held_first tx t p [] once same h = absurd (cc)
held_first tx t p (row ∷ rows) once same h = first_by tx t p row rows (find (is_under same_call tx) rows) (row.0.0 == tx.0) refl same once.0 (held_first tx t p rows once.1 same) (or_cases (is_row same_call same_pid t p row) (has_call t p rows) h)

-- An operation's own call is answered or given up

abbrev pub heard : Book → TxNo → List (ℕ × Pending) → Book
heard b tx rows = record b { rows = rows; asked = less_call tx b.asked }

-- whether a row's own call is another's or another one
abbrev pub IsOther : TxNo → ℕ → ℕ × Pending → Type 0
IsOther tx pid row = (t : TxNo) → own_call row.1 ≡ Some t → ((row.0 == pid) ≡ false) ⊎ ((t.0 == tx.0) ≡ false)

pub fine_heard : (b : Book) (tx : TxNo) (pid : ℕ) (rows : List (ℕ × Pending)) → first_call tx b.asked ≡ Some pid → (row : ℕ × Pending) → IsOther tx pid row → Fine b row → Fine (heard b tx rows) row
fine_heard b tx pid rows found row other fine = record { kept = λ t e. kept_still tx t pid row.0 b.asked found (other t e) (fine.kept t e); out = fine.out; apart = fine.apart }

-- the facts of numbers stay, whatever the rows are
pub hears : (b : Book) (tx : TxNo) (rows : List (ℕ × Pending)) → AllByRecursion (Fine (heard b tx rows)) rows → Sound b → Sound (heard b tx rows)
hears b tx rows all s = record {
  rows = all;
  own_once = less_once _ _ b.asked s.own_once;
  back_once = s.back_once;
  own_below = each_less (IsBelow {V = ℕ} b.next) (is_under same_call tx) b.asked s.own_below;
  back_below = s.back_below;
}

-- A write-back is answered

abbrev pub written : Book → TxNo → List (ℕ × Pending) → Book
written b tx rows = record b { rows = rows; asked = less_call tx b.asked; backs = less_call tx b.backs; ready = b.ready ++ woken tx b.rows }

-- an operation waits for another's write-back, or for its own
waits_so : (operation : Pending) (tx : TxNo) → waited_write_back operation ≡ Some tx → (waits_for tx operation ≡ true) ⊎ (own_call operation ≡ Some tx)
waits_so (operations.Name call) tx e = absurd (cc)
waits_so (operations.Data call) tx e = inl (in_state call.state e)
  where
    in_state : (state : DataState) → waited_write_back (operations.Data (record call { state = state })) ≡ Some tx → is_room tx state ≡ true
    in_state (states.Room other) e = (let same = some_is other tx e in eq-eqb other.0 tx.0 (ap (λ (n : TxNo). n.0) same))
    in_state states.WaitLock e = absurd (cc)
    in_state states.Turn e = absurd (cc)
    in_state (states.Fetching other block) e = absurd (cc)
    in_state (states.AtServer other) e = absurd (cc)
waits_so (operations.Sync call) tx e = in_state call.state e
  where
    in_state : (state : SyncState) → waited_write_back (operations.Sync (record call { state = state })) ≡ Some tx → (is_other tx state ≡ true) ⊎ (own_call (operations.Sync (record call { state = state })) ≡ Some tx)
    in_state syncs.Looking e = absurd (cc)
    in_state (syncs.WaitOther other) e = (let same = some_is other tx e in inl (eq-eqb other.0 tx.0 (ap (λ (n : TxNo). n.0) same)))
    in_state (syncs.WaitOwn other) e = inr e
waits_so (operations.Close work) tx e = absurd (cc)
waits_so (operations.Move work) tx e = absurd (cc)

-- who waits for it is woken
abbrev pub IsWoken : TxNo → List ℕ → ℕ × Pending → Type 0
IsWoken tx pids row = waits_for tx row.1 ≡ true → is_woken row.0 pids ≡ true

more_woken : (first : ℕ) (tx : TxNo) (pids : List ℕ) (row : ℕ × Pending) → IsWoken tx pids row → IsWoken tx (first ∷ pids) row
more_woken first tx pids row h e = or_right (first == row.0) (is_woken row.0 pids) (h e)

woken_by : (tx : TxNo) (row : ℕ × Pending) (rows : List (ℕ × Pending)) (pids : List ℕ) (b : Bool) → waits_for tx row.1 ≡ b → AllByRecursion (IsWoken tx pids) rows → AllByRecursion (IsWoken tx (cond b (row.0 ∷ pids) pids)) (row ∷ rows)
woken_by tx row rows pids true e all = (λ f. or_left (row.0 == row.0) (is_woken row.0 pids) (eq-eqb row.0 row.0 refl), each_weaken (IsWoken tx pids) (IsWoken tx (row.0 ∷ pids)) rows (more_woken row.0 tx pids) all)
woken_by tx row rows pids false e all = (λ f. absurd (let both = sym f ∙ e in cc), all)

pub all_woken : (tx : TxNo) (rows : List (ℕ × Pending)) → AllByRecursion (IsWoken tx (woken tx rows)) rows
all_woken tx [] = tt
all_woken tx (row ∷ rows) = woken_by tx row rows (woken tx rows) (waits_for tx row.1) refl (all_woken tx rows)

out_by : (b : Book) (tx t : TxNo) (row : ℕ × Pending) (same : Bool) → (t.0 == tx.0) ≡ same → IsWoken tx (woken tx b.rows) row → (own_call row.1 ≡ Some t → (t.0 == tx.0) ≡ false) → waited_write_back row.1 ≡ Some t → (is_back t b.backs ≡ true) ⊎ (is_woken row.0 b.ready ≡ true)
    → (is_back t (less_call tx b.backs) ≡ true) ⊎ (is_woken row.0 (b.ready ++ woken tx b.rows) ≡ true)
out_by b tx t row false e wakes own waits (inl out) = inl (back_still tx t b.backs e out)
out_by b tx t row false e wakes own waits (inr there) = inr (any_before (is_pid row.0) b.ready _ there)
out_by b tx t row true e wakes own waits (inr there) = inr (any_before (is_pid row.0) b.ready _ there)
out_by b tx t row true e wakes own waits (inl out) = by_case (waits_so row.1 t waits)
  where
    by_case : (waits_for t row.1 ≡ true) ⊎ (own_call row.1 ≡ Some t) → (is_back t (less_call tx b.backs) ≡ true) ⊎ (is_woken row.0 (b.ready ++ woken tx b.rows) ≡ true)
    by_case (inl other) = inr (any_behind (is_pid row.0) b.ready _ (wakes (subst (λ (n : ℕ). waits_for (record { 0 = n }) row.1 ≡ true) (eqb-true t.0 tx.0 e) other)))
    by_case (inr mine) = absurd (let never = own mine in let both = sym never ∙ e in cc)

pub fine_written : (b : Book) (tx : TxNo) (rows : List (ℕ × Pending)) (row : ℕ × Pending) → IsWoken tx (woken tx b.rows) row → ((t : TxNo) → own_call row.1 ≡ Some t → (t.0 == tx.0) ≡ false) → ((t : TxNo) → own_call row.1 ≡ Some t → has_call t row.0 (less_call tx b.asked) ≡ true) → Fine b row → Fine (written b tx rows) row
fine_written b tx rows row wakes own kept fine = record {
  kept = kept;
  out = λ t e. out_by b tx t row (t.0 == tx.0) refl wakes (own t) e (fine.out t e);
  apart = λ t e f. any_less (is_under same_call t) (is_under same_call tx) b.backs (fine.apart t e f);
}

pub writes : (b : Book) (tx : TxNo) (rows : List (ℕ × Pending)) → AllByRecursion (Fine (written b tx rows)) rows → Sound b → Sound (written b tx rows)
writes b tx rows all s = record {
  rows = all;
  own_once = less_once _ _ b.asked s.own_once;
  back_once = less_once _ _ b.backs s.back_once;
  own_below = each_less (IsBelow {V = ℕ} b.next) (is_under same_call tx) b.asked s.own_below;
  back_below = each_less (IsBelow {V = WriteBackOut} b.next) (is_under same_call tx) b.backs s.back_below;
}
