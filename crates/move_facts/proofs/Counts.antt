-- What is known of processes that leave where one thing at most is on its way to each process.
use Rattle.std.proofs.Common.{arith, ◌≡◌, ℕ, ◌+◌, ◌≤◌, ◌==◌, Bool, true, false, ◌||◌, cond, List, [], ◌∷◌, Option, Some, None, option_map, refl, ap, ◌∙◌, find, is_some}
use Rattle.std.proofs.lemmas.Bool.{eq-eqb}
use Rattle.std.specs.List.{AllByRecursion, list_any}
use Rattle.sprite_ids.specs.Lists.{EachOnce, one_if, total}
use Rattle.sprite_ids.proofs.ListLaws.{each_weaken}
use Rattle.sprite_ids.proofs.OnceLaws.{or_false}
use Rattle.kernel_steps.specs.Rows.{first_under, is_under}
use Rattle.stream_table.proofs.OwnerLaws.{eq_turned}
use Rattle.client_file_tables.specs.declared.moves.MoveWork.{MoveWork}
use Rattle.client_file_tables.specs.declared.moves.Report.{Report}
use Rattle.client_file_tables.specs.declared.moves.Report.TheVariants as reports
use Rattle.client_file_tables.specs.declared.pending.Pending.{Pending}
use Rattle.client_file_tables.specs.declared.pending.Pending.TheVariants as operations
use Rattle.client_file_tables.specs.declared.states.MoveState.{MoveState}
use Rattle.client_file_tables.specs.declared.states.MoveState.TheVariants as moves
use Rattle.client_file_tables.specs.Rows.{first_of, same_pid}
use Rattle.client_homes.specs.declared.client.ClientProcs.{ClientProcs}
use Rattle.client_homes.specs.declared.client.Leaving.{Leaving}
use Rattle.client_homes.specs.Procs.{is_pid}
use Rattle.client_facts.specs.FileFacts.{OneOperationEach, same_process}
use Rattle.client_rounds.specs.Rounds as rounds_of
use Rattle.client_rounds.specs.Rounds.{MayTurn, due_to, here, is_work, leaves, moved_of, moves_of, of_process, work_of}
use Rattle.lock_holders.specs.HolderFacts.{IsOwn, MovesAreOwn, waits_at}
use Rattle.move_facts.specs.MoveFacts.{IsNext, MovesInTurn, has_moved, is_out, is_moving_out, move_in, move_of, tells_of}
use Rattle.move_facts.proofs.Leavers.{Told, ToldOnce}
use Rattle.move_facts.proofs.MoveRuns.{Calm, is_close}

abbrev value_of : Option (ℕ × Pending) → Option Pending
value_of o = option_map (λ (row : ℕ × Pending). row.1) o

-- an operation that is found counts
close_by : (row : ℕ × Pending) (o : Option (ℕ × Pending)) (q n : ℕ) (b : Bool) → (row.0 == q) ≡ b → is_close (value_of (cond b (Some row) o)) ≡ true → (is_close (value_of o) ≡ true → 1 ≤ n) → 1 ≤ work_of q row + n
close_by (key, operations.Close work) o q n true e found later = (let one : one_if (key == q) ≡ 1 = ap one_if e in omega arith)
close_by (key, operations.Name call) o q n true e found later = absurd (cc)
close_by (key, operations.Data call) o q n true e found later = absurd (cc)
close_by (key, operations.Sync call) o q n true e found later = absurd (cc)
close_by (key, operations.Move work) o q n true e found later = absurd (cc)
close_by row o q n false e found later = (let rest : 1 ≤ n = later found in omega arith)

close_counts : (q : ℕ) (rows : List (ℕ × Pending)) → is_close (first_of q rows) ≡ true → 1 ≤ total (work_of q) rows
close_counts q [] found = absurd (cc)
close_counts q (row ∷ rest) found = close_by row (find (is_under same_pid q) rest) q (total (work_of q) rest) (row.0 == q) refl found (close_counts q rest)

move_by : (row : ℕ × Pending) (o : Option (ℕ × Pending)) (q n : ℕ) (b : Bool) → (row.0 == q) ≡ b → is_some (move_in (value_of (cond b (Some row) o))) ≡ true → (is_some (move_in (value_of o)) ≡ true → 1 ≤ n) → 1 ≤ rounds_of.move_of q row + n
move_by (key, operations.Move work) o q n true e found later = (let one : one_if (key == q) ≡ 1 = ap one_if e in omega arith)
move_by (key, operations.Name call) o q n true e found later = absurd (cc)
move_by (key, operations.Data call) o q n true e found later = absurd (cc)
move_by (key, operations.Sync call) o q n true e found later = absurd (cc)
move_by (key, operations.Close work) o q n true e found later = absurd (cc)
move_by row o q n false e found later = (let rest : 1 ≤ n = later found in omega arith)

move_counts : (q : ℕ) (rows : List (ℕ × Pending)) → is_some (move_of q rows) ≡ true → 1 ≤ total (rounds_of.move_of q) rows
move_counts q [] found = absurd (cc)
move_counts q (row ∷ rest) found = move_by row (find (is_under same_pid q) rest) q (total (rounds_of.move_of q) rest) (row.0 == q) refl found (move_counts q rest)

told_by : (report : Report) (q n : ℕ) (b : Bool) → tells_of q report ≡ b → (b || false) ≡ true → 1 ≤ moved_of q report + n
told_by (reports.Moved pid place grant many) q n true e found = (let one : one_if (pid == q) ≡ 1 = ap one_if e in omega arith)
told_by (reports.MasterClosed device) q n true e found = absurd (cc)
told_by (reports.AllClosed pid) q n true e found = absurd (cc)
told_by report q n false e found = absurd (cc)

told_first : (report : Report) (q : ℕ) (c : Bool) (n : ℕ) (b : Bool) → tells_of q report ≡ b → (b || c) ≡ true → (c ≡ true → 1 ≤ n) → 1 ≤ moved_of q report + n
told_first report q c n true e found later = told_by report q n true e refl
told_first report q c n false e found later = (let rest : 1 ≤ n = later found in omega arith)

told_counts : (q : ℕ) (told : List Report) → has_moved q told ≡ true → 1 ≤ total (moved_of q) told
told_counts q [] found = absurd (cc)
told_counts q (report ∷ rest) found = told_first report q (has_moved q rest) (total (moved_of q) rest) (tells_of q report) refl found (told_counts q rest)

leaves_by : (row : ℕ × Leaving) (o : Option (ℕ × Leaving)) (q n : ℕ) (b : Bool) → (row.0 == q) ≡ b → is_some (option_map (λ (r : ℕ × Leaving). r.1) (cond b (Some row) o)) ≡ true → (is_some (option_map (λ (r : ℕ × Leaving). r.1) o) ≡ true → 1 ≤ n) → 1 ≤ of_process q row + n
leaves_by row o q n true e found later = (let one : one_if (row.0 == q) ≡ 1 = ap one_if e in omega arith)
leaves_by row o q n false e found later = (let rest : 1 ≤ n = later found in omega arith)

leaves_count : (q : ℕ) (rows : List (ℕ × Leaving)) → is_some (first_under is_pid q rows) ≡ true → 1 ≤ total (of_process q) rows
leaves_count q [] found = absurd (cc)
leaves_count q (row ∷ rest) found = leaves_by row (find (is_under is_pid q) rest) q (total (of_process q) rest) (row.0 == q) refl found (leaves_count q rest)

found_by : (row : ℕ × Leaving) (o : Option (ℕ × Leaving)) (q n : ℕ) (b : Bool) → (row.0 == q) ≡ b → 1 ≤ of_process q row + n → (1 ≤ n → is_some (option_map (λ (r : ℕ × Leaving). r.1) o) ≡ true) → is_some (option_map (λ (r : ℕ × Leaving). r.1) (cond b (Some row) o)) ≡ true
found_by row o q n true e counts later = refl
found_by row o q n false e counts later = later (let none : one_if (row.0 == q) ≡ 0 = ap one_if e in omega (arith, counts, none))

leaves_found : (q : ℕ) (rows : List (ℕ × Leaving)) → 1 ≤ total (of_process q) rows → is_some (first_under is_pid q rows) ≡ true
leaves_found q [] counts = absurd (omega (arith, counts))
leaves_found q (row ∷ rest) counts = found_by row (find (is_under is_pid q) rest) q (total (of_process q) rest) (row.0 == q) refl counts (leaves_found q rest)

-- What is told

never_by : (q : ℕ) (told : List Report) (b : Bool) → has_moved q told ≡ b → total (moved_of q) told ≤ 0 → b ≡ false
never_by q told true e few = absurd (let one = told_counts q told e in omega (arith, one, few))
never_by q told false e few = refl

less_by_none : (n : ℕ) → 0 + n ≤ 1 → n ≤ 1
less_by_none n h = omega (arith, h)

once_of : (told : List Report) → ((q : ℕ) → total (moved_of q) told ≤ 1) → ToldOnce told
once_of [] few = tt
once_of (reports.Moved pid place grant many ∷ rest) few =
    (never_by pid rest (has_moved pid rest) refl (few_left pid (few pid)), once_of rest (λ q. fewer q (few q)))
  where
    few_left : (q : ℕ) → total (moved_of q) (reports.Moved q place grant many ∷ rest) ≤ 1 → total (moved_of q) rest ≤ 0
    few_left q h = (let one : one_if (q == q) ≡ 1 = ap one_if (eq-eqb q q refl) in omega (arith, h, one))

    fewer : (q : ℕ) → total (moved_of q) (reports.Moved pid place grant many ∷ rest) ≤ 1 → total (moved_of q) rest ≤ 1
    fewer q h = omega (arith, h)
once_of (reports.MasterClosed device ∷ rest) few = once_of rest (λ q. less_by_none (total (moved_of q) rest) (few q))
once_of (reports.AllClosed pid ∷ rest) few = once_of rest (λ q. less_by_none (total (moved_of q) rest) (few q))

pub told_of : (s : ClientProcs) → MayTurn s → Told s.leaving s.files.pending s.files.results
told_of s may = record {
  once = once_of s.files.results (λ q. few q);
  free = λ q work e. free q work e (has_moved q s.files.results) refl;
  leads = λ q e. leaves_found q s.leaving (let one : 1 ≤ total (moved_of q) s.files.results = told_counts q s.files.results e in let most : total (rounds_of.move_of q) s.files.pending + total (moved_of q) s.files.results ≤ total (of_process q) s.leaving = may.moves q in omega arith);
}
  where
    few : (q : ℕ) → total (moved_of q) s.files.results ≤ 1
    few q =
        (let most : total (rounds_of.move_of q) s.files.pending + total (moved_of q) s.files.results ≤ total (of_process q) s.leaving = may.moves q in
        let apart : total (of_process q) s.procs + total (of_process q) s.leaving ≤ 1 = may.apart q in
        omega arith)

    free : (q : ℕ) (work : MoveWork) → move_of q s.files.pending ≡ Some work → (b : Bool) → has_moved q s.files.results ≡ b → b ≡ false
    free q work e true f =
        absurd (let one : 1 ≤ total (moved_of q) s.files.results = told_counts q s.files.results f in
        let two : 1 ≤ total (rounds_of.move_of q) s.files.pending = move_counts q s.files.pending (ap is_some e) in
        let most : total (rounds_of.move_of q) s.files.pending + total (moved_of q) s.files.results ≤ total (of_process q) s.leaving = may.moves q in
        let apart : total (of_process q) s.procs + total (of_process q) s.leaving ≤ 1 = may.apart q in
        omega arith)
    free q work e false f = refl

-- who closes doesn't leave
pub calm_of : (s : ClientProcs) → MayTurn s → Calm s.leaving s.files.pending
calm_of s may q e = by_found (first_under is_pid q s.leaving) refl
  where
    by_found : (o : Option Leaving) → first_under is_pid q s.leaving ≡ o → o ≡ None
    by_found None f = refl
    by_found (Some found) f =
        absurd (let one : 1 ≤ total (work_of q) s.files.pending = close_counts q s.files.pending e in
        let two : 1 ≤ total (of_process q) s.leaving = leaves_count q s.leaving (ap is_some f) in
        let due : due_to q s ≤ total (of_process q) s.procs = may.due q in
        let more : total (work_of q) s.files.pending ≤ due_to q s = omega arith in
        let apart : total (of_process q) s.procs + total (of_process q) s.leaving ≤ 1 = may.apart q in
        omega arith)

-- Moves are of streams of their processes

row_found : (row : ℕ × Pending) (rest : List (ℕ × Pending)) → first_of row.0 (row ∷ rest) ≡ Some row.1
row_found row rest = ap (λ (b : Bool). value_of (cond b (Some row) (find (is_under same_pid row.0) rest))) (eq-eqb row.0 row.0 refl)

later_found : (first row : ℕ × Pending) (rest : List (ℕ × Pending)) → same_process first row ≡ false → first_of row.0 rest ≡ Some row.1 → first_of row.0 (first ∷ rest) ≡ Some row.1
later_found first row rest apart found = ap (λ (b : Bool). value_of (cond b (Some first) (find (is_under same_pid row.0) rest))) (eq_turned first.0 row.0 ∙ apart) ∙ found

each_later : (first : ℕ × Pending) (all rows : List (ℕ × Pending)) → list_any (same_process first) rows ≡ false → AllByRecursion (λ (row : ℕ × Pending). first_of row.0 all ≡ Some row.1) rows → AllByRecursion (λ (row : ℕ × Pending). first_of row.0 (first ∷ all) ≡ Some row.1) rows
each_later first all [] apart found = tt
each_later first all (row ∷ rows) apart found =
    let parts = or_false (same_process first row) (list_any (same_process first) rows) apart in
    (later_found first row all parts.0 found.0, each_later first all rows parts.1 found.1)

each_found : (rows : List (ℕ × Pending)) → EachOnce same_process rows → AllByRecursion (λ (row : ℕ × Pending). first_of row.0 rows ≡ Some row.1) rows
each_found [] once = tt
each_found (row ∷ rows) once = (row_found row rows, each_later row rows rows once.0 (each_found rows once.1))

own_state : (state : MoveState) (s : ClientProcs) (pid : ℕ) (work : MoveWork) → work.state ≡ state → MovesInTurn s.leaving s.files.pending s.files.streams.owners s.files.results → move_of pid s.files.pending ≡ Some work → has_moved pid s.files.results ≡ false → waits_at state s.files.streams.owners work.stream pid
own_state moves.WaitLock s pid work w p found none =
    let mine : IsNext s.leaving pid work = p.next pid work found in
    record { fd = mine.moving.item.fd; leads = p.held pid mine.found mine.moving mine.there mine.step (ap is_out found ∙ ap is_moving_out w) none ∙ ap Some mine.same }
own_state (moves.MovingOut tx kept place) s pid work w p found none = tt

own_row : (s : ClientProcs) (row : ℕ × Pending) → MovesInTurn s.leaving s.files.pending s.files.streams.owners s.files.results → Told s.leaving s.files.pending s.files.results → first_of row.0 s.files.pending ≡ Some row.1 → IsOwn s.files.streams.owners row
own_row s (pid, operations.Name call) p told found = tt
own_row s (pid, operations.Data call) p told found = tt
own_row s (pid, operations.Sync call) p told found = tt
own_row s (pid, operations.Close work) p told found = tt
own_row s (pid, operations.Move work) p told found = own_state work.state s pid work refl p (ap move_in found) (told.free pid work (ap move_in found))

pub own_moves : (s : ClientProcs) → OneOperationEach s.files → MovesInTurn s.leaving s.files.pending s.files.streams.owners s.files.results → Told s.leaving s.files.pending s.files.results → MovesAreOwn s.files
own_moves s once p told = each_weaken (λ (row : ℕ × Pending). first_of row.0 s.files.pending ≡ Some row.1) (IsOwn s.files.streams.owners) s.files.pending (λ row found. own_row s row p told found) (each_found s.files.pending once)
