-- The turns in which the files' side works off what a step woke are enough.
use Rattle.std.proofs.Common.{arith, ◌≡◌, ◌⊎◌, inl, inr, ℕ, zero, suc, ◌+◌, ◌*◌, ◌≤◌, Bool, true, false, cond, List, [], ◌∷◌, length, Option, Some, None, refl, sym, ap, ◌∙◌, subst}
use Rattle.std.proofs.lemmas.Bool.{and_parts, leb-true}
use Rattle.std.specs.List.{list_all}
use Rattle.client_file_tables.specs.declared.client_files.ClientFiles.{ClientFiles}
use Rattle.client_file_tables.specs.declared.pending.Pending.{Pending}
use Rattle.client_file_tables.specs.declared.pending.Pending.TheVariants as operations
use Rattle.kernel_steps.specs.Rows.{is_under}
use Rattle.client_file_tables.specs.Rows.{first_of, less_of, same_pid}
use Rattle.client_files.specs.Turns.{goes_on, runs_by, turned_by, turns, turns_for}
use Rattle.client_facts.specs.FileFacts.{OneOperationEach, QueuesAreOnce, TurnsAreOnce}
use Rattle.client_facts.specs.GoingOn.{ClosesAreShort, GoesOn, MayGoOn, few_fds, has_few_fds}
use Rattle.client_facts.proofs.CalmLaws.{asks_at, calm_self}
use Rattle.client_facts.proofs.CostLaws.{Ran, cost, cost_ran, due, due_less, ends_calm, less_once, none_left, once_ran, once_times, ran_kept, times, took, worth}
use Rattle.client_facts.proofs.DataLaws.{ran_looks}
use Rattle.client_facts.proofs.RowLaws.{all_kept, all_less, found_few}
use Rattle.client_facts.proofs.StreamLaws.{ran_close, ran_move, ran_syncs}

ran_by : (operation : Pending) (pid : ℕ) (s : ClientFiles) → Ran pid operation s (runs_by (Some operation) pid s)
ran_by (operations.Name call) pid s = ran_kept pid 0 (operations.Name call) (operations.Name call) s s (ends_calm pid s s (calm_self s)) (omega arith) (λ h. h)
ran_by (operations.Data call) pid s = ran_looks pid call s
ran_by (operations.Sync call) pid s = ran_syncs pid call s
ran_by (operations.Close work) pid s = ran_close pid work s
ran_by (operations.Move work) pid s = ran_move pid work s

-- a turn, where somebody is woken
record Turned (s t : ClientFiles) : Type 0 where
  cheaper : suc (cost t) ≤ cost s
  once : OneOperationEach t
  queues : QueuesAreOnce s → QueuesAreOnce t
  turns : TurnsAreOnce s → TurnsAreOnce t
  short : ClosesAreShort s → ClosesAreShort t

due_same : (rows : List (ℕ × Pending)) (s : ClientFiles) (pids : List ℕ) (left : List (ℕ × Pending)) → due rows (record s { ready = pids; pending = left }) ≡ due rows s
due_same [] s pids left = refl
due_same (row ∷ rows) s pids left = ap (λ (n : ℕ). worth row.0 row.1 s + n) (due_same rows s pids left)

turned_at : (o : Option Pending) (pid : ℕ) (pids : List ℕ) (s : ClientFiles) → s.ready ≡ pid ∷ pids → OneOperationEach s → first_of pid s.pending ≡ o → Turned s (runs_by o pid (record s { ready = pids; pending = less_of pid s.pending }))
turned_at None pid pids s e once found =
    let all = ap (λ (xs : List ℕ). length xs) e in
    let same = due_same (less_of pid s.pending) s pids (less_of pid s.pending) in
    let less = due_less pid s.pending s in
    record {
      cheaper = omega arith;
      once = less_once _ _ s.pending once;
      queues = λ q. q;
      turns = λ q. q;
      short = λ h. all_less has_few_fds (is_under same_pid pid) s.pending h;
    }
turned_at (Some operation) pid pids s e once found =
    let left : ClientFiles = record s { ready = pids; pending = less_of pid s.pending } in
    let r = ran_by operation pid left in
    let none = none_left pid s.pending once in
    let all = ap (λ (xs : List ℕ). length xs) e in
    let same = due_same (less_of pid s.pending) s pids (less_of pid s.pending) in
    let taken = took pid s.pending operation s found in
    let bound : cost (runs_by (Some operation) pid left) ≤ length pids + due (less_of pid s.pending) left + worth pid operation s = cost_ran pid operation left _ r none in
    record {
      cheaper = omega arith;
      once = once_ran pid operation left _ r none (less_once _ _ s.pending once);
      queues = r.queues;
      turns = r.turns;
      short = λ h. subst (λ (rows : List (ℕ × Pending)). list_all has_few_fds rows ≡ true) (sym r.pending) (all_kept pid r.kept left.pending (all_less has_few_fds (is_under same_pid pid) s.pending h) (r.few (found_few pid s.pending operation h found)));
    }

-- so many turns: nobody is woken any more, or each made it cheaper
record After (n : ℕ) (s t : ClientFiles) : Type 0 where
  once : OneOperationEach t
  queues : QueuesAreOnce s → QueuesAreOnce t
  turns : TurnsAreOnce s → TurnsAreOnce t
  short : ClosesAreShort s → ClosesAreShort t
  less : (t.ready ≡ []) ⊎ (cost t + n ≤ cost s)

cheaper_by : (n pid : ℕ) (pids : List ℕ) (s t u : ClientFiles) → t.ready ≡ pid ∷ pids → suc (cost u) ≤ cost t → (t.ready ≡ []) ⊎ (cost t + n ≤ cost s) → (u.ready ≡ []) ⊎ (cost u + suc n ≤ cost s)
cheaper_by n pid pids s t u e cheaper (inl none) = absurd (let both = sym none ∙ e in cc)
cheaper_by n pid pids s t u e cheaper (inr less) = inr (omega arith)

after_turn : (xs : List ℕ) (n : ℕ) (s t : ClientFiles) → t.ready ≡ xs → After n s t → After (suc n) s (turned_by xs t)
after_turn [] n s t e a = record { once = a.once; queues = a.queues; turns = a.turns; short = a.short; less = inl e }
after_turn (pid ∷ pids) n s t e a =
    let turn = turned_at (first_of pid t.pending) pid pids t e a.once refl in
    record {
      once = turn.once;
      queues = λ q. turn.queues (a.queues q);
      turns = λ q. turn.turns (a.turns q);
      short = λ h. turn.short (a.short h);
      less = cheaper_by n pid pids s t _ e turn.cheaper a.less;
    }

after_turns : (n : ℕ) (s : ClientFiles) → OneOperationEach s → After n s (turns n s)
after_turns zero s once = record { once = once; queues = λ q. q; turns = λ q. q; short = λ h. h; less = inr (omega arith) }
after_turns (suc n) s once = after_turn (turns n s).ready n s (turns n s) refl (after_turns n s once)

-- and what is kept is kept
pub going_on_keeps : (s : ClientFiles) → GoesOn s → GoesOn (goes_on s)
going_on_keeps s g =
    let a = after_turns (turns_for s) s g.may.one_each in
    record { may = record { one_each = a.once; turns = a.turns g.may.turns; short = a.short g.may.short }; queues = a.queues g.queues }

-- at first it costs no more than there are turns

at_most : (b : Bool) (many : ℕ) → many ≤ 1 → cond {A = ℕ} b many 0 ≤ 1
at_most true many h = h
at_most false many h = omega arith

worth_most : (operation : Pending) (pid : ℕ) (s : ClientFiles) → times pid s.fillers ≤ 1 → few_fds operation ≡ true → worth pid operation s ≤ 34
worth_most (operations.Name call) pid s h few = omega arith
worth_most (operations.Data call) pid s h few = (let one = at_most (asks_at call.stream call.file s) (times pid s.fillers) h in omega arith)
worth_most (operations.Sync call) pid s h few = omega arith
worth_most (operations.Close work) pid s h few = (let most : length work.fds ≤ 16 = leb-true (length work.fds) 16 few in omega arith)
worth_most (operations.Move work) pid s h few = omega arith

due_most : (rows : List (ℕ × Pending)) (s : ClientFiles) → TurnsAreOnce s → list_all has_few_fds rows ≡ true → due rows s ≤ length rows * 34
due_most [] s once few = omega arith
due_most (row ∷ rows) s once few =
    let parts = and_parts (has_few_fds row) (list_all has_few_fds rows) few in
    let here = worth_most row.1 row.0 s (once_times row.0 s.fillers once) parts.0 in
    let rest = due_most rows s once parts.1 in
    omega arith

none_of : (xs : List ℕ) → length xs ≤ 0 → xs ≡ []
none_of [] h = refl
none_of (x ∷ xs) h = absurd (omega arith)

left_by : (s t : ClientFiles) → cost s ≤ turns_for s → (t.ready ≡ []) ⊎ (cost t + turns_for s ≤ cost s) → t.ready ≡ []
left_by s t most (inl none) = none
left_by s t most (inr less) = none_of t.ready (omega arith)

pub turns_are_enough : (s : ClientFiles) → MayGoOn s → (goes_on s).ready ≡ []
turns_are_enough s may =
    let due_all = due_most s.pending s may.turns may.short in
    let most : cost s ≤ turns_for s = omega arith in
    left_by s (goes_on s) most (after_turns (turns_for s) s may.one_each).less
