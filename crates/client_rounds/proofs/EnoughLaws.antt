-- The rounds of a step are enough.
use Rattle.std.proofs.Common.{arith, ◌≡◌, ◌⊎◌, inl, inr, ℕ, zero, suc, ◌+◌, ◌*◌, ◌≤◌, ◌==◌, Bool, true, false, ◌&&◌, ◌||◌, cond, List, [], ◌∷◌, ◌++◌, length, refl, sym, ap, ◌∙◌, subst}
use Rattle.std.proofs.lemmas.Bool.{eq-eqb}
use Rattle.std.specs.List.{AllByRecursion, list_any}
use Rattle.sprite_ids.specs.Lists.{EachOnce, one_if, total}
use Rattle.process_machine.specs.declared.Reply.{Reply}
use Rattle.kernel_steps.specs.Rows.{is_under}
use Rattle.client_file_tables.specs.declared.client_files.ClientFiles.{ClientFiles}
use Rattle.client_file_tables.specs.declared.moves.ClosingOf.{ClosingOf}
use Rattle.client_file_tables.specs.declared.moves.ClosingOf.TheVariants as closings
use Rattle.client_file_tables.specs.declared.moves.Report.{Report}
use Rattle.client_file_tables.specs.declared.moves.Report.TheVariants as reports
use Rattle.client_file_tables.specs.declared.pending.Pending.{Pending}
use Rattle.client_file_tables.specs.declared.pending.Pending.TheVariants as operations
use Rattle.client_file_tables.specs.Rows.{same_pid}
use Rattle.client_homes.specs.declared.client.ClientProcs.{ClientProcs}
use Rattle.client_homes.specs.declared.client.Leaving.{Leaving}
use Rattle.client_homes.specs.declared.process.Proc.{Proc}
use Rattle.migrate_freeze.specs.declared.frozen.MoveStep.{MoveStep}
use Rattle.migrate_freeze.specs.declared.frozen.MoveStep.TheVariants as steps
use Rattle.client_files.specs.Turns as file_turns
use Rattle.client_procs.specs.Turning as turning
use Rattle.client_facts.specs.FileFacts.{same_process}
use Rattle.client_facts.specs.GoingOn.{GoesOn}
use Rattle.client_facts.specs.HomeFacts.{is_own}
use Rattle.client_facts.proofs.TurnLaws.{going_on_keeps, turns_are_enough}
use Rattle.client_rounds.specs.Rounds.{IsUnderWay, MayTurn, ask_of, due_to, end_of, here, is_own_ask, is_work, leaves, move_of, moved_of, moves_of, of_process, wait_of, work_of}
use Rattle.client_rounds.proofs.RunLaws.{answer_of, one, turns_bring_no_more}
use Rattle.client_rounds.proofs.Sides.{Any, Stands, each, left_of, own_ask, own_wait, price, room_of, side_of, stands_less}
use Rattle.client_rounds.proofs.Totals.{counted_pids, is_pid_of, length_pids, no_longer, pids_in, total_append}
use Rattle.client_rounds.proofs.DeedLaws.{ended, finished, has_moved, master_closed}

-- for each process
abbrev All : ℕ → (List Report → Type 0) → ℕ → ClientProcs → Type 0
All W Q w s = (q : ℕ) → Stands q W Q 0 0 0 w (side_of s)

told_so : (W : ℕ) (Q R : List Report → Type 0) (w : ℕ) (s : ClientProcs) → R s.files.results → All W Q w s → All W R w s
told_so W Q R w s h all q = let a = all q in record { due = a.due; moves = a.moves; apart = a.apart; weight = a.weight; ways = a.ways; turns = a.turns; queues = a.queues; short = a.short; held = h }

-- Reports

report_taken : (report : Report) (W w : ℕ) (Q : List Report → Type 0) (s : ClientProcs) → ((q : ℕ) → Stands q W Q (end_of q report) 0 (moved_of q report) w (side_of s)) → All W Q w (turning.takes_report report s)
report_taken (reports.Moved pid place grant many) W w Q s all q = has_moved q W Q w pid place grant many s (let so = (all pid).apart in omega arith) (all q)
report_taken (reports.MasterClosed device) W w Q s all q = master_closed q W Q w device.number s (all q)
report_taken (reports.AllClosed pid) W w Q s all q = ended q W Q w pid s (all q)

report_off : (report : Report) (rest : List Report) (q W w : ℕ) (Q : List Report → Type 0) (s : ClientProcs) → s.files.results ≡ report ∷ rest → Stands q W Q 0 0 0 w (side_of s) → Stands q W (λ (told : List Report). told ≡ rest) (end_of q report) 0 (moved_of q report) w (side_of (record s { files = record s.files { results = rest } }))
report_off report rest q W w Q s e a =
    let ends = ap (total (end_of q)) e in
    let moves = ap (total (moved_of q)) e in
    let due_so = a.due in
    let moves_so = a.moves in
    record { due = omega arith; moves = omega arith; apart = a.apart; weight = a.weight; ways = a.ways; turns = a.turns; queues = a.queues; short = a.short; held = refl }

-- and there are fewer then
record Fewer (W w many : ℕ) (s : ClientProcs) : Type 0 where
  all : All W Any w s
  few : length s.files.results ≤ many

first_taken : (list : List Report) (W w many : ℕ) (s : ClientProcs) → s.files.results ≡ list → Fewer W w (suc many) s → Fewer W w many (turning.takes_of list s)
first_taken [] W w many s e f = record { all = f.all; few = (let none = ap (λ (told : List Report). length told) e in omega arith) }
first_taken (report ∷ rest) W w many s e f =
    let left : ClientProcs = record s { files = record s.files { results = rest } } in
    let so = report_taken report W w (λ (told : List Report). told ≡ rest) left (λ q. report_off report rest q W w Any s e (f.all q)) in
    let same = ap (λ (told : List Report). length told) (so 0).held in
    let all_there = ap (λ (told : List Report). length told) e in
    let few = f.few in
    record { all = told_so W (λ (told : List Report). told ≡ rest) Any w (turning.takes_report report left) tt so; few = omega arith }

reports_taken : (count W w many : ℕ) (s : ClientProcs) → Fewer W w (many + count) s → Fewer W w many (turning.takes_turns count s)
reports_taken zero W w many s f = record { all = f.all; few = (let few = f.few in omega arith) }
reports_taken (suc count) W w many s f =
    let before : ClientProcs = turning.takes_turns count s in
    first_taken before.files.results W w many before refl (reports_taken count W w (suc many) s (record { all = f.all; few = (let few = f.few in omega arith) }))

pub none_of : (told : List Report) → length told ≤ 0 → told ≡ []
none_of [] h = refl
none_of (report ∷ rest) h = absurd (omega arith)

-- behind a round
record Behind (W w : ℕ) (s : ClientProcs) : Type 0 where
  all : All W Any w s
  done : s.files.results ≡ []

all_taken : (W w : ℕ) (s : ClientProcs) → All W Any w s → Behind W w (turning.takes_all s)
all_taken W w s all =
    let f = reports_taken (length s.files.results) W w 0 s (record { all = all; few = omega arith }) in
    record { all = f.all; done = none_of (turning.takes_all s).files.results f.few }

-- Replies

reply_given : (row : ℕ × Reply) (rest : List (ℕ × Reply)) (W w : ℕ) (s : ClientProcs) → s.files.out.replies ≡ row ∷ rest → All W Any w s → All W Any (w + 1) (turning.gives_of (row ∷ rest) s)
reply_given row rest W w s e all q =
    let a = all q in
    let left : ClientProcs = record s { files = record s.files { out = record s.files.out { replies = rest } } } in
    let replies = ap (total (of_process q)) e in
    let ones = ap (total one) e in
    let due_so = a.due in
    let weight_so = a.weight in
    finished q W Any w row.0 row.1 left (record { due = omega arith; moves = a.moves; apart = a.apart; weight = omega arith; ways = a.ways; turns = a.turns; queues = a.queues; short = a.short; held = tt })

less_all : (W w x : ℕ) (s : ClientProcs) → x ≤ w → All W Any w s → All W Any x s
less_all W w x s h all q = stands_less q W Any 0 0 0 w 0 0 x (side_of s) (omega arith) (omega arith) h (all q)

first_given : (rows : List (ℕ × Reply)) (W w : ℕ) (s : ClientProcs) → s.files.out.replies ≡ rows → All W Any w s → All W Any w (turning.gives_of rows s)
first_given [] W w s e all = all
first_given (row ∷ rest) W w s e all = less_all W (w + 1) w (turning.gives_of (row ∷ rest) s) (omega arith) (reply_given row rest W w s e all)

replies_given : (count W w : ℕ) (s : ClientProcs) → All W Any w s → All W Any w (turning.gives_turns count s)
replies_given zero W w s all = all
replies_given (suc count) W w s all = let before : ClientProcs = turning.gives_turns count s in first_given before.files.out.replies W w before refl (replies_given count W w s all)

-- where there is one it costs one less
some_given : (count W w : ℕ) (row : ℕ × Reply) (rest : List (ℕ × Reply)) (s : ClientProcs) → s.files.out.replies ≡ row ∷ rest → All W Any w s → All W Any (w + 1) (turning.gives_turns (suc count) s)
some_given zero W w row rest s e all = subst (λ (rows : List (ℕ × Reply)). All W Any (w + 1) (turning.gives_of rows s)) (sym e) (reply_given row rest W w s e all)
some_given (suc count) W w row rest s e all = let before : ClientProcs = turning.gives_turns (suc count) s in first_given before.files.out.replies W (w + 1) before refl (some_given count W w row rest s e all)

-- What is ready

pub none_any : {V : Type 0} (pid : ℕ) (rows : List (ℕ × V)) → total (of_process pid) rows ≤ 0 → list_any (is_under same_pid pid) rows ≡ false
none_any pid [] h = refl
none_any {V} pid ((key, value) ∷ rows) h = none_by (key == pid) (list_any (is_under same_pid pid) rows) (total (of_process pid) rows) h (none_any pid rows)
  where
    none_by : (b c : Bool) (n : ℕ) → one_if b + n ≤ 0 → (n ≤ 0 → c ≡ false) → (b || c) ≡ false
    none_by true c n k later = absurd (omega arith)
    none_by false c n k later = later (omega arith)

once_each : {V : Type 0} (rows : List (ℕ × V)) → ((q : ℕ) → total (of_process q) rows ≤ 1) → EachOnce same_process rows
once_each [] h = tt
once_each {V} ((key, value) ∷ rows) h =
    let self : one_if (key == key) ≡ 1 = ap one_if (eq-eqb key key refl) in
    let here_once = h key in
    (none_any key rows (omega arith), once_each rows (λ q. let so = h q in omega arith))

parted_by : (b : Bool) (n : ℕ) → cond b n 0 + cond b 0 n ≡ n
parted_by true n = omega arith
parted_by false n = omega arith

pub parted : (q : ℕ) (rows : List (ℕ × Pending)) → total (of_process q) rows ≡ total (work_of q) rows + total (move_of q) rows
parted q [] = refl
parted q (row ∷ rows) = (let here_so = parted_by (is_work row.1) (of_process q row) in let rest = parted q rows in omega arith)

goes : (W w : ℕ) (s : ClientProcs) → All W Any w s → GoesOn s.files
goes W w s all = record {
  may = record {
    one_each = once_each s.files.pending (λ q. let a = all q in let due_so = a.due in let moves_so = a.moves in let apart_so = a.apart in let parts = parted q s.files.pending in omega arith);
    turns = (all 0).turns;
    short = (all 0).short;
  };
  queues = (all 0).queues;
}

-- what the turns of the files' side need
pub may_goes_on : (s : ClientProcs) → MayTurn s → GoesOn s.files
may_goes_on s may = record {
  may = record {
    one_each = once_each s.files.pending (λ q. let due_so : due_to q s ≤ here q s = may.due q in let moves_so : moves_of q s ≤ leaves q s = may.moves q in let apart_so : here q s + leaves q s ≤ 1 = may.apart q in let parts = parted q s.files.pending in omega arith);
    turns = may.turns;
    short = may.short;
  };
  queues = may.queues;
}

abbrev run : ClientProcs → ClientProcs
run s = record s { files = file_turns.goes_on s.files }

-- what was ready costs nothing any more
run_on : (W w : ℕ) (s : ClientProcs) → All W Any w s → All W Any (w + length s.files.ready) (run s)
run_on W w s all q =
    let a = all q in
    let g = goes W w s all in
    let kept = going_on_keeps s.files g in
    let none = ap (λ (pids : List ℕ). length pids) (turns_are_enough s.files g.may) in
    let less = turns_bring_no_more q s.files in
    let less_due = less.due in
    let less_moves = less.moves in
    let less_weight = less.weight in
    let due_so = a.due in
    let moves_so = a.moves in
    let weight_so = a.weight in
    record { due = omega arith; moves = omega arith; apart = a.apart; weight = omega arith; ways = a.ways; turns = kept.may.turns; queues = kept.queues; short = kept.may.short; held = tt }

-- at first, whatever is ready
run_first : (s : ClientProcs) → All (price (side_of s) + length s.files.ready) Any 0 s → All (price (side_of s)) Any 0 (run s)
run_first s all q =
    let a = run_on (price (side_of s) + length s.files.ready) 0 s all q in
    let weight_so = a.weight in
    record { due = a.due; moves = a.moves; apart = a.apart; weight = omega arith; ways = a.ways; turns = a.turns; queues = a.queues; short = a.short; held = tt }

idle : (count : ℕ) (s : ClientFiles) → s.ready ≡ [] → file_turns.turns count s ≡ s
idle zero s e = refl
idle (suc count) s e = ap file_turns.turned (idle count s e) ∙ ap (λ (pids : List ℕ). file_turns.turned_by pids s) e

-- Rounds

rest_of_round : (W w : ℕ) (s : ClientProcs) → All W Any w (run s) → Behind W w (turning.takes_all (turning.gives_all (run s)))
rest_of_round W w s all = all_taken W w (turning.gives_all (run s)) (replies_given (length (run s).procs) W w (run s) all)

some_here : (pid : ℕ) (procs : List (ℕ × Proc)) → 1 ≤ total (of_process pid) procs → 1 ≤ length procs
some_here pid [] h = absurd (omega arith)
some_here pid (row ∷ rows) h = omega arith

given_round : (count W w : ℕ) (row : ℕ × Reply) (rest : List (ℕ × Reply)) (s : ClientProcs) → length (run s).procs ≡ count → 1 ≤ count → (run s).files.out.replies ≡ row ∷ rest → All W Any w (run s) → Behind W (w + 1) (turning.takes_all (turning.gives_all (run s)))
given_round zero W w row rest s e h k all = absurd (omega arith)
given_round (suc count) W w row rest s e h k all =
    all_taken W (w + 1) (turning.gives_all (run s)) (subst (λ (n : ℕ). All W Any (w + 1) (turning.gives_turns n (run s))) (sym e) (some_given count W w row rest (run s) k all))

-- a round behind another one costs one less, where anything is left
cheaper : (pids : List ℕ) (rows : List (ℕ × Reply)) (W w : ℕ) (s : ClientProcs) → s.files.ready ≡ pids → s.files.out.replies ≡ rows → turning.is_quiet s ≡ false → Behind W w s → Behind W (w + 1) (turning.takes_all (turning.gives_all (run s)))
cheaper (pid ∷ pids) rows W w s e f loud b =
    let many = ap (λ (pids : List ℕ). length pids) e in
    rest_of_round W (w + 1) s (less_all W (w + length s.files.ready) (w + 1) (run s) (omega arith) (run_on W w s b.all))
cheaper [] (row ∷ rest) W w s e f loud b =
    let same : file_turns.goes_on s.files ≡ s.files = idle (file_turns.turns_for s.files) s.files e in
    let due_so = (b.all row.0).due in
    let self : one_if (row.0 == row.0) ≡ 1 = ap one_if (eq-eqb row.0 row.0 refl) in
    let replies = ap (total (of_process row.0)) f in
    let some : 1 ≤ length s.procs = some_here row.0 s.procs (omega arith) in
    given_round (length s.procs) W w row rest s refl some (ap (λ (files : ClientFiles). files.out.replies) same ∙ f) (less_all W (w + length s.files.ready) w (run s) (omega arith) (run_on W w s b.all))
cheaper [] [] W w s e f loud b = absurd (let quiet = quiet_by s.files.ready s.files.out.replies s.files.results e f b.done in let both = sym quiet ∙ loud in cc)
  where
    quiet_by : (ready : List ℕ) (replies : List (ℕ × Reply)) (results : List Report) → ready ≡ [] → replies ≡ [] → results ≡ [] → ((length ready == 0) && (length replies == 0) && (length results == 0)) ≡ true
    quiet_by [] [] [] g h k = refl
    quiet_by (pid ∷ pids) replies results g h k = absurd (cc)
    quiet_by [] (row ∷ rows) results g h k = absurd (cc)
    quiet_by [] [] (report ∷ rest) g h k = absurd (cc)

-- What is so at first, and behind each round

stands : (s : ClientProcs) → MayTurn s → All (price (side_of s) + length s.files.ready) Any 0 s
stands s may q =
    let due_so : due_to q s ≤ here q s = may.due q in
    let moves_so : moves_of q s ≤ leaves q s = may.moves q in
    let apart_so : here q s + leaves q s ≤ 1 = may.apart q in
    record { due = omega arith; moves = omega arith; apart = omega arith; weight = omega arith; ways = may.ways; turns = may.turns; queues = may.queues; short = may.short; held = tt }

may_turn : (W w : ℕ) (s : ClientProcs) → All W Any w s → MayTurn s
may_turn W w s all = record {
  due = λ q. (let so = (all q).due in let goal_so : due_to q s + 0 ≤ here q s = so in omega arith);
  moves = λ q. (let so : moves_of q s + 0 ≤ leaves q s + 0 = (all q).moves in omega arith);
  apart = λ q. (let so : here q s + leaves q s + 0 ≤ 1 = (all q).apart in omega arith);
  ways = (all 0).ways;
  turns = (all 0).turns;
  queues = (all 0).queues;
  short = (all 0).short;
}

abbrev Left : ClientProcs → ℕ → ClientProcs → Type 0
Left s zero t = t ≡ s
Left s (suc count) t = (turning.is_quiet t ≡ true) ⊎ Behind (price (side_of s)) count t

record Stage (s : ClientProcs) (count : ℕ) (t : ClientProcs) : Type 0 where
  may : MayTurn t
  left : Left s count t

one_more : (n : ℕ) → n + 1 ≡ suc n
one_more n = omega arith

round_by : (b : Bool) (count : ℕ) (s t : ClientProcs) → turning.is_quiet t ≡ b → Stage s count t → Stage s (suc count) (cond b t (turning.takes_all (turning.gives_all (run t))))
round_by true count s t e stage = record { may = stage.may; left = inl e }
round_by false zero s t e stage = subst (λ (u : ClientProcs). Stage s 1 (turning.takes_all (turning.gives_all (run u)))) (sym stage.left) (first s (subst MayTurn stage.left stage.may))
  where
    first : (s : ClientProcs) → MayTurn s → Stage s 1 (turning.takes_all (turning.gives_all (run s)))
    first s may = (let b = rest_of_round (price (side_of s)) 0 s (run_first s (stands s may)) in record { may = may_turn (price (side_of s)) 0 _ b.all; left = inr b })
round_by false (suc count) s t e stage = by_left stage.left
  where
    by_left : (turning.is_quiet t ≡ true) ⊎ Behind (price (side_of s)) count t → Stage s (suc (suc count)) (turning.takes_all (turning.gives_all (run t)))
    by_left (inl quiet) = absurd (let both = sym quiet ∙ e in cc)
    by_left (inr b) = (let c = cheaper t.files.ready t.files.out.replies (price (side_of s)) count t refl refl e b in record { may = may_turn (price (side_of s)) (count + 1) _ c.all; left = inr (subst (λ (n : ℕ). Behind (price (side_of s)) n (turning.takes_all (turning.gives_all (run t)))) (one_more count) c) })

stages : (count : ℕ) (s : ClientProcs) → MayTurn s → Stage s count (turning.turns count s)
stages zero s may = record { may = may; left = refl }
stages (suc count) s may = round_by (turning.is_quiet (turning.turns count s)) count s (turning.turns count s) refl (stages count s may)

-- the turns of the files' side keep what the rounds need
pub files_keep_this : (s : ClientProcs) → MayTurn s → MayTurn (record s { files = file_turns.goes_on s.files })
files_keep_this s may = may_turn (price (side_of s)) 0 (run s) (run_first s (stands s may))

-- so many rounds keep what they need
pub turns_keep_this : (count : ℕ) (s : ClientProcs) → MayTurn s → MayTurn (turning.turns count s)
turns_keep_this count s may = (stages count s may).may

pub rounds_keep_this : (s : ClientProcs) → MayTurn s → MayTurn (turning.goes_on s)
rounds_keep_this s may = (stages (turning.rounds_for s) s may).may

-- What the rounds cost at first

abbrev working : ClientProcs → List ℕ
working s = pids_in (λ (row : ℕ × Pending). is_work row.1) (λ row. row.0) s.files.pending

abbrev replied : ClientProcs → List ℕ
replied s = pids_in (λ (row : ℕ × Reply). true) (λ row. row.0) s.files.out.replies

abbrev waiting : ClientProcs → List ℕ
waiting s = pids_in is_own (λ row. row.0) s.waits

abbrev asking : ClientProcs → List ℕ
asking s = pids_in is_own_ask (λ row. row.0.pid) s.asked

abbrev here_pids : ClientProcs → List ℕ
here_pids s = pids_in (λ (row : ℕ × Proc). true) (λ row. row.0) s.procs

length_append : (xs ys : List ℕ) → length (xs ++ ys) ≡ length xs + length ys
length_append [] ys = omega arith
length_append (x ∷ xs) ys = (let rest = length_append xs ys in omega arith)

-- in one list
abbrev joined : List ℕ → List ℕ → List ℕ → List ℕ → List ℕ
joined xs ys zs ws = xs ++ (ys ++ (zs ++ ws))

total_joined : (f : ℕ → ℕ) (xs ys zs ws : List ℕ) → total f (joined xs ys zs ws) ≡ total f xs + total f ys + total f zs + total f ws
total_joined f xs ys zs ws =
    let first : total f (joined xs ys zs ws) ≡ total f xs + total f (ys ++ (zs ++ ws)) = total_append f xs (ys ++ (zs ++ ws)) in
    let second = total_append f ys (zs ++ ws) in
    let third = total_append f zs ws in
    omega arith

length_joined : (xs ys zs ws : List ℕ) → length (joined xs ys zs ws) ≡ length xs + length ys + length zs + length ws
length_joined xs ys zs ws =
    let first : length (joined xs ys zs ws) ≡ length xs + length (ys ++ (zs ++ ws)) = length_append xs (ys ++ (zs ++ ws)) in
    let second = length_append ys (zs ++ ws) in
    let third = length_append zs ws in
    omega arith

due_counted : (q : ℕ) (s : ClientProcs) → MayTurn s → total (is_pid_of q) (joined (working s) (replied s) (waiting s) (asking s)) ≤ total (is_pid_of q) (here_pids s)
due_counted q s may =
    let works : total (work_of q) s.files.pending ≡ total (is_pid_of q) (working s) = counted_pids (λ (row : ℕ × Pending). is_work row.1) (λ row. row.0) q s.files.pending in
    let replies : total (of_process q) s.files.out.replies ≡ total (is_pid_of q) (replied s) = counted_pids (λ (row : ℕ × Reply). true) (λ row. row.0) q s.files.out.replies in
    let waits : total (wait_of q) s.waits ≡ total (is_pid_of q) (waiting s) = counted_pids is_own (λ row. row.0) q s.waits in
    let asks : total (ask_of q) s.asked ≡ total (is_pid_of q) (asking s) = counted_pids is_own_ask (λ row. row.0.pid) q s.asked in
    let procs : total (of_process q) s.procs ≡ total (is_pid_of q) (here_pids s) = counted_pids (λ (row : ℕ × Proc). true) (λ row. row.0) q s.procs in
    few_by (total (work_of q) s.files.pending) (total (of_process q) s.files.out.replies) (total (end_of q) s.files.results) (total (wait_of q) s.waits) (total (ask_of q) s.asked) (total (of_process q) s.procs)
    (total (is_pid_of q) (working s)) (total (is_pid_of q) (replied s)) (total (is_pid_of q) (waiting s)) (total (is_pid_of q) (asking s)) (total (is_pid_of q) (here_pids s)) (total (is_pid_of q) (joined (working s) (replied s) (waiting s) (asking s)))
    works replies waits asks procs (total_joined (is_pid_of q) (working s) (replied s) (waiting s) (asking s)) (may.due q)
  where
    few_by : (a b c d e f x y z w p all : ℕ) → a ≡ x → b ≡ y → d ≡ z → e ≡ w → f ≡ p → all ≡ x + y + z + w → a + b + c + d + e ≤ f → all ≤ p
    few_by a b c d e f x y z w p all g h i j k l m = omega arith

answer_by : (pid : ℕ) (operation : Pending) → answer_of (pid, operation) ≤ one_if (is_work operation)
answer_by pid (operations.Name call) = omega arith
answer_by pid (operations.Data call) = omega arith
answer_by pid (operations.Sync call) = omega arith
answer_by pid (operations.Close work) = by_cause work.of
  where
    by_cause : (cause : ClosingOf) → answer_of (pid, operations.Close (record work { of = cause })) ≤ 1
    by_cause (closings.Call number fd) = omega arith
    by_cause (closings.End about) = omega arith
answer_by pid (operations.Move work) = omega arith

answers_few : (rows : List (ℕ × Pending)) → total answer_of rows ≤ total (λ (row : ℕ × Pending). one_if (is_work row.1)) rows
answers_few [] = omega arith
answers_few ((pid, operation) ∷ rows) = (let first = answer_by pid operation in let rest = answers_few rows in omega arith)

room_few : (step : MoveStep) → IsUnderWay step → room_of step ≤ 16
room_few (steps.Moving moving) way = way.1.few
room_few (steps.Sent sent) way = omega arith

rooms_few : (rows : List (ℕ × Leaving)) → AllByRecursion (λ (row : ℕ × Leaving). IsUnderWay row.1.step) rows → total left_of rows ≤ length rows * 16
rooms_few [] ways = omega arith
rooms_few (row ∷ rows) ways = (let first = room_few row.1.step ways.0 in let rest = rooms_few rows ways.1 in omega arith)

each_counted : (rows : List (ℕ × Proc)) → total each rows ≡ length rows
each_counted [] = refl
each_counted (row ∷ rows) = (let rest = each_counted rows in omega arith)

price_few : (s : ClientProcs) → MayTurn s → price (side_of s) ≤ 19 * length s.procs + 16 * length s.leaving
price_few s may =
    let works : total (λ (row : ℕ × Pending). one_if (is_work row.1)) s.files.pending ≡ length (working s) = length_pids (λ (row : ℕ × Pending). is_work row.1) (λ row. row.0) s.files.pending in
    let answers = answers_few s.files.pending in
    let replies : total one s.files.out.replies ≡ length (replied s) = length_pids (λ (row : ℕ × Reply). true) (λ row. row.0) s.files.out.replies in
    let waits : total own_wait s.waits ≡ length (waiting s) = length_pids is_own (λ row. row.0) s.waits in
    let asks : total own_ask s.asked ≡ length (asking s) = length_pids is_own_ask (λ row. row.0.pid) s.asked in
    let procs : total each s.procs ≡ length (here_pids s) = length_pids (λ (row : ℕ × Proc). true) (λ row. row.0) s.procs in
    few_by (total answer_of s.files.pending) (total (λ (row : ℕ × Pending). one_if (is_work row.1)) s.files.pending) (total one s.files.out.replies) (total own_wait s.waits) (total own_ask s.asked) (total each s.procs) (total left_of s.leaving)
    (length (working s)) (length (replied s)) (length (waiting s)) (length (asking s)) (length (here_pids s)) (length (joined (working s) (replied s) (waiting s) (asking s))) (length s.procs) (length s.leaving)
    answers works replies waits asks procs (each_counted s.procs) (length_joined (working s) (replied s) (waiting s) (asking s)) (no_longer (joined (working s) (replied s) (waiting s) (asking s)) (here_pids s) (λ q. due_counted q s may)) (rooms_few s.leaving may.ways)
  where
    few_by : (a b c d e f g x y z w p all n l : ℕ) → a ≤ b → b ≡ x → c ≡ y → d ≡ z → e ≡ w → f ≡ p → f ≡ n → all ≡ x + y + z + w → all ≤ p → g ≤ l * 16 → 2 * a + 2 * c + 2 * d + 2 * e + 17 * f + g ≤ 19 * n + 16 * l
    few_by a b c d e f g x y z w p all n l h1 h2 h3 h4 h5 h6 h7 h8 h9 h10 = omega arith

quiet_by : (count : ℕ) (s t : ClientProcs) → (length s.procs + length s.leaving) * 64 + 64 ≡ count → MayTurn s → Left s count t → turning.is_quiet t ≡ true
quiet_by zero s t e may left = absurd (omega arith)
quiet_by (suc count) s t e may (inl quiet) = quiet
quiet_by (suc count) s t e may (inr b) =
    let weight_so = (b.all 0).weight in
    let few = price_few s may in
    absurd (omega arith)

pub rounds_are_enough : (s : ClientProcs) → MayTurn s → turning.is_quiet (turning.goes_on s) ≡ true
rounds_are_enough s may = quiet_by (turning.rounds_for s) s (turning.goes_on s) refl may (stages (turning.rounds_for s) s may).left
