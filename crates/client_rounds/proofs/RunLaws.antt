-- What the turns of the files' side leave on its way to a process.
use Rattle.std.proofs.Common.{arith, ◌≡◌, ℕ, zero, suc, ◌+◌, ◌≤◌, ◌==◌, Bool, true, false, cond, List, [], ◌∷◌, Option, Some, None, refl, ap}
use Rattle.sprite_ids.specs.Lists.{one_if, total}
use Rattle.process_machine.specs.declared.Reply.{Reply}
use Rattle.client_file_tables.specs.declared.client_files.ClientFiles.{ClientFiles}
use Rattle.client_file_tables.specs.declared.moves.ClosingOf.{ClosingOf}
use Rattle.client_file_tables.specs.declared.moves.ClosingOf.TheVariants as closings
use Rattle.client_file_tables.specs.declared.moves.Report.{Report}
use Rattle.client_file_tables.specs.declared.moves.Report.TheVariants as reports
use Rattle.client_file_tables.specs.declared.pending.Pending.{Pending}
use Rattle.client_file_tables.specs.declared.pending.Pending.TheVariants as operations
use Rattle.client_file_tables.specs.Rows.{first_of, less_of, same_pid}
use Rattle.kernel_steps.specs.Rows.{is_under}
use Rattle.client_files.specs.Turns as turning
use Rattle.client_rounds.specs.Rounds.{end_of, is_work, move_of, moved_of, of_process, work_of}
use Rattle.client_rounds.proofs.Ledgers.{Ledger, RunsCall, RunsClose, RunsData, RunsMove, RunsSync, closed_more, given_more, kept_more, ledger_of, told_more}
use Rattle.client_rounds.proofs.OpLaws as running
use Rattle.client_rounds.proofs.Totals.{total_first, total_less, total_push}

-- whether an operation ends in a reply
abbrev pub close_answer : ClosingOf → ℕ
close_answer (closings.Call number fd) = 1
close_answer (closings.End about) = 0

abbrev pub answer_of : ℕ × Pending → ℕ
answer_of (pid, operations.Name call) = 1
answer_of (pid, operations.Data call) = 1
answer_of (pid, operations.Sync call) = 1
answer_of (pid, operations.Close work) = close_answer work.of
answer_of (pid, operations.Move work) = 0

abbrev pub due_in : ℕ → Ledger → ℕ
due_in q v = total (work_of q) v.rows + total (of_process q) v.given + total (end_of q) v.told

abbrev pub moves_in : ℕ → Ledger → ℕ
moves_in q v = total (move_of q) v.rows + total (moved_of q) v.told

abbrev pub one : ℕ × Reply → ℕ
one row = 1

abbrev pub answers_in : Ledger → ℕ
answers_in v = total answer_of v.rows + total one v.given

-- with so much in hand it is within these bounds
pub record Held (q D M W d m w : ℕ) (v : Ledger) : Type 0 where
  pub due : due_in q v + d ≤ D
  pub moves : moves_in q v + m ≤ M
  pub weight : answers_in v + w ≤ W

module _ (q D M W pid : ℕ) where
  abbrev Fits : Ledger → Type 0
  Fits v = Held q D M W 0 0 0 v

  kept : (d m w : ℕ) (operation : Pending) (v : Ledger) → work_of q (pid, operation) ≤ d → move_of q (pid, operation) ≤ m → answer_of (pid, operation) ≤ w → Held q D M W d m w v → Fits (kept_more v pid operation)
  kept d m w operation v less_due less_moves less_weight p =
      let works = total_push (work_of q) v.rows (pid, operation) in
      let moves = total_push (move_of q) v.rows (pid, operation) in
      let answers = total_push answer_of v.rows (pid, operation) in
      let due_so = p.due in
      let moves_so = p.moves in
      let weight_so = p.weight in
      record { due = omega arith; moves = omega arith; weight = omega arith }

  given : (d m w : ℕ) (reply : Reply) (v : Ledger) → one_if (pid == q) ≤ d → 1 ≤ w → Held q D M W d m w v → Fits (given_more v pid reply)
  given d m w reply v less_due less_weight p =
      let replies = total_push (of_process q) v.given (pid, reply) in
      let ones = total_push one v.given (pid, reply) in
      let due_so = p.due in
      let moves_so = p.moves in
      let weight_so = p.weight in
      record { due = omega arith; moves = omega arith; weight = omega arith }

  told : (d m w x y : ℕ) (report : Report) (v : Ledger) → end_of q report + x ≤ d → moved_of q report + y ≤ m → Held q D M W d m w v → Held q D M W x y w (told_more v report)
  told d m w x y report v less_due less_moves p =
      let ends = total_push (end_of q) v.told report in
      let moves = total_push (moved_of q) v.told report in
      let due_so = p.due in
      let moves_so = p.moves in
      let weight_so = p.weight in
      record { due = omega arith; moves = omega arith; weight = omega arith }

  less_held : (d m w : ℕ) (v : Ledger) → Held q D M W d m w v → Fits v
  less_held d m w v p = (let due_so = p.due in let moves_so = p.moves in let weight_so = p.weight in record { due = omega arith; moves = omega arith; weight = omega arith })

  pub data_runs : RunsData pid (Held q D M W (one_if (pid == q)) 0 1) Fits
  data_runs = record {
    waits = λ v call p. kept (one_if (pid == q)) 0 1 (operations.Data call) v (omega arith) (omega arith) (omega arith) p;
    ends = λ v reply p. given (one_if (pid == q)) 0 1 reply v (omega arith) (omega arith) p;
  }

  pub sync_runs : RunsSync pid (Held q D M W (one_if (pid == q)) 0 1) Fits
  sync_runs = record {
    waits = λ v call p. kept (one_if (pid == q)) 0 1 (operations.Sync call) v (omega arith) (omega arith) (omega arith) p;
    ends = λ v reply p. given (one_if (pid == q)) 0 1 reply v (omega arith) (omega arith) p;
  }

  close_ends : (cause : ClosingOf) (v : Ledger) (reply : Reply) → Held q D M W (one_if (pid == q)) 0 (close_answer cause) v → Fits (closed_more v pid cause reply)
  close_ends (closings.Call number fd) v reply p = given (one_if (pid == q)) 0 1 reply v (omega arith) (omega arith) p
  close_ends (closings.End about) v reply p = told (one_if (pid == q)) 0 0 0 0 (reports.AllClosed pid) v (omega arith) (omega arith) p

  pub close_runs : (cause : ClosingOf) → RunsClose pid cause (Held q D M W (one_if (pid == q)) 0 (close_answer cause)) Fits
  close_runs cause = record {
    waits = λ v work e p. (let same = ap close_answer e in kept (one_if (pid == q)) 0 (close_answer cause) (operations.Close work) v (omega arith) (omega arith) (omega arith) p);
    tells = λ v device p. told (one_if (pid == q)) 0 (close_answer cause) (one_if (pid == q)) 0 (reports.MasterClosed device) v (omega arith) (omega arith) p;
    ends = close_ends cause;
  }

  work_by : (b : Bool) (n : ℕ) → b ≡ true → cond b n 0 ≤ n
  work_by true n e = omega arith
  work_by false n e = omega arith

  move_by : (b : Bool) (n : ℕ) → b ≡ true → cond b 0 n ≤ 0
  move_by true n e = omega arith
  move_by false n e = absurd (cc)

  answer_most : (operation : Pending) → answer_of (pid, operation) ≤ 1
  answer_most (operations.Name call) = omega arith
  answer_most (operations.Data call) = omega arith
  answer_most (operations.Sync call) = omega arith
  answer_most (operations.Close work) = by_cause work.of
    where
      by_cause : (cause : ClosingOf) → close_answer cause ≤ 1
      by_cause (closings.Call number fd) = omega arith
      by_cause (closings.End about) = omega arith
  answer_most (operations.Move work) = omega arith

  pub call_runs : RunsCall pid (Held q D M W (one_if (pid == q)) 0 1) Fits
  call_runs = record {
    waits = λ v operation work p. kept (one_if (pid == q)) 0 1 operation v (work_by (is_work operation) (one_if (pid == q)) work) (move_by (is_work operation) (one_if (pid == q)) work) (answer_most operation) p;
    ends = λ v reply p. given (one_if (pid == q)) 0 1 reply v (omega arith) (omega arith) p;
    lost = λ v p. less_held (one_if (pid == q)) 0 1 v p;
  }

  pub move_runs : RunsMove pid (Held q D M W 0 (one_if (pid == q)) 0) Fits
  move_runs = record {
    waits = λ v work p. kept 0 (one_if (pid == q)) 0 (operations.Move work) v (omega arith) (omega arith) (omega arith) p;
    ends = λ v place grant many p. told 0 (one_if (pid == q)) 0 0 0 (reports.Moved pid place grant many) v (omega arith) (omega arith) p;
    lost = λ v p. less_held 0 (one_if (pid == q)) 0 v p;
  }

  ran : (operation : Pending) (s : ClientFiles) → Held q D M W (work_of q (pid, operation)) (move_of q (pid, operation)) (answer_of (pid, operation)) (ledger_of s) → Fits (ledger_of (turning.runs_by (Some operation) pid s))
  ran (operations.Name call) s p = kept (one_if (pid == q)) 0 1 (operations.Name call) (ledger_of s) (omega arith) (omega arith) (omega arith) p
  ran (operations.Data call) s p = running.looks pid (Held q D M W (one_if (pid == q)) 0 1) Fits data_runs call s p
  ran (operations.Sync call) s p = running.syncs pid (Held q D M W (one_if (pid == q)) 0 1) Fits sync_runs call s p
  ran (operations.Close work) s p = running.runs_close pid work.of (Held q D M W (one_if (pid == q)) 0 (close_answer work.of)) Fits (close_runs work.of) work.state work s refl refl p
  ran (operations.Move work) s p = running.runs_move pid (Held q D M W 0 (one_if (pid == q)) 0) Fits move_runs work.state work s refl p

  ran_first : (o : Option Pending) (pids : List ℕ) (s : ClientFiles) → first_of pid s.pending ≡ o → Fits (ledger_of s) → Fits (ledger_of (turning.runs_by o pid (record s { ready = pids; pending = less_of pid s.pending })))
  ran_first None pids s found p =
      let works = total_less (work_of q) (is_under same_pid pid) s.pending in
      let moves = total_less (move_of q) (is_under same_pid pid) s.pending in
      let answers = total_less answer_of (is_under same_pid pid) s.pending in
      let due_so = p.due in
      let moves_so = p.moves in
      let weight_so = p.weight in
      record { due = omega arith; moves = omega arith; weight = omega arith }
  ran_first (Some operation) pids s found p =
      let works = total_first (work_of q) pid s.pending operation found in
      let moves = total_first (move_of q) pid s.pending operation found in
      let answers = total_first answer_of pid s.pending operation found in
      let due_so = p.due in
      let moves_so = p.moves in
      let weight_so = p.weight in
      ran operation (record s { ready = pids; pending = less_of pid s.pending }) (record { due = omega arith; moves = omega arith; weight = omega arith })

turned : (q D M W : ℕ) (pids : List ℕ) (s : ClientFiles) → Held q D M W 0 0 0 (ledger_of s) → Held q D M W 0 0 0 (ledger_of (turning.turned_by pids s))
turned q D M W [] s p = p
turned q D M W (pid ∷ pids) s p = ran_first q D M W pid (first_of pid s.pending) pids s refl p

turns : (q D M W count : ℕ) (s : ClientFiles) → Held q D M W 0 0 0 (ledger_of s) → Held q D M W 0 0 0 (ledger_of (turning.turns count s))
turns q D M W zero s p = p
turns q D M W (suc count) s p = let before : ClientFiles = turning.turns count s in turned q D M W before.ready before (turns q D M W count s p)

-- nothing more is on its way to a process behind the turns, nor moves, nor will be answered
pub turns_bring_no_more : (q : ℕ) (s : ClientFiles) → Held q (due_in q (ledger_of s)) (moves_in q (ledger_of s)) (answers_in (ledger_of s)) 0 0 0 (ledger_of (turning.goes_on s))
turns_bring_no_more q s =
    turns q (due_in q (ledger_of s)) (moves_in q (ledger_of s)) (answers_in (ledger_of s)) (turning.turns_for s) s (record { due = omega arith; moves = omega arith; weight = omega arith })
