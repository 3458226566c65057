-- What the files' side does to what is on its way to processes, where a call begins, something comes to it, or a process arrives with its streams.
use Rattle.std.proofs.Common.{arith, ◌≡◌, ℕ, ◌+◌, ◌≤◌, ◌==◌, Bool, true, false, cond, List, [], ◌∷◌, Option, refl}
use Rattle.std.proofs.lemmas.Bool.{eq-eqb}
use Rattle.std.specs.List.{list_any}
use Rattle.sprite_ids.specs.declared.BlockNo.{BlockNo}
use Rattle.sprite_ids.specs.declared.DeviceId.{DeviceId}
use Rattle.sprite_ids.specs.declared.FileId.{FileId}
use Rattle.sprite_ids.specs.declared.TxNo.{TxNo}
use Rattle.sprite_ids.specs.Lists.{one_if, total}
use Rattle.process_machine.specs.declared.Call.{Call}
use Rattle.packet_bodies.specs.declared.CallbackRequest.{CallbackRequest}
use Rattle.packet_bodies.specs.declared.CarriedStream.{CarriedStream}
use Rattle.packet_bodies.specs.declared.ReplyBody.{ReplyBody}
use Rattle.kernel_steps.specs.Rows.{is_under}
use Rattle.stream_table.specs.declared.Carried.{Carried}
use Rattle.unix_calls.specs.declared.About.{About}
use Rattle.client_file_tables.specs.declared.client_files.ClientFiles.{ClientFiles}
use Rattle.client_file_tables.specs.Rows.{same_pid}
use Rattle.client_file_tables.specs.Streams as file_streams
use Rattle.client_data.specs.Grants as grants
use Rattle.client_data.specs.WriteBacks as written
use Rattle.client_files.specs.Answered as answering
use Rattle.client_files.specs.Arrivals as arrivals
use Rattle.client_files.specs.CallIssues as issuing
use Rattle.client_names.specs.Answers as name_answers
use Rattle.client_files.specs.Asked as asked
use Rattle.client_homes.specs.declared.client.ClientProcs.{ClientProcs}
use Rattle.client_homes.specs.declared.client.Leaving.{Leaving}
use Rattle.client_homes.specs.declared.process.ProcState.TheVariants as states
use Rattle.client_homes.specs.Procs as procs_of
use Rattle.client_procs.specs.Issues as issuing_calls
use Rattle.client_facts.specs.GoingOn.{GoesOn}
use Rattle.client_facts.specs.ProcFacts.{is_moving_in}
use Rattle.client_facts.proofs.AnswerLaws.{goes_answered, goes_gives_up, steady_due_goes, steady_takes_some}
use Rattle.client_facts.proofs.IssueLaws.{runs_issues}
use Rattle.client_facts.proofs.SteadyLaws.{Steady, goes_runs, goes_steady, steady_called_back, steady_if, steady_join, steady_same}
use Rattle.client_rounds.specs.OneThing.{moving_of}
use Rattle.client_rounds.specs.Rounds.{MayTurn, of_process}
use Rattle.file_walks.proofs.Muted as muted
use Rattle.client_rounds.proofs.EnoughLaws.{may_goes_on, none_any, parted}
use Rattle.client_rounds.proofs.HearLaws.{all_within, answer_brings_no_more, call_brings_one, end_brings_no_more}
use Rattle.client_rounds.proofs.HomeDeeds as homing
use Rattle.client_rounds.proofs.Ledgers.{Ledger, ledger_of}
use Rattle.client_rounds.proofs.OpLaws as running
use Rattle.client_rounds.proofs.RunLaws.{Held, answers_in, due_in, moves_in}
use Rattle.client_rounds.proofs.Sides.{Any}
use Rattle.client_rounds.proofs.Standing.{Bal, Busy, Rest, busy_apart, cond_most, whole_of}
use Rattle.client_rounds.proofs.StepLaws as stepping

moving_few : (q : ℕ) (rows : List (ℕ × Leaving)) → total (moving_of q) rows ≤ total (of_process q) rows
moving_few q [] = omega arith
moving_few q (row ∷ rows) = (let first = cond_most (is_moving_in row.1.step) (of_process q row) in let rest = moving_few q rows in omega arith)

-- what the rounds need follows
pub may_turn : (A d r : ℕ → ℕ) (g : Bool) (H B : ℕ) (s : ClientProcs) → ((q : ℕ) → Bal q 0 (A q) Any g H B (d q) (r q) 0 0 0 (whole_of s)) → MayTurn s
may_turn A d r g H B s all = record {
  due = λ q. (let a = all q in let owed_so = a.owed in let apart_busy = busy_apart q 0 s.procs in omega arith);
  moves = λ q. (let a = all q in let moves_so = a.moves in let few = moving_few q s.leaving in omega arith);
  apart = λ q. (let a = all q in let apart_so = a.apart in let most_so = a.most in omega arith);
  ways = (all 0).ways;
  turns = (all 0).turns;
  queues = (all 0).queues;
  short = (all 0).short;
}

files_kept : (q dev A : ℕ) (g : Bool) (H B d r e : ℕ) (t : ClientFiles) (s : ClientProcs) → GoesOn t → due_in q (ledger_of t) + e ≤ due_in q (ledger_of s.files) + d → moves_in q (ledger_of t) ≤ moves_in q (ledger_of s.files) → Bal q dev A Any g H B d r 0 0 0 (whole_of s)
    → Bal q dev A Any g H B e r 0 0 0 (whole_of (record s { files = t }))
files_kept q dev A g H B d r e t s goes less_due less_moves a =
    let owed_so = a.owed in
    let room_so = a.room in
    let moves_so = a.moves in
    record { owed = omega arith; gets = a.gets; room = omega arith; moves = omega arith; apart = a.apart; most = a.most; ways = a.ways; turns = goes.may.turns; queues = goes.queues; short = goes.may.short; held = tt; kin = a.kin }

-- Arrivals

arrived : (Q : Ledger → Type 0) (pid : ℕ) (cwd : List (List ℕ)) (list : List CarriedStream) (items : List Carried) (s : ClientFiles) → Q (ledger_of s) → Q (ledger_of (arrivals.arrives pid cwd list items s))
arrived Q pid cwd list items s p = muted.arrives (running.P Q) (running.mute Q) (λ t streams q. q) pid cwd list items s p

steady_carried : (list : List CarriedStream) (s : ClientFiles) → Steady s (arrivals.takes_carried list s)
steady_carried [] s = steady_same s s refl refl refl
steady_carried (stream ∷ list) s = steady_join s (asked.takes_some stream.grant s) _ (steady_takes_some stream.grant s) (steady_carried list (asked.takes_some stream.grant s))

steady_arrives : (pid : ℕ) (cwd : List (List ℕ)) (list : List CarriedStream) (items : List Carried) (s : ClientFiles) → Steady s (arrivals.arrives pid cwd list items s)
steady_arrives pid cwd list items s =
    let taken : ClientFiles = arrivals.takes_carried list s in
    let there : ClientFiles = file_streams.sets_cwd pid cwd taken in
    let so : Steady s there = steady_join s taken there (steady_carried list s) (steady_if (list_any (is_under same_pid pid) taken.cwds) taken _ _ (steady_same taken _ refl refl refl) (steady_same taken _ refl refl refl)) in
    steady_if (arrivals.can_arrive pid items there) s _ there (steady_join s there _ so (steady_same there _ refl refl refl)) so

module _ (A : ℕ → ℕ) (g : Bool) (H B : ℕ) where
  pub rest_may : (s : ClientProcs) → Rest A Any g H B s → MayTurn s
  rest_may s all = may_turn A (λ q. 0) (λ q. 0) g H B s (λ q. all q 0)

  -- where the files' side brings no more
  pub brought_none : (t : ClientFiles) (s : ClientProcs) → GoesOn t → ((q : ℕ) → Held q (due_in q (ledger_of s.files)) (moves_in q (ledger_of s.files)) (answers_in (ledger_of s.files)) 0 0 0 (ledger_of t)) → Rest A Any g H B s → Rest A Any g H B (record s { files = t })
  brought_none t s goes less all q dev =
      let due_so = (less q).due in
      let moves_so = (less q).moves in
      files_kept q dev (A q) g H B 0 0 0 t s goes (omega arith) (omega arith) (all q dev)

  pub streams_come : (pid : ℕ) (cwd : List (List ℕ)) (list : List CarriedStream) (items : List Carried) (s : ClientProcs) → Rest A Any g H B s → Rest A Any g H B (record s { files = arrivals.arrives pid cwd list items s.files })
  streams_come pid cwd list items s all =
      brought_none (arrivals.arrives pid cwd list items s.files) s (goes_steady s.files _ (steady_arrives pid cwd list items s.files) (may_goes_on s (rest_may s all)))
      (λ q. arrived (Held q (due_in q (ledger_of s.files)) (moves_in q (ledger_of s.files)) (answers_in (ledger_of s.files)) 0 0 0) pid cwd list items s.files (all_within q s.files)) all

  -- What comes to the files' side

  pub called_back : (tx : TxNo) (r : CallbackRequest) (s : ClientProcs) → Rest A Any g H B s → Rest A Any g H B (record s { files = grants.called_back tx r s.files })
  called_back tx r s all =
      brought_none (grants.called_back tx r s.files) s (goes_steady s.files _ (steady_called_back tx r s.files) (may_goes_on s (rest_may s all)))
      (λ q. stepping.called_back (Held q (due_in q (ledger_of s.files)) (moves_in q (ledger_of s.files)) (answers_in (ledger_of s.files)) 0 0 0) tx r s.files (all_within q s.files)) all

  pub due_goes : (file : FileId) (block : BlockNo) (s : ClientProcs) → Rest A Any g H B s → Rest A Any g H B (record s { files = written.due_goes file block s.files })
  due_goes file block s all =
      brought_none (written.due_goes file block s.files) s (goes_steady s.files _ (steady_due_goes file block s.files) (may_goes_on s (rest_may s all)))
      (λ q. stepping.due_goes (Held q (due_in q (ledger_of s.files)) (moves_in q (ledger_of s.files)) (answers_in (ledger_of s.files)) 0 0 0) file block s.files (all_within q s.files)) all

  pub files_answered : (tx : TxNo) (source : ℕ) (body : ReplyBody) (s : ClientProcs) → Rest A Any g H B s → Rest A Any g H B (record s { files = answering.answered tx source body s.files })
  files_answered tx source body s all = brought_none (answering.answered tx source body s.files) s (goes_answered tx source body s.files (may_goes_on s (rest_may s all))) (λ q. answer_brings_no_more q tx source body s.files) all

  pub given_up : (tx : TxNo) (s : ClientProcs) → Rest A Any g H B s → Rest A Any g H B (record s { files = name_answers.gives_up tx s.files })
  given_up tx s all = brought_none (name_answers.gives_up tx s.files) s (goes_gives_up tx s.files (may_goes_on s (rest_may s all))) (λ q. end_brings_no_more q tx s.files) all

  -- Calls on files

  none_waits : (pid : ℕ) (s : ClientProcs) → Busy A Any g H B pid s → list_any (is_under same_pid pid) s.files.pending ≡ false
  none_waits pid s all =
      let a = all pid 0 in
      let owed_so = a.owed in
      let moves_so = a.moves in
      let apart_so = a.apart in
      let most_so = a.most in
      let apart_busy = busy_apart pid 0 s.procs in
      let few = moving_few pid s.leaving in
      let self : one_if (pid == pid) ≡ 1 = one_self (pid == pid) (eq-eqb pid pid refl) in
      let parts = parted pid s.files.pending in
      none_any pid s.files.pending (omega arith)
    where
      one_self : (b : Bool) → b ≡ true → one_if b ≡ 1
      one_self true e = refl
      one_self false e = absurd (cc)

  pub uses_files : (about : About) (call : Call) (device : Option DeviceId) (s : ClientProcs) → Busy A Any g H B about.pid s → Rest A Any g H B (issuing_calls.uses_files about call device s)
  uses_files about call device s all =
      let inside : ClientProcs = procs_of.in_state about.pid states.InFiles s in
      let so : Busy A Any g H B about.pid inside = λ q dev. homing.turned q dev (A q) Any g H B 0 0 about.pid states.InFiles s refl refl (all q dev) in
      goes_in inside so
    where
      goes_in : (s : ClientProcs) → Busy A Any g H B about.pid s → Rest A Any g H B (record s { files = issuing.issues about call device s.files })
      goes_in s so q dev =
          let less = call_brings_one q about call device s.files in
          let due_so = less.due in
          let moves_so = less.moves in
          files_kept q dev (A q) g H B (0 + one_if (about.pid == q)) 0 0 (issuing.issues about call device s.files) s
          (goes_runs about.pid s.files _ (runs_issues call about call device s.files) (none_waits about.pid s so) (may_goes_on s (may_turn A (λ q. 0 + one_if (about.pid == q)) (λ q. 0) g H B s (λ q. so q 0)))) (omega arith) (omega arith) (so q dev)
