-- Answers to remote calls of the files' side: what they say to the processes' side.
use Rattle.std.proofs.Common.{arith, ◌≡◌, ℕ, ◌+◌, ◌==◌, Bool, Option, Some, None, refl}
use Rattle.std.specs.List.{list_any}
use Rattle.sprite_ids.specs.Lists.{one_if}
use Rattle.sprite_ids.specs.declared.Grant.{Grant}
use Rattle.sprite_ids.specs.declared.StreamNo.{StreamNo}
use Rattle.sprite_ids.specs.declared.TxNo.{TxNo}
use Rattle.packet_bodies.specs.declared.ReplyBody.{ReplyBody}
use Rattle.packet_bodies.specs.declared.ReplyBody.TheVariants as bodies
use Rattle.unix_calls.specs.declared.About.{About}
use Rattle.block_cache.specs.Blocks.{dirty_at}
use Rattle.stream_table.specs.declared.Place.{Place}
use Rattle.stream_table.specs.declared.Place.TheVariants.{Shared}
use Rattle.stream_table.specs.Entries.{may_be_at}
use Rattle.kernel_steps.specs.Rows.{is_under}
use Rattle.client_file_tables.specs.declared.client_files.ClientFiles.{ClientFiles}
use Rattle.client_file_tables.specs.declared.moves.CloseWork.{CloseWork}
use Rattle.client_file_tables.specs.declared.moves.MoveWork.{MoveWork}
use Rattle.client_file_tables.specs.declared.pending.Pending.{Pending}
use Rattle.client_file_tables.specs.declared.pending.Pending.TheVariants as operations
use Rattle.client_file_tables.specs.declared.works.WriteBackOut.{WriteBackOut}
use Rattle.client_file_tables.specs.Locks as locking
use Rattle.client_file_tables.specs.Rows.{first_call, first_of, less_call, less_of, same_call, same_pid}
use Rattle.client_file_tables.specs.Steps as steps
use Rattle.client_file_tables.specs.Streams.{stream_at}
use Rattle.client_data.specs.SyncAnswers as synced
use Rattle.client_data.specs.WriteBacks as written
use Rattle.client_names.specs.Answers as name_answers
use Rattle.client_streams.specs.Closing as closing
use Rattle.client_streams.specs.Moving as moving
use Rattle.client_files.specs.Answered as answering
use Rattle.client_files.specs.CallIssues as issuing
use Rattle.process_machine.specs.declared.Call.{Call}
use Rattle.sprite_ids.specs.declared.DeviceId.{DeviceId}
use Rattle.client_rounds.specs.Rounds.{move_of, work_of}
use Rattle.client_rounds.proofs.Ledgers.{Ledger, ledger_of}
use Rattle.file_walks.proofs.Muted as muted
use Rattle.client_rounds.proofs.CallLaws as calling
use Rattle.client_facts.proofs.LockLaws as turns
use Rattle.client_rounds.proofs.OpLaws as running
use Rattle.client_rounds.proofs.RunLaws.{Held, answer_of, answers_in, call_runs, close_answer, close_runs, data_runs, due_in, move_runs, moves_in, sync_runs}
use Rattle.client_rounds.proofs.Totals.{total_first, total_less}

module _ (q D M W pid : ℕ) where
  abbrev Fits : Ledger → Type 0
  Fits v = Held q D M W 0 0 0 v

  abbrev Works : Ledger → Type 0
  Works v = Held q D M W (one_if (pid == q)) 0 1 v

  closes : (o : Option StreamNo) (work : CloseWork) (s : ClientFiles) → Held q D M W (one_if (pid == q)) 0 (close_answer work.of) (ledger_of s) → Fits (ledger_of (closing.close_answers_by o pid work s))
  closes (Some stream) work s p =
      running.closes_on pid work.of (Held q D M W (one_if (pid == q)) 0 (close_answer work.of)) Fits (close_runs q D M W pid work.of) work (locking.unlocks stream s) refl
      (turns.unlocks (running.P (Held q D M W (one_if (pid == q)) 0 (close_answer work.of))) (running.no_turns (Held q D M W (one_if (pid == q)) 0 (close_answer work.of))) stream s p)
  closes None work s p = (close_runs q D M W pid work.of).waits (ledger_of s) work refl p

  move_ends : (o : Option (Bool × Place)) (work : MoveWork) (grant : Option Grant) (many : ℕ) (s : ClientFiles) → Held q D M W 0 (one_if (pid == q)) 0 (ledger_of s) → Fits (ledger_of (moving.move_answers_by o pid work grant many s))
  move_ends (Some out) work grant many s p =
      let shared : ClientFiles = moving.shares out.0 work.stream s in
      let freed : ClientFiles = locking.unlocks work.stream shared in
      (move_runs q D M W pid).ends (ledger_of freed) _ grant many
      (turns.unlocks (running.P (Held q D M W 0 (one_if (pid == q)) 0)) (running.no_turns (Held q D M W 0 (one_if (pid == q)) 0)) work.stream shared (running.on_if (Held q D M W 0 (one_if (pid == q)) 0) out.0 _ s (running.on_if (Held q D M W 0 (one_if (pid == q)) 0) (may_be_at Shared (stream_at work.stream s)) _ s p p) p))
  move_ends None work grant many s p = (move_runs q D M W pid).waits (ledger_of s) work p

  move_answered : (body : ReplyBody) (work : MoveWork) (s : ClientFiles) → Held q D M W 0 (one_if (pid == q)) 0 (ledger_of s) → Fits (ledger_of (answering.answers_move pid work body s))
  move_answered (bodies.Moved grant many) work s p = move_ends (moving.moved_out work.state) work grant many s p
  move_answered body work s p = (move_runs q D M W pid).waits (ledger_of s) work p

  answered_by : (operation : Pending) (source : ℕ) (body : ReplyBody) (s : ClientFiles) → Held q D M W (work_of q (pid, operation)) (move_of q (pid, operation)) (answer_of (pid, operation)) (ledger_of s) → Fits (ledger_of (answering.answered_by (Some operation) pid source body s))
  answered_by (operations.Name call) source body s p = calling.answers_name (λ other. Held q D M W (one_if (other == q)) 0 1) Fits (call_runs q D M W) call.state pid call.work source body s p
  answered_by (operations.Data call) source body s p = running.data_answered pid Works Fits (data_runs q D M W pid) call.state call body s p
  answered_by (operations.Sync call) source body s p = (sync_runs q D M W pid).waits (ledger_of s) call p
  answered_by (operations.Close work) source body s p = closes (closing.closed_at_server work.state) work s p
  answered_by (operations.Move work) source body s p = move_answered body work s p

  -- what is taken out stays within the bounds
  left_out : (s : ClientFiles) → Fits (ledger_of s) → Fits (ledger_of (record s { pending = less_of pid s.pending }))
  left_out s p =
      let works = total_less (work_of q) (is_under same_pid pid) s.pending in
      let moves = total_less (move_of q) (is_under same_pid pid) s.pending in
      let answers = total_less answer_of (is_under same_pid pid) s.pending in
      let due_so = p.due in
      let moves_so = p.moves in
      let weight_so = p.weight in
      record { due = omega arith; moves = omega arith; weight = omega arith }

  taken_out : (operation : Pending) (s : ClientFiles) → first_of pid s.pending ≡ Some operation → Fits (ledger_of s) → Held q D M W (work_of q (pid, operation)) (move_of q (pid, operation)) (answer_of (pid, operation)) (ledger_of (record s { pending = less_of pid s.pending }))
  taken_out operation s found p =
      let works = total_first (work_of q) pid s.pending operation found in
      let moves = total_first (move_of q) pid s.pending operation found in
      let answers = total_first answer_of pid s.pending operation found in
      let due_so = p.due in
      let moves_so = p.moves in
      let weight_so = p.weight in
      record { due = omega arith; moves = omega arith; weight = omega arith }

  answered_found : (o : Option Pending) (source : ℕ) (body : ReplyBody) (s : ClientFiles) → first_of pid s.pending ≡ o → Fits (ledger_of s) → Fits (ledger_of (answering.answered_by o pid source body (record s { pending = less_of pid s.pending })))
  answered_found None source body s found p = left_out s p
  answered_found (Some operation) source body s found p = answered_by operation source body (record s { pending = less_of pid s.pending }) (taken_out operation s found p)

  -- a sync whose own write-back was answered
  goes_on_by : (operation : Pending) (body : ReplyBody) (s : ClientFiles) → Held q D M W (work_of q (pid, operation)) (move_of q (pid, operation)) (answer_of (pid, operation)) (ledger_of s) → Fits (ledger_of (synced.go_on_by pid operation body s))
  goes_on_by (operations.Sync call) body s p = (sync_runs q D M W pid).waits (ledger_of s) _ p
  goes_on_by (operations.Name call) body s p = (call_runs q D M W pid).waits (ledger_of s) _ refl p
  goes_on_by (operations.Data call) body s p = (data_runs q D M W pid).waits (ledger_of s) call p
  goes_on_by (operations.Close work) body s p = (close_runs q D M W pid work.of).waits (ledger_of s) work refl p
  goes_on_by (operations.Move work) body s p = (move_runs q D M W pid).waits (ledger_of s) work p

  goes_on_first : (o : Option Pending) (body : ReplyBody) (s : ClientFiles) → first_of pid s.pending ≡ o → Fits (ledger_of s) → Fits (ledger_of (synced.go_on_first pid o body (record s { pending = less_of pid s.pending })))
  goes_on_first None body s found p = left_out s p
  goes_on_first (Some operation) body s found p = goes_on_by operation body (record s { pending = less_of pid s.pending }) (taken_out operation s found p)

  -- a call that is given up
  gives_up_by : (o : Option Pending) (s : ClientFiles) → first_of pid s.pending ≡ o → Fits (ledger_of s) → Fits (ledger_of (name_answers.gives_up_by pid o (record s { pending = less_of pid s.pending })))
  gives_up_by None s found p = left_out s p
  gives_up_by (Some (operations.Name call)) s found p = (call_runs q D M W pid).ends (ledger_of (record s { pending = less_of pid s.pending })) _ (taken_out (operations.Name call) s found p)
  gives_up_by (Some (operations.Data call)) s found p = (data_runs q D M W pid).waits (ledger_of (record s { pending = less_of pid s.pending })) call (taken_out (operations.Data call) s found p)
  gives_up_by (Some (operations.Sync call)) s found p = (sync_runs q D M W pid).waits (ledger_of (record s { pending = less_of pid s.pending })) call (taken_out (operations.Sync call) s found p)
  gives_up_by (Some (operations.Close work)) s found p = (close_runs q D M W pid work.of).waits (ledger_of (record s { pending = less_of pid s.pending })) work refl (taken_out (operations.Close work) s found p)
  gives_up_by (Some (operations.Move work)) s found p = (move_runs q D M W pid).waits (ledger_of (record s { pending = less_of pid s.pending })) work (taken_out (operations.Move work) s found p)

module _ (q D M W : ℕ) where
  abbrev Within : Ledger → Type 0
  Within v = Held q D M W 0 0 0 v

  answered_first : (o : Option ℕ) (tx : TxNo) (source : ℕ) (body : ReplyBody) (s : ClientFiles) → Within (ledger_of s) → Within (ledger_of (answering.answered_first o tx source body s))
  answered_first (Some pid) tx source body s p = running.on_if Within (name_answers.takes_end tx (first_of pid s.pending)) _ s (answered_found q D M W pid (first_of pid s.pending) source body s refl p) p
  answered_first None tx source body s p = p

  sync_answered : (o : Option ℕ) (body : ReplyBody) (s : ClientFiles) → Within (ledger_of s) → Within (ledger_of (synced.answers_by o body s))
  sync_answered (Some pid) body s p = goes_on_first q D M W pid (first_of pid s.pending) body s refl p
  sync_answered None body s p = p

  back_done : (o : Option WriteBackOut) (tx : TxNo) (body : ReplyBody) (s : ClientFiles) → Within (ledger_of s) → Within (ledger_of (written.done_first tx body o s))
  back_done (Some back) tx body s p =
      let settled : ClientFiles = written.settles_back body back s in
      let again : ClientFiles = written.lists_again back.file back.block settled in
      let woken : ClientFiles = steps.wakes_all tx again in
      sync_answered (first_call tx woken.txs) body (record woken { txs = less_call tx woken.txs }) (muted.lists_again (running.P Within) (running.mute Within) (dirty_at settled.cache.blocks back.file back.block.0) back.file back.block settled (muted.settles_back (running.P Within) (running.mute Within) body back s p))
  back_done None tx body s p = p

  heard : (tx : TxNo) (source : ℕ) (body : ReplyBody) (s : ClientFiles) → Within (ledger_of s) → Within (ledger_of (answering.answered tx source body s))
  heard tx source body s p =
      running.on_if Within (list_any (is_under same_call tx) s.write_backs) _ _
      (back_done (first_call tx s.write_backs) tx body (record s { write_backs = less_call tx s.write_backs }) p)
      (answered_first (first_call tx s.txs) tx source body (record s { txs = less_call tx s.txs }) p)

  given_up_first : (o : Option ℕ) (tx : TxNo) (s : ClientFiles) → Within (ledger_of s) → Within (ledger_of (name_answers.gives_up_first o tx s))
  given_up_first (Some pid) tx s p = running.on_if Within (name_answers.takes_end tx (first_of pid s.pending)) _ s (gives_up_by q D M W pid (first_of pid s.pending) s refl p) p
  given_up_first None tx s p = p

  given_up : (tx : TxNo) (s : ClientFiles) → Within (ledger_of s) → Within (ledger_of (name_answers.gives_up tx s))
  given_up tx s p = given_up_first (first_call tx s.txs) tx (record s { txs = less_call tx s.txs }) p

  begun : (about : About) (call : Call) (device : Option DeviceId) (s : ClientFiles) → Held q D M W (one_if (about.pid == q)) 0 1 (ledger_of s) → Within (ledger_of (issuing.issues about call device s))
  begun about call device s p = calling.issues (λ pid. Held q D M W (one_if (pid == q)) 0 1) Within (call_runs q D M W) about call device s p

-- at first all is within these bounds
pub all_within : (q : ℕ) (s : ClientFiles) → Held q (due_in q (ledger_of s)) (moves_in q (ledger_of s)) (answers_in (ledger_of s)) 0 0 0 (ledger_of s)
all_within q s = record { due = omega arith; moves = omega arith; weight = omega arith }

-- nothing more is on its way to a process behind an answer
pub answer_brings_no_more : (q : ℕ) (tx : TxNo) (source : ℕ) (body : ReplyBody) (s : ClientFiles) → Held q (due_in q (ledger_of s)) (moves_in q (ledger_of s)) (answers_in (ledger_of s)) 0 0 0 (ledger_of (answering.answered tx source body s))
answer_brings_no_more q tx source body s = heard q (due_in q (ledger_of s)) (moves_in q (ledger_of s)) (answers_in (ledger_of s)) tx source body s (all_within q s)

-- or a call that is given up
pub end_brings_no_more : (q : ℕ) (tx : TxNo) (s : ClientFiles) → Held q (due_in q (ledger_of s)) (moves_in q (ledger_of s)) (answers_in (ledger_of s)) 0 0 0 (ledger_of (name_answers.gives_up tx s))
end_brings_no_more q tx s = given_up q (due_in q (ledger_of s)) (moves_in q (ledger_of s)) (answers_in (ledger_of s)) tx s (all_within q s)

-- and by a call that begins one thing at most is on its way to its process
pub call_brings_one : (q : ℕ) (about : About) (call : Call) (device : Option DeviceId) (s : ClientFiles) → Held q (due_in q (ledger_of s) + one_if (about.pid == q)) (moves_in q (ledger_of s)) (answers_in (ledger_of s) + 1) 0 0 0 (ledger_of (issuing.issues about call device s))
call_brings_one q about call device s = begun q (due_in q (ledger_of s) + one_if (about.pid == q)) (moves_in q (ledger_of s)) (answers_in (ledger_of s) + 1) about call device s (record { due = omega arith; moves = omega arith; weight = omega arith })
