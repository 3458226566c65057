-- Answers to remote calls of the files' side, and ends of them, for any fact of these calls.
use Rattle.std.proofs.Common.{◌≡◌, ℕ, Bool, true, false, cond, List, Option, Some, None, refl}
use Rattle.std.specs.List.{list_any}
use Rattle.sprite_ids.specs.declared.BlockNo.{BlockNo}
use Rattle.sprite_ids.specs.declared.FileId.{FileId}
use Rattle.sprite_ids.specs.declared.Grant.{Grant}
use Rattle.sprite_ids.specs.declared.TxNo.{TxNo}
use Rattle.packet_bodies.specs.declared.ReplyBody.{ReplyBody}
use Rattle.packet_bodies.specs.declared.ReplyBody.TheVariants as bodies
use Rattle.block_cache.specs.Blocks.{dirty_at}
use Rattle.stream_table.specs.declared.Place.TheVariants.{Shared}
use Rattle.stream_table.specs.Entries.{may_be_at}
use Rattle.kernel_steps.specs.Rows.{is_under}
use Rattle.kernel_steps.specs.declared.Sending.{Sending}
use Rattle.client_file_tables.specs.declared.client_files.ClientFiles.{ClientFiles}
use Rattle.client_file_tables.specs.declared.moves.CloseWork.{CloseWork}
use Rattle.client_file_tables.specs.declared.moves.MoveWork.{MoveWork}
use Rattle.client_file_tables.specs.declared.pending.Pending.{Pending}
use Rattle.client_file_tables.specs.declared.pending.Pending.TheVariants as operations
use Rattle.client_file_tables.specs.declared.states.CloseState.{CloseState}
use Rattle.client_file_tables.specs.declared.states.CloseState.TheVariants as closes
use Rattle.client_file_tables.specs.declared.states.DataState.{DataState}
use Rattle.client_file_tables.specs.declared.states.DataState.TheVariants as states
use Rattle.client_file_tables.specs.declared.states.MoveState.{MoveState}
use Rattle.client_file_tables.specs.declared.states.MoveState.TheVariants as moves
use Rattle.client_file_tables.specs.declared.works.DataCall.{DataCall}
use Rattle.client_file_tables.specs.declared.works.WriteBackOut.{WriteBackOut}
use Rattle.client_file_tables.specs.Blocks.{state_in}
use Rattle.client_file_tables.specs.Locks.{unlocks}
use Rattle.client_file_tables.specs.Rows.{first_call, first_of, less_call, less_of, same_call}
use Rattle.client_file_tables.specs.Steps as steps
use Rattle.client_file_tables.specs.Streams.{stream_at}
use Rattle.client_data.specs.Replies as replied
use Rattle.client_data.specs.SyncAnswers as synced
use Rattle.client_data.specs.WriteBacks as written
use Rattle.client_names.specs.Answers as name_answers
use Rattle.client_streams.specs.Closing as closing
use Rattle.client_streams.specs.Moving as moving
use Rattle.client_files.specs.Answered as answering
use Rattle.client_facts.proofs.LockLaws as locks
use Rattle.file_walks.proofs.CallWalks as call_walks
use Rattle.file_walks.proofs.CloseWalks as close_walks
use Rattle.file_walks.proofs.DataWalks as data_walks
use Rattle.file_walks.proofs.Muted as muted
use Rattle.operation_calls.proofs.Books.{Bears, Book, book_of}
use Rattle.operation_calls.proofs.RunLaws as runs

module _ (P : Book → Type 0) (Row : List Sending → ℕ × Pending → Type 0) (bears : Bears P Row) where
  abbrev Holds : ClientFiles → Type 0
  Holds s = P (book_of s)

  abbrev RowSo : ClientFiles → ℕ × Pending → Type 0
  RowSo s row = Row s.out.sends row

  on_if : (b : Bool) (s t : ClientFiles) → Holds s → Holds t → Holds (cond b s t)
  on_if true s t p q = p
  on_if false s t p q = q

  -- An operation that was taken out, whose call is answered

  data_heard : (state : DataState) (pid : ℕ) (call : DataCall) (body : ReplyBody) (s : ClientFiles) → RowSo s (pid, operations.Data call) → Holds s → Holds (replied.answered_in state pid call body s)
  data_heard (states.Fetching t block) pid call body s so p = data_walks.fetched pid call Holds Holds Holds Holds Holds (runs.data_runs P Row bears pid call) block body s p
  data_heard (states.AtServer t) pid call body s so p = data_walks.served pid call Holds Holds Holds Holds Holds (runs.data_runs P Row bears pid call) body s p p (λ never. runs.put_back P Row bears s pid (operations.Data call) so p)
  data_heard states.WaitLock pid call body s so p = runs.put_back P Row bears s pid (operations.Data call) so p
  data_heard states.Turn pid call body s so p = runs.put_back P Row bears s pid (operations.Data call) so p
  data_heard (states.Room other) pid call body s so p = runs.put_back P Row bears s pid (operations.Data call) so p

  close_heard : (state : CloseState) (pid : ℕ) (work : CloseWork) (s : ClientFiles) → RowSo s (pid, operations.Close work) → Holds s → Holds (closing.close_answers_by (closing.closed_at_server state) pid work s)
  close_heard closes.WaitLock pid work s so p = runs.put_back P Row bears s pid (operations.Close work) so p
  close_heard (closes.Closing t stream) pid work s so p =
      close_walks.closes_on pid work.of Holds (λ number. Holds) Holds (runs.close_runs P Row bears pid work.of) work (unlocks stream s) refl (locks.unlocks Holds (runs.no_turns P Row bears) stream s p)

  move_moved : (state : MoveState) (pid : ℕ) (work : MoveWork) (grant : Option Grant) (many : ℕ) (s : ClientFiles) → RowSo s (pid, operations.Move work) → Holds s → Holds (moving.move_answers_by (moving.moved_out state) pid work grant many s)
  move_moved moves.WaitLock pid work grant many s so p = runs.put_back P Row bears s pid (operations.Move work) so p
  move_moved (moves.MovingOut t kept place) pid work grant many s so p =
      let shared : ClientFiles = moving.shares kept work.stream s in
      locks.unlocks Holds (runs.no_turns P Row bears) work.stream shared (on_if kept _ s (on_if (may_be_at Shared (stream_at work.stream s)) _ s p p) p)

  move_heard : (body : ReplyBody) (pid : ℕ) (work : MoveWork) (s : ClientFiles) → RowSo s (pid, operations.Move work) → Holds s → Holds (answering.answers_move pid work body s)
  move_heard (bodies.Moved grant many) pid work s so p = move_moved work.state pid work grant many s so p
  move_heard body pid work s so p = runs.put_back P Row bears s pid (operations.Move work) so p

  heard : (operation : Pending) (pid source : ℕ) (body : ReplyBody) (s : ClientFiles) → RowSo s (pid, operation) → Holds s → Holds (answering.answered_by (Some operation) pid source body s)
  heard (operations.Name call) pid source body s so p = call_walks.answers_name (λ (other : ℕ). Holds) Holds (runs.call_runs P Row bears) call.state pid call.work source body s p
  heard (operations.Data call) pid source body s so p = data_heard call.state pid call body s so p
  heard (operations.Sync call) pid source body s so p = runs.put_back P Row bears s pid (operations.Sync call) so p
  heard (operations.Close work) pid source body s so p = close_heard work.state pid work s so p
  heard (operations.Move work) pid source body s so p = move_heard body pid work s so p

  ended : (operation : Pending) (pid : ℕ) (s : ClientFiles) → RowSo s (pid, operation) → Holds s → Holds (name_answers.gives_up_by pid (Some operation) s)
  ended (operations.Name call) pid s so p = p
  ended (operations.Data call) pid s so p = runs.put_back P Row bears s pid (operations.Data call) so p
  ended (operations.Sync call) pid s so p = runs.put_back P Row bears s pid (operations.Sync call) so p
  ended (operations.Close work) pid s so p = runs.put_back P Row bears s pid (operations.Close work) so p
  ended (operations.Move work) pid s so p = runs.put_back P Row bears s pid (operations.Move work) so p

  -- it is looked up

  heard_by : (o : Option Pending) (pid source : ℕ) (body : ReplyBody) (s : ClientFiles) → first_of pid s.pending ≡ o → Holds s → Holds (answering.answered_by o pid source body (record s { pending = less_of pid s.pending }))
  heard_by None pid source body s e p = runs.without P Row bears pid s p
  heard_by (Some operation) pid source body s e p = heard operation pid source body (record s { pending = less_of pid s.pending }) (bears.found pid operation (book_of s) e p) (runs.without P Row bears pid s p)

  ended_by : (o : Option Pending) (pid : ℕ) (s : ClientFiles) → first_of pid s.pending ≡ o → Holds s → Holds (name_answers.gives_up_by pid o (record s { pending = less_of pid s.pending }))
  ended_by None pid s e p = runs.without P Row bears pid s p
  ended_by (Some operation) pid s e p = ended operation pid (record s { pending = less_of pid s.pending }) (bears.found pid operation (book_of s) e p) (runs.without P Row bears pid s p)

  pub heard_first : (o : Option ℕ) (tx : TxNo) (source : ℕ) (body : ReplyBody) (s : ClientFiles) → Holds s → Holds (answering.answered_first o tx source body s)
  heard_first None tx source body s p = p
  heard_first (Some pid) tx source body s p = on_if (name_answers.takes_end tx (first_of pid s.pending)) _ s (heard_by (first_of pid s.pending) pid source body s refl p) p

  pub ended_first : (o : Option ℕ) (tx : TxNo) (s : ClientFiles) → Holds s → Holds (name_answers.gives_up_first o tx s)
  ended_first None tx s p = p
  ended_first (Some pid) tx s p = on_if (name_answers.takes_end tx (first_of pid s.pending)) _ s (ended_by (first_of pid s.pending) pid s refl p) p

  pub given_up : (tx : TxNo) (s : ClientFiles) → Holds s → Holds (name_answers.gives_up tx s)
  given_up tx s p = ended_first (first_call tx s.txs) tx (record s { txs = less_call tx s.txs }) (bears.hears tx (book_of s) p)

  -- A write-back is answered

  synced_so : (operation : Pending) (pid : ℕ) (body : ReplyBody) (s : ClientFiles) → RowSo s (pid, operation) → Holds s → Holds (synced.go_on_by pid operation body s)
  synced_so (operations.Sync call) pid body s so p = started body
    where
      started : (body : ReplyBody) → Holds (steps.starts pid (operations.Sync (synced.after_answer call body)) s)
      started (bodies.Again grant) = runs.kept_free P Row bears s pid (operations.Sync (synced.after_answer call (bodies.Again grant))) refl p
      started body = runs.kept_free P Row bears s pid (operations.Sync (synced.after_answer call body)) refl p
  synced_so (operations.Name call) pid body s so p = runs.put_back P Row bears s pid (operations.Name call) so p
  synced_so (operations.Data call) pid body s so p = runs.put_back P Row bears s pid (operations.Data call) so p
  synced_so (operations.Close work) pid body s so p = runs.put_back P Row bears s pid (operations.Close work) so p
  synced_so (operations.Move work) pid body s so p = runs.put_back P Row bears s pid (operations.Move work) so p

  synced_first : (o : Option Pending) (pid : ℕ) (body : ReplyBody) (s : ClientFiles) → first_of pid s.pending ≡ o → Holds s → Holds (synced.go_on_first pid o body (record s { pending = less_of pid s.pending }))
  synced_first None pid body s e p = runs.without P Row bears pid s p
  synced_first (Some operation) pid body s e p = synced_so operation pid body (record s { pending = less_of pid s.pending }) (bears.found pid operation (book_of s) e p) (runs.without P Row bears pid s p)

  pub synced_by : (o : Option ℕ) (body : ReplyBody) (s : ClientFiles) → Holds s → Holds (synced.answers_by o body s)
  synced_by None body s p = p
  synced_by (Some pid) body s p = synced_first (first_of pid s.pending) pid body s refl p

  done_first : (o : Option WriteBackOut) (tx : TxNo) (body : ReplyBody) (s : ClientFiles) → Holds s → Holds (written.done_first tx body o s)
  done_first None tx body s p = p
  done_first (Some back) tx body s p =
      let settled : ClientFiles = written.settles_back body back s in
      let again : ClientFiles = written.lists_again back.file back.block settled in
      let so : Holds again = muted.lists_again Holds (runs.mute P Row bears) (dirty_at settled.cache.blocks back.file back.block.0) back.file back.block settled (muted.settles_back Holds (runs.mute P Row bears) body back s p) in
      synced_by (first_call tx again.txs) body (record (steps.wakes_all tx again) { txs = less_call tx again.txs }) (bears.hears tx (book_of again) so)

  -- an answer comes
  pub answered : (tx : TxNo) (source : ℕ) (body : ReplyBody) (s : ClientFiles) → Holds s → Holds (answering.answered tx source body s)
  answered tx source body s p =
      on_if (list_any (is_under same_call tx) s.write_backs) _ _
      (done_first (first_call tx s.write_backs) tx body (record s { write_backs = less_call tx s.write_backs }) (bears.back_in tx (book_of s) p))
      (heard_first (first_call tx s.txs) tx source body (record s { txs = less_call tx s.txs }) (bears.hears tx (book_of s) p))

  -- Blocks that are due

  due_by : (o : Option ℕ) (file : FileId) (block : BlockNo) (s : ClientFiles) → Holds s → Holds (written.due_by o file block s)
  due_by (Some number) file block s p =
      bears.goes_back (written.write_back_sending file block None s) (record { file = file; block = block; stamp = (state_in file s).stamp; number = number }) (book_of s) refl refl refl p
  due_by None file block s p = p

  pub due_goes : (file : FileId) (block : BlockNo) (s : ClientFiles) → Holds s → Holds (written.due_goes file block s)
  due_goes file block s p = due_by (dirty_at s.cache.blocks file block.0) file block s p
