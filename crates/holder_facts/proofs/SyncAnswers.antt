-- Calls of the files' side at their issue, and answers to its remote calls, leave no sync that looks but those that are woken.
use Rattle.std.proofs.Common.{◌≡◌, ℕ, Bool, true, false, cond, Option, Some, None, refl}
use Rattle.std.specs.List.{list_any}
use Rattle.sprite_ids.specs.declared.BlockNo.{BlockNo}
use Rattle.sprite_ids.specs.declared.FileId.{FileId}
use Rattle.sprite_ids.specs.declared.Grant.{Grant}
use Rattle.sprite_ids.specs.declared.TxNo.{TxNo}
use Rattle.packet_bodies.specs.declared.ReplyBody.{ReplyBody}
use Rattle.packet_bodies.specs.declared.ReplyBody.TheVariants as bodies
use Rattle.block_cache.specs.Blocks.{dirty_at}
use Rattle.stream_table.specs.declared.Place.TheVariants.{Shared}
use Rattle.stream_table.specs.Entries.{is_placed}
use Rattle.kernel_steps.specs.Rows.{is_under}
use Rattle.client_file_tables.specs.declared.client_files.ClientFiles.{ClientFiles}
use Rattle.client_file_tables.specs.declared.moves.CloseWork.{CloseWork}
use Rattle.client_file_tables.specs.declared.moves.MoveWork.{MoveWork}
use Rattle.client_file_tables.specs.declared.pending.Pending.{Pending}
use Rattle.client_file_tables.specs.declared.pending.Pending.TheVariants as operations
use Rattle.client_file_tables.specs.declared.states.CloseState.{CloseState}
use Rattle.client_file_tables.specs.declared.states.CloseState.TheVariants as closes
use Rattle.client_file_tables.specs.declared.states.DataState.{DataState}
use Rattle.client_file_tables.specs.declared.states.DataState.TheVariants as states
use Rattle.client_file_tables.specs.declared.states.MoveState.{MoveState}
use Rattle.client_file_tables.specs.declared.states.MoveState.TheVariants as moves
use Rattle.client_file_tables.specs.declared.works.DataCall.{DataCall}
use Rattle.client_file_tables.specs.declared.works.WriteBackOut.{WriteBackOut}
use Rattle.client_file_tables.specs.Locks as locking
use Rattle.client_file_tables.specs.Rows.{first_call, first_of, less_call, less_of, same_call, same_pid}
use Rattle.client_file_tables.specs.Steps as steps
use Rattle.client_file_tables.specs.Steps.{woken}
use Rattle.client_data.specs.Replies as replied
use Rattle.client_data.specs.SyncAnswers as synced
use Rattle.client_data.specs.WriteBacks as written
use Rattle.client_names.specs.Answers as name_answers
use Rattle.client_streams.specs.Closing as closing
use Rattle.client_streams.specs.Moving as moving
use Rattle.client_files.specs.Answered as answering
use Rattle.file_walks.proofs.CallWalks as call_walks
use Rattle.file_walks.proofs.CallWalks.{RunsCall}
use Rattle.file_walks.proofs.CloseWalks as close_walks
use Rattle.file_walks.proofs.DataWalks as data_walks
use Rattle.file_walks.proofs.Muted as muted
use Rattle.file_facts.proofs.BookLaws.{each_less, found_each}
use Rattle.holder_facts.proofs.SyncRuns as runs
use Rattle.holder_facts.proofs.SyncRuns.{Holds, Sits, close_runs, data_runs, kept, moves_place, mute, started, unlocks}

-- Calls at their issue, and answers to name calls

on_if : (b : Bool) (s t : ClientFiles) → Holds s → Holds t → Holds (cond b s t)
on_if true s t p q = p
on_if false s t p q = q

pub call_runs : (pid : ℕ) → RunsCall pid Holds Holds
call_runs pid = record {
  quiet = mute;
  adds = λ s number stream p. on_if (is_placed stream) _ s p p;
  dups = λ s fd p. p;
  begins = λ s operation begins leads p. started s pid operation p;
  echoes = λ s work server p. runs.idle_push s.pending s.ready pid _ refl p;
  broadcasts = λ s work prefix p. runs.idle_push s.pending s.ready pid _ refl p;
  asks = λ s work server p. runs.idle_push s.pending s.ready pid _ refl p;
  ends = λ s reply p. p;
  lost = λ s p. p;
}

-- The operation of a process is taken out, where its remote call was answered

module _ (s : ClientFiles) (pid : ℕ) (p : Holds s) where
  abbrev out : ClientFiles
  out = record s { pending = less_of pid s.pending }

  out_so : Holds out
  out_so = each_less (Sits s.ready) (is_under same_pid pid) s.pending p

  -- and put back
  back_again : (operation : Pending) → first_of pid s.pending ≡ Some operation → Holds (steps.keeps pid operation out)
  back_again operation e = kept out pid operation (found_each (Sits s.ready) pid s.pending operation p e) out_so

  data_heard : (state : DataState) (call : DataCall) (body : ReplyBody) → first_of pid s.pending ≡ Some (operations.Data call) → Holds (replied.answered_in state pid call body out)
  data_heard (states.Fetching t block) call body o = data_walks.fetched pid call Holds Holds Holds Holds Holds (data_runs pid call) block body out out_so
  data_heard (states.AtServer t) call body o = data_walks.served pid call Holds Holds Holds Holds Holds (data_runs pid call) body out out_so out_so (λ never. back_again (operations.Data call) o)
  data_heard states.WaitLock call body o = back_again (operations.Data call) o
  data_heard states.Turn call body o = back_again (operations.Data call) o
  data_heard (states.Room other) call body o = back_again (operations.Data call) o

  close_heard : (state : CloseState) (work : CloseWork) → first_of pid s.pending ≡ Some (operations.Close work) → Holds (closing.close_answers_by (closing.closed_at_server state) pid work out)
  close_heard closes.WaitLock work o = back_again (operations.Close work) o
  close_heard (closes.Closing t stream) work o = close_walks.closes_on pid work.of Holds (λ number. Holds) Holds (close_runs pid work.of) work (locking.unlocks stream out) refl (unlocks out stream out_so)

  move_moved : (state : MoveState) (work : MoveWork) (grant : Option Grant) (many : ℕ) → first_of pid s.pending ≡ Some (operations.Move work) → Holds (moving.move_answers_by (moving.moved_out state) pid work grant many out)
  move_moved moves.WaitLock work grant many o = back_again (operations.Move work) o
  move_moved (moves.MovingOut t kept_here place) work grant many o = unlocks (moving.shares kept_here work.stream out) work.stream (shared kept_here)
    where
      shared : (b : Bool) → Holds (moving.shares b work.stream out)
      shared true = moves_place out work.stream Shared out_so
      shared false = out_so

  move_heard : (body : ReplyBody) (work : MoveWork) → first_of pid s.pending ≡ Some (operations.Move work) → Holds (answering.answers_move pid work body out)
  move_heard (bodies.Moved grant many) work o = move_moved work.state work grant many o
  move_heard body work o = back_again (operations.Move work) o

  heard_by : (o : Option Pending) (source : ℕ) (body : ReplyBody) → first_of pid s.pending ≡ o → Holds (answering.answered_by o pid source body out)
  heard_by None source body o = out_so
  heard_by (Some (operations.Name call)) source body o = call_walks.answers_name (λ (other : ℕ). Holds) Holds call_runs call.state pid call.work source body out out_so
  heard_by (Some (operations.Data call)) source body o = data_heard call.state call body o
  heard_by (Some (operations.Sync call)) source body o = back_again (operations.Sync call) o
  heard_by (Some (operations.Close work)) source body o = close_heard work.state work o
  heard_by (Some (operations.Move work)) source body o = move_heard body work o

  ended_by : (o : Option Pending) → first_of pid s.pending ≡ o → Holds (name_answers.gives_up_by pid o out)
  ended_by (Some (operations.Name call)) o = out_so
  ended_by (Some (operations.Data call)) o = back_again (operations.Data call) o
  ended_by (Some (operations.Sync call)) o = back_again (operations.Sync call) o
  ended_by (Some (operations.Close work)) o = back_again (operations.Close work) o
  ended_by (Some (operations.Move work)) o = back_again (operations.Move work) o
  ended_by None o = out_so

  -- a sync's own write-back was answered
  goes_on_by : (operation : Pending) (body : ReplyBody) → first_of pid s.pending ≡ Some operation → Holds (synced.go_on_by pid operation body out)
  goes_on_by (operations.Sync call) body o = started out pid (operations.Sync (synced.after_answer call body)) out_so
  goes_on_by (operations.Name call) body o = back_again (operations.Name call) o
  goes_on_by (operations.Data call) body o = back_again (operations.Data call) o
  goes_on_by (operations.Close work) body o = back_again (operations.Close work) o
  goes_on_by (operations.Move work) body o = back_again (operations.Move work) o

  goes_on_first : (o : Option Pending) (body : ReplyBody) → first_of pid s.pending ≡ o → Holds (synced.go_on_first pid o body out)
  goes_on_first None body o = out_so
  goes_on_first (Some operation) body o = goes_on_by operation body o

heard_first : (o : Option ℕ) (tx : TxNo) (source : ℕ) (body : ReplyBody) (s : ClientFiles) → Holds s → Holds (answering.answered_first o tx source body s)
heard_first None tx source body s p = p
heard_first (Some pid) tx source body s p = on_if (name_answers.takes_end tx (first_of pid s.pending)) (answering.answered_by (first_of pid s.pending) pid source body (record s { pending = less_of pid s.pending })) s (heard_by s pid p (first_of pid s.pending) source body refl) p

ended_first : (o : Option ℕ) (tx : TxNo) (s : ClientFiles) → Holds s → Holds (name_answers.gives_up_first o tx s)
ended_first None tx s p = p
ended_first (Some pid) tx s p = on_if (name_answers.takes_end tx (first_of pid s.pending)) (name_answers.gives_up_by pid (first_of pid s.pending) (record s { pending = less_of pid s.pending })) s (ended_by s pid p (first_of pid s.pending) refl) p

-- a remote call is given up
pub given_up : (s : ClientFiles) (tx : TxNo) → Holds s → Holds (name_answers.gives_up tx s)
given_up s tx p = ended_first (first_call tx s.txs) tx (record s { txs = less_call tx s.txs }) p

-- A write-back is answered

sync_heard : (o : Option ℕ) (body : ReplyBody) (s : ClientFiles) → Holds s → Holds (synced.answers_by o body s)
sync_heard None body s p = p
sync_heard (Some pid) body s p = goes_on_first s pid p (first_of pid s.pending) body refl

done_first : (o : Option WriteBackOut) (s : ClientFiles) (tx : TxNo) (body : ReplyBody) → Holds s → Holds (written.done_first tx body o s)
done_first None s tx body p = p
done_first (Some back) s tx body p =
    let settled : ClientFiles = written.settles_back body back s in
    let again : ClientFiles = written.lists_again back.file back.block settled in
    let so : Holds again = muted.lists_again Holds mute (dirty_at settled.cache.blocks back.file back.block.0) back.file back.block settled (muted.settles_back Holds mute body back s p) in
    sync_heard (first_call tx again.txs) body (record (steps.wakes_all tx again) { txs = less_call tx again.txs }) (runs.woken again.pending again.ready (woken tx again.pending) so)

-- an answer comes
pub answered : (s : ClientFiles) (tx : TxNo) (source : ℕ) (body : ReplyBody) → Holds s → Holds (answering.answered tx source body s)
answered s tx source body p =
    on_if (list_any (is_under same_call tx) s.write_backs) (written.written_back tx body s) (answering.answered_first (first_call tx s.txs) tx source body (record s { txs = less_call tx s.txs }))
    (done_first (first_call tx s.write_backs) (record s { write_backs = less_call tx s.write_backs }) tx body p) (heard_first (first_call tx s.txs) tx source body (record s { txs = less_call tx s.txs }) p)

-- Blocks that are due

due_by : (o : Option ℕ) (file : FileId) (block : BlockNo) (s : ClientFiles) → Holds s → Holds (written.due_by o file block s)
due_by (Some number) file block s p = p
due_by None file block s p = p

-- a block that is due goes
pub due_goes : (file : FileId) (block : BlockNo) (s : ClientFiles) → Holds s → Holds (written.due_goes file block s)
due_goes file block s p = due_by (dirty_at s.cache.blocks file block.0) file block s p
