-- Calls of the files' side at their issue, answers to its remote calls, and processes that arrive, keep the order in which operations fill blocks.
use Rattle.std.proofs.Common.{◌≡◌, ℕ, Bool, true, false, cond, Option, Some, None, refl, ap}
use Rattle.std.specs.List.{list_any}
use Rattle.sprite_ids.specs.declared.BlockNo.{BlockNo}
use Rattle.sprite_ids.specs.declared.FileId.{FileId}
use Rattle.sprite_ids.specs.declared.Grant.{Grant}
use Rattle.sprite_ids.specs.declared.TxNo.{TxNo}
use Rattle.packet_bodies.specs.declared.ReplyBody.{ReplyBody}
use Rattle.packet_bodies.specs.declared.ReplyBody.TheVariants as bodies
use Rattle.block_cache.specs.Blocks.{dirty_at}
use Rattle.stream_table.specs.declared.Place.TheVariants.{Shared}
use Rattle.stream_table.specs.Entries.{is_placed}
use Rattle.stream_table.specs.Streams.{added}
use Rattle.kernel_steps.specs.Rows.{is_under}
use Rattle.client_file_tables.specs.declared.client_files.ClientFiles.{ClientFiles}
use Rattle.client_file_tables.specs.declared.moves.CloseWork.{CloseWork}
use Rattle.client_file_tables.specs.declared.moves.MoveWork.{MoveWork}
use Rattle.client_file_tables.specs.declared.pending.Pending.{Pending}
use Rattle.client_file_tables.specs.declared.pending.Pending.TheVariants as operations
use Rattle.client_file_tables.specs.declared.states.CloseState.{CloseState}
use Rattle.client_file_tables.specs.declared.states.CloseState.TheVariants as closes
use Rattle.client_file_tables.specs.declared.states.DataState.{DataState}
use Rattle.client_file_tables.specs.declared.states.DataState.TheVariants as states
use Rattle.client_file_tables.specs.declared.states.MoveState.{MoveState}
use Rattle.client_file_tables.specs.declared.states.MoveState.TheVariants as moves
use Rattle.client_file_tables.specs.declared.works.DataCall.{DataCall}
use Rattle.client_file_tables.specs.declared.works.WriteBackOut.{WriteBackOut}
use Rattle.client_file_tables.specs.Locks as locking
use Rattle.client_file_tables.specs.Rows.{first_call, first_of, less_call, less_of, same_call, same_pid}
use Rattle.client_file_tables.specs.Steps as steps
use Rattle.client_data.specs.Replies as replied
use Rattle.client_data.specs.SyncAnswers as synced
use Rattle.client_data.specs.WriteBacks as written
use Rattle.client_names.specs.Answers as name_answers
use Rattle.client_streams.specs.Closing as closing
use Rattle.client_streams.specs.Moving as moving
use Rattle.client_files.specs.Answered as answering
use Rattle.client_facts.specs.FileFacts.{OneOperationEach, data_holds, does, is_filler}
use Rattle.client_facts.proofs.CostLaws.{none_left}
use Rattle.file_walks.proofs.CallWalks as call_walks
use Rattle.file_walks.proofs.CallWalks.{RunsCall}
use Rattle.file_walks.proofs.CloseWalks as close_walks
use Rattle.file_walks.proofs.DataWalks as data_walks
use Rattle.file_walks.proofs.Muted as muted
use Rattle.file_facts.proofs.BookLaws.{found_each}
use Rattle.lock_facts.proofs.Boards as locked
use Rattle.lock_facts.proofs.Boards.{Fine, board_of}
use Rattle.lock_facts.proofs.BoardLaws as boards
use Rattle.lock_facts.proofs.Desks as queued
use Rattle.lock_facts.proofs.Desks.{Settled, desk_of}
use Rattle.lock_facts.proofs.DeskLaws as desks
use Rattle.lock_facts.proofs.Ranks as ranks
use Rattle.lock_facts.proofs.Ranks.{Ranked}
use Rattle.lock_facts.proofs.RankRuns.{Fills, Holds, Locks, Looks, close_runs, data_runs, idle_out, looks_so, mute, same_place, same_unlocks}

-- Calls at their issue, and answers to name calls

pub call_runs : (pid : ℕ) → RunsCall pid Holds Holds
call_runs pid = record {
  quiet = mute;
  adds = λ s number stream p. on_if (is_placed stream) s (record s { streams = added s.streams pid number stream }) p p;
  dups = λ s fd p. p;
  begins = λ s operation begins leads p. ranks.rank_push s.pending s.fillers (pid, operation) p;
  echoes = λ s work server p. ranks.rank_push s.pending s.fillers _ p;
  broadcasts = λ s work prefix p. ranks.rank_push s.pending s.fillers _ p;
  asks = λ s work server p. ranks.rank_push s.pending s.fillers _ p;
  ends = λ s reply p. p;
  lost = λ s p. p;
}
  where
    on_if : (b : Bool) (s t : ClientFiles) → Holds t → Holds s → Holds (cond b t s)
    on_if true s t p q = p
    on_if false s t p q = q

-- An answer to an operation's own call

module _ (s : ClientFiles) (tx : TxNo) (pid : ℕ) (once : OneOperationEach s) (b : locked.Holds s) (d : queued.Holds s) (r : Holds s) where
  abbrev left : ClientFiles
  left = record s { txs = less_call tx s.txs; pending = less_of pid s.pending }

  none : list_any (is_under same_pid pid) (less_of pid s.pending) ≡ false
  none = none_left pid s.pending once

  -- an operation is put back
  back_again : (operation : Pending) → first_of pid s.pending ≡ Some operation → Holds (steps.keeps pid operation left)
  back_again operation e = ranks.rank_back pid s.pending s.fillers operation none e r

  out_so : (operation : Pending) → first_of pid s.pending ≡ Some operation → is_filler operation ≡ false → Holds left
  out_so operation e idle = idle_out s pid operation e idle r

  fine_of : (call : DataCall) → first_of pid s.pending ≡ Some (operations.Data call) → Fine s.streams.entries s.fillers (pid, operations.Data call)
  fine_of call o = found_each (Fine s.streams.entries s.fillers) pid s.pending (operations.Data call) b.rows o

  board_off : locked.HoldsOff pid left
  board_off = record { sound = boards.taken_out (board_of s) pid b; none = none }

  desk_at : (call : DataCall) → first_of pid s.pending ≡ Some (operations.Data call) → queued.HoldsAt pid call left
  desk_at call o = record { off = record { sound = desks.taken_out (desk_of s) pid d; none = none }; leads = (found_each (Settled s.streams.owners s.lock_waits s.ready) pid s.pending (operations.Data call) d.rows o).leads }

  looks_at : (call : DataCall) → first_of pid s.pending ≡ Some (operations.Data call) → Looks pid call left
  looks_at call o = (board_off, (desk_at call o, (ranks.rank_out pid s.pending s.fillers r, looks_so s left pid call o refl refl (fine_of call o) r)))

  data_heard : (state : DataState) (call : DataCall) (body : ReplyBody) → call.state ≡ state → first_of pid s.pending ≡ Some (operations.Data call) → Holds (replied.answered_in state pid call body left)
  data_heard (states.Fetching t block) call body e o =
      data_walks.fetched pid call (Looks pid call) (Locks pid call) (Locks pid call) (Fills pid call) Holds (data_runs pid call) block body left (looks_at call o)
  data_heard (states.AtServer t) call body e o =
      data_walks.served pid call (Looks pid call) (Locks pid call) (Locks pid call) (Fills pid call) Holds (data_runs pid call) body left (looks_at call o)
      (record { off = board_off; lock = (fine_of call o).lock call.stream (ap (λ (state : DataState). data_holds state call.stream) e) }, (desk_at call o, ranks.rank_out pid s.pending s.fillers r))
      (λ never. back_again (operations.Data call) o)
  data_heard states.WaitLock call body e o = back_again (operations.Data call) o
  data_heard states.Turn call body e o = back_again (operations.Data call) o
  data_heard (states.Room other) call body e o = back_again (operations.Data call) o

  close_heard : (state : CloseState) (work : CloseWork) → first_of pid s.pending ≡ Some (operations.Close work) → Holds (closing.close_answers_by (closing.closed_at_server state) pid work left)
  close_heard closes.WaitLock work o = back_again (operations.Close work) o
  close_heard (closes.Closing t stream) work o =
      close_walks.closes_on pid work.of Holds (λ number. Holds) Holds (close_runs pid work.of) work (locking.unlocks stream left) refl (same_unlocks Ranked left stream (out_so (operations.Close work) o refl))

  move_moved : (state : MoveState) (work : MoveWork) (grant : Option Grant) (many : ℕ) → first_of pid s.pending ≡ Some (operations.Move work) → Holds (moving.move_answers_by (moving.moved_out state) pid work grant many left)
  move_moved moves.WaitLock work grant many o = back_again (operations.Move work) o
  move_moved (moves.MovingOut t kept place) work grant many o = same_unlocks Ranked (moving.shares kept work.stream left) work.stream (shared kept)
    where
      shared : (b : Bool) → Holds (moving.shares b work.stream left)
      shared true = same_place Ranked left work.stream Shared (out_so (operations.Move work) o refl)
      shared false = out_so (operations.Move work) o refl

  move_heard : (body : ReplyBody) (work : MoveWork) → first_of pid s.pending ≡ Some (operations.Move work) → Holds (answering.answers_move pid work body left)
  move_heard (bodies.Moved grant many) work o = move_moved work.state work grant many o
  move_heard body work o = back_again (operations.Move work) o

  heard_by : (o : Option Pending) (source : ℕ) (body : ReplyBody) → first_of pid s.pending ≡ o → Holds (answering.answered_by o pid source body left)
  heard_by None source body o = ranks.rank_idle_out pid s.pending s.fillers (ap (does is_filler) o) r
  heard_by (Some (operations.Name call)) source body o = call_walks.answers_name (λ (other : ℕ). Holds) Holds call_runs call.state pid call.work source body left (out_so (operations.Name call) o refl)
  heard_by (Some (operations.Data call)) source body o = data_heard call.state call body refl o
  heard_by (Some (operations.Sync call)) source body o = back_again (operations.Sync call) o
  heard_by (Some (operations.Close work)) source body o = close_heard work.state work o
  heard_by (Some (operations.Move work)) source body o = move_heard body work o

  taken_by : (c : Bool) (u : ClientFiles) → Holds u → Holds (cond c u (record s { txs = less_call tx s.txs }))
  taken_by true u q = q
  taken_by false u q = r

  heard_for : (source : ℕ) (body : ReplyBody) → Holds (answering.answered_for tx pid source body (record s { txs = less_call tx s.txs }))
  heard_for source body = taken_by (name_answers.takes_end tx (first_of pid s.pending)) (answering.answered_by (first_of pid s.pending) pid source body left) (heard_by (first_of pid s.pending) source body refl)

  ended_by : (o : Option Pending) → first_of pid s.pending ≡ o → Holds (name_answers.gives_up_by pid o left)
  ended_by (Some (operations.Name call)) o = out_so (operations.Name call) o refl
  ended_by (Some (operations.Data call)) o = back_again (operations.Data call) o
  ended_by (Some (operations.Sync call)) o = back_again (operations.Sync call) o
  ended_by (Some (operations.Close work)) o = back_again (operations.Close work) o
  ended_by (Some (operations.Move work)) o = back_again (operations.Move work) o
  ended_by None o = ranks.rank_idle_out pid s.pending s.fillers (ap (does is_filler) o) r

  ended_for : Holds (name_answers.gives_up_on tx pid (record s { txs = less_call tx s.txs }))
  ended_for = taken_by (name_answers.takes_end tx (first_of pid s.pending)) (name_answers.gives_up_by pid (first_of pid s.pending) left) (ended_by (first_of pid s.pending) refl)

heard_first : (o : Option ℕ) (s : ClientFiles) (tx : TxNo) (source : ℕ) (body : ReplyBody) → OneOperationEach s → locked.Holds s → queued.Holds s → Holds s → Holds (answering.answered_first o tx source body (record s { txs = less_call tx s.txs }))
heard_first None s tx source body once b d r = r
heard_first (Some pid) s tx source body once b d r = heard_for s tx pid once b d r source body

ended_first : (o : Option ℕ) (s : ClientFiles) (tx : TxNo) → OneOperationEach s → locked.Holds s → queued.Holds s → Holds s → Holds (name_answers.gives_up_first o tx (record s { txs = less_call tx s.txs }))
ended_first None s tx once b d r = r
ended_first (Some pid) s tx once b d r = ended_for s tx pid once b d r

-- a remote call is given up
pub given_up : (s : ClientFiles) (tx : TxNo) → OneOperationEach s → locked.Holds s → queued.Holds s → Holds s → Holds (name_answers.gives_up tx s)
given_up s tx once b d r = ended_first (first_call tx s.txs) s tx once b d r

-- A write-back is answered

module _ (s : ClientFiles) (pid : ℕ) (once : OneOperationEach s) (r : Holds s) where
  put_back : (operation : Pending) → first_of pid s.pending ≡ Some operation → Holds (steps.keeps pid operation (record s { pending = less_of pid s.pending }))
  put_back operation o = ranks.rank_back pid s.pending s.fillers operation (none_left pid s.pending once) o r

  goes_on_by : (operation : Pending) (body : ReplyBody) → first_of pid s.pending ≡ Some operation → Holds (synced.go_on_by pid operation body (record s { pending = less_of pid s.pending }))
  goes_on_by (operations.Sync call) body o = ranks.rank_push (less_of pid s.pending) s.fillers (pid, operations.Sync (synced.after_answer call body)) (idle_out s pid (operations.Sync call) o refl r)
  goes_on_by (operations.Name call) body o = put_back (operations.Name call) o
  goes_on_by (operations.Data call) body o = put_back (operations.Data call) o
  goes_on_by (operations.Close work) body o = put_back (operations.Close work) o
  goes_on_by (operations.Move work) body o = put_back (operations.Move work) o

  goes_on_first : (o : Option Pending) (body : ReplyBody) → first_of pid s.pending ≡ o → Holds (synced.go_on_first pid o body (record s { pending = less_of pid s.pending }))
  goes_on_first None body o = ranks.rank_idle_out pid s.pending s.fillers (ap (does is_filler) o) r
  goes_on_first (Some operation) body o = goes_on_by operation body o

-- what is so while it is taken in
abbrev Both : ClientFiles → Type 0
Both s = OneOperationEach s × Holds s

mute_both : muted.Mute Both
mute_both = record { caches = λ s cache p. p; delays = λ s rows p. p; tells = λ s event p. p; answers = λ s tx body p. p; learns = λ s domains p. p; cwds = λ s rows p. p; counts = λ s p. p }

sync_heard : (o : Option ℕ) (body : ReplyBody) (s : ClientFiles) → OneOperationEach s → Holds s → Holds (synced.answers_by o body s)
sync_heard None body s once r = r
sync_heard (Some pid) body s once r = goes_on_first s pid once r (first_of pid s.pending) body refl

done_first : (o : Option WriteBackOut) (s : ClientFiles) (tx : TxNo) (body : ReplyBody) → OneOperationEach s → Holds s → Holds (written.done_first tx body o s)
done_first None s tx body once r = r
done_first (Some back) s tx body once r =
    let settled : ClientFiles = written.settles_back body back s in
    let again : ClientFiles = written.lists_again back.file back.block settled in
    let so : Both again = muted.lists_again Both mute_both (dirty_at settled.cache.blocks back.file back.block.0) back.file back.block settled (muted.settles_back Both mute_both body back s (once, r)) in
    sync_heard (first_call tx again.txs) body (record (steps.wakes_all tx again) { txs = less_call tx again.txs }) so.0 so.1

-- an answer comes
pub answered : (s : ClientFiles) (tx : TxNo) (source : ℕ) (body : ReplyBody) → OneOperationEach s → locked.Holds s → queued.Holds s → Holds s → Holds (answering.answered tx source body s)
answered s tx source body once b d r = on_if (list_any (is_under same_call tx) s.write_backs)
  where
    on_if : (c : Bool) → Holds (cond c (written.written_back tx body s) (answering.answered_first (first_call tx s.txs) tx source body (record s { txs = less_call tx s.txs })))
    on_if true = done_first (first_call tx s.write_backs) (record s { write_backs = less_call tx s.write_backs }) tx body once r
    on_if false = heard_first (first_call tx s.txs) s tx source body once b d r

-- Blocks that are due

due_by : (o : Option ℕ) (file : FileId) (block : BlockNo) (s : ClientFiles) → Holds s → Holds (written.due_by o file block s)
due_by (Some number) file block s p = p
due_by None file block s p = p

-- a block that is due goes
pub due_goes : (file : FileId) (block : BlockNo) (s : ClientFiles) → Holds s → Holds (written.due_goes file block s)
due_goes file block s p = due_by (dirty_at s.cache.blocks file block.0) file block s p
