-- Calls of the files' side at their issue, and answers to its remote calls, keep that the first of those that fill goes on.
use Rattle.std.proofs.Common.{◌≡◌, ℕ, nat_lt, Bool, true, false, ◌&&◌, not, cond, Option, Some, None, refl}
use Rattle.std.specs.List.{list_any}
use Rattle.sprite_ids.specs.declared.BlockNo.{BlockNo}
use Rattle.sprite_ids.specs.declared.FileId.{FileId}
use Rattle.sprite_ids.specs.declared.Grant.{Grant}
use Rattle.sprite_ids.specs.declared.TxNo.{TxNo}
use Rattle.packet_bodies.specs.declared.ReplyBody.{ReplyBody}
use Rattle.packet_bodies.specs.declared.ReplyBody.TheVariants as bodies
use Rattle.block_cache.specs.Blocks.{dirty_at}
use Rattle.stream_table.specs.declared.Place.TheVariants.{Shared}
use Rattle.stream_table.specs.Entries.{is_placed}
use Rattle.stream_table.specs.Streams.{added}
use Rattle.kernel_steps.specs.Rows.{is_under}
use Rattle.client_file_tables.specs.declared.client_files.ClientFiles.{ClientFiles}
use Rattle.client_file_tables.specs.declared.moves.CloseWork.{CloseWork}
use Rattle.client_file_tables.specs.declared.moves.MoveWork.{MoveWork}
use Rattle.client_file_tables.specs.declared.pending.Pending.{Pending}
use Rattle.client_file_tables.specs.declared.pending.Pending.TheVariants as operations
use Rattle.client_file_tables.specs.declared.states.CloseState.{CloseState}
use Rattle.client_file_tables.specs.declared.states.CloseState.TheVariants as closes
use Rattle.client_file_tables.specs.declared.states.DataState.{DataState}
use Rattle.client_file_tables.specs.declared.states.DataState.TheVariants as states
use Rattle.client_file_tables.specs.declared.states.MoveState.{MoveState}
use Rattle.client_file_tables.specs.declared.states.MoveState.TheVariants as moves
use Rattle.client_file_tables.specs.declared.works.DataCall.{DataCall}
use Rattle.client_file_tables.specs.declared.works.WriteBackOut.{WriteBackOut}
use Rattle.client_file_tables.specs.Locks as locking
use Rattle.client_file_tables.specs.Rows.{first_call, first_of, less_call, less_of, same_call}
use Rattle.client_file_tables.specs.Steps as steps
use Rattle.client_file_tables.specs.Steps.{woken}
use Rattle.client_data.specs.Replies as replied
use Rattle.client_data.specs.SyncAnswers as synced
use Rattle.client_data.specs.WriteBacks as written
use Rattle.client_names.specs.Answers as name_answers
use Rattle.client_streams.specs.Closing as closing
use Rattle.client_streams.specs.Moving as moving
use Rattle.client_files.specs.Answered as answering
use Rattle.client_facts.specs.FileFacts.{OneOperationEach, is_turn}
use Rattle.client_facts.proofs.CostLaws.{none_left}
use Rattle.file_walks.specs.Fits.{begins_so, data_begins, moved_by}
use Rattle.file_walks.proofs.CallWalks as call_walks
use Rattle.file_walks.proofs.CallWalks.{RunsCall}
use Rattle.file_walks.proofs.CloseWalks as close_walks
use Rattle.file_walks.proofs.DataWalks as data_walks
use Rattle.file_walks.proofs.Muted as muted
use Rattle.fill_facts.proofs.Goes.{goes_back, goes_out, goes_wake, stuck}
use Rattle.fill_facts.proofs.Runs.{First, Holds, Out, close_runs, data_runs, gone, moves_place, mute, no_locks, push, start, unlocks}

-- Calls at their issue, and answers to name calls

begins_idle : (operation : Pending) → begins_so operation ≡ true → stuck operation ≡ false
begins_idle (operations.Name call) e = refl
begins_idle (operations.Data call) e = in_state call.state (not (nat_lt 16384 (moved_by call.kind))) e
  where
    in_state : (state : DataState) (short : Bool) → data_begins state ≡ true → (is_turn state && short) ≡ false
    in_state states.WaitLock short e = refl
    in_state states.Turn short e = absurd (cc)
    in_state (states.Room tx) short e = refl
    in_state (states.Fetching tx block) short e = refl
    in_state (states.AtServer tx) short e = refl
begins_idle (operations.Sync call) e = refl
begins_idle (operations.Close work) e = refl
begins_idle (operations.Move work) e = refl

pub call_runs : (pid : ℕ) → RunsCall pid Holds Holds
call_runs pid = record {
  quiet = mute;
  adds = λ s number stream p. on_if (is_placed stream) s (record s { streams = added s.streams pid number stream }) p p;
  dups = λ s fd p. p;
  begins = λ s operation begins leads p. start s pid operation (begins_idle operation begins) p;
  echoes = λ s work server p. push s (pid, operations.Name _) refl p;
  broadcasts = λ s work prefix p. push s (pid, operations.Name _) refl p;
  asks = λ s work server p. push s (pid, operations.Name _) refl p;
  ends = λ s reply p. p;
  lost = λ s p. p;
}
  where
    on_if : (b : Bool) (s t : ClientFiles) → Holds t → Holds s → Holds (cond b t s)
    on_if true s t p q = p
    on_if false s t p q = q

-- An answer to an operation's own call

module _ (s : ClientFiles) (tx : TxNo) (pid : ℕ) (once : OneOperationEach s) (p : Holds s) where
  abbrev left : ClientFiles
  left = record s { txs = less_call tx s.txs; pending = less_of pid s.pending }

  out : Out pid left
  out = (none_left pid s.pending once, (p.0, goes_out pid s.pending s.fillers s.ready p.1))

  so : Holds left
  so = gone left pid out

  -- an operation is put back
  back_again : (operation : Pending) → first_of pid s.pending ≡ Some operation → Holds (steps.keeps pid operation left)
  back_again operation o = (p.0, goes_back pid s.pending s.fillers s.ready operation (none_left pid s.pending once) o p.1)

  data_heard : (state : DataState) (call : DataCall) (body : ReplyBody) → first_of pid s.pending ≡ Some (operations.Data call) → Holds (replied.answered_in state pid call body left)
  data_heard (states.Fetching t block) call body o = data_walks.fetched pid call (Out pid) (Out pid) (Out pid) (First pid) Holds (data_runs pid call) block body left out
  data_heard (states.AtServer t) call body o = data_walks.served pid call (Out pid) (Out pid) (Out pid) (First pid) Holds (data_runs pid call) body left out out (λ never. back_again (operations.Data call) o)
  data_heard states.WaitLock call body o = back_again (operations.Data call) o
  data_heard states.Turn call body o = back_again (operations.Data call) o
  data_heard (states.Room other) call body o = back_again (operations.Data call) o

  close_heard : (state : CloseState) (work : CloseWork) → first_of pid s.pending ≡ Some (operations.Close work) → Holds (closing.close_answers_by (closing.closed_at_server state) pid work left)
  close_heard closes.WaitLock work o = back_again (operations.Close work) o
  close_heard (closes.Closing t stream) work o = close_walks.closes_on pid work.of Holds (λ number. Holds) Holds (close_runs pid work.of) work (locking.unlocks stream left) refl (unlocks Holds no_locks left stream so)

  move_moved : (state : MoveState) (work : MoveWork) (grant : Option Grant) (many : ℕ) → first_of pid s.pending ≡ Some (operations.Move work) → Holds (moving.move_answers_by (moving.moved_out state) pid work grant many left)
  move_moved moves.WaitLock work grant many o = back_again (operations.Move work) o
  move_moved (moves.MovingOut t kept place) work grant many o = unlocks Holds no_locks (moving.shares kept work.stream left) work.stream (shared kept)
    where
      shared : (b : Bool) → Holds (moving.shares b work.stream left)
      shared true = moves_place Holds no_locks left work.stream Shared so
      shared false = so

  move_heard : (body : ReplyBody) (work : MoveWork) → first_of pid s.pending ≡ Some (operations.Move work) → Holds (answering.answers_move pid work body left)
  move_heard (bodies.Moved grant many) work o = move_moved work.state work grant many o
  move_heard body work o = back_again (operations.Move work) o

  heard_by : (o : Option Pending) (source : ℕ) (body : ReplyBody) → first_of pid s.pending ≡ o → Holds (answering.answered_by o pid source body left)
  heard_by None source body o = so
  heard_by (Some (operations.Name call)) source body o = call_walks.answers_name (λ (other : ℕ). Holds) Holds call_runs call.state pid call.work source body left so
  heard_by (Some (operations.Data call)) source body o = data_heard call.state call body o
  heard_by (Some (operations.Sync call)) source body o = back_again (operations.Sync call) o
  heard_by (Some (operations.Close work)) source body o = close_heard work.state work o
  heard_by (Some (operations.Move work)) source body o = move_heard body work o

  taken_by : (c : Bool) (u : ClientFiles) → Holds u → Holds (cond c u (record s { txs = less_call tx s.txs }))
  taken_by true u q = q
  taken_by false u q = p

  heard_for : (source : ℕ) (body : ReplyBody) → Holds (answering.answered_for tx pid source body (record s { txs = less_call tx s.txs }))
  heard_for source body = taken_by (name_answers.takes_end tx (first_of pid s.pending)) (answering.answered_by (first_of pid s.pending) pid source body left) (heard_by (first_of pid s.pending) source body refl)

  ended_by : (o : Option Pending) → first_of pid s.pending ≡ o → Holds (name_answers.gives_up_by pid o left)
  ended_by (Some (operations.Name call)) o = so
  ended_by (Some (operations.Data call)) o = back_again (operations.Data call) o
  ended_by (Some (operations.Sync call)) o = back_again (operations.Sync call) o
  ended_by (Some (operations.Close work)) o = back_again (operations.Close work) o
  ended_by (Some (operations.Move work)) o = back_again (operations.Move work) o
  ended_by None o = so

  ended_for : Holds (name_answers.gives_up_on tx pid (record s { txs = less_call tx s.txs }))
  ended_for = taken_by (name_answers.takes_end tx (first_of pid s.pending)) (name_answers.gives_up_by pid (first_of pid s.pending) left) (ended_by (first_of pid s.pending) refl)

heard_first : (o : Option ℕ) (s : ClientFiles) (tx : TxNo) (source : ℕ) (body : ReplyBody) → OneOperationEach s → Holds s → Holds (answering.answered_first o tx source body (record s { txs = less_call tx s.txs }))
heard_first None s tx source body once p = p
heard_first (Some pid) s tx source body once p = heard_for s tx pid once p source body

ended_first : (o : Option ℕ) (s : ClientFiles) (tx : TxNo) → OneOperationEach s → Holds s → Holds (name_answers.gives_up_first o tx (record s { txs = less_call tx s.txs }))
ended_first None s tx once p = p
ended_first (Some pid) s tx once p = ended_for s tx pid once p

-- a remote call is given up
pub given_up : (s : ClientFiles) (tx : TxNo) → OneOperationEach s → Holds s → Holds (name_answers.gives_up tx s)
given_up s tx once p = ended_first (first_call tx s.txs) s tx once p

-- A write-back is answered

module _ (s : ClientFiles) (pid : ℕ) (once : OneOperationEach s) (p : Holds s) where
  abbrev rest : ClientFiles
  rest = record s { pending = less_of pid s.pending }

  rest_so : Holds rest
  rest_so = gone rest pid (none_left pid s.pending once, (p.0, goes_out pid s.pending s.fillers s.ready p.1))

  put_back : (operation : Pending) → first_of pid s.pending ≡ Some operation → Holds (steps.keeps pid operation rest)
  put_back operation o = (p.0, goes_back pid s.pending s.fillers s.ready operation (none_left pid s.pending once) o p.1)

  goes_on_by : (operation : Pending) (body : ReplyBody) → first_of pid s.pending ≡ Some operation → Holds (synced.go_on_by pid operation body rest)
  goes_on_by (operations.Sync call) body o = start rest pid (operations.Sync (synced.after_answer call body)) refl rest_so
  goes_on_by (operations.Name call) body o = put_back (operations.Name call) o
  goes_on_by (operations.Data call) body o = put_back (operations.Data call) o
  goes_on_by (operations.Close work) body o = put_back (operations.Close work) o
  goes_on_by (operations.Move work) body o = put_back (operations.Move work) o

  goes_on_first : (o : Option Pending) (body : ReplyBody) → first_of pid s.pending ≡ o → Holds (synced.go_on_first pid o body rest)
  goes_on_first None body o = rest_so
  goes_on_first (Some operation) body o = goes_on_by operation body o

-- what is so while it is taken in
abbrev Both : ClientFiles → Type 0
Both s = OneOperationEach s × Holds s

mute_both : muted.Mute Both
mute_both = record {
  caches = λ s call p. (p.0, mute.caches s call p.1);
  delays = λ s rows p. p;
  tells = λ s event p. p;
  answers = λ s tx body p. p;
  learns = λ s domains p. p;
  cwds = λ s rows p. p;
  counts = λ s p. p;
}

sync_heard : (o : Option ℕ) (body : ReplyBody) (s : ClientFiles) → OneOperationEach s → Holds s → Holds (synced.answers_by o body s)
sync_heard None body s once p = p
sync_heard (Some pid) body s once p = goes_on_first s pid once p (first_of pid s.pending) body refl

done_first : (o : Option WriteBackOut) (s : ClientFiles) (tx : TxNo) (body : ReplyBody) → OneOperationEach s → Holds s → Holds (written.done_first tx body o s)
done_first None s tx body once p = p
done_first (Some back) s tx body once p =
    let settled : ClientFiles = written.settles_back body back s in
    let again : ClientFiles = written.lists_again back.file back.block settled in
    let so : Both again = muted.lists_again Both mute_both (dirty_at settled.cache.blocks back.file back.block.0) back.file back.block settled (muted.settles_back Both mute_both body back s (once, p)) in
    sync_heard (first_call tx again.txs) body (record (steps.wakes_all tx again) { txs = less_call tx again.txs }) so.0 (so.1.0, goes_wake again.pending again.fillers again.ready (woken tx again.pending) so.1.1)

-- an answer comes
pub answered : (s : ClientFiles) (tx : TxNo) (source : ℕ) (body : ReplyBody) → OneOperationEach s → Holds s → Holds (answering.answered tx source body s)
answered s tx source body once p = on_if (list_any (is_under same_call tx) s.write_backs)
  where
    on_if : (c : Bool) → Holds (cond c (written.written_back tx body s) (answering.answered_first (first_call tx s.txs) tx source body (record s { txs = less_call tx s.txs })))
    on_if true = done_first (first_call tx s.write_backs) (record s { write_backs = less_call tx s.write_backs }) tx body once p
    on_if false = heard_first (first_call tx s.txs) s tx source body once p

-- Blocks that are due

due_by : (o : Option ℕ) (file : FileId) (block : BlockNo) (s : ClientFiles) → Holds s → Holds (written.due_by o file block s)
due_by (Some number) file block s p = p
due_by None file block s p = p

-- a block that is due goes
pub due_goes : (file : FileId) (block : BlockNo) (s : ClientFiles) → Holds s → Holds (written.due_goes file block s)
due_goes file block s p = due_by (dirty_at s.cache.blocks file block.0) file block s p
