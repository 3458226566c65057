-- Answers to remote calls of the files' side keep that streams of processes that leave move in turn.
use Rattle.std.proofs.Common.{◌≡◌, ℕ, ◌==◌, Bool, true, false, cond, List, [], ◌∷◌, ◌++◌, Option, Some, None, refl, ap, ◌∙◌}
use Rattle.std.specs.List.{list_any}
use Rattle.sprite_ids.specs.declared.Grant.{Grant}
use Rattle.sprite_ids.specs.declared.TxNo.{TxNo}
use Rattle.packet_bodies.specs.declared.ReplyBody.{ReplyBody}
use Rattle.packet_bodies.specs.declared.ReplyBody.TheVariants as bodies
use Rattle.block_cache.specs.Blocks.{dirty_at}
use Rattle.stream_table.specs.declared.Place.TheVariants.{Shared}
use Rattle.stream_table.specs.Entries.{is_placed}
use Rattle.stream_table.specs.Streams.{added, dupped}
use Rattle.kernel_steps.specs.Rows.{is_under}
use Rattle.client_file_tables.specs.declared.client_files.ClientFiles.{ClientFiles}
use Rattle.client_file_tables.specs.declared.moves.ClosingOf.{ClosingOf}
use Rattle.client_file_tables.specs.declared.moves.ClosingOf.TheVariants as closings
use Rattle.client_file_tables.specs.declared.moves.CloseWork.{CloseWork}
use Rattle.client_file_tables.specs.declared.moves.MoveWork.{MoveWork}
use Rattle.client_file_tables.specs.declared.moves.Report.{Report}
use Rattle.client_file_tables.specs.declared.moves.Report.TheVariants as reports
use Rattle.client_file_tables.specs.declared.pending.Pending.{Pending}
use Rattle.client_file_tables.specs.declared.pending.Pending.TheVariants as operations
use Rattle.client_file_tables.specs.declared.states.CloseState.{CloseState}
use Rattle.client_file_tables.specs.declared.states.CloseState.TheVariants as closes
use Rattle.client_file_tables.specs.declared.states.DataState.{DataState}
use Rattle.client_file_tables.specs.declared.states.DataState.TheVariants as states
use Rattle.client_file_tables.specs.declared.states.MoveState.{MoveState}
use Rattle.client_file_tables.specs.declared.states.MoveState.TheVariants as moves
use Rattle.client_file_tables.specs.declared.works.DataCall.{DataCall}
use Rattle.client_file_tables.specs.declared.works.WriteBackOut.{WriteBackOut}
use Rattle.client_file_tables.specs.Fillers as fillers
use Rattle.client_file_tables.specs.Locks as locking
use Rattle.client_file_tables.specs.Rows.{first_call, first_of, less_call, less_of, same_call, same_pid}
use Rattle.client_file_tables.specs.Says as says
use Rattle.client_file_tables.specs.Steps as steps
use Rattle.client_data.specs.Replies as replied
use Rattle.client_data.specs.SyncAnswers as synced
use Rattle.client_data.specs.WriteBacks as written
use Rattle.client_names.specs.Answers as name_answers
use Rattle.client_streams.specs.Closing as closing_of
use Rattle.client_streams.specs.Moving as moving
use Rattle.client_files.specs.Answered as answering
use Rattle.client_homes.specs.declared.client.Leaving.{Leaving}
use Rattle.client_facts.specs.FileFacts.{OneOperationEach}
use Rattle.client_facts.proofs.CostLaws.{none_left}
use Rattle.file_walks.specs.Fits.{begins_so}
use Rattle.file_walks.proofs.CallWalks as call_walks
use Rattle.file_walks.proofs.CallWalks.{RunsCall}
use Rattle.file_walks.proofs.DataWalks as data_walks
use Rattle.file_walks.proofs.DataWalks.{RunsData}
use Rattle.file_walks.proofs.Muted as muted
use Rattle.file_walks.proofs.Muted.{Mute}
use Rattle.lock_facts.proofs.OwnerLaws.{keeps_added, keeps_dupped}
use Rattle.holder_facts.proofs.Lines.{back_by}
use Rattle.move_facts.specs.MoveFacts.{MovesInTurn, is_out, move_in, move_of}
use Rattle.move_facts.proofs.MoveLaws as laws
use Rattle.move_facts.proofs.MoveRuns as runs

-- what begins moves no stream
pub begins_none : (operation : Pending) → begins_so operation ≡ true → move_in (Some operation) ≡ None
begins_none (operations.Name call) e = refl
begins_none (operations.Data call) e = refl
begins_none (operations.Sync call) e = refl
begins_none (operations.Close work) e = refl
begins_none (operations.Move work) e = absurd (cc)

module _ (leaving : List (ℕ × Leaving)) where
  abbrev pub Moves : ClientFiles → Type 0
  Moves s = MovesInTurn leaving s.pending s.streams.owners s.results

  pub mute : Mute Moves
  mute = record { caches = λ s cache p. p; delays = λ s rows p. p; tells = λ s event p. p; answers = λ s tx body p. p; learns = λ s domains p. p; cwds = λ s rows p. p; counts = λ s p. p }

  pub on_if : (b : Bool) (s t : ClientFiles) → Moves s → Moves t → Moves (cond b s t)
  on_if true s t p q = p
  on_if false s t p q = q

  pub keeps : (s : ClientFiles) (pid : ℕ) (operation : Pending) → move_in (Some operation) ≡ None → Moves s → Moves (steps.keeps pid operation s)
  keeps s pid operation e p = laws.pushed leaving s.pending s.streams.owners s.results pid operation e p

  pub reported : (s : ClientFiles) (report : Report) → Moves s → Moves (steps.reports report s)
  reported s report p = laws.told_more leaving s.pending s.streams.owners s.results (s.results ++ report ∷ []) (λ q e. laws.moved_before q s.results (report ∷ []) e) p

  data_runs : (pid : ℕ) (call : DataCall) → RunsData pid call Moves Moves Moves Moves Moves
  data_runs pid call = record {
    quiet = mute;
    held = mute;
    first = mute;
    locks = λ s e p. runs.locks (MovesInTurn leaving) s pid call.stream p;
    waits_lock = λ s e p. keeps (locking.locks pid call.stream s) pid (operations.Data (record call { state = states.WaitLock })) refl (runs.locks (MovesInTurn leaving) s pid call.stream p);
    not_open = λ s e p. keeps s pid (operations.Data (record call { state = states.WaitLock })) refl p;
    places = λ s place p. runs.moves_place (MovesInTurn leaving) s call.stream place p;
    begins_filling = λ s on p. runs.begins_filling (MovesInTurn leaving) s pid p;
    comes_first = λ s e p. p;
    waits_turn = λ s e p. keeps s pid (operations.Data (record call { state = states.Turn })) refl p;
    filled = λ s p. p;
    fetches = λ s block p. keeps s pid (operations.Data (record call { state = states.Fetching s.out.next block })) refl p;
    waits_back = λ s file block tx e p. keeps s pid (operations.Data (record call { state = states.Room tx })) refl p;
    sends_back = λ s file block number p. keeps s pid (operations.Data (record call { state = states.Room s.out.next })) refl p;
    none_dirty = λ s e p. keeps s pid (operations.Data (record call { state = states.Turn })) refl p;
    asks = λ s offset append p.
        let left : ClientFiles = fillers.leaves_filling pid s in
        keeps left pid (operations.Data (record call { state = states.AtServer left.out.next })) refl (runs.leaves_filling (MovesInTurn leaving) s pid p);
    ends = λ s reply p. let given : ClientFiles = says.replies pid reply s in runs.unlocks (MovesInTurn leaving) (fillers.leaves_filling pid given) call.stream (runs.leaves_filling (MovesInTurn leaving) given pid p);
  }

  -- calls that begin, and answers to name calls
  pub call_runs : (pid : ℕ) → RunsCall pid Moves Moves
  call_runs pid = record {
    quiet = mute;
    adds = λ s number stream p. on_if (is_placed stream) (record s { streams = added s.streams pid number stream }) s (laws.owners_more leaving s.pending s.streams.owners (added s.streams pid number stream).owners s.results (keeps_added s.streams pid number stream) p) p;
    dups = λ s fd p. laws.owners_more leaving s.pending s.streams.owners (dupped s.streams pid fd).owners s.results (keeps_dupped s.streams pid fd) p;
    begins = λ s operation begins leads p. keeps s pid operation (begins_none operation begins) p;
    echoes = λ s work server p. laws.pushed leaving s.pending s.streams.owners s.results pid _ refl p;
    broadcasts = λ s work prefix p. laws.pushed leaving s.pending s.streams.owners s.results pid _ refl p;
    asks = λ s work server p. laws.pushed leaving s.pending s.streams.owners s.results pid _ refl p;
    ends = λ s reply p. p;
    lost = λ s p. p;
  }

  closes_rest : (fds : List ℕ) (pid : ℕ) (cause : ClosingOf) (s : ClientFiles) → Moves s → Moves (closing_of.closes_rest fds pid cause s)
  closes_rest [] pid (closings.Call number fd) s p = p
  closes_rest [] pid (closings.End about) s p = reported s (reports.AllClosed pid) p
  closes_rest (fd ∷ fds) pid cause s p = keeps s pid (operations.Close (closing_of.closing cause (fd ∷ fds))) refl p

  module _ (s : ClientFiles) (tx : TxNo) (pid : ℕ) (once : OneOperationEach s) (p : Moves s) where
    abbrev left : ClientFiles
    left = record s { txs = less_call tx s.txs; pending = less_of pid s.pending }

    none : list_any (is_under same_pid pid) (less_of pid s.pending) ≡ false
    none = none_left pid s.pending once

    out : is_out (move_of pid s.pending) ≡ false → Moves left
    out calm = laws.taken_out leaving s.pending s.streams.owners s.results pid none calm p

    idle : (operation : Pending) → move_in (Some operation) ≡ None → first_of pid s.pending ≡ Some operation → Moves left
    idle operation e found = out (ap (λ (o : Option Pending). is_out (move_in o)) found ∙ ap is_out e)

    back : (operation : Pending) → first_of pid s.pending ≡ Some operation → Moves (steps.keeps pid operation left)
    back operation found =
        laws.same_moves leaving s.pending (less_of pid s.pending ++ (pid, operation) ∷ []) s.streams.owners s.results (λ q. ap move_in (back_by q pid s.pending operation (q == pid) refl none found)) p

    data_heard : (state : DataState) (call : DataCall) (body : ReplyBody) → first_of pid s.pending ≡ Some (operations.Data call) → Moves (replied.answered_in state pid call body left)
    data_heard (states.Fetching t block) call body o = data_walks.fetched pid call Moves Moves Moves Moves Moves (data_runs pid call) block body left (idle (operations.Data call) refl o)
    data_heard (states.AtServer t) call body o = data_walks.served pid call Moves Moves Moves Moves Moves (data_runs pid call) body left (idle (operations.Data call) refl o) (idle (operations.Data call) refl o) (λ never. back (operations.Data call) o)
    data_heard states.WaitLock call body o = back (operations.Data call) o
    data_heard states.Turn call body o = back (operations.Data call) o
    data_heard (states.Room other) call body o = back (operations.Data call) o

    close_heard : (state : CloseState) (work : CloseWork) → first_of pid s.pending ≡ Some (operations.Close work) → Moves (closing_of.close_answers_by (closing_of.closed_at_server state) pid work left)
    close_heard closes.WaitLock work o = back (operations.Close work) o
    close_heard (closes.Closing t stream) work o = closes_rest work.fds pid work.of (locking.unlocks stream left) (runs.unlocks (MovesInTurn leaving) left stream (idle (operations.Close work) refl o))

    move_moved : (state : MoveState) (work : MoveWork) (grant : Option Grant) (many : ℕ) → first_of pid s.pending ≡ Some (operations.Move work) → Moves (moving.move_answers_by (moving.moved_out state) pid work grant many left)
    move_moved moves.WaitLock work grant many o = back (operations.Move work) o
    move_moved (moves.MovingOut t kept place) work grant many o =
        runs.unlocks (λ rows owners told. MovesInTurn leaving rows owners (told ++ reports.Moved pid (moving.place_after kept place) grant many ∷ [])) (moving.shares kept work.stream left) work.stream (shared kept)
      where
        gone : MovesInTurn leaving (less_of pid s.pending) s.streams.owners (s.results ++ reports.Moved pid (moving.place_after kept place) grant many ∷ [])
        gone = laws.answered_out leaving s.pending s.streams.owners s.results pid (moving.place_after kept place) grant many none p

        shared : (c : Bool) → runs.At (λ rows owners told. MovesInTurn leaving rows owners (told ++ reports.Moved pid (moving.place_after kept place) grant many ∷ [])) (moving.shares c work.stream left)
        shared true = runs.moves_place (λ rows owners told. MovesInTurn leaving rows owners (told ++ reports.Moved pid (moving.place_after kept place) grant many ∷ [])) left work.stream Shared gone
        shared false = gone

    move_heard : (body : ReplyBody) (work : MoveWork) → first_of pid s.pending ≡ Some (operations.Move work) → Moves (answering.answers_move pid work body left)
    move_heard (bodies.Moved grant many) work o = move_moved work.state work grant many o
    move_heard body work o = back (operations.Move work) o

    heard_by : (o : Option Pending) (source : ℕ) (body : ReplyBody) → first_of pid s.pending ≡ o → Moves (answering.answered_by o pid source body left)
    heard_by None source body o = out (ap (λ (o : Option Pending). is_out (move_in o)) o)
    heard_by (Some (operations.Name call)) source body o = call_walks.answers_name (λ (q : ℕ). Moves) Moves call_runs call.state pid call.work source body left (idle (operations.Name call) refl o)
    heard_by (Some (operations.Data call)) source body o = data_heard call.state call body o
    heard_by (Some (operations.Sync call)) source body o = back (operations.Sync call) o
    heard_by (Some (operations.Close work)) source body o = close_heard work.state work o
    heard_by (Some (operations.Move work)) source body o = move_heard body work o

    heard_for : (source : ℕ) (body : ReplyBody) → Moves (answering.answered_for tx pid source body (record s { txs = less_call tx s.txs }))
    heard_for source body = on_if (name_answers.takes_end tx (first_of pid s.pending)) (answering.answered_by (first_of pid s.pending) pid source body left) (record s { txs = less_call tx s.txs }) (heard_by (first_of pid s.pending) source body refl) p

  heard_first : (o : Option ℕ) (s : ClientFiles) (tx : TxNo) (source : ℕ) (body : ReplyBody) → OneOperationEach s → Moves s → Moves (answering.answered_first o tx source body (record s { txs = less_call tx s.txs }))
  heard_first None s tx source body once p = p
  heard_first (Some pid) s tx source body once p = heard_for s tx pid once p source body

  -- A remote call is given up, or a sync's own write-back was answered

  module _ (s : ClientFiles) (pid : ℕ) (once : OneOperationEach s) (p : Moves s) where
    abbrev out_of : ClientFiles
    out_of = record s { pending = less_of pid s.pending }

    gone : is_out (move_of pid s.pending) ≡ false → Moves out_of
    gone calm = laws.taken_out leaving s.pending s.streams.owners s.results pid (none_left pid s.pending once) calm p

    put_back : (operation : Pending) → first_of pid s.pending ≡ Some operation → Moves (steps.keeps pid operation out_of)
    put_back operation found =
        laws.same_moves leaving s.pending (less_of pid s.pending ++ (pid, operation) ∷ []) s.streams.owners s.results (λ q. ap move_in (back_by q pid s.pending operation (q == pid) refl (none_left pid s.pending once) found)) p

    ended_by : (o : Option Pending) → first_of pid s.pending ≡ o → Moves (name_answers.gives_up_by pid o out_of)
    ended_by (Some (operations.Name call)) o = gone (ap (λ (o : Option Pending). is_out (move_in o)) o)
    ended_by (Some (operations.Data call)) o = put_back (operations.Data call) o
    ended_by (Some (operations.Sync call)) o = put_back (operations.Sync call) o
    ended_by (Some (operations.Close work)) o = put_back (operations.Close work) o
    ended_by (Some (operations.Move work)) o = put_back (operations.Move work) o
    ended_by None o = gone (ap (λ (o : Option Pending). is_out (move_in o)) o)

    goes_on_by : (operation : Pending) (body : ReplyBody) → first_of pid s.pending ≡ Some operation → Moves (synced.go_on_by pid operation body out_of)
    goes_on_by (operations.Sync call) body o = laws.pushed leaving (less_of pid s.pending) s.streams.owners s.results pid (operations.Sync (synced.after_answer call body)) refl (gone (ap (λ (o : Option Pending). is_out (move_in o)) o))
    goes_on_by (operations.Name call) body o = put_back (operations.Name call) o
    goes_on_by (operations.Data call) body o = put_back (operations.Data call) o
    goes_on_by (operations.Close work) body o = put_back (operations.Close work) o
    goes_on_by (operations.Move work) body o = put_back (operations.Move work) o

    goes_on_first : (o : Option Pending) (body : ReplyBody) → first_of pid s.pending ≡ o → Moves (synced.go_on_first pid o body out_of)
    goes_on_first None body o = gone (ap (λ (o : Option Pending). is_out (move_in o)) o)
    goes_on_first (Some operation) body o = goes_on_by operation body o

  ended_first : (o : Option ℕ) (s : ClientFiles) (tx : TxNo) → OneOperationEach s → Moves s → Moves (name_answers.gives_up_first o tx s)
  ended_first None s tx once p = p
  ended_first (Some pid) s tx once p = on_if (name_answers.takes_end tx (first_of pid s.pending)) (name_answers.gives_up_by pid (first_of pid s.pending) (record s { pending = less_of pid s.pending })) s (ended_by s pid once p (first_of pid s.pending) refl) p

  pub given_up : (s : ClientFiles) (tx : TxNo) → OneOperationEach s → Moves s → Moves (name_answers.gives_up tx s)
  given_up s tx once p = ended_first (first_call tx s.txs) (record s { txs = less_call tx s.txs }) tx once p

  abbrev Both : ClientFiles → Type 0
  Both s = (OneOperationEach s) × (Moves s)

  mute_both : Mute Both
  mute_both = record { caches = λ s cache p. p; delays = λ s rows p. p; tells = λ s event p. p; answers = λ s tx body p. p; learns = λ s domains p. p; cwds = λ s rows p. p; counts = λ s p. p }

  sync_heard : (o : Option ℕ) (body : ReplyBody) (s : ClientFiles) → OneOperationEach s → Moves s → Moves (synced.answers_by o body s)
  sync_heard None body s once p = p
  sync_heard (Some pid) body s once p = goes_on_first s pid once p (first_of pid s.pending) body refl

  done_first : (o : Option WriteBackOut) (s : ClientFiles) (tx : TxNo) (body : ReplyBody) → Both s → Moves (written.done_first tx body o s)
  done_first None s tx body p = p.1
  done_first (Some back) s tx body p =
      let settled : ClientFiles = written.settles_back body back s in
      let again : ClientFiles = written.lists_again back.file back.block settled in
      let so : Both again = muted.lists_again Both mute_both (dirty_at settled.cache.blocks back.file back.block.0) back.file back.block settled (muted.settles_back Both mute_both body back s p) in
      sync_heard (first_call tx again.txs) body (record (steps.wakes_all tx again) { txs = less_call tx again.txs }) so.0 so.1

  -- an answer comes
  pub answered : (s : ClientFiles) (tx : TxNo) (source : ℕ) (body : ReplyBody) → OneOperationEach s → Moves s → Moves (answering.answered tx source body s)
  answered s tx source body once p =
      on_if (list_any (is_under same_call tx) s.write_backs) (written.written_back tx body s) (answering.answered_first (first_call tx s.txs) tx source body (record s { txs = less_call tx s.txs }))
      (done_first (first_call tx s.write_backs) (record s { write_backs = less_call tx s.write_backs }) tx body (once, p))
      (heard_first (first_call tx s.txs) s tx source body once p)
