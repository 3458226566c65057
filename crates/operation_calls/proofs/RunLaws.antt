-- Operations of the files' side that run, for any fact of its remote calls.
use Rattle.std.proofs.Common.{◌≡◌, ℕ, zero, suc, Bool, true, false, cond, List, [], ◌∷◌, Option, Some, None, refl, sym, ap, subst}
use Rattle.stream_table.specs.Entries.{may_be_at}
use Rattle.kernel_steps.specs.declared.Sending.{Sending}
use Rattle.client_file_tables.specs.declared.client_files.ClientFiles.{ClientFiles}
use Rattle.client_file_tables.specs.declared.moves.CloseWork.{CloseWork}
use Rattle.client_file_tables.specs.declared.moves.ClosingOf.{ClosingOf}
use Rattle.client_file_tables.specs.declared.moves.ClosingOf.TheVariants as closings
use Rattle.client_file_tables.specs.declared.moves.MoveWork.{MoveWork}
use Rattle.client_file_tables.specs.declared.works.DataCall.{DataCall}
use Rattle.client_file_tables.specs.declared.names.NameKind.{NameKind}
use Rattle.client_file_tables.specs.declared.names.NameKind.TheVariants as kinds
use Rattle.client_file_tables.specs.declared.names.NameWork.{NameWork}
use Rattle.client_file_tables.specs.declared.pending.Pending.{Pending}
use Rattle.client_file_tables.specs.declared.pending.Pending.TheVariants as operations
use Rattle.client_file_tables.specs.declared.states.CloseState.{CloseState}
use Rattle.client_file_tables.specs.declared.states.CloseState.TheVariants as closes
use Rattle.client_file_tables.specs.declared.states.DataState.TheVariants as states
use Rattle.client_file_tables.specs.declared.states.MoveState.{MoveState}
use Rattle.client_file_tables.specs.declared.states.MoveState.TheVariants as moves
use Rattle.client_file_tables.specs.declared.states.NameState.TheVariants as names
use Rattle.client_file_tables.specs.declared.states.SyncState.TheVariants as syncs
use Rattle.client_file_tables.specs.declared.works.WriteBackOut.{WriteBackOut}
use Rattle.client_file_tables.specs.Blocks.{state_in}
use Rattle.client_file_tables.specs.Fillers as fillers
use Rattle.client_file_tables.specs.Locks as locking
use Rattle.client_file_tables.specs.Rows.{first_of, less_of}
use Rattle.client_file_tables.specs.Says as says
use Rattle.client_file_tables.specs.Steps as steps
use Rattle.client_file_tables.specs.Streams.{stream_at}
use Rattle.client_data.specs.Filling as filling
use Rattle.client_data.specs.ServerOps as server_ops
use Rattle.client_data.specs.WriteBacks as written
use Rattle.client_files.specs.Turns as turning
use Rattle.client_names.specs.Requests as name_requests
use Rattle.client_streams.specs.Closing as closing
use Rattle.client_streams.specs.Moving as moving
use Rattle.client_facts.specs.FileFacts.{move_asks, own_call}
use Rattle.client_facts.proofs.LockLaws as locks
use Rattle.client_facts.proofs.LockLaws.{SeesNoTurns}
use Rattle.file_walks.proofs.CallWalks.{RunsCall}
use Rattle.file_walks.proofs.CloseWalks as close_walks
use Rattle.file_walks.proofs.CloseWalks.{RunsClose, RunsMove}
use Rattle.file_walks.proofs.DataWalks as data_walks
use Rattle.file_walks.proofs.DataWalks.{RunsData, RunsSync}
use Rattle.file_walks.proofs.Muted.{Mute}
use Rattle.file_facts.proofs.RunFacts.{free_begun}
use Rattle.operation_calls.specs.Requests.{is_name_call}
use Rattle.operation_calls.proofs.Books.{Bears, Book, book_of}

-- what is asked of the server of a name call is what is called
pub asked_by : (kind : NameKind) (pid : ℕ) (work : NameWork) → is_name_call kind (name_requests.request_by kind pid work) ≡ true
asked_by (kinds.Open flags stream fd) pid work = refl
asked_by (kinds.Make device stream fd) pid work = refl
asked_by (kinds.Name op second max) pid work = refl

module _ (P : Book → Type 0) (Row : List Sending → ℕ × Pending → Type 0) (bears : Bears P Row) where
  abbrev pub Holds : ClientFiles → Type 0
  Holds s = P (book_of s)

  abbrev pub RowSo : ClientFiles → ℕ × Pending → Type 0
  RowSo s row = Row s.out.sends row

  pub mute : Mute Holds
  mute = record {
    caches = λ s cache p. p;
    delays = λ s rows p. p;
    tells = λ s event p. p;
    answers = λ s tx body p. p;
    learns = λ s domains p. p;
    cwds = λ s rows p. p;
    counts = λ s p. p;
  }

  pub no_turns : SeesNoTurns Holds
  no_turns = record {
    streams = λ s streams p. p;
    waits = λ s rows p. p;
    fillers = λ s pids p. p;
    woken = λ s pid p. p;
  }

  pub on_if : (b : Bool) (s t : ClientFiles) → Holds s → Holds t → Holds (cond b s t)
  on_if true s t p q = p
  on_if false s t p q = q

  pub kept_free : (s : ClientFiles) (pid : ℕ) (operation : Pending) → own_call operation ≡ None → Holds s → Holds (steps.keeps pid operation s)
  kept_free s pid operation none p = bears.keeps pid operation (book_of s) (bears.free pid operation s.out.sends none) p

  pub put_back : (s : ClientFiles) (pid : ℕ) (operation : Pending) → RowSo s (pid, operation) → Holds s → Holds (steps.keeps pid operation s)
  put_back s pid operation so p = bears.keeps pid operation (book_of s) so p

  -- Operations on files' data

  pub data_runs : (pid : ℕ) (call : DataCall) → RunsData pid call Holds Holds Holds Holds Holds
  data_runs pid call = record {
    quiet = mute;
    held = mute;
    first = mute;
    locks = λ s e p. locks.locks Holds no_turns pid call.stream s p;
    waits_lock = λ s e p. kept_free (locking.locks pid call.stream s) pid (operations.Data (record call { state = states.WaitLock })) refl (locks.locks Holds no_turns pid call.stream s p);
    not_open = λ s e p. kept_free s pid (operations.Data (record call { state = states.WaitLock })) refl p;
    places = λ s place p. on_if (may_be_at place (stream_at call.stream s)) _ s p p;
    begins_filling = λ s on p. locks.begins_filling Holds no_turns pid s p;
    comes_first = λ s e p. p;
    waits_turn = λ s e p. kept_free s pid (operations.Data (record call { state = states.Turn })) refl p;
    filled = λ s p. p;
    fetches = λ s block p. bears.asks_for (filling.fetch_sending pid call block s) pid (operations.Data (record call { state = states.Fetching s.out.next block })) (book_of s) refl refl refl refl p;
    waits_back = λ s file block tx e p. kept_free s pid (operations.Data (record call { state = states.Room tx })) refl p;
    sends_back = λ s file block number p.
        let back : WriteBackOut = record { file = file; block = block; stamp = (state_in file s).stamp; number = number } in
        let out : Holds (written.sends_back file block number (Some (says.about_of pid call.number)) s) = bears.goes_back (written.write_back_sending file block (Some (says.about_of pid call.number)) s) back (book_of s) refl refl refl p in
        kept_free (written.sends_back file block number (Some (says.about_of pid call.number)) s) pid (operations.Data (record call { state = states.Room s.out.next })) refl out;
    none_dirty = λ s e p. kept_free s pid (operations.Data (record call { state = states.Turn })) refl p;
    asks = λ s offset append p.
        let left : ClientFiles = fillers.leaves_filling pid s in
        bears.asks_for (server_ops.op_sending pid call offset append left) pid (operations.Data (record call { state = states.AtServer left.out.next })) (book_of left) refl refl refl refl (locks.leaves_filling Holds no_turns pid s p);
    ends = λ s reply p. locks.unlocks Holds no_turns call.stream (fillers.leaves_filling pid (says.replies pid reply s)) (locks.leaves_filling Holds no_turns pid (says.replies pid reply s) p);
  }

  -- Syncs

  pub sync_runs : (pid : ℕ) → RunsSync pid Holds Holds
  sync_runs pid = record {
    quiet = mute;
    stays = λ s call p. kept_free s pid (operations.Sync (record call { state = syncs.Looking })) refl p;
    waits_other = λ s call block tx e p. kept_free s pid (operations.Sync (record call { state = syncs.WaitOther tx })) refl p;
    sends_own = λ s call block number p.
        let back : WriteBackOut = record { file = call.file; block = block; stamp = (state_in call.file s).stamp; number = number } in
        bears.goes_own (written.write_back_sending call.file block (Some (says.about_of pid call.number)) s) back pid (operations.Sync (record call { state = syncs.WaitOwn s.out.next })) (book_of s) refl refl refl refl refl refl refl p;
    ends = λ s reply p. p;
  }

  -- Closes

  close_ends : (cause : ClosingOf) (pid : ℕ) (s : ClientFiles) → Holds s → Holds (closing.ends_closing pid cause s)
  close_ends (closings.Call number fd) pid s p = p
  close_ends (closings.End about) pid s p = p

  pub close_runs : (pid : ℕ) (cause : ClosingOf) → RunsClose pid cause Holds (λ number. Holds) Holds
  close_runs pid cause = record {
    quiet = mute;
    held = λ number. mute;
    locks = λ s number e p. locks.locks Holds no_turns pid number s p;
    waits_lock = λ s fds fd number f d e p. kept_free (locking.locks pid number s) pid (operations.Close (closing.closing cause fds)) refl (locks.locks Holds no_turns pid number s p);
    drops = λ s fd p. p;
    drops_held = λ s fd number p. p;
    frees = λ s number p. locks.unlocks Holds no_turns number s p;
    asks = λ s work number file many e p. bears.asks_for (closing.close_to pid work.of number file many) pid (operations.Close (record work { state = closes.Closing s.out.next number })) (book_of s) refl refl refl tt p;
    goes_on = λ s fds p. kept_free s pid (operations.Close (closing.closing cause fds)) refl p;
    tells = λ s device p. p;
    ends = λ s p. close_ends cause pid s p;
  }

  -- Moves

  pub move_runs : (pid : ℕ) (work : MoveWork) → work.state ≡ moves.WaitLock → RunsMove pid work Holds Holds Holds
  move_runs pid work w = record {
    locks = λ s e p. locks.locks Holds no_turns pid work.stream s p;
    waits_lock = λ s e p. kept_free (locking.locks pid work.stream s) pid (operations.Move work) (ap move_asks w) (locks.locks Holds no_turns pid work.stream s p);
    drops = λ s fd p. p;
    drops_held = λ s fd p. p;
    asks = λ s stream file kept p. bears.asks_for (moving.move_to work stream file kept) pid (operations.Move (moving.moving_out work kept stream.place s)) (book_of s) refl refl refl tt p;
    moved = λ s place p. p;
    lost = λ s p. p;
  }

  -- Calls at their issue, and name calls

  pub call_runs : (pid : ℕ) → RunsCall pid Holds Holds
  call_runs pid = record {
    quiet = mute;
    adds = λ s number stream p. on_if _ _ s p p;
    dups = λ s fd p. p;
    begins = λ s operation begins leads p. kept_free s pid operation (free_begun operation begins).0 p;
    echoes = λ s work server p. bears.asks_for (name_requests.echo_to server pid work) pid (operations.Name (record { work = work; state = names.Echoing s.out.next server })) (book_of s) refl refl refl refl p;
    broadcasts = λ s work prefix p. bears.asks_for (name_requests.broadcast_of pid work prefix s) pid (operations.Name (record { work = work; state = names.Broadcasting s.out.next prefix })) (book_of s) refl refl refl tt p;
    asks = λ s work server p. bears.asks_for (name_requests.request_to server pid work) pid (operations.Name (record { work = work; state = names.Asking s.out.next })) (book_of s) refl (asked_by work.kind pid work) refl tt p;
    ends = λ s reply p. p;
    lost = λ s p. p;
  }

  -- One turn

  ran_close_by : (state : CloseState) (pid : ℕ) (work : CloseWork) (s : ClientFiles) → work.state ≡ state → RowSo s (pid, operations.Close work) → Holds s → Holds (closing.runs_close_by state pid work s)
  ran_close_by closes.WaitLock pid work s e so p =
      subst (λ (state : CloseState). Holds (closing.closes_next pid (record work { state = state }) s)) (sym e) (close_walks.runs_close pid work.of Holds (λ number. Holds) Holds (close_runs pid work.of) work.fds s p)
  ran_close_by (closes.Closing tx stream) pid work s e so p = put_back s pid (operations.Close work) so p

  ran_move_by : (state : MoveState) (pid : ℕ) (work : MoveWork) (s : ClientFiles) → work.state ≡ state → RowSo s (pid, operations.Move work) → Holds s → Holds (moving.runs_move_by state pid work s)
  ran_move_by moves.WaitLock pid work s e so p = close_walks.runs_move pid work Holds Holds Holds (move_runs pid work e) s p
  ran_move_by (moves.MovingOut tx kept place) pid work s e so p = put_back s pid (operations.Move work) so p

  ran : (operation : Pending) (pid : ℕ) (s : ClientFiles) → RowSo s (pid, operation) → Holds s → Holds (turning.runs_by (Some operation) pid s)
  ran (operations.Name call) pid s so p = put_back s pid (operations.Name call) so p
  ran (operations.Data call) pid s so p = data_walks.looks pid call Holds Holds Holds Holds Holds (data_runs pid call) s p
  ran (operations.Sync call) pid s so p = data_walks.syncs pid Holds Holds (sync_runs pid) call s p
  ran (operations.Close work) pid s so p = ran_close_by work.state pid work s refl so p
  ran (operations.Move work) pid s so p = ran_move_by work.state pid work s refl so p

  -- Turns

  pub without : (pid : ℕ) (s : ClientFiles) → Holds s → Holds (record s { pending = less_of pid s.pending })
  without pid s p = bears.left pid (book_of s) p

  turned_at : (o : Option Pending) (pid : ℕ) (pids : List ℕ) (s : ClientFiles) → first_of pid s.pending ≡ o → Holds s → Holds (turning.runs_by o pid (record s { ready = pids; pending = less_of pid s.pending }))
  turned_at None pid pids s found p = without pid s p
  turned_at (Some operation) pid pids s found p =
      ran operation pid (record s { ready = pids; pending = less_of pid s.pending }) (bears.found pid operation (book_of s) found p) (without pid s p)

  turned_by : (pids : List ℕ) (s : ClientFiles) → Holds s → Holds (turning.turned_by pids s)
  turned_by [] s p = p
  turned_by (pid ∷ pids) s p = turned_at (first_of pid s.pending) pid pids s refl p

  turns : (count : ℕ) (s : ClientFiles) → Holds s → Holds (turning.turns count s)
  turns zero s p = p
  turns (suc count) s p = let before : ClientFiles = turning.turns count s in turned_by before.ready before (turns count s p)

  -- who is woken goes on
  pub goes_on : (s : ClientFiles) → Holds s → Holds (turning.goes_on s)
  goes_on s p = turns (turning.turns_for s) s p
