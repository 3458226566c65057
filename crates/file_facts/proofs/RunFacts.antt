-- Operations of the files' side that run keep the facts of remote calls.
use Rattle.std.proofs.Common.{arith, ◌≡◌, inl, ℕ, zero, suc, ◌==◌, Bool, true, false, ◌&&◌, ◌||◌, cond, List, [], ◌∷◌, ◌++◌, Option, Some, None, option_map, refl, sym, ap, ◌∙◌, subst}
use Rattle.std.proofs.lemmas.Bool.{eq-eqb}
use Rattle.std.specs.List.{find}
use Rattle.sprite_ids.specs.declared.BlockNo.{BlockNo}
use Rattle.sprite_ids.specs.declared.FileId.{FileId}
use Rattle.sprite_ids.specs.declared.TxNo.{TxNo}
use Rattle.sprite_ids.proofs.ListLaws.{some_is}
use Rattle.kernel_steps.specs.Rows.{is_row, is_under}
use Rattle.client_file_tables.specs.declared.client_files.ClientFiles.{ClientFiles}
use Rattle.client_file_tables.specs.declared.moves.CloseWork.{CloseWork}
use Rattle.client_file_tables.specs.declared.moves.ClosingOf.{ClosingOf}
use Rattle.client_file_tables.specs.declared.moves.ClosingOf.TheVariants as closings
use Rattle.client_file_tables.specs.declared.moves.MoveWork.{MoveWork}
use Rattle.client_file_tables.specs.declared.pending.Pending.{Pending}
use Rattle.client_file_tables.specs.declared.pending.Pending.TheVariants as operations
use Rattle.client_file_tables.specs.declared.states.CloseState.{CloseState}
use Rattle.client_file_tables.specs.declared.states.CloseState.TheVariants as closes
use Rattle.client_file_tables.specs.declared.states.DataState.{DataState}
use Rattle.client_file_tables.specs.declared.states.DataState.TheVariants as states
use Rattle.client_file_tables.specs.declared.states.MoveState.{MoveState}
use Rattle.client_file_tables.specs.declared.states.MoveState.TheVariants as moves
use Rattle.client_file_tables.specs.declared.states.SyncState.{SyncState}
use Rattle.client_file_tables.specs.declared.states.SyncState.TheVariants as syncs
use Rattle.client_file_tables.specs.declared.works.DataCall.{DataCall}
use Rattle.client_file_tables.specs.declared.works.WriteBackOut.{WriteBackOut}
use Rattle.stream_table.specs.Entries.{may_be_at}
use Rattle.client_file_tables.specs.Blocks.{state_in}
use Rattle.client_file_tables.specs.Fillers as fillers
use Rattle.client_file_tables.specs.Streams.{stream_at}
use Rattle.client_data.specs.WriteBacks as written
use Rattle.client_file_tables.specs.Locks as locking
use Rattle.client_file_tables.specs.Rows.{first_of, less_of, same_call, same_pid}
use Rattle.client_file_tables.specs.Says as says
use Rattle.client_file_tables.specs.Steps as steps
use Rattle.client_file_tables.specs.WriteBacks.{current_write_back, is_out, out_in}
use Rattle.client_files.specs.Turns as turning
use Rattle.client_streams.specs.Closing as closing
use Rattle.client_streams.specs.Moving as moving
use Rattle.client_facts.specs.FileFacts.{OneOperationEach, move_asks, own_call, waited_write_back}
use Rattle.client_facts.proofs.CostLaws.{Ran, ends_calm, less_once, none_left, once_ran, ran_kept}
use Rattle.client_facts.proofs.DataLaws.{ran_looks}
use Rattle.client_facts.proofs.LockLaws as locks
use Rattle.client_facts.proofs.LockLaws.{SeesNoTurns}
use Rattle.client_facts.proofs.StreamLaws.{ran_close, ran_move, ran_syncs}
use Rattle.client_facts.proofs.CalmLaws.{calm_self}
use Rattle.file_walks.specs.Fits.{begins_so}
use Rattle.file_walks.proofs.CloseWalks as close_walks
use Rattle.file_walks.proofs.CloseWalks.{RunsClose, RunsMove}
use Rattle.file_walks.proofs.DataWalks as data_walks
use Rattle.file_walks.proofs.DataWalks.{RunsData, RunsSync}
use Rattle.file_walks.proofs.Muted.{Mute}
use Rattle.file_facts.specs.CallFacts.{is_sync}
use Rattle.file_facts.proofs.Books.{Book, Fine, Holds, Sound, book_of, has_call, is_back}
use Rattle.file_facts.proofs.BookLaws as books
use Rattle.file_facts.proofs.BookLaws.{any_behind, each_less, expected, found_each, or_left, or_right, sent_back, sent_own}

-- What the facts don't see

pub mute : Mute Holds
mute = record {
  caches = λ s cache p. p;
  delays = λ s rows p. p;
  tells = λ s event p. p;
  answers = λ s tx body p. p;
  learns = λ s domains p. p;
  cwds = λ s rows p. p;
  counts = λ s p. p;
}

pub no_turns : SeesNoTurns Holds
no_turns = record {
  streams = λ s streams p. p;
  waits = λ s rows p. p;
  fillers = λ s pids p. p;
  woken = λ s pid p. books.wakes (book_of s) (pid ∷ []) p;
}

-- Operations that wait for nothing of the wire

-- whether an operation waits neither for a call nor for a write-back
abbrev pub IsFree : Pending → Type 0
IsFree operation = (own_call operation ≡ None) × (waited_write_back operation ≡ None)

pub fine_free : (b : Book) (pid : ℕ) (operation : Pending) → IsFree operation → Fine b (pid, operation)
fine_free b pid operation free = record {
  kept = λ tx e. absurd (let both = sym free.0 ∙ e in cc);
  out = λ tx e. absurd (let both = sym free.1 ∙ e in cc);
  apart = λ tx e f. absurd (let both = sym free.0 ∙ e in cc);
}

pub free_begun : (operation : Pending) → begins_so operation ≡ true → IsFree operation
free_begun (operations.Name call) e = absurd (cc)
free_begun (operations.Data call) e = in_state call.state e
  where
    in_state : (state : DataState) → begins_so (operations.Data (record call { state = state })) ≡ true → IsFree (operations.Data (record call { state = state }))
    in_state states.WaitLock e = (refl, refl)
    in_state states.Turn e = absurd (cc)
    in_state (states.Room tx) e = absurd (cc)
    in_state (states.Fetching tx block) e = absurd (cc)
    in_state (states.AtServer tx) e = absurd (cc)
free_begun (operations.Sync call) e = in_state call.state e
  where
    in_state : (state : SyncState) → begins_so (operations.Sync (record call { state = state })) ≡ true → IsFree (operations.Sync (record call { state = state }))
    in_state syncs.Looking e = (refl, refl)
    in_state (syncs.WaitOther tx) e = absurd (cc)
    in_state (syncs.WaitOwn tx) e = absurd (cc)
free_begun (operations.Close work) e = in_state work.state e
  where
    in_state : (state : CloseState) → begins_so (operations.Close (record work { state = state })) ≡ true → IsFree (operations.Close (record work { state = state }))
    in_state closes.WaitLock e = (refl, refl)
    in_state (closes.Closing tx stream) e = absurd (cc)
free_begun (operations.Move work) e = absurd (cc)

pub kept_free : (s : ClientFiles) (pid : ℕ) (operation : Pending) → IsFree operation → Holds s → Holds (steps.keeps pid operation s)
kept_free s pid operation free p = books.keeps (book_of s) pid operation (fine_free (book_of s) pid operation free) p

pub started_free : (s : ClientFiles) (pid : ℕ) (operation : Pending) → IsFree operation → Holds s → Holds (steps.starts pid operation s)
started_free s pid operation free p = books.wakes (book_of (steps.keeps pid operation s)) (pid ∷ []) (kept_free s pid operation free p)

-- Operations that wait for a call of their own, which goes out

expects_own : (b : Book) (pid : ℕ) → has_call b.next pid (b.asked ++ (b.next, pid) ∷ []) ≡ true
expects_own b pid = any_behind (is_row same_call same_pid b.next pid) b.asked ((b.next, pid) ∷ []) (itself (b.next.0 == b.next.0) (pid == pid) (eq-eqb b.next.0 b.next.0 refl) (eq-eqb pid pid refl))
  where
    itself : (a c : Bool) → a ≡ true → c ≡ true → ((a && c) || false) ≡ true
    itself true true e f = refl
    itself true false e f = absurd (cc)
    itself false c e f = absurd (cc)

fine_expected : (b : Book) (pid : ℕ) (operation : Pending) → own_call operation ≡ Some b.next → waited_write_back operation ≡ None → Sound b → Fine (expected b pid) (pid, operation)
fine_expected b pid operation own none s = record {
  kept = λ tx e. subst (λ (t : TxNo). has_call t pid (b.asked ++ (b.next, pid) ∷ []) ≡ true) (some_is b.next tx (sym own ∙ e)) (expects_own b pid);
  out = λ tx e. absurd (let both = sym none ∙ e in cc);
  apart = λ tx e f. subst (λ (t : TxNo). is_back t b.backs ≡ false) (some_is b.next tx (sym own ∙ e)) (books.none_above b.next b.backs s.back_below);
}

-- a call goes out, for whose answer the operation waits
pub asks_for : (b : Book) (pid : ℕ) (operation : Pending) → own_call operation ≡ Some b.next → waited_write_back operation ≡ None → Sound b → Sound (books.kept_more (expected b pid) pid operation)
asks_for b pid operation own none s = books.keeps (expected b pid) pid operation (fine_expected b pid operation own none s) (books.expects b pid s)

put_out : (b : Book) (sent : WriteBackOut) → is_back b.next (b.backs ++ (b.next, sent) ∷ []) ≡ true
put_out b sent = any_behind (is_under same_call b.next) b.backs ((b.next, sent) ∷ []) (or_left (b.next.0 == b.next.0) false (eq-eqb b.next.0 b.next.0 refl))

fine_own : (b : Book) (sent : WriteBackOut) (pid : ℕ) (operation : Pending) → own_call operation ≡ Some b.next → waited_write_back operation ≡ Some b.next → is_sync operation ≡ true → Fine (sent_own b sent pid) (pid, operation)
fine_own b sent pid operation own waits sync = record {
  kept = λ tx e. subst (λ (t : TxNo). has_call t pid (b.asked ++ (b.next, pid) ∷ []) ≡ true) (some_is b.next tx (sym own ∙ e)) (expects_own b pid);
  out = λ tx e. inl (subst (λ (t : TxNo). is_back t (b.backs ++ (b.next, sent) ∷ []) ≡ true) (some_is b.next tx (sym waits ∙ e)) (put_out b sent));
  apart = λ tx e f. absurd (let both = sym sync ∙ f in cc);
}

-- Write-backs that are waited for

out_if : (file : FileId) (block : BlockNo) (stamp : ℕ) (tx : TxNo) (row : TxNo × WriteBackOut) (rows : List (TxNo × WriteBackOut)) (b : Bool) → (out_in file block stamp rows ≡ Some tx → is_back tx rows ≡ true)
    → option_map (λ (r : TxNo × WriteBackOut). r.0) (cond b (Some row) (find (λ (r : TxNo × WriteBackOut). is_out file block stamp r.1) rows)) ≡ Some tx → is_back tx (row ∷ rows) ≡ true
out_if file block stamp tx row rows true later e = or_left (row.0.0 == tx.0) (is_back tx rows) (eq-eqb row.0.0 tx.0 (ap (λ (t : TxNo). t.0) (some_is row.0 tx e)))
out_if file block stamp tx row rows false later e = or_right (row.0.0 == tx.0) (is_back tx rows) (later e)

out_of : (file : FileId) (block : BlockNo) (stamp : ℕ) (tx : TxNo) (rows : List (TxNo × WriteBackOut)) → out_in file block stamp rows ≡ Some tx → is_back tx rows ≡ true
out_of file block stamp tx [] e = absurd (cc)
out_of file block stamp tx (row ∷ rows) e = out_if file block stamp tx row rows (is_out file block stamp row.1) (out_of file block stamp tx rows) e

fine_waiting : (b : Book) (pid : ℕ) (operation : Pending) (tx : TxNo) → own_call operation ≡ None → waited_write_back operation ≡ Some tx → is_back tx b.backs ≡ true → Fine b (pid, operation)
fine_waiting b pid operation tx none waits out = record {
  kept = λ t e. absurd (let both = sym none ∙ e in cc);
  out = λ t e. inl (subst (λ (n : TxNo). is_back n b.backs ≡ true) (some_is tx t (sym waits ∙ e)) out);
  apart = λ t e f. absurd (let both = sym none ∙ e in cc);
}

waits_out : (s : ClientFiles) (pid : ℕ) (operation : Pending) (file : FileId) (block : BlockNo) (tx : TxNo) → own_call operation ≡ None → waited_write_back operation ≡ Some tx → current_write_back file block s ≡ Some tx → Holds s → Holds (steps.keeps pid operation s)
waits_out s pid operation file block tx none waits current p =
    books.keeps (book_of s) pid operation (fine_waiting (book_of s) pid operation tx none waits (out_of file block (state_in file s).stamp tx s.write_backs current)) p

pub on_if : (b : Bool) (s t : ClientFiles) → Holds s → Holds t → Holds (cond b s t)
on_if true s t p q = p
on_if false s t p q = q

-- Operations on files' data

pub data_runs : (pid : ℕ) (call : DataCall) → RunsData pid call Holds Holds Holds Holds Holds
data_runs pid call = record {
  quiet = mute;
  held = mute;
  first = mute;
  locks = λ s e p. locks.locks Holds no_turns pid call.stream s p;
  waits_lock = λ s e p. kept_free (locking.locks pid call.stream s) pid (operations.Data (record call { state = states.WaitLock })) (refl, refl) (locks.locks Holds no_turns pid call.stream s p);
  not_open = λ s e p. kept_free s pid (operations.Data (record call { state = states.WaitLock })) (refl, refl) p;
  places = λ s place p. on_if (may_be_at place (stream_at call.stream s)) _ s p p;
  begins_filling = λ s on p. locks.begins_filling Holds no_turns pid s p;
  comes_first = λ s e p. p;
  waits_turn = λ s e p. kept_free s pid (operations.Data (record call { state = states.Turn })) (refl, refl) p;
  filled = λ s p. p;
  fetches = λ s block p. asks_for (book_of s) pid (operations.Data (record call { state = states.Fetching s.out.next block })) refl refl p;
  waits_back = λ s file block tx e p. waits_out s pid (operations.Data (record call { state = states.Room tx })) file block tx refl refl e p;
  sends_back = λ s file block number p.
      let sent : WriteBackOut = record { file = file; block = block; stamp = (state_in file s).stamp; number = number } in
      let out : Holds (written.sends_back file block number (Some (says.about_of pid call.number)) s) = books.sends_back (book_of s) sent p in
      books.keeps (sent_back (book_of s) sent) pid (operations.Data (record call { state = states.Room s.out.next })) (fine_waiting (sent_back (book_of s) sent) pid (operations.Data (record call { state = states.Room s.out.next })) s.out.next refl refl (put_out (book_of s) sent)) out;
  none_dirty = λ s e p. kept_free s pid (operations.Data (record call { state = states.Turn })) (refl, refl) p;
  asks = λ s offset append p.
      let left : ClientFiles = fillers.leaves_filling pid s in
      asks_for (book_of left) pid (operations.Data (record call { state = states.AtServer left.out.next })) refl refl (locks.leaves_filling Holds no_turns pid s p);
  ends = λ s reply p. locks.unlocks Holds no_turns call.stream (fillers.leaves_filling pid (says.replies pid reply s)) (locks.leaves_filling Holds no_turns pid (says.replies pid reply s) p);
}

-- Syncs

pub sync_runs : (pid : ℕ) → RunsSync pid Holds Holds
sync_runs pid = record {
  quiet = mute;
  stays = λ s call p. kept_free s pid (operations.Sync (record call { state = syncs.Looking })) (refl, refl) p;
  waits_other = λ s call block tx e p. waits_out s pid (operations.Sync (record call { state = syncs.WaitOther tx })) call.file block tx refl refl e p;
  sends_own = λ s call block number p.
      let sent : WriteBackOut = record { file = call.file; block = block; stamp = (state_in call.file s).stamp; number = number } in
      books.keeps (sent_own (book_of s) sent pid) pid (operations.Sync (record call { state = syncs.WaitOwn s.out.next })) (fine_own (book_of s) sent pid (operations.Sync (record call { state = syncs.WaitOwn s.out.next })) refl refl refl) (books.sends_own (book_of s) sent pid p);
  ends = λ s reply p. p;
}

-- Closes

close_ends : (cause : ClosingOf) (pid : ℕ) (s : ClientFiles) → Holds s → Holds (closing.ends_closing pid cause s)
close_ends (closings.Call number fd) pid s p = p
close_ends (closings.End about) pid s p = p

pub close_runs : (pid : ℕ) (cause : ClosingOf) → RunsClose pid cause Holds (λ number. Holds) Holds
close_runs pid cause = record {
  quiet = mute;
  held = λ number. mute;
  locks = λ s number e p. locks.locks Holds no_turns pid number s p;
  waits_lock = λ s fds fd number f d e p. kept_free (locking.locks pid number s) pid (operations.Close (closing.closing cause fds)) (refl, refl) (locks.locks Holds no_turns pid number s p);
  drops = λ s fd p. p;
  drops_held = λ s fd number p. p;
  frees = λ s number p. locks.unlocks Holds no_turns number s p;
  asks = λ s work number file many e p. asks_for (book_of s) pid (operations.Close (record work { state = closes.Closing s.out.next number })) refl refl p;
  goes_on = λ s fds p. started_free s pid (operations.Close (closing.closing cause fds)) (refl, refl) p;
  tells = λ s device p. p;
  ends = λ s p. close_ends cause pid s p;
}

-- Moves

pub move_runs : (pid : ℕ) (work : MoveWork) → work.state ≡ moves.WaitLock → RunsMove pid work Holds Holds Holds
move_runs pid work w = record {
  locks = λ s e p. locks.locks Holds no_turns pid work.stream s p;
  waits_lock = λ s e p. kept_free (locking.locks pid work.stream s) pid (operations.Move work) (ap move_asks w, refl) (locks.locks Holds no_turns pid work.stream s p);
  drops = λ s fd p. p;
  drops_held = λ s fd p. p;
  asks = λ s stream file kept p. asks_for (book_of s) pid (operations.Move (moving.moving_out work kept stream.place s)) refl refl p;
  moved = λ s place p. p;
  lost = λ s p. p;
}

-- One turn

-- an operation that waits for an answer is put back as it was
pub put_back : (s : ClientFiles) (pid : ℕ) (operation : Pending) → Fine (book_of s) (pid, operation) → Holds s → Holds (steps.keeps pid operation s)
put_back s pid operation fine p = books.keeps (book_of s) pid operation fine p

ran_close_by : (state : CloseState) (pid : ℕ) (work : CloseWork) (s : ClientFiles) → work.state ≡ state → Fine (book_of s) (pid, operations.Close work) → Holds s → Holds (closing.runs_close_by state pid work s)
ran_close_by closes.WaitLock pid work s e fine p =
    subst (λ (state : CloseState). Holds (closing.closes_next pid (record work { state = state }) s)) (sym e) (close_walks.runs_close pid work.of Holds (λ number. Holds) Holds (close_runs pid work.of) work.fds s p)
ran_close_by (closes.Closing tx stream) pid work s e fine p = put_back s pid (operations.Close work) fine p

ran_move_by : (state : MoveState) (pid : ℕ) (work : MoveWork) (s : ClientFiles) → work.state ≡ state → Fine (book_of s) (pid, operations.Move work) → Holds s → Holds (moving.runs_move_by state pid work s)
ran_move_by moves.WaitLock pid work s e fine p = close_walks.runs_move pid work Holds Holds Holds (move_runs pid work e) s p
ran_move_by (moves.MovingOut tx kept place) pid work s e fine p = put_back s pid (operations.Move work) fine p

-- an operation that was taken out runs; where it waits for no write-back its call is kept
ran : (operation : Pending) (pid : ℕ) (s : ClientFiles) → (waited_write_back operation ≡ None → Fine (book_of s) (pid, operation)) → Holds s → Holds (turning.runs_by (Some operation) pid s)
ran (operations.Name call) pid s fine p = put_back s pid (operations.Name call) (fine refl) p
ran (operations.Data call) pid s fine p = data_walks.looks pid call Holds Holds Holds Holds Holds (data_runs pid call) s p
ran (operations.Sync call) pid s fine p = data_walks.syncs pid Holds Holds (sync_runs pid) call s p
ran (operations.Close work) pid s fine p = ran_close_by work.state pid work s refl (fine refl) p
ran (operations.Move work) pid s fine p = ran_move_by work.state pid work s refl (fine refl) p

-- who waits for no write-back needn't be woken
fine_unwoken : (b : Book) (rows : List (ℕ × Pending)) (pids : List ℕ) (row : ℕ × Pending) → waited_write_back row.1 ≡ None → Fine b row → Fine (record b { rows = rows; ready = pids }) row
fine_unwoken b rows pids row none fine = record { kept = fine.kept; out = λ tx e. absurd (let both = sym none ∙ e in cc); apart = fine.apart }

-- One operation each, behind a turn

ran_so : (operation : Pending) (pid : ℕ) (s : ClientFiles) → Ran pid operation s (turning.runs_by (Some operation) pid s)
ran_so (operations.Data call) pid s = ran_looks pid call s
ran_so (operations.Sync call) pid s = ran_syncs pid call s
ran_so (operations.Close work) pid s = ran_close pid work s
ran_so (operations.Move work) pid s = ran_move pid work s
ran_so (operations.Name call) pid s = (let same = ends_calm pid s s (calm_self s) in ran_kept pid 0 (operations.Name call) (operations.Name call) s s same (omega arith) (λ h. h))

pub once_turned : (o : Option Pending) (pid : ℕ) (pids : List ℕ) (s : ClientFiles) → OneOperationEach s → OneOperationEach (turning.runs_by o pid (record s { ready = pids; pending = less_of pid s.pending }))
once_turned None pid pids s once = less_once _ _ s.pending once
once_turned (Some operation) pid pids s once =
    let left : ClientFiles = record s { ready = pids; pending = less_of pid s.pending } in
    once_ran pid operation left _ (ran_so operation pid left) (none_left pid s.pending once) (less_once _ _ s.pending once)

-- Turns

-- what is left without the operation that runs
left_so : (pid : ℕ) (pids : List ℕ) (s : ClientFiles) → s.ready ≡ pid ∷ pids → OneOperationEach s → Holds s → Holds (record s { ready = pids; pending = less_of pid s.pending })
left_so pid pids s e once p = books.looks (book_of s) pid pids (less_of pid s.pending) e (none_left pid s.pending once) (each_less (Fine (book_of s)) (is_under same_pid pid) s.pending p.rows) p

turned_at : (o : Option Pending) (pid : ℕ) (pids : List ℕ) (s : ClientFiles) → s.ready ≡ pid ∷ pids → OneOperationEach s → first_of pid s.pending ≡ o → Holds s → Holds (turning.runs_by o pid (record s { ready = pids; pending = less_of pid s.pending }))
turned_at None pid pids s e once found p = left_so pid pids s e once p
turned_at (Some operation) pid pids s e once found p =
    ran operation pid (record s { ready = pids; pending = less_of pid s.pending })
    (λ none. fine_unwoken (book_of s) (less_of pid s.pending) pids (pid, operation) none (found_each (Fine (book_of s)) pid s.pending operation p.rows found))
    (left_so pid pids s e once p)

pub record Turned (s : ClientFiles) : Type 0 where
  pub once : OneOperationEach s
  pub holds : Holds s

turned_by : (pids : List ℕ) (s : ClientFiles) → s.ready ≡ pids → Turned s → Turned (turning.turned_by pids s)
turned_by [] s e turned = turned
turned_by (pid ∷ pids) s e turned = record {
  once = once_turned (first_of pid s.pending) pid pids s turned.once;
  holds = turned_at (first_of pid s.pending) pid pids s e turned.once refl turned.holds;
}

pub turns : (count : ℕ) (s : ClientFiles) → Turned s → Turned (turning.turns count s)
turns zero s turned = turned
turns (suc count) s turned = let before : ClientFiles = turning.turns count s in turned_by before.ready before refl (turns count s turned)

-- who is woken goes on
pub going_on_keeps : (s : ClientFiles) → OneOperationEach s → Holds s → Holds (turning.goes_on s)
going_on_keeps s once p = (turns (turning.turns_for s) s (record { once = once; holds = p })).holds
