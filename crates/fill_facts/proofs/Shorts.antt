-- Each step of a client's kernel keeps that no operation of its files' side moves more bytes than a program's call may.
use Rattle.std.proofs.Common.{arith, ◌≡◌, ℕ, zero, suc, ◌≤◌, nat_lt, Bool, true, false, not, cond, List, [], ◌∷◌, ◌++◌, Option, Some, None, option_map, refl, sym, ap, subst}
use Rattle.std.proofs.lemmas.Bool.{and_from, and_parts, ltb-false, le-ltb}
use Rattle.std.specs.List.{AllByRecursion, list_all, list_any}
use Rattle.sprite_ids.specs.declared.BlockNo.{BlockNo}
use Rattle.sprite_ids.specs.declared.FileId.{FileId}
use Rattle.sprite_ids.specs.declared.Grant.{Grant}
use Rattle.sprite_ids.specs.declared.TxNo.{TxNo}
use Rattle.sprite_ids.proofs.ListLaws.{each_push}
use Rattle.packet_bodies.specs.declared.ReplyBody.{ReplyBody}
use Rattle.packet_bodies.specs.declared.ReplyBody.TheVariants as bodies
use Rattle.process_machine.specs.declared.Call.{Call}
use Rattle.process_machine.specs.declared.Call.TheVariants as calls
use Rattle.process_machine.specs.Limits.{IsWithinLimits}
use Rattle.process_machine.specs.Machine.{Machine}
use Rattle.kernel_steps.specs.declared.Input.{Input}
use Rattle.kernel_steps.specs.Rows.{is_under}
use Rattle.block_cache.specs.Blocks.{dirty_at}
use Rattle.stream_table.specs.declared.Place.TheVariants.{Shared}
use Rattle.stream_table.specs.Entries.{is_placed, may_be_at}
use Rattle.stream_table.specs.Streams.{added}
use Rattle.unix_calls.specs.declared.Description.{Description}
use Rattle.client_file_tables.specs.declared.client_files.ClientFiles.{ClientFiles}
use Rattle.client_file_tables.specs.declared.moves.ClosingOf.{ClosingOf}
use Rattle.client_file_tables.specs.declared.moves.ClosingOf.TheVariants as closings
use Rattle.client_file_tables.specs.declared.moves.CloseWork.{CloseWork}
use Rattle.client_file_tables.specs.declared.moves.MoveWork.{MoveWork}
use Rattle.client_file_tables.specs.declared.pending.Pending.{Pending}
use Rattle.client_file_tables.specs.declared.pending.Pending.TheVariants as operations
use Rattle.client_file_tables.specs.declared.states.CloseState.{CloseState}
use Rattle.client_file_tables.specs.declared.states.CloseState.TheVariants as closes
use Rattle.client_file_tables.specs.declared.states.DataState.{DataState}
use Rattle.client_file_tables.specs.declared.states.DataState.TheVariants as states
use Rattle.client_file_tables.specs.declared.states.MoveState.{MoveState}
use Rattle.client_file_tables.specs.declared.states.MoveState.TheVariants as moves
use Rattle.client_file_tables.specs.declared.works.DataCall.{DataCall}
use Rattle.client_file_tables.specs.declared.works.WriteBackOut.{WriteBackOut}
use Rattle.client_file_tables.specs.Closes as file_closes
use Rattle.client_file_tables.specs.Locks as locking
use Rattle.client_file_tables.specs.Rows.{first_call, first_of, less_call, less_of, same_call, same_pid}
use Rattle.client_file_tables.specs.Says as says
use Rattle.client_file_tables.specs.Steps as steps
use Rattle.client_file_tables.specs.Streams.{stream_at}
use Rattle.client_file_tables.specs.Fillers as fillers
use Rattle.client_data.specs.Replies as replied
use Rattle.client_data.specs.SyncAnswers as synced
use Rattle.client_data.specs.WriteBacks as written
use Rattle.client_names.specs.Answers as name_answers
use Rattle.client_streams.specs.Closing as closing
use Rattle.client_streams.specs.Moving as moving
use Rattle.client_files.specs.Answered as answering
use Rattle.client_files.specs.Turns as turning
use Rattle.client_homes.specs.declared.client.ClientProcs.{ClientProcs}
use Rattle.client_homes.specs.declared.process.Proc.{Proc}
use Rattle.client_homes.specs.Procs as procs_of
use Rattle.client_homes.specs.Procs.{proc_at}
use Rattle.client_procs.specs.Boot.{boots}
use Rattle.client_procs.specs.Readers.{with_image}
use Rattle.client_procs.specs.Steps as stepping
use Rattle.client_procs.specs.Steps.{client_step}
use Rattle.client_procs.specs.Turning as rounds
use Rattle.client_facts.proofs.LockLaws as turns
use Rattle.client_facts.proofs.LockLaws.{SeesNoTurns}
use Rattle.client_walks.proofs.Deeds.{Always, Hand, KeepsTurns, KeepsWithin, nothing}
use Rattle.client_walks.proofs.SideBearing.{BearsSide, all_apart}
use Rattle.client_walks.proofs.WalkLaws.{within_keeps}
use Rattle.file_walks.specs.Fits.{moved_by, moved_in, moved_of}
use Rattle.file_walks.proofs.CallWalks as call_walks
use Rattle.file_walks.proofs.CallWalks.{RunsShort}
use Rattle.file_walks.proofs.CloseWalks as close_walks
use Rattle.file_walks.proofs.CloseWalks.{RunsClose, RunsMove}
use Rattle.file_walks.proofs.DataWalks as data_walks
use Rattle.file_walks.proofs.DataWalks.{RunsData, RunsSync}
use Rattle.file_walks.proofs.Muted as muted
use Rattle.file_walks.proofs.Muted.{Mute}
use Rattle.file_facts.proofs.BookLaws.{each_less, found_each}
use Rattle.fill_facts.specs.FillFacts.{AreShort, is_long}
use Rattle.fill_facts.specs.ShortFacts.{ComesWithinLimits}

abbrev IsShort : ℕ × Pending → Type 0
IsShort row = moved_of row.1 ≤ 16384

abbrev pub Holds : ClientFiles → Type 0
Holds s = AllByRecursion IsShort s.pending

mute : Mute Holds
mute = record { caches = λ s call p. p; delays = λ s rows p. p; tells = λ s event p. p; answers = λ s tx body p. p; learns = λ s domains p. p; cwds = λ s rows p. p; counts = λ s p. p }

no_turns : SeesNoTurns Holds
no_turns = record { streams = λ s streams p. p; waits = λ s rows p. p; fillers = λ s pids p. p; woken = λ s pid p. p }

on_if : (b : Bool) (s t : ClientFiles) → Holds s → Holds t → Holds (cond b s t)
on_if true s t p q = p
on_if false s t p q = q

none : 0 ≤ 16384
none = omega arith

push : (s : ClientFiles) (row : ℕ × Pending) → IsShort row → Holds s → Holds (record s { pending = s.pending ++ row ∷ [] })
push s row short p = each_push IsShort s.pending row p short

-- Calls at their issue, and answers to name calls

call_runs : (pid : ℕ) → RunsShort 16384 pid Holds Holds
call_runs pid = record {
  quiet = mute;
  adds = λ s number stream p. on_if (is_placed stream) (record s { streams = added s.streams pid number stream }) s p p;
  dups = λ s fd p. p;
  begins = λ s operation begins short leads p. push s (pid, operation) short p;
  echoes = λ s work server p. push s (pid, operations.Name _) none p;
  broadcasts = λ s work prefix p. push s (pid, operations.Name _) none p;
  asks = λ s work server p. push s (pid, operations.Name _) none p;
  ends = λ s reply p. p;
  lost = λ s p. p;
}

-- a call within its limits moves no more
limit_of : (call : Call) → IsWithinLimits call → moved_in call ≤ 16384
limit_of (calls.Read fd count) h = h
limit_of (calls.Write fd bytes) h = h
limit_of (calls.OpenFile path flags) h = none
limit_of call h = none

-- Operations that run

data_runs : (pid : ℕ) (call : DataCall) → moved_by call.kind ≤ 16384 → RunsData pid call Holds Holds Holds Holds Holds
data_runs pid call short = record {
  quiet = mute;
  held = mute;
  first = mute;
  locks = λ s e p. turns.locks Holds no_turns pid call.stream s p;
  waits_lock = λ s e p. push (locking.locks pid call.stream s) (pid, operations.Data (record call { state = states.WaitLock })) short (turns.locks Holds no_turns pid call.stream s p);
  not_open = λ s e p. push s (pid, operations.Data (record call { state = states.WaitLock })) short p;
  places = λ s place p. on_if (may_be_at place (stream_at call.stream s)) _ s p p;
  begins_filling = λ s on p. turns.begins_filling Holds no_turns pid s p;
  comes_first = λ s e p. p;
  waits_turn = λ s e p. push s (pid, operations.Data (record call { state = states.Turn })) short p;
  filled = λ s p. p;
  fetches = λ s block p. push s (pid, operations.Data (record call { state = states.Fetching s.out.next block })) short p;
  waits_back = λ s file block tx e p. push s (pid, operations.Data (record call { state = states.Room tx })) short p;
  sends_back = λ s file block number p. push s (pid, operations.Data (record call { state = states.Room s.out.next })) short p;
  none_dirty = λ s e p. push s (pid, operations.Data (record call { state = states.Turn })) short p;
  asks = λ s offset append p. let gone : ClientFiles = fillers.leaves_filling pid s in push gone (pid, operations.Data (record call { state = states.AtServer gone.out.next })) short (turns.leaves_filling Holds no_turns pid s p);
  ends = λ s reply p. turns.unlocks Holds no_turns call.stream (fillers.leaves_filling pid (says.replies pid reply s)) (turns.leaves_filling Holds no_turns pid (says.replies pid reply s) p);
}

sync_runs : (pid : ℕ) → RunsSync pid Holds Holds
sync_runs pid = record {
  quiet = mute;
  stays = λ s call p. push s (pid, operations.Sync _) none p;
  waits_other = λ s call block tx e p. push s (pid, operations.Sync _) none p;
  sends_own = λ s call block number p. push s (pid, operations.Sync _) none p;
  ends = λ s reply p. p;
}

close_ends : (cause : ClosingOf) (pid : ℕ) (s : ClientFiles) → Holds s → Holds (closing.ends_closing pid cause s)
close_ends (closings.Call number fd) pid s p = p
close_ends (closings.End about) pid s p = p

close_runs : (pid : ℕ) (cause : ClosingOf) → RunsClose pid cause Holds (λ number. Holds) Holds
close_runs pid cause = record {
  quiet = mute;
  held = λ number. mute;
  locks = λ s number e p. turns.locks Holds no_turns pid number s p;
  waits_lock = λ s fds fd number f d e p. push (locking.locks pid number s) (pid, operations.Close (closing.closing cause fds)) none (turns.locks Holds no_turns pid number s p);
  drops = λ s fd p. p;
  drops_held = λ s fd number p. p;
  frees = λ s number p. turns.unlocks Holds no_turns number s p;
  asks = λ s work number file many e p. push s (pid, operations.Close (record work { state = closes.Closing s.out.next number })) none p;
  goes_on = λ s fds p. push s (pid, operations.Close (closing.closing cause fds)) none p;
  tells = λ s device p. p;
  ends = λ s p. close_ends cause pid s p;
}

move_runs : (pid : ℕ) (work : MoveWork) → RunsMove pid work Holds Holds Holds
move_runs pid work = record {
  locks = λ s e p. turns.locks Holds no_turns pid work.stream s p;
  waits_lock = λ s e p. push (locking.locks pid work.stream s) (pid, operations.Move work) none (turns.locks Holds no_turns pid work.stream s p);
  drops = λ s fd p. p;
  drops_held = λ s fd p. p;
  asks = λ s stream file kept p. push s (pid, operations.Move (moving.moving_out work kept stream.place s)) none p;
  moved = λ s place p. p;
  lost = λ s p. p;
}

ran_close : (state : CloseState) (pid : ℕ) (work : CloseWork) (s : ClientFiles) → work.state ≡ state → Holds s → Holds (closing.runs_close_by state pid work s)
ran_close closes.WaitLock pid work s e p = subst (λ (state : CloseState). Holds (closing.closes_next pid (record work { state = state }) s)) (sym e) (close_walks.runs_close pid work.of Holds (λ number. Holds) Holds (close_runs pid work.of) work.fds s p)
ran_close (closes.Closing tx stream) pid work s e p = push s (pid, operations.Close work) none p

ran_move : (state : MoveState) (pid : ℕ) (work : MoveWork) (s : ClientFiles) → Holds s → Holds (moving.runs_move_by state pid work s)
ran_move moves.WaitLock pid work s p = close_walks.runs_move pid work Holds Holds Holds (move_runs pid work) s p
ran_move (moves.MovingOut tx kept place) pid work s p = push s (pid, operations.Move work) none p

ran_at : (o : Option Pending) (pid : ℕ) (s : ClientFiles) → ((operation : Pending) → o ≡ Some operation → moved_of operation ≤ 16384) → Holds s → Holds (turning.runs_by o pid s)
ran_at None pid s short p = p
ran_at (Some (operations.Name call)) pid s short p = push s (pid, operations.Name call) none p
ran_at (Some (operations.Data call)) pid s short p = data_walks.looks pid call Holds Holds Holds Holds Holds (data_runs pid call (short (operations.Data call) refl)) s p
ran_at (Some (operations.Sync call)) pid s short p = data_walks.syncs pid Holds Holds (sync_runs pid) call s p
ran_at (Some (operations.Close work)) pid s short p = ran_close work.state pid work s refl p
ran_at (Some (operations.Move work)) pid s short p = ran_move work.state pid work s p

-- an operation that is found is short
found_short : (pid : ℕ) (s : ClientFiles) → Holds s → (operation : Pending) → first_of pid s.pending ≡ Some operation → moved_of operation ≤ 16384
found_short pid s p operation o = found_each IsShort pid s.pending operation p o

turned_by : (pids : List ℕ) (s : ClientFiles) → Holds s → Holds (turning.turned_by pids s)
turned_by [] s p = p
turned_by (pid ∷ pids) s p = ran_at (first_of pid s.pending) pid (record s { ready = pids; pending = less_of pid s.pending }) (found_short pid s p) (each_less IsShort (is_under same_pid pid) s.pending p)

turns_on : (count : ℕ) (s : ClientFiles) → Holds s → Holds (turning.turns count s)
turns_on zero s p = p
turns_on (suc count) s p = let before : ClientFiles = turning.turns count s in turned_by before.ready before (turns_on count s p)

-- An answer to an operation's own call

module _ (s : ClientFiles) (tx : TxNo) (pid : ℕ) (p : Holds s) where
  abbrev left : ClientFiles
  left = record s { txs = less_call tx s.txs; pending = less_of pid s.pending }

  so : Holds left
  so = each_less IsShort (is_under same_pid pid) s.pending p

  back_again : (operation : Pending) → first_of pid s.pending ≡ Some operation → Holds (steps.keeps pid operation left)
  back_again operation o = push left (pid, operation) (found_short pid s p operation o) so

  data_heard : (state : DataState) (call : DataCall) (body : ReplyBody) → first_of pid s.pending ≡ Some (operations.Data call) → Holds (replied.answered_in state pid call body left)
  data_heard (states.Fetching t block) call body o = data_walks.fetched pid call Holds Holds Holds Holds Holds (data_runs pid call (found_short pid s p (operations.Data call) o)) block body left so
  data_heard (states.AtServer t) call body o = data_walks.served pid call Holds Holds Holds Holds Holds (data_runs pid call (found_short pid s p (operations.Data call) o)) body left so so (λ never. back_again (operations.Data call) o)
  data_heard states.WaitLock call body o = back_again (operations.Data call) o
  data_heard states.Turn call body o = back_again (operations.Data call) o
  data_heard (states.Room other) call body o = back_again (operations.Data call) o

  close_heard : (state : CloseState) (work : CloseWork) → first_of pid s.pending ≡ Some (operations.Close work) → Holds (closing.close_answers_by (closing.closed_at_server state) pid work left)
  close_heard closes.WaitLock work o = back_again (operations.Close work) o
  close_heard (closes.Closing t stream) work o = close_walks.closes_on pid work.of Holds (λ number. Holds) Holds (close_runs pid work.of) work (locking.unlocks stream left) refl (turns.unlocks Holds no_turns stream left so)

  move_moved : (state : MoveState) (work : MoveWork) (grant : Option Grant) (many : ℕ) → first_of pid s.pending ≡ Some (operations.Move work) → Holds (moving.move_answers_by (moving.moved_out state) pid work grant many left)
  move_moved moves.WaitLock work grant many o = back_again (operations.Move work) o
  move_moved (moves.MovingOut t kept place) work grant many o = turns.unlocks Holds no_turns work.stream (moving.shares kept work.stream left) (shared kept)
    where
      shared : (b : Bool) → Holds (moving.shares b work.stream left)
      shared true = on_if (may_be_at Shared (stream_at work.stream left)) _ left so so
      shared false = so

  move_heard : (body : ReplyBody) (work : MoveWork) → first_of pid s.pending ≡ Some (operations.Move work) → Holds (answering.answers_move pid work body left)
  move_heard (bodies.Moved grant many) work o = move_moved work.state work grant many o
  move_heard body work o = back_again (operations.Move work) o

  heard_by : (o : Option Pending) (source : ℕ) (body : ReplyBody) → first_of pid s.pending ≡ o → Holds (answering.answered_by o pid source body left)
  heard_by None source body o = so
  heard_by (Some (operations.Name call)) source body o = call_walks.answers_short 16384 (λ (other : ℕ). Holds) Holds call_runs call.state pid call.work source body left so
  heard_by (Some (operations.Data call)) source body o = data_heard call.state call body o
  heard_by (Some (operations.Sync call)) source body o = back_again (operations.Sync call) o
  heard_by (Some (operations.Close work)) source body o = close_heard work.state work o
  heard_by (Some (operations.Move work)) source body o = move_heard body work o

  heard_for : (source : ℕ) (body : ReplyBody) → Holds (answering.answered_for tx pid source body (record s { txs = less_call tx s.txs }))
  heard_for source body = on_if (name_answers.takes_end tx (first_of pid s.pending)) (answering.answered_by (first_of pid s.pending) pid source body left) _ (heard_by (first_of pid s.pending) source body refl) p

  ended_by : (o : Option Pending) → first_of pid s.pending ≡ o → Holds (name_answers.gives_up_by pid o left)
  ended_by (Some (operations.Name call)) o = so
  ended_by (Some (operations.Data call)) o = back_again (operations.Data call) o
  ended_by (Some (operations.Sync call)) o = back_again (operations.Sync call) o
  ended_by (Some (operations.Close work)) o = back_again (operations.Close work) o
  ended_by (Some (operations.Move work)) o = back_again (operations.Move work) o
  ended_by None o = so

  ended_for : Holds (name_answers.gives_up_on tx pid (record s { txs = less_call tx s.txs }))
  ended_for = on_if (name_answers.takes_end tx (first_of pid s.pending)) (name_answers.gives_up_by pid (first_of pid s.pending) left) _ (ended_by (first_of pid s.pending) refl) p

heard_first : (o : Option ℕ) (s : ClientFiles) (tx : TxNo) (source : ℕ) (body : ReplyBody) → Holds s → Holds (answering.answered_first o tx source body (record s { txs = less_call tx s.txs }))
heard_first None s tx source body p = p
heard_first (Some pid) s tx source body p = heard_for s tx pid p source body

given_up : (o : Option ℕ) (s : ClientFiles) (tx : TxNo) → Holds s → Holds (name_answers.gives_up_first o tx (record s { txs = less_call tx s.txs }))
given_up None s tx p = p
given_up (Some pid) s tx p = ended_for s tx pid p

-- A write-back is answered

module _ (s : ClientFiles) (pid : ℕ) (p : Holds s) where
  abbrev rest : ClientFiles
  rest = record s { pending = less_of pid s.pending }

  put_back : (operation : Pending) → first_of pid s.pending ≡ Some operation → Holds (steps.keeps pid operation rest)
  put_back operation o = push rest (pid, operation) (found_short pid s p operation o) (each_less IsShort (is_under same_pid pid) s.pending p)

  goes_on_by : (operation : Pending) (body : ReplyBody) → first_of pid s.pending ≡ Some operation → Holds (synced.go_on_by pid operation body rest)
  goes_on_by (operations.Sync call) body o = push rest (pid, operations.Sync (synced.after_answer call body)) none (each_less IsShort (is_under same_pid pid) s.pending p)
  goes_on_by (operations.Name call) body o = put_back (operations.Name call) o
  goes_on_by (operations.Data call) body o = put_back (operations.Data call) o
  goes_on_by (operations.Close work) body o = put_back (operations.Close work) o
  goes_on_by (operations.Move work) body o = put_back (operations.Move work) o

  goes_on_first : (o : Option Pending) (body : ReplyBody) → first_of pid s.pending ≡ o → Holds (synced.go_on_first pid o body rest)
  goes_on_first None body o = each_less IsShort (is_under same_pid pid) s.pending p
  goes_on_first (Some operation) body o = goes_on_by operation body o

sync_heard : (o : Option ℕ) (body : ReplyBody) (s : ClientFiles) → Holds s → Holds (synced.answers_by o body s)
sync_heard None body s p = p
sync_heard (Some pid) body s p = goes_on_first s pid p (first_of pid s.pending) body refl

done_first : (o : Option WriteBackOut) (s : ClientFiles) (tx : TxNo) (body : ReplyBody) → Holds s → Holds (written.done_first tx body o s)
done_first None s tx body p = p
done_first (Some back) s tx body p =
    let settled : ClientFiles = written.settles_back body back s in
    let again : ClientFiles = written.lists_again back.file back.block settled in
    let so : Holds again = muted.lists_again Holds mute (dirty_at settled.cache.blocks back.file back.block.0) back.file back.block settled (muted.settles_back Holds mute body back s p) in
    sync_heard (first_call tx again.txs) body (record (steps.wakes_all tx again) { txs = less_call tx again.txs }) so

answered : (s : ClientFiles) (tx : TxNo) (source : ℕ) (body : ReplyBody) → Holds s → Holds (answering.answered tx source body s)
answered s tx source body p =
    on_if (list_any (is_under same_call tx) s.write_backs) (written.written_back tx body s) (answering.answered_first (first_call tx s.txs) tx source body (record s { txs = less_call tx s.txs }))
    (done_first (first_call tx s.write_backs) (record s { write_backs = less_call tx s.write_backs }) tx body p) (heard_first (first_call tx s.txs) s tx source body p)

due_by : (o : Option ℕ) (file : FileId) (block : BlockNo) (s : ClientFiles) → Holds s → Holds (written.due_by o file block s)
due_by (Some number) file block s p = p
due_by None file block s p = p

-- What the rest of its kernel does

module _ (came : Input) (limits : ComesWithinLimits came) where
  abbrev Knows : ClientProcs → Hand → Type 0
  Knows s h = Holds s.files

  side : BearsSide came Holds
  side = record {
    tells = λ s event e p. p;
    enters = λ s entry cause p. p;
    sends = λ s sending p. p;
    answers = λ s tx body e p. p;
    gives = λ s pid reply p. p;
    closes = λ s pid about p. push s (pid, operations.Close (file_closes.ends_by about (file_closes.fds_of pid s))) none p;
    moves = λ s pid work e p. push s (pid, operations.Move work) none p;
    has_cwd = λ s pid path p. on_if _ _ _ p p;
    drops_cwd = λ s pid p. p;
    forks = λ s parent child p. p;
    takes_report = λ s rest p. p;
    takes_reply = λ s rest p. p;
    issues = λ s about call device e p. call_walks.issues_short 16384 (λ (pid : ℕ). Holds) Holds call_runs about call device s (limit_of call (subst ComesWithinLimits e limits)) p;
    called_back = λ s tx request p. muted.called_back Holds mute tx request s p;
    due_goes = λ s file block p. due_by (dirty_at s.cache.blocks file block.0) file block s p;
    arrives = λ s pid cwd streams items p. muted.arrives Holds mute (λ t given q. q) pid cwd streams items s p;
  }

  turns_kept : KeepsTurns came Always Knows
  turns_kept = record {
    answered = λ s h tx source body e owned u p. answered s.files tx source body p;
    gives_up = λ s h tx e u p. given_up (first_call tx s.files.txs) s.files tx p;
    goes_on = λ s h e u p. turns_on (turning.turns_for s.files) s.files p;
  }

  keeps : KeepsWithin came Always Knows
  keeps = record { apart = all_apart came (λ own. Holds) (λ own. side) (λ own other files p. p); turns = turns_kept }

  goes : (s : ClientProcs) → Holds s.files → Holds (rounds.goes_on (stepping.takes came s)).files
  goes s p = within_keeps Knows came keeps nothing s p

-- Steps

short_by : (many : ℕ) (b : Bool) → nat_lt 16384 many ≡ b → not b ≡ true → many ≤ 16384
short_by many true e f = absurd (cc)
short_by many false e f = ltb-false 16384 many e

all_of : (rows : List (ℕ × Pending)) → list_all (λ (row : ℕ × Pending). not (is_long row.1)) rows ≡ true → AllByRecursion IsShort rows
all_of [] e = tt
all_of (row ∷ rest) e =
    let parts = and_parts (not (is_long row.1)) (list_all (λ (row : ℕ × Pending). not (is_long row.1)) rest) e in
    (short_by (moved_of row.1) (is_long row.1) refl parts.0, all_of rest parts.1)

of_all : (rows : List (ℕ × Pending)) → AllByRecursion IsShort rows → list_all (λ (row : ℕ × Pending). not (is_long row.1)) rows ≡ true
of_all [] h = refl
of_all (row ∷ rest) h = and_from (not (is_long row.1)) (list_all (λ (row : ℕ × Pending). not (is_long row.1)) rest) (ap not (le-ltb 16384 (moved_of row.1) h.0)) (of_all rest h.1)

pub step_keeps_short : (s : ClientProcs) (input : Input) (next : TxNo) (step : ℕ) → ComesWithinLimits input → AreShort s.files → AreShort (client_step s input next step).0.files
step_keeps_short s input next step limits short =
    let begun : ClientProcs = stepping.begins_step next step s in
    of_all (rounds.goes_on (stepping.takes input begun)).files.pending (goes input limits begun (all_of s.files.pending short))

-- Beginning, and images

pub begins_short : (c : Description) (kernel : ℕ) → AreShort (boots c kernel).files
begins_short c kernel = refl

image_by : (o : Option Proc) (s : ClientProcs) (pid : ℕ) (image : Machine) → AreShort s.files → AreShort (procs_of.with_proc pid (option_map {T = Proc} (λ proc. record proc { image = image }) o) s).files
image_by None s pid image short = short
image_by (Some proc) s pid image short = short

pub image_keeps_short : (s : ClientProcs) (pid : ℕ) (image : Machine) → AreShort s.files → AreShort (with_image pid image s).files
image_keeps_short s pid image short = image_by (proc_at pid s) s pid image short
