-- Each step of a client's kernel without a cache keeps that no file is cached and nobody fills blocks.
use Rattle.std.proofs.Common.{◌≡◌, ℕ, zero, suc, ◌==◌, Bool, true, false, cond, List, [], ◌∷◌, Option, Some, None, option_map, refl, sym, ap, ◌∙◌, subst}
use Rattle.std.specs.List.{list_any}
use Rattle.sprite_ids.specs.Lists.{less}
use Rattle.sprite_ids.specs.declared.BlockNo.{BlockNo}
use Rattle.sprite_ids.specs.declared.CallKind.{CallKind}
use Rattle.sprite_ids.specs.declared.CallKind.TheVariants.{Recall, Stop}
use Rattle.sprite_ids.specs.declared.FileId.{FileId}
use Rattle.sprite_ids.specs.declared.Grant.{Grant}
use Rattle.sprite_ids.specs.declared.TxNo.{TxNo}
use Rattle.packet_bodies.specs.declared.ReplyBody.{ReplyBody}
use Rattle.packet_bodies.specs.declared.ReplyBody.TheVariants as bodies
use Rattle.process_machine.specs.Machine.{Machine}
use Rattle.kernel_steps.specs.declared.Input.{Input}
use Rattle.kernel_steps.specs.Rows.{is_under}
use Rattle.block_cache.specs.declared.file_state.FileState.{FileState}
use Rattle.block_cache.specs.declared.filled.Filled.{Filled}
use Rattle.block_cache.specs.declared.filled.Filled.TheVariants as fillings
use Rattle.block_cache.specs.Blocks.{cleaned, dirty_at}
use Rattle.block_cache.specs.Files.{Files, called, granted, is_file, known, with_state}
use Rattle.block_cache.specs.Held as held
use Rattle.block_cache.specs.Held.{Held}
use Rattle.block_cache.proofs.KeyLaws.{one_file}
use Rattle.block_cache.proofs.StateLaws.{known_elsewhere, known_there}
use Rattle.stream_table.specs.declared.Place.TheVariants.{Shared}
use Rattle.stream_table.specs.Entries.{is_placed}
use Rattle.stream_table.specs.Streams.{added}
use Rattle.unix_calls.specs.declared.Description.{Description}
use Rattle.client_file_tables.specs.declared.client_files.ClientFiles.{ClientFiles}
use Rattle.client_file_tables.specs.declared.moves.ClosingOf.{ClosingOf}
use Rattle.client_file_tables.specs.declared.moves.ClosingOf.TheVariants as closings
use Rattle.client_file_tables.specs.declared.moves.CloseWork.{CloseWork}
use Rattle.client_file_tables.specs.declared.moves.MoveWork.{MoveWork}
use Rattle.client_file_tables.specs.declared.pending.Pending.{Pending}
use Rattle.client_file_tables.specs.declared.pending.Pending.TheVariants as operations
use Rattle.client_file_tables.specs.declared.states.CloseState.{CloseState}
use Rattle.client_file_tables.specs.declared.states.CloseState.TheVariants as closes
use Rattle.client_file_tables.specs.declared.states.DataState.{DataState}
use Rattle.client_file_tables.specs.declared.states.DataState.TheVariants as states
use Rattle.client_file_tables.specs.declared.states.MoveState.{MoveState}
use Rattle.client_file_tables.specs.declared.states.MoveState.TheVariants as moves
use Rattle.client_file_tables.specs.declared.works.DataCall.{DataCall}
use Rattle.client_file_tables.specs.declared.works.WriteBackOut.{WriteBackOut}
use Rattle.client_file_tables.specs.Blocks.{is_cached}
use Rattle.client_file_tables.specs.Fillers as fillers
use Rattle.client_file_tables.specs.Fillers.{is_filling}
use Rattle.client_file_tables.specs.Locks as locking
use Rattle.client_file_tables.specs.Rows.{first_call, first_of, is_pid, less_call, less_of, same_call}
use Rattle.client_file_tables.specs.Says as says
use Rattle.client_file_tables.specs.Steps as steps
use Rattle.client_data.specs.Grants.{usable}
use Rattle.client_data.specs.Replies as replied
use Rattle.client_data.specs.SyncAnswers as synced
use Rattle.client_data.specs.WriteBacks as written
use Rattle.client_names.specs.Answers as name_answers
use Rattle.client_streams.specs.Closing as closing
use Rattle.client_streams.specs.Moving as moving
use Rattle.client_files.specs.Answered as answering
use Rattle.client_files.specs.Turns as turning
use Rattle.client_homes.specs.declared.client.ClientProcs.{ClientProcs}
use Rattle.client_homes.specs.declared.process.Proc.{Proc}
use Rattle.client_homes.specs.Procs as procs_of
use Rattle.client_homes.specs.Procs.{proc_at}
use Rattle.client_procs.specs.Boot.{boots}
use Rattle.client_procs.specs.Readers.{with_image}
use Rattle.client_procs.specs.Steps as stepping
use Rattle.client_procs.specs.Steps.{client_step}
use Rattle.client_procs.specs.Turning as rounds
use Rattle.client_facts.specs.FileFacts.{TurnsAreInOrder, are_in_order}
use Rattle.client_walks.proofs.Deeds.{Always, Hand, KeepsTurns, KeepsWithin, nothing}
use Rattle.client_walks.proofs.SideBearing.{BearsSide, all_apart}
use Rattle.client_walks.proofs.WalkLaws.{within_keeps}
use Rattle.file_walks.proofs.Caches.{CacheCall, CallsBack, Drops, Fills, Grants, Reads, Settles, Writes, after}
use Rattle.file_walks.proofs.CallWalks as call_walks
use Rattle.file_walks.proofs.CallWalks.{RunsCall}
use Rattle.file_walks.proofs.CloseWalks as close_walks
use Rattle.file_walks.proofs.CloseWalks.{RunsClose, RunsMove}
use Rattle.file_walks.proofs.DataWalks as data_walks
use Rattle.file_walks.proofs.DataWalks.{RunsData, RunsSync}
use Rattle.file_walks.proofs.Muted as muted
use Rattle.file_walks.proofs.Muted.{Mute}
use Rattle.fill_facts.specs.NoCache.{HasNoCache, IsUnused}
use Rattle.fill_facts.proofs.Runs.{SeesNoLocks, locks, moves_place, unlocks}

-- A call of the cache

-- no file is cached, where another state of one is put in that isn't cached
off_by : (files : Files) (file other : FileId) (state : FileState) (b : Bool) → is_file file other ≡ b → state.on ≡ false → ((file : FileId) → (known files file).on ≡ false) → (known (with_state files file state) other).on ≡ false
off_by files file other state true e off all = sym (ap (λ (f : FileId). (known (with_state files file state) f).on) (one_file file other e)) ∙ ap (λ (s : FileState). s.on) (known_there files file state) ∙ off
off_by files file other state false e off all = ap (λ (s : FileState). s.on) (known_elsewhere files file other state e) ∙ all other

off_with : (files : Files) (file : FileId) (state : FileState) → state.on ≡ false → ((file : FileId) → (known files file).on ≡ false) → (other : FileId) → (known (with_state files file state) other).on ≡ false
off_with files file state off all other = off_by files file other state (is_file file other) refl off all

filled_as : (answer : Filled) (cache : Held) (file : FileId) (block : BlockNo) (bytes : List ℕ) → IsUnused cache → IsUnused (held.after_fill cache file block bytes answer)
filled_as fillings.Filled cache file block bytes h = record { size = h.size; off = h.off }
filled_as fillings.Kept cache file block bytes h = h
filled_as fillings.Old cache file block bytes h = h
filled_as fillings.Full cache file block bytes h = h

wrote_as : (new : List ℕ) (cache : Held) (file : FileId) (from : ℕ) → IsUnused cache → IsUnused (held.after_write cache file from new)
wrote_as [] cache file from h = h
wrote_as (first ∷ rest) cache file from h = record { size = h.size; off = off_with cache.files file _ (h.off file) h.off }

-- what a kernel without a cache uses of a grant doesn't let it cache
usable_by : (b : Bool) (grant : Grant) → b ≡ true → (cond b (record grant { on = false }) grant).on ≡ false
usable_by true grant e = refl
usable_by false grant e = absurd (cc)

usable_off : (cache : Held) (grant : Grant) → cache.size ≡ 0 → (usable cache grant).on ≡ false
unfolding usable
usable_off cache grant none = usable_by (cache.size == 0) grant (ap (λ (n : ℕ). n == 0) none)

granted_if : (b : Bool) (cache : Held) (grant : Grant) → grant.on ≡ false → IsUnused cache → IsUnused (cond b (held.after_newer cache grant (known cache.files grant.file)) cache)
granted_if true cache grant off h = record { size = h.size; off = off_with cache.files grant.file (granted (known cache.files grant.file) grant) off h.off }
granted_if false cache grant off h = h

called_as : (kind : CallKind) (cache : Held) (file : FileId) (stamp : ℕ) → IsUnused cache → IsUnused (held.after_callback cache file stamp kind)
called_as Recall cache file stamp h = record { size = h.size; off = off_with cache.files file (called (known cache.files file) stamp Recall) (h.off file) h.off }
called_as Stop cache file stamp h = record { size = h.size; off = off_with cache.files file (called (known cache.files file) stamp Stop) refl h.off }

settled_if : (b : Bool) (cache : Held) (file : FileId) (number : ℕ) → IsUnused cache → IsUnused (cond b (record cache { blocks = cleaned cache.blocks file number }) cache)
settled_if true cache file number h = record { size = h.size; off = h.off }
settled_if false cache file number h = h

stays_unused : (call : CacheCall) (cache : Held) → IsUnused cache → IsUnused (after call cache)
stays_unused (Fills file stamp block bytes) cache h = filled_as (held.fill_answer cache file stamp block.0) cache file block bytes h
stays_unused (Reads file from many) cache h = record { size = h.size; off = h.off }
stays_unused (Writes file from new) cache h = wrote_as new cache file from h
stays_unused (Drops file first last) cache h = record { size = h.size; off = h.off }
stays_unused (Grants grant) cache h = let taken : Grant = usable cache grant in granted_if (held.is_newer cache taken) cache taken (usable_off cache grant h.size) h
stays_unused (CallsBack file stamp kind) cache h = called_as kind cache file stamp h
stays_unused (Settles file stamp block number) cache h = settled_if (held.is_written_back cache file stamp block number) cache file block h

-- The files' side

abbrev Holds : ClientFiles → Type 0
Holds s = IsUnused s.cache × (s.fillers ≡ [])

mute : Mute Holds
mute = record { caches = λ s call p. (stays_unused call s.cache p.0, p.1); delays = λ s rows p. p; tells = λ s event p. p; answers = λ s tx body p. p; learns = λ s domains p. p; cwds = λ s rows p. p; counts = λ s p. p }

no_locks : SeesNoLocks Holds
no_locks = record { streams = λ s entries p. p; waits = λ s rows p. p; wakes = λ s pid p. p }

on_if : (b : Bool) (s t : ClientFiles) → Holds s → Holds t → Holds (cond b s t)
on_if true s t p q = p
on_if false s t p q = q

-- nobody leaves a turn
left : (s : ClientFiles) (pid : ℕ) → Holds s → Holds (fillers.leaves_filling pid s)
left s pid p = on_if (is_filling pid s) (fillers.wakes_filler dropped) dropped (woken dropped.fillers dropped so) so
  where
    dropped : ClientFiles
    dropped = fillers.drops_filler pid s

    so : Holds (fillers.drops_filler pid s)
    so = (p.0, ap (less (is_pid pid)) p.1)

    woken : (waiting : List ℕ) (t : ClientFiles) → Holds t → Holds (fillers.wakes_first waiting t)
    woken [] t q = q
    woken (first ∷ rest) t q = q

-- no file is cached
cached_never : (s : ClientFiles) (file : FileId) (P : Type 0) → Holds s → is_cached file s ≡ true → P
cached_never s file P p on = absurd (let both = sym on ∙ p.0.off file in cc)

-- Calls at their issue, and answers to name calls

call_runs : (pid : ℕ) → RunsCall pid Holds Holds
call_runs pid = record {
  quiet = mute;
  adds = λ s number stream p. on_if (is_placed stream) (record s { streams = added s.streams pid number stream }) s p p;
  dups = λ s fd p. p;
  begins = λ s operation begins leads p. p;
  echoes = λ s work server p. p;
  broadcasts = λ s work prefix p. p;
  asks = λ s work server p. p;
  ends = λ s reply p. p;
  lost = λ s p. p;
}

-- Operations that run

data_runs : (pid : ℕ) (call : DataCall) → RunsData pid call Holds Holds Holds Holds Holds
data_runs pid call = record {
  quiet = mute;
  held = mute;
  first = mute;
  locks = λ s e p. locks Holds no_locks s pid call.stream p;
  waits_lock = λ s e p. locks Holds no_locks s pid call.stream p;
  not_open = λ s e p. p;
  places = λ s place p. moves_place Holds no_locks s call.stream place p;
  begins_filling = λ s on p. cached_never s call.file (Holds (fillers.begins_filling pid s)) p on;
  comes_first = λ s e p. p;
  waits_turn = λ s e p. p;
  filled = λ s p. p;
  fetches = λ s block p. p;
  waits_back = λ s file block tx e p. p;
  sends_back = λ s file block number p. p;
  none_dirty = λ s room p. p;
  asks = λ s offset append p. left s pid p;
  ends = λ s reply p. unlocks Holds no_locks (fillers.leaves_filling pid (says.replies pid reply s)) call.stream (left (says.replies pid reply s) pid p);
}

sync_runs : (pid : ℕ) → RunsSync pid Holds Holds
sync_runs pid = record {
  quiet = mute;
  stays = λ s call p. p;
  waits_other = λ s call block tx e p. p;
  sends_own = λ s call block number p. p;
  ends = λ s reply p. p;
}

close_ends : (cause : ClosingOf) (pid : ℕ) (s : ClientFiles) → Holds s → Holds (closing.ends_closing pid cause s)
close_ends (closings.Call number fd) pid s p = p
close_ends (closings.End about) pid s p = p

close_runs : (pid : ℕ) (cause : ClosingOf) → RunsClose pid cause Holds (λ number. Holds) Holds
close_runs pid cause = record {
  quiet = mute;
  held = λ number. mute;
  locks = λ s number e p. locks Holds no_locks s pid number p;
  waits_lock = λ s fds fd number f d e p. locks Holds no_locks s pid number p;
  drops = λ s fd p. p;
  drops_held = λ s fd number p. p;
  frees = λ s number p. unlocks Holds no_locks s number p;
  asks = λ s work number file many e p. p;
  goes_on = λ s fds p. p;
  tells = λ s device p. p;
  ends = λ s p. close_ends cause pid s p;
}

move_runs : (pid : ℕ) (work : MoveWork) → RunsMove pid work Holds Holds Holds
move_runs pid work = record {
  locks = λ s e p. locks Holds no_locks s pid work.stream p;
  waits_lock = λ s e p. locks Holds no_locks s pid work.stream p;
  drops = λ s fd p. p;
  drops_held = λ s fd p. p;
  asks = λ s stream file kept p. p;
  moved = λ s place p. p;
  lost = λ s p. p;
}

ran_close : (state : CloseState) (pid : ℕ) (work : CloseWork) (s : ClientFiles) → work.state ≡ state → Holds s → Holds (closing.runs_close_by state pid work s)
ran_close closes.WaitLock pid work s e p = subst (λ (state : CloseState). Holds (closing.closes_next pid (record work { state = state }) s)) (sym e) (close_walks.runs_close pid work.of Holds (λ number. Holds) Holds (close_runs pid work.of) work.fds s p)
ran_close (closes.Closing tx stream) pid work s e p = p

ran_move : (state : MoveState) (pid : ℕ) (work : MoveWork) (s : ClientFiles) → Holds s → Holds (moving.runs_move_by state pid work s)
ran_move moves.WaitLock pid work s p = close_walks.runs_move pid work Holds Holds Holds (move_runs pid work) s p
ran_move (moves.MovingOut tx kept place) pid work s p = p

ran_at : (o : Option Pending) (pid : ℕ) (s : ClientFiles) → Holds s → Holds (turning.runs_by o pid s)
ran_at None pid s p = p
ran_at (Some (operations.Name call)) pid s p = p
ran_at (Some (operations.Data call)) pid s p = data_walks.looks pid call Holds Holds Holds Holds Holds (data_runs pid call) s p
ran_at (Some (operations.Sync call)) pid s p = data_walks.syncs pid Holds Holds (sync_runs pid) call s p
ran_at (Some (operations.Close work)) pid s p = ran_close work.state pid work s refl p
ran_at (Some (operations.Move work)) pid s p = ran_move work.state pid work s p

turned_by : (pids : List ℕ) (s : ClientFiles) → Holds s → Holds (turning.turned_by pids s)
turned_by [] s p = p
turned_by (pid ∷ pids) s p = ran_at (first_of pid s.pending) pid (record s { ready = pids; pending = less_of pid s.pending }) p

turns_on : (count : ℕ) (s : ClientFiles) → Holds s → Holds (turning.turns count s)
turns_on zero s p = p
turns_on (suc count) s p = let before : ClientFiles = turning.turns count s in turned_by before.ready before (turns_on count s p)

-- An answer to an operation's own call

data_heard : (state : DataState) (pid : ℕ) (call : DataCall) (body : ReplyBody) (s : ClientFiles) → Holds s → Holds (replied.answered_in state pid call body s)
data_heard (states.Fetching tx block) pid call body s p = data_walks.fetched pid call Holds Holds Holds Holds Holds (data_runs pid call) block body s p
data_heard (states.AtServer tx) pid call body s p = data_walks.served pid call Holds Holds Holds Holds Holds (data_runs pid call) body s p p (λ never. p)
data_heard states.WaitLock pid call body s p = p
data_heard states.Turn pid call body s p = p
data_heard (states.Room tx) pid call body s p = p

close_heard : (state : CloseState) (pid : ℕ) (work : CloseWork) (s : ClientFiles) → Holds s → Holds (closing.close_answers_by (closing.closed_at_server state) pid work s)
close_heard closes.WaitLock pid work s p = p
close_heard (closes.Closing tx stream) pid work s p = close_walks.closes_on pid work.of Holds (λ number. Holds) Holds (close_runs pid work.of) work (locking.unlocks stream s) refl (unlocks Holds no_locks s stream p)

move_moved : (state : MoveState) (pid : ℕ) (work : MoveWork) (grant : Option Grant) (many : ℕ) (s : ClientFiles) → Holds s → Holds (moving.move_answers_by (moving.moved_out state) pid work grant many s)
move_moved moves.WaitLock pid work grant many s p = p
move_moved (moves.MovingOut tx kept place) pid work grant many s p = unlocks Holds no_locks (moving.shares kept work.stream s) work.stream (shared kept)
  where
    shared : (b : Bool) → Holds (moving.shares b work.stream s)
    shared true = moves_place Holds no_locks s work.stream Shared p
    shared false = p

move_heard : (body : ReplyBody) (pid : ℕ) (work : MoveWork) (s : ClientFiles) → Holds s → Holds (answering.answers_move pid work body s)
move_heard (bodies.Moved grant many) pid work s p = move_moved work.state pid work grant many s p
move_heard body pid work s p = p

heard_by : (o : Option Pending) (pid source : ℕ) (body : ReplyBody) (s : ClientFiles) → Holds s → Holds (answering.answered_by o pid source body s)
heard_by None pid source body s p = p
heard_by (Some (operations.Name call)) pid source body s p = call_walks.answers_name (λ (other : ℕ). Holds) Holds call_runs call.state pid call.work source body s p
heard_by (Some (operations.Data call)) pid source body s p = data_heard call.state pid call body s p
heard_by (Some (operations.Sync call)) pid source body s p = p
heard_by (Some (operations.Close work)) pid source body s p = close_heard work.state pid work s p
heard_by (Some (operations.Move work)) pid source body s p = move_heard body pid work s p

heard_first : (o : Option ℕ) (s : ClientFiles) (tx : TxNo) (source : ℕ) (body : ReplyBody) → Holds s → Holds (answering.answered_first o tx source body (record s { txs = less_call tx s.txs }))
heard_first None s tx source body p = p
heard_first (Some pid) s tx source body p =
    let left : ClientFiles = record s { txs = less_call tx s.txs; pending = less_of pid s.pending } in
    on_if (name_answers.takes_end tx (first_of pid s.pending)) (answering.answered_by (first_of pid s.pending) pid source body left) _ (heard_by (first_of pid s.pending) pid source body left p) p

ended_by : (o : Option Pending) (pid : ℕ) (s : ClientFiles) → Holds s → Holds (name_answers.gives_up_by pid o s)
ended_by (Some (operations.Name call)) pid s p = p
ended_by (Some (operations.Data call)) pid s p = p
ended_by (Some (operations.Sync call)) pid s p = p
ended_by (Some (operations.Close work)) pid s p = p
ended_by (Some (operations.Move work)) pid s p = p
ended_by None pid s p = p

given_up : (o : Option ℕ) (s : ClientFiles) (tx : TxNo) → Holds s → Holds (name_answers.gives_up_first o tx (record s { txs = less_call tx s.txs }))
given_up None s tx p = p
given_up (Some pid) s tx p =
    let left : ClientFiles = record s { txs = less_call tx s.txs; pending = less_of pid s.pending } in
    on_if (name_answers.takes_end tx (first_of pid s.pending)) (name_answers.gives_up_by pid (first_of pid s.pending) left) _ (ended_by (first_of pid s.pending) pid left p) p

-- A write-back is answered

goes_on_by : (o : Option Pending) (pid : ℕ) (body : ReplyBody) (s : ClientFiles) → Holds s → Holds (synced.go_on_first pid o body s)
goes_on_by None pid body s p = p
goes_on_by (Some (operations.Sync call)) pid body s p = p
goes_on_by (Some (operations.Name call)) pid body s p = p
goes_on_by (Some (operations.Data call)) pid body s p = p
goes_on_by (Some (operations.Close work)) pid body s p = p
goes_on_by (Some (operations.Move work)) pid body s p = p

sync_heard : (o : Option ℕ) (body : ReplyBody) (s : ClientFiles) → Holds s → Holds (synced.answers_by o body s)
sync_heard None body s p = p
sync_heard (Some pid) body s p = goes_on_by (first_of pid s.pending) pid body (record s { pending = less_of pid s.pending }) p

done_first : (o : Option WriteBackOut) (s : ClientFiles) (tx : TxNo) (body : ReplyBody) → Holds s → Holds (written.done_first tx body o s)
done_first None s tx body p = p
done_first (Some back) s tx body p =
    let settled : ClientFiles = written.settles_back body back s in
    let again : ClientFiles = written.lists_again back.file back.block settled in
    let so : Holds again = muted.lists_again Holds mute (dirty_at settled.cache.blocks back.file back.block.0) back.file back.block settled (muted.settles_back Holds mute body back s p) in
    sync_heard (first_call tx again.txs) body (record (steps.wakes_all tx again) { txs = less_call tx again.txs }) so

answered : (s : ClientFiles) (tx : TxNo) (source : ℕ) (body : ReplyBody) → Holds s → Holds (answering.answered tx source body s)
answered s tx source body p =
    on_if (list_any (is_under same_call tx) s.write_backs) (written.written_back tx body s) (answering.answered_first (first_call tx s.txs) tx source body (record s { txs = less_call tx s.txs }))
    (done_first (first_call tx s.write_backs) (record s { write_backs = less_call tx s.write_backs }) tx body p) (heard_first (first_call tx s.txs) s tx source body p)

due_by : (o : Option ℕ) (file : FileId) (block : BlockNo) (s : ClientFiles) → Holds s → Holds (written.due_by o file block s)
due_by (Some number) file block s p = p
due_by None file block s p = p

-- What the rest of its kernel does

abbrev Knows : ClientProcs → Hand → Type 0
Knows s h = Holds s.files

side : (came : Input) → BearsSide came Holds
side came = record {
  tells = λ s event e p. p;
  enters = λ s entry cause p. p;
  sends = λ s sending p. p;
  answers = λ s tx body e p. p;
  gives = λ s pid reply p. p;
  closes = λ s pid about p. p;
  moves = λ s pid work e p. p;
  has_cwd = λ s pid path p. on_if _ _ _ p p;
  drops_cwd = λ s pid p. p;
  forks = λ s parent child p. p;
  takes_report = λ s rest p. p;
  takes_reply = λ s rest p. p;
  issues = λ s about call device e p. call_walks.issues (λ (pid : ℕ). Holds) Holds call_runs about call device s p;
  called_back = λ s tx request p. muted.called_back Holds mute tx request s p;
  due_goes = λ s file block p. due_by (dirty_at s.cache.blocks file block.0) file block s p;
  arrives = λ s pid cwd streams items p. muted.arrives Holds mute (λ t given q. q) pid cwd streams items s p;
}

turns_kept : (came : Input) → KeepsTurns came Always Knows
turns_kept came = record {
  answered = λ s h tx source body e owned u p. answered s.files tx source body p;
  gives_up = λ s h tx e u p. given_up (first_call tx s.files.txs) s.files tx p;
  goes_on = λ s h e u p. turns_on (turning.turns_for s.files) s.files p;
}

keeps : (came : Input) → KeepsWithin came Always Knows
keeps came = record { apart = all_apart came (λ own. Holds) (λ own. side came) (λ own other files p. p); turns = turns_kept came }

goes : (came : Input) (s : ClientProcs) → Holds s.files → Holds (rounds.goes_on (stepping.takes came s)).files
goes came s p = within_keeps Knows came (keeps came) nothing s p

-- Steps

pub step_keeps_no_cache : (s : ClientProcs) (input : Input) (next : TxNo) (step : ℕ) → HasNoCache s.files → HasNoCache (client_step s input next step).0.files
step_keeps_no_cache s input next step h =
    let so = goes input (stepping.begins_step next step s) (h.cache, h.none) in
    record { cache = so.0; none = so.1 }

pub no_turns_are_in_order : (s : ClientFiles) → HasNoCache s → TurnsAreInOrder s
no_turns_are_in_order s h = subst (λ (pids : List ℕ). are_in_order pids s ≡ true) (sym h.none) refl

-- Beginning, and images

pub begins_with_no_cache : (c : Description) (kernel : ℕ) → c.cache ≡ 0 → HasNoCache (boots c kernel).files
begins_with_no_cache c kernel none = record { cache = record { size = none; off = λ file. refl }; none = refl }

image_by : (o : Option Proc) (s : ClientProcs) (pid : ℕ) (image : Machine) → HasNoCache s.files → HasNoCache (procs_of.with_proc pid (option_map {T = Proc} (λ proc. record proc { image = image }) o) s).files
image_by None s pid image h = h
image_by (Some proc) s pid image h = h

pub image_keeps_no_cache : (s : ClientProcs) (pid : ℕ) (image : Machine) → HasNoCache s.files → HasNoCache (with_image pid image s).files
image_keeps_no_cache s pid image h = image_by (proc_at pid s) s pid image h
