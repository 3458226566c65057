-- Operations of the files' side that run leave no sync that looks but those that are woken.
use Rattle.std.proofs.Common.{◌≡◌, ◌⊎◌, inl, inr, ℕ, zero, suc, ◌==◌, Bool, true, false, cond, List, [], ◌∷◌, ◌++◌, Option, Some, None, is_some, refl, sym, subst}
use Rattle.std.proofs.lemmas.Bool.{eq-eqb}
use Rattle.std.specs.List.{AllByRecursion, list_any}
use Rattle.sprite_ids.specs.declared.BlockNo.{BlockNo}
use Rattle.sprite_ids.specs.declared.FileId.{FileId}
use Rattle.sprite_ids.specs.declared.StreamNo.{StreamNo}
use Rattle.sprite_ids.specs.declared.TxNo.{TxNo}
use Rattle.sprite_ids.proofs.ListLaws.{each_push, each_weaken, some_is}
use Rattle.block_cache.specs.Blocks.{dirty_at}
use Rattle.kernel_steps.specs.Rows.{is_row, is_under}
use Rattle.stream_table.specs.declared.Place.{Place}
use Rattle.stream_table.specs.Entries.{may_be_at, placed}
use Rattle.client_file_tables.specs.declared.client_files.ClientFiles.{ClientFiles}
use Rattle.client_file_tables.specs.declared.moves.ClosingOf.{ClosingOf}
use Rattle.client_file_tables.specs.declared.moves.ClosingOf.TheVariants as closings
use Rattle.client_file_tables.specs.declared.moves.CloseWork.{CloseWork}
use Rattle.client_file_tables.specs.declared.moves.MoveWork.{MoveWork}
use Rattle.client_file_tables.specs.declared.pending.Pending.{Pending}
use Rattle.client_file_tables.specs.declared.pending.Pending.TheVariants as operations
use Rattle.client_file_tables.specs.declared.states.CloseState.{CloseState}
use Rattle.client_file_tables.specs.declared.states.CloseState.TheVariants as closes
use Rattle.client_file_tables.specs.declared.states.DataState.TheVariants as states
use Rattle.client_file_tables.specs.declared.states.MoveState.{MoveState}
use Rattle.client_file_tables.specs.declared.states.MoveState.TheVariants as moves
use Rattle.client_file_tables.specs.declared.states.SyncState.TheVariants as syncs
use Rattle.client_file_tables.specs.declared.works.DataCall.{DataCall}
use Rattle.client_file_tables.specs.declared.works.SyncCall.{SyncCall}
use Rattle.client_file_tables.specs.Fillers as fillers
use Rattle.client_file_tables.specs.Fillers.{is_filling}
use Rattle.client_file_tables.specs.Locks as locking
use Rattle.client_file_tables.specs.Locks.{gets_lock}
use Rattle.client_file_tables.specs.Rows.{first_of, first_stream, is_pid, less_of, less_stream, same_pid, same_stream}
use Rattle.client_file_tables.specs.Says as says
use Rattle.client_file_tables.specs.Steps as steps
use Rattle.client_file_tables.specs.Streams as streams
use Rattle.client_file_tables.specs.Streams.{stream_at}
use Rattle.client_file_tables.specs.WriteBacks.{current_write_back}
use Rattle.client_data.specs.Sync as syncing
use Rattle.client_files.specs.Turns as turning
use Rattle.client_streams.specs.Closing as closing
use Rattle.client_streams.specs.Moving as moving
use Rattle.client_facts.specs.FileFacts.{OneOperationEach}
use Rattle.client_facts.proofs.CostLaws.{none_left}
use Rattle.file_walks.proofs.CloseWalks as close_walks
use Rattle.file_walks.proofs.CloseWalks.{RunsClose, RunsMove}
use Rattle.file_walks.proofs.DataWalks as data_walks
use Rattle.file_walks.proofs.DataWalks.{RunsData}
use Rattle.file_walks.proofs.Muted.{Mute}
use Rattle.file_facts.proofs.Books.{is_woken}
use Rattle.file_facts.proofs.BookLaws.{any_before, any_behind, each_less, each_other, or_left, woken_by}
use Rattle.file_facts.proofs.RunFacts.{once_turned}
use Rattle.pending_laws.specs.Waits.{never_looks}

-- a sync that looks is woken
abbrev pub Sits : List ℕ → ℕ × Pending → Type 0
Sits ready row = (never_looks row.1 ≡ true) ⊎ (is_woken row.0 ready ≡ true)

abbrev pub AllSit : List (ℕ × Pending) → List ℕ → Type 0
AllSit rows ready = AllByRecursion (Sits ready) rows

abbrev pub Holds : ClientFiles → Type 0
Holds s = AllSit s.pending s.ready

pub mute : Mute Holds
mute = record { caches = λ s cache p. p; delays = λ s rows p. p; tells = λ s event p. p; answers = λ s tx body p. p; learns = λ s domains p. p; cwds = λ s rows p. p; counts = λ s p. p }

-- Who is woken, and who looks

sits_more : (ready awake : List ℕ) (row : ℕ × Pending) → (is_woken row.0 ready ≡ true → is_woken row.0 awake ≡ true) → Sits ready row → Sits awake row
sits_more ready awake row wakes (inl e) = inl e
sits_more ready awake row wakes (inr e) = inr (wakes e)

pub woken : (rows : List (ℕ × Pending)) (ready pids : List ℕ) → AllSit rows ready → AllSit rows (ready ++ pids)
woken rows ready pids all = each_weaken (Sits ready) (Sits (ready ++ pids)) rows (λ row. sits_more ready (ready ++ pids) row (λ e. any_before (is_pid row.0) ready pids e)) all

pub looks_at : (rows : List (ℕ × Pending)) (pid : ℕ) (pids : List ℕ) → list_any (is_under same_pid pid) rows ≡ false → AllSit rows (pid ∷ pids) → AllSit rows pids
looks_at rows pid pids none all = each_other (Sits (pid ∷ pids)) (Sits pids) pid rows (λ row apart. sits_more (pid ∷ pids) pids row (λ e. woken_by row.0 pid pids apart e)) none all

-- Operations

pub kept : (s : ClientFiles) (pid : ℕ) (operation : Pending) → Sits s.ready (pid, operation) → Holds s → Holds (steps.keeps pid operation s)
kept s pid operation sits p = each_push (Sits s.ready) s.pending (pid, operation) p sits

-- one that never looks, whatever else changes
pub idle_push : (rows : List (ℕ × Pending)) (ready : List ℕ) (pid : ℕ) (operation : Pending) → never_looks operation ≡ true → AllSit rows ready → AllSit (rows ++ (pid, operation) ∷ []) ready
idle_push rows ready pid operation never all = each_push (Sits ready) rows (pid, operation) all (inl never)

last_woken : (pid : ℕ) (ready : List ℕ) → is_woken pid (ready ++ pid ∷ []) ≡ true
last_woken pid ready = any_behind (is_pid pid) ready (pid ∷ []) (or_left (pid == pid) false (eq-eqb pid pid refl))

pub started : (s : ClientFiles) (pid : ℕ) (operation : Pending) → Holds s → Holds (steps.starts pid operation s)
started s pid operation p = each_push (Sits (s.ready ++ pid ∷ [])) s.pending (pid, operation) (woken s.pending s.ready (pid ∷ []) p) (inr (last_woken pid s.ready))

-- Locks and turns

on_if : (b : Bool) (s t : ClientFiles) → Holds s → Holds t → Holds (cond b s t)
on_if true s t p q = p
on_if false s t p q = q

locks_so : (s : ClientFiles) (pid : ℕ) (stream : StreamNo) → Holds s → Holds (locking.locks pid stream s)
locks_so s pid stream p =
    let taken : ClientFiles = locking.takes_lock pid stream s in
    on_if (gets_lock pid stream s) taken (locking.waits_for_lock pid stream taken) p (on_if (list_any (is_row same_stream same_pid stream pid) s.lock_waits) taken (record taken { lock_waits = s.lock_waits ++ (stream, pid) ∷ [] }) p p)

hands_first : (o : Option ℕ) (stream : StreamNo) (s : ClientFiles) → Holds s → Holds (locking.hands_first o stream s)
hands_first (Some first) stream s p = woken s.pending s.ready (first ∷ []) p
hands_first None stream s p = p

pub unlocks : (s : ClientFiles) (stream : StreamNo) → Holds s → Holds (locking.unlocks stream s)
unlocks s stream p = hands_first (first_stream stream s.lock_waits) stream (record (locking.frees stream s) { lock_waits = less_stream stream s.lock_waits }) p

wakes_first : (waiting : List ℕ) (s : ClientFiles) → Holds s → Holds (fillers.wakes_first waiting s)
wakes_first [] s p = p
wakes_first (first ∷ rest) s p = woken s.pending s.ready (first ∷ []) p

leaves_filling : (s : ClientFiles) (pid : ℕ) → Holds s → Holds (fillers.leaves_filling pid s)
leaves_filling s pid p =
    let dropped : ClientFiles = fillers.drops_filler pid s in
    on_if (is_filling pid s) (fillers.wakes_filler dropped) dropped (wakes_first dropped.fillers dropped p) p

pub moves_place : (s : ClientFiles) (number : StreamNo) (place : Place) → Holds s → Holds (streams.moves_place number place s)
moves_place s number place p = on_if (may_be_at place (stream_at number s)) (record s { streams = record s.streams { entries = placed s.streams.entries number place } }) s p p

-- Operations on files' data

pub data_runs : (pid : ℕ) (call : DataCall) → RunsData pid call Holds Holds Holds Holds Holds
data_runs pid call = record {
  quiet = mute;
  held = mute;
  first = mute;
  locks = λ s e p. locks_so s pid call.stream p;
  waits_lock = λ s e p. kept (locking.locks pid call.stream s) pid (operations.Data (record call { state = states.WaitLock })) (inl refl) (locks_so s pid call.stream p);
  not_open = λ s e p. kept s pid (operations.Data (record call { state = states.WaitLock })) (inl refl) p;
  places = λ s place p. moves_place s call.stream place p;
  begins_filling = λ s on p. on_if _ s _ p p;
  comes_first = λ s e p. p;
  waits_turn = λ s e p. kept s pid (operations.Data (record call { state = states.Turn })) (inl refl) p;
  filled = λ s p. p;
  fetches = λ s block p. kept s pid (operations.Data (record call { state = states.Fetching s.out.next block })) (inl refl) p;
  waits_back = λ s file block tx e p. kept s pid (operations.Data (record call { state = states.Room tx })) (inl refl) p;
  sends_back = λ s file block number p. kept s pid (operations.Data (record call { state = states.Room s.out.next })) (inl refl) p;
  none_dirty = λ s e p. kept s pid (operations.Data (record call { state = states.Turn })) (inl refl) p;
  asks = λ s offset append p.
      let left : ClientFiles = fillers.leaves_filling pid s in
      kept left pid (operations.Data (record call { state = states.AtServer left.out.next })) (inl refl) (leaves_filling s pid p);
  ends = λ s reply p. let given : ClientFiles = says.replies pid reply s in unlocks (fillers.leaves_filling pid given) call.stream (leaves_filling given pid p);
}

-- Syncs: the first block that is still to go is dirty

first_by : (b : Bool) (file : FileId) (s : ClientFiles) (block first : BlockNo) (rest : List BlockNo) → syncing.is_dirty file s first ≡ b → (syncing.first_todo rest ≡ Some block → syncing.is_dirty file s block ≡ true) → syncing.first_todo (cond b (first ∷ rest) rest) ≡ Some block → syncing.is_dirty file s block ≡ true
first_by true file s block first rest e later found = subst (λ (other : BlockNo). syncing.is_dirty file s other ≡ true) (some_is first block found) e
first_by false file s block first rest e later found = later found

first_dirty : (file : FileId) (s : ClientFiles) (todo : List BlockNo) (block : BlockNo) → syncing.first_todo (syncing.dirty_of file s todo) ≡ Some block → syncing.is_dirty file s block ≡ true
first_dirty file s [] block found = absurd (cc)
first_dirty file s (first ∷ rest) block found = first_by (syncing.is_dirty file s first) file s block first (syncing.dirty_of file s rest) refl (first_dirty file s rest block) found

syncs_dirty : (o : Option ℕ) (pid : ℕ) (call : SyncCall) (block : BlockNo) (s : ClientFiles) → is_some o ≡ true → Holds s → Holds (syncing.syncs_dirty pid call block o s)
syncs_dirty (Some number) pid call block s dirty p = each_push (Sits s.ready) s.pending (pid, operations.Sync (record call { state = syncs.WaitOwn s.out.next })) p (inl refl)
syncs_dirty None pid call block s dirty p = absurd (cc)

syncs_out : (o : Option TxNo) (pid : ℕ) (call : SyncCall) (block : BlockNo) (s : ClientFiles) → syncing.is_dirty call.file s block ≡ true → Holds s → Holds (syncing.syncs_out pid call block o s)
syncs_out (Some tx) pid call block s dirty p = kept s pid (operations.Sync (record call { state = syncs.WaitOther tx })) (inl refl) p
syncs_out None pid call block s dirty p = syncs_dirty (dirty_at s.cache.blocks call.file block.0) pid call block s dirty p

syncs_first : (o : Option BlockNo) (pid : ℕ) (call : SyncCall) (s : ClientFiles) → ((block : BlockNo) → o ≡ Some block → syncing.is_dirty call.file s block ≡ true) → Holds s → Holds (syncing.syncs_first pid call o s)
syncs_first (Some block) pid call s dirty p = syncs_out (current_write_back call.file block s) pid call block s (dirty block refl) p
syncs_first None pid call s dirty p = p

syncs_so : (pid : ℕ) (call : SyncCall) (s : ClientFiles) → Holds s → Holds (syncing.syncs pid call s)
syncs_so pid call s p =
    let left : SyncCall = record call { todo = syncing.dirty_of call.file s call.todo } in
    syncs_first (syncing.first_todo left.todo) pid left s (λ block e. first_dirty call.file s call.todo block e) p

-- Closes and moves

close_ends : (cause : ClosingOf) (pid : ℕ) (s : ClientFiles) → Holds s → Holds (closing.ends_closing pid cause s)
close_ends (closings.Call number fd) pid s p = p
close_ends (closings.End about) pid s p = p

pub close_runs : (pid : ℕ) (cause : ClosingOf) → RunsClose pid cause Holds (λ number. Holds) Holds
close_runs pid cause = record {
  quiet = mute;
  held = λ number. mute;
  locks = λ s number e p. locks_so s pid number p;
  waits_lock = λ s fds fd number f d e p. kept (locking.locks pid number s) pid (operations.Close (closing.closing cause fds)) (inl refl) (locks_so s pid number p);
  drops = λ s fd p. p;
  drops_held = λ s fd number p. p;
  frees = λ s number p. unlocks s number p;
  asks = λ s work number file many e p. kept s pid (operations.Close (record work { state = closes.Closing s.out.next number })) (inl refl) p;
  goes_on = λ s fds p. started s pid (operations.Close (closing.closing cause fds)) p;
  tells = λ s device p. p;
  ends = λ s p. close_ends cause pid s p;
}

pub move_runs : (pid : ℕ) (work : MoveWork) → RunsMove pid work Holds Holds Holds
move_runs pid work = record {
  locks = λ s e p. locks_so s pid work.stream p;
  waits_lock = λ s e p. kept (locking.locks pid work.stream s) pid (operations.Move work) (inl refl) (locks_so s pid work.stream p);
  drops = λ s fd p. p;
  drops_held = λ s fd p. p;
  asks = λ s stream file many p. kept s pid (operations.Move (moving.moving_out work many stream.place s)) (inl refl) p;
  moved = λ s place p. p;
  lost = λ s p. p;
}

-- One turn

ran_close_by : (state : CloseState) (pid : ℕ) (work : CloseWork) (s : ClientFiles) → work.state ≡ state → Holds s → Holds (closing.runs_close_by state pid work s)
ran_close_by closes.WaitLock pid work s e p = subst (λ (state : CloseState). Holds (closing.closes_next pid (record work { state = state }) s)) (sym e) (close_walks.runs_close pid work.of Holds (λ number. Holds) Holds (close_runs pid work.of) work.fds s p)
ran_close_by (closes.Closing tx stream) pid work s e p = kept s pid (operations.Close work) (inl refl) p

ran_move_by : (state : MoveState) (pid : ℕ) (work : MoveWork) (s : ClientFiles) → Holds s → Holds (moving.runs_move_by state pid work s)
ran_move_by moves.WaitLock pid work s p = close_walks.runs_move pid work Holds Holds Holds (move_runs pid work) s p
ran_move_by (moves.MovingOut tx many place) pid work s p = kept s pid (operations.Move work) (inl refl) p

ran : (o : Option Pending) (pid : ℕ) (s : ClientFiles) → Holds s → Holds (turning.runs_by o pid s)
ran None pid s p = p
ran (Some (operations.Name call)) pid s p = kept s pid (operations.Name call) (inl refl) p
ran (Some (operations.Data call)) pid s p = data_walks.looks pid call Holds Holds Holds Holds Holds (data_runs pid call) s p
ran (Some (operations.Sync call)) pid s p = syncs_so pid call s p
ran (Some (operations.Close work)) pid s p = ran_close_by work.state pid work s refl p
ran (Some (operations.Move work)) pid s p = ran_move_by work.state pid work s p

-- Turns

record Turned (s : ClientFiles) : Type 0 where
  once : OneOperationEach s
  holds : Holds s

turned_by : (pids : List ℕ) (s : ClientFiles) → s.ready ≡ pids → Turned s → Turned (turning.turned_by pids s)
turned_by [] s e turned = turned
turned_by (pid ∷ pids) s e turned =
    let rest : List (ℕ × Pending) = less_of pid s.pending in
    let all : AllSit s.pending (pid ∷ pids) = subst (λ (ready : List ℕ). AllSit s.pending ready) e turned.holds in
    record {
      once = once_turned (first_of pid s.pending) pid pids s turned.once;
      holds = ran (first_of pid s.pending) pid (record s { ready = pids; pending = rest }) (looks_at rest pid pids (none_left pid s.pending turned.once) (each_less (Sits (pid ∷ pids)) (is_under same_pid pid) s.pending all));
    }

turns : (count : ℕ) (s : ClientFiles) → Turned s → Turned (turning.turns count s)
turns zero s turned = turned
turns (suc count) s turned = let before : ClientFiles = turning.turns count s in turned_by before.ready before refl (turns count s turned)

-- who is woken goes on
pub going_on_keeps : (s : ClientFiles) → OneOperationEach s → Holds s → Holds (turning.goes_on s)
going_on_keeps s once p = (turns (turning.turns_for s) s (record { once = once; holds = p })).holds
