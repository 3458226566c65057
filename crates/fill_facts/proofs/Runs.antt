-- Operations of the files' side that run keep that the first of those that fill goes on.
use Rattle.std.proofs.Common.{◌≡◌, ℕ, zero, suc, nat_lt, Bool, true, false, ◌&&◌, not, cond, List, [], ◌∷◌, ◌++◌, Option, Some, None, refl, sym, subst}
use Rattle.std.proofs.lemmas.Bool.{ltb-false}
use Rattle.std.specs.List.{list_any}
use Rattle.sprite_ids.specs.declared.StreamNo.{StreamNo}
use Rattle.kernel_steps.specs.Rows.{is_row, is_under}
use Rattle.stream_table.specs.declared.Place.{Place}
use Rattle.stream_table.specs.Entries.{may_be_at, placed}
use Rattle.client_file_tables.specs.declared.client_files.ClientFiles.{ClientFiles}
use Rattle.client_file_tables.specs.declared.moves.ClosingOf.{ClosingOf}
use Rattle.client_file_tables.specs.declared.moves.ClosingOf.TheVariants as closings
use Rattle.client_file_tables.specs.declared.moves.CloseWork.{CloseWork}
use Rattle.client_file_tables.specs.declared.moves.MoveWork.{MoveWork}
use Rattle.client_file_tables.specs.declared.pending.Pending.{Pending}
use Rattle.client_file_tables.specs.declared.pending.Pending.TheVariants as operations
use Rattle.client_file_tables.specs.declared.states.CloseState.{CloseState}
use Rattle.client_file_tables.specs.declared.states.CloseState.TheVariants as closes
use Rattle.client_file_tables.specs.declared.states.DataState.TheVariants as states
use Rattle.client_file_tables.specs.declared.states.MoveState.{MoveState}
use Rattle.client_file_tables.specs.declared.states.MoveState.TheVariants as moves
use Rattle.client_file_tables.specs.declared.works.DataCall.{DataCall}
use Rattle.client_file_tables.specs.Fillers as fillers
use Rattle.client_file_tables.specs.Fillers.{is_filling}
use Rattle.client_file_tables.specs.Locks as locking
use Rattle.client_file_tables.specs.Locks.{gets_lock}
use Rattle.client_file_tables.specs.Rows.{first_of, first_stream, is_pid, less_of, less_stream, same_pid, same_stream}
use Rattle.client_file_tables.specs.Says as says
use Rattle.client_file_tables.specs.Steps as steps
use Rattle.client_file_tables.specs.Streams as streams
use Rattle.client_file_tables.specs.Streams.{stream_at}
use Rattle.client_files.specs.Turns as turning
use Rattle.client_streams.specs.Closing as closing
use Rattle.client_streams.specs.Moving as moving
use Rattle.client_facts.specs.FileFacts.{OneOperationEach}
use Rattle.client_facts.proofs.CostLaws.{none_left}
use Rattle.file_walks.specs.Fits.{moved_by}
use Rattle.file_facts.proofs.RunFacts.{once_turned}
use Rattle.file_walks.proofs.CloseWalks as close_walks
use Rattle.file_walks.proofs.CloseWalks.{RunsClose, RunsMove}
use Rattle.file_walks.proofs.DataWalks as data_walks
use Rattle.file_walks.proofs.DataWalks.{NoRoom, RunsData, RunsSync}
use Rattle.file_walks.proofs.Muted.{Mute}
use Rattle.fill_facts.proofs.Caches.{Roomy, stays_roomy}
use Rattle.fill_facts.proofs.Counting.{never_stuck}
use Rattle.fill_facts.proofs.Goes.{Goes, GoesBut, but_begun, but_head, but_left, but_next, but_wake, goes_behind, goes_gone, goes_keep, goes_out, goes_push, goes_wake, stuck}

abbrev pub Holds : ClientFiles → Type 0
Holds s = Roomy s.cache × Goes s.pending s.fillers s.ready

-- the process's operation was taken out
abbrev pub Out : ℕ → ClientFiles → Type 0
Out pid s = (list_any (is_under same_pid pid) s.pending ≡ false) × (Roomy s.cache × GoesBut pid s.pending s.fillers s.ready)

-- and it stands first among those that fill
abbrev pub First : ℕ → ClientFiles → Type 0
First pid s = Out pid s × (is_filling pid s ≡ true)

pub mute : Mute Holds
mute = record { caches = λ s call p. (stays_roomy call s.cache p.0, p.1); delays = λ s rows p. p; tells = λ s event p. p; answers = λ s tx body p. p; learns = λ s domains p. p; cwds = λ s rows p. p; counts = λ s p. p }

pub mute_out : (pid : ℕ) → Mute (Out pid)
mute_out pid = record { caches = λ s call p. (p.0, (stays_roomy call s.cache p.1.0, p.1.1)); delays = λ s rows p. p; tells = λ s event p. p; answers = λ s tx body p. p; learns = λ s domains p. p; cwds = λ s rows p. p; counts = λ s p. p }

mute_first : (pid : ℕ) → Mute (First pid)
mute_first pid = record { caches = λ s call p. ((p.0.0, (stays_roomy call s.cache p.0.1.0, p.0.1.1)), p.1); delays = λ s rows p. p; tells = λ s event p. p; answers = λ s tx body p. p; learns = λ s domains p. p; cwds = λ s rows p. p; counts = λ s p. p }

-- Where who is woken alone may change

-- a fact that sees streams and queues of locks in nothing, and bears that others are woken
pub record SeesNoLocks (P : ClientFiles → Type 0) : Type 0 where
  pub streams : (s : ClientFiles) (entries : _) → P s → P (record s { streams = record s.streams { entries = entries } })
  pub waits : (s : ClientFiles) (rows : List (StreamNo × ℕ)) → P s → P (record s { lock_waits = rows })
  pub wakes : (s : ClientFiles) (pid : ℕ) → P s → P (steps.wakes pid s)

module _ (P : ClientFiles → Type 0) (sees : SeesNoLocks P) where
  pub locks : (s : ClientFiles) (pid : ℕ) (stream : StreamNo) → P s → P (locking.locks pid stream s)
  locks s pid stream p = on_if (gets_lock pid stream s)
    where
      taken : P (locking.takes_lock pid stream s)
      taken = sees.streams s _ p

      waits_if : (b : Bool) (u : ClientFiles) → P u → P (cond b u (record u { lock_waits = u.lock_waits ++ (stream, pid) ∷ [] }))
      waits_if true u q = q
      waits_if false u q = sees.waits u _ q

      on_if : (b : Bool) → P (cond b (locking.takes_lock pid stream s) (locking.waits_for_lock pid stream (locking.takes_lock pid stream s)))
      on_if true = taken
      on_if false = waits_if (list_any (is_row same_stream same_pid stream pid) s.lock_waits) (locking.takes_lock pid stream s) taken

  pub unlocks : (s : ClientFiles) (stream : StreamNo) → P s → P (locking.unlocks stream s)
  unlocks s stream p = handed (first_stream stream s.lock_waits)
    where
      freed : ClientFiles
      freed = record (locking.frees stream s) { lock_waits = less_stream stream s.lock_waits }

      so : P freed
      so = sees.waits (locking.frees stream s) _ (sees.streams s _ p)

      handed : (o : Option ℕ) → P (locking.hands_first o stream freed)
      handed (Some first) = sees.wakes (locking.takes_lock first stream freed) first (sees.streams freed _ so)
      handed None = so

  pub moves_place : (s : ClientFiles) (number : StreamNo) (place : Place) → P s → P (streams.moves_place number place s)
  moves_place s number place p = on_if (may_be_at place (stream_at number s))
    where
      on_if : (b : Bool) → P (cond b (record s { streams = record s.streams { entries = placed s.streams.entries number place } }) s)
      on_if true = sees.streams s _ p
      on_if false = p

pub no_locks : SeesNoLocks Holds
no_locks = record { streams = λ s entries p. p; waits = λ s rows p. p; wakes = λ s pid p. (p.0, goes_wake s.pending s.fillers s.ready (pid ∷ []) p.1) }

pub no_locks_out : (pid : ℕ) → SeesNoLocks (Out pid)
no_locks_out pid = record { streams = λ s entries p. p; waits = λ s rows p. p; wakes = λ s other p. (p.0, (p.1.0, but_wake pid s.pending s.fillers s.ready (other ∷ []) p.1.1)) }

-- a process is kept that doesn't wait for its turn, or waits behind another
pub keep : (s : ClientFiles) (pid : ℕ) (operation : Pending) → stuck operation ≡ false → Out pid s → Holds (steps.keeps pid operation s)
keep s pid operation idle p = (p.1.0, goes_keep pid s.pending s.fillers s.ready operation p.0 idle p.1.1)

-- or a call begins
pub push : (s : ClientFiles) (row : ℕ × Pending) → stuck row.1 ≡ false → Holds s → Holds (record s { pending = s.pending ++ row ∷ [] })
push s row idle p = (p.0, goes_push s.pending s.fillers s.ready row idle p.1)

pub start : (s : ClientFiles) (pid : ℕ) (operation : Pending) → stuck operation ≡ false → Holds s → Holds (steps.starts pid operation s)
start s pid operation idle p = no_locks.wakes (steps.keeps pid operation s) pid (push s (pid, operation) idle p)

pub gone : (s : ClientFiles) (pid : ℕ) → Out pid s → Holds s
gone s pid p = (p.1.0, goes_gone pid s.pending s.fillers s.ready p.0 p.1.1)

-- a turn is left
left : (s : ClientFiles) (pid : ℕ) → Out pid s → Out pid (fillers.leaves_filling pid s)
left s pid p = on_if (is_filling pid s) refl
  where
    woken : (waiting : List ℕ) → (fillers.drops_filler pid s).fillers ≡ waiting → Out pid (fillers.wakes_first waiting (fillers.drops_filler pid s))
    woken [] e = (p.0, (p.1.0, subst (λ (pids : List ℕ). GoesBut pid s.pending pids s.ready) (sym e) tt))
    woken (first ∷ rest) e = (p.0, (p.1.0, subst (λ (pids : List ℕ). GoesBut pid s.pending pids (s.ready ++ first ∷ [])) (sym e) (but_next pid first s.pending s.ready)))

    on_if : (b : Bool) → is_filling pid s ≡ b → Out pid (cond b (fillers.wakes_filler (fillers.drops_filler pid s)) (fillers.drops_filler pid s))
    on_if true e = woken (fillers.drops_filler pid s).fillers refl
    on_if false e = (p.0, (p.1.0, but_left pid s.pending s.fillers s.ready e p.1.1))

begun : (s : ClientFiles) (pid : ℕ) → Out pid s → Out pid (fillers.begins_filling pid s)
begun s pid p = on_if (list_any (is_pid pid) s.fillers)
  where
    on_if : (b : Bool) → Out pid (cond b s (record s { fillers = s.fillers ++ pid ∷ [] }))
    on_if true = p
    on_if false = (p.0, (p.1.0, but_begun pid s.pending s.fillers s.ready p.1.1))

-- Operations on files' data

-- one that finds no room moves more than a program's call may
too_long : (call : DataCall) (s : ClientFiles) → Roomy s.cache → NoRoom call s.cache → (true && not (nat_lt 16384 (moved_by call.kind))) ≡ false
too_long call s roomy room = by_test (nat_lt 16384 (moved_by call.kind)) refl
  where
    by_test : (b : Bool) → nat_lt 16384 (moved_by call.kind) ≡ b → (true && not b) ≡ false
    by_test true e = refl
    by_test false e = absurd (never_stuck call s.cache roomy (ltb-false 16384 (moved_by call.kind) e) room)

pub data_runs : (pid : ℕ) (call : DataCall) → RunsData pid call (Out pid) (Out pid) (Out pid) (First pid) Holds
data_runs pid call = record {
  quiet = mute_out pid;
  held = mute_out pid;
  first = mute_first pid;
  locks = λ s e p. locks (Out pid) (no_locks_out pid) s pid call.stream p;
  waits_lock = λ s e p. keep (locking.locks pid call.stream s) pid (operations.Data (record call { state = states.WaitLock })) refl (locks (Out pid) (no_locks_out pid) s pid call.stream p);
  not_open = λ s e p. keep s pid (operations.Data (record call { state = states.WaitLock })) refl p;
  places = λ s place p. moves_place (Out pid) (no_locks_out pid) s call.stream place p;
  begins_filling = λ s on p. begun s pid p;
  comes_first = λ s e p. (p, e);
  waits_turn = λ s e p. (p.1.0, goes_behind pid s.pending s.fillers s.ready (operations.Data (record call { state = states.Turn })) e p.1.1);
  filled = λ s p. p.0;
  fetches = λ s block p. keep s pid (operations.Data (record call { state = states.Fetching s.out.next block })) refl p.0;
  waits_back = λ s file block tx e p. keep s pid (operations.Data (record call { state = states.Room tx })) refl p.0;
  sends_back = λ s file block number p. keep s pid (operations.Data (record call { state = states.Room s.out.next })) refl p.0;
  none_dirty = λ s room p. keep s pid (operations.Data (record call { state = states.Turn })) (too_long call s p.0.1.0 room) p.0;
  asks = λ s offset append p. let gone : ClientFiles = fillers.leaves_filling pid s in keep gone pid (operations.Data (record call { state = states.AtServer gone.out.next })) refl (left s pid p);
  ends = λ s reply p. unlocks Holds no_locks (fillers.leaves_filling pid (says.replies pid reply s)) call.stream (gone (fillers.leaves_filling pid (says.replies pid reply s)) pid (left (says.replies pid reply s) pid p));
}

-- Operations that need no blocks

pub sync_runs : (pid : ℕ) → RunsSync pid Holds Holds
sync_runs pid = record {
  quiet = mute;
  stays = λ s call p. push s (pid, operations.Sync _) refl p;
  waits_other = λ s call block tx e p. push s (pid, operations.Sync _) refl p;
  sends_own = λ s call block number p. push s (pid, operations.Sync _) refl p;
  ends = λ s reply p. p;
}

close_ends : (cause : ClosingOf) (pid : ℕ) (s : ClientFiles) → Holds s → Holds (closing.ends_closing pid cause s)
close_ends (closings.Call number fd) pid s p = p
close_ends (closings.End about) pid s p = p

pub close_runs : (pid : ℕ) (cause : ClosingOf) → RunsClose pid cause Holds (λ number. Holds) Holds
close_runs pid cause = record {
  quiet = mute;
  held = λ number. mute;
  locks = λ s number e p. locks Holds no_locks s pid number p;
  waits_lock = λ s fds fd number f d e p. push (locking.locks pid number s) (pid, operations.Close (closing.closing cause fds)) refl (locks Holds no_locks s pid number p);
  drops = λ s fd p. p;
  drops_held = λ s fd number p. p;
  frees = λ s number p. unlocks Holds no_locks s number p;
  asks = λ s work number file many e p. push s (pid, operations.Close (record work { state = closes.Closing s.out.next number })) refl p;
  goes_on = λ s fds p. start s pid (operations.Close (closing.closing cause fds)) refl p;
  tells = λ s device p. p;
  ends = λ s p. close_ends cause pid s p;
}

pub move_runs : (pid : ℕ) (work : MoveWork) → RunsMove pid work Holds Holds Holds
move_runs pid work = record {
  locks = λ s e p. locks Holds no_locks s pid work.stream p;
  waits_lock = λ s e p. push (locking.locks pid work.stream s) (pid, operations.Move work) refl (locks Holds no_locks s pid work.stream p);
  drops = λ s fd p. p;
  drops_held = λ s fd p. p;
  asks = λ s stream file kept p. push s (pid, operations.Move (moving.moving_out work kept stream.place s)) refl p;
  moved = λ s place p. p;
  lost = λ s p. p;
}

-- One turn

ran_close : (state : CloseState) (pid : ℕ) (work : CloseWork) (s : ClientFiles) → work.state ≡ state → Holds s → Holds (closing.runs_close_by state pid work s)
ran_close closes.WaitLock pid work s e p = subst (λ (state : CloseState). Holds (closing.closes_next pid (record work { state = state }) s)) (sym e) (close_walks.runs_close pid work.of Holds (λ number. Holds) Holds (close_runs pid work.of) work.fds s p)
ran_close (closes.Closing tx stream) pid work s e p = push s (pid, operations.Close work) refl p

ran_move : (state : MoveState) (pid : ℕ) (work : MoveWork) (s : ClientFiles) → Holds s → Holds (moving.runs_move_by state pid work s)
ran_move moves.WaitLock pid work s p = close_walks.runs_move pid work Holds Holds Holds (move_runs pid work) s p
ran_move (moves.MovingOut tx kept place) pid work s p = push s (pid, operations.Move work) refl p

-- the operation of the first that is woken was taken out
taken : (s : ClientFiles) (pid : ℕ) (pids : List ℕ) → s.ready ≡ pid ∷ pids → OneOperationEach s → Holds s → Out pid (record s { ready = pids; pending = less_of pid s.pending })
taken s pid pids e once p =
    (none_left pid s.pending once, (p.0, but_head pid (less_of pid s.pending) s.fillers pids (subst (λ (ready : List ℕ). GoesBut pid (less_of pid s.pending) s.fillers ready) e (goes_out pid s.pending s.fillers s.ready p.1))))

ran_at : (o : Option Pending) (pid : ℕ) (s : ClientFiles) → Out pid s → Holds (turning.runs_by o pid s)
ran_at None pid s p = gone s pid p
ran_at (Some (operations.Name call)) pid s p = push s (pid, operations.Name call) refl (gone s pid p)
ran_at (Some (operations.Data call)) pid s p = data_walks.looks pid call (Out pid) (Out pid) (Out pid) (First pid) Holds (data_runs pid call) s p
ran_at (Some (operations.Sync call)) pid s p = data_walks.syncs pid Holds Holds (sync_runs pid) call s (gone s pid p)
ran_at (Some (operations.Close work)) pid s p = ran_close work.state pid work s refl (gone s pid p)
ran_at (Some (operations.Move work)) pid s p = ran_move work.state pid work s (gone s pid p)

pub turned_by : (pids : List ℕ) (s : ClientFiles) → s.ready ≡ pids → OneOperationEach s → Holds s → Holds (turning.turned_by pids s)
turned_by [] s e once p = p
turned_by (pid ∷ pids) s e once p = ran_at (first_of pid s.pending) pid (record s { ready = pids; pending = less_of pid s.pending }) (taken s pid pids e once p)

-- each process has one operation at most
record Turned (s : ClientFiles) : Type 0 where
  pub once : OneOperationEach s
  pub holds : Holds s

turns : (count : ℕ) (s : ClientFiles) → Turned s → Turned (turning.turns count s)
turns zero s t = t
turns (suc count) s t =
    let before : ClientFiles = turning.turns count s in
    let so : Turned before = turns count s t in
    record { once = once_by before.ready before so.once; holds = turned_by before.ready before refl so.once so.holds }
  where
    once_by : (pids : List ℕ) (s : ClientFiles) → OneOperationEach s → OneOperationEach (turning.turned_by pids s)
    once_by [] s once = once
    once_by (pid ∷ pids) s once = once_turned (first_of pid s.pending) pid pids s once

-- who is woken goes on
pub going_on_keeps : (s : ClientFiles) → OneOperationEach s → Holds s → Holds (turning.goes_on s)
going_on_keeps s once p = (turns (turning.turns_for s) s (record { once = once; holds = p })).holds
