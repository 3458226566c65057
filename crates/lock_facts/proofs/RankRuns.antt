-- Operations of the files' side that run keep the order in which they fill blocks.
use Rattle.std.proofs.Common.{◌≡◌, ◌⊎◌, inl, inr, ℕ, zero, suc, ◌==◌, Bool, true, false, cond, List, [], ◌∷◌, ◌++◌, Option, Some, None, refl, sym, ap, ◌∙◌, subst}
use Rattle.std.proofs.lemmas.Bool.{eq-eqb, eqb-true}
use Rattle.std.specs.List.{AllByRecursion, list_any}
use Rattle.sprite_ids.specs.declared.StreamNo.{StreamNo}
use Rattle.sprite_ids.specs.Lists.{less}
use Rattle.kernel_steps.specs.Rows.{is_row}
use Rattle.stream_table.specs.declared.Place.{Place}
use Rattle.stream_table.specs.Entries.{has_lock, holder_of, may_be_at, placed}
use Rattle.client_file_tables.specs.declared.client_files.ClientFiles.{ClientFiles}
use Rattle.client_file_tables.specs.declared.moves.ClosingOf.{ClosingOf}
use Rattle.client_file_tables.specs.declared.moves.ClosingOf.TheVariants as closings
use Rattle.client_file_tables.specs.declared.moves.CloseWork.{CloseWork}
use Rattle.client_file_tables.specs.declared.moves.MoveWork.{MoveWork}
use Rattle.client_file_tables.specs.declared.pending.Pending.{Pending}
use Rattle.client_file_tables.specs.declared.pending.Pending.TheVariants as operations
use Rattle.client_file_tables.specs.declared.states.CloseState.{CloseState}
use Rattle.client_file_tables.specs.declared.states.CloseState.TheVariants as closes
use Rattle.client_file_tables.specs.declared.states.DataState.{DataState}
use Rattle.client_file_tables.specs.declared.states.DataState.TheVariants as states
use Rattle.client_file_tables.specs.declared.states.MoveState.{MoveState}
use Rattle.client_file_tables.specs.declared.states.MoveState.TheVariants as moves
use Rattle.client_file_tables.specs.declared.works.DataCall.{DataCall}
use Rattle.client_file_tables.specs.Fillers as fillers
use Rattle.client_file_tables.specs.Fillers.{is_filling}
use Rattle.client_file_tables.specs.Locks as locking
use Rattle.client_file_tables.specs.Locks.{gets_lock}
use Rattle.client_file_tables.specs.Rows.{first_of, first_stream, is_pid, less_of, less_stream, same_pid, same_stream}
use Rattle.client_file_tables.specs.Says as says
use Rattle.client_file_tables.specs.Streams as streams
use Rattle.client_file_tables.specs.Streams.{stream_at}
use Rattle.client_files.specs.Turns as turning
use Rattle.client_streams.specs.Closing as closing
use Rattle.client_streams.specs.Moving as moving
use Rattle.client_facts.specs.FileFacts.{OneOperationEach, data_holds, does, is_filler, needs_blocks}
use Rattle.client_facts.proofs.CostLaws.{none_left}
use Rattle.file_walks.proofs.CloseWalks as close_walks
use Rattle.file_walks.proofs.CloseWalks.{RunsClose, RunsMove}
use Rattle.file_walks.proofs.DataWalks as data_walks
use Rattle.file_walks.proofs.DataWalks.{RunsData, RunsSync}
use Rattle.file_walks.proofs.Muted.{Mute}
use Rattle.file_facts.proofs.BookLaws.{found_each, or_cases}
use Rattle.lock_facts.proofs.Boards as locked
use Rattle.lock_facts.proofs.Boards.{Fine, board_of, has_turn}
use Rattle.lock_facts.proofs.BoardLaws as boards
use Rattle.lock_facts.proofs.Desks as queued
use Rattle.lock_facts.proofs.Desks.{Settled}
use Rattle.lock_facts.proofs.Ranks as ranks
use Rattle.lock_facts.proofs.Ranks.{InOrder, Ranked, RankedBut, needs_in, waits_in}
use Rattle.lock_facts.proofs.RunFacts as lock_runs
use Rattle.lock_facts.proofs.TableFacts.{leads_open}
use Rattle.lock_facts.proofs.WaitRuns as wait_runs

abbrev pub Holds : ClientFiles → Type 0
Holds s = Ranked s.pending s.fillers

-- Where operations and turns stay

-- where a lock is taken or waited for
same_locks : (P : List (ℕ × Pending) → List ℕ → Type 0) (s : ClientFiles) (pid : ℕ) (stream : StreamNo) → P s.pending s.fillers → P (locking.locks pid stream s).pending (locking.locks pid stream s).fillers
same_locks P s pid stream p = on_if (gets_lock pid stream s)
  where
    waits_if : (b : Bool) (u : ClientFiles) → P u.pending u.fillers → P (cond b u (record u { lock_waits = u.lock_waits ++ (stream, pid) ∷ [] })).pending (cond b u (record u { lock_waits = u.lock_waits ++ (stream, pid) ∷ [] })).fillers
    waits_if true u q = q
    waits_if false u q = q

    on_if : (b : Bool) → P (cond b (locking.takes_lock pid stream s) (locking.waits_for_lock pid stream (locking.takes_lock pid stream s))).pending (cond b (locking.takes_lock pid stream s) (locking.waits_for_lock pid stream (locking.takes_lock pid stream s))).fillers
    on_if true = p
    on_if false = waits_if (list_any (is_row same_stream same_pid stream pid) s.lock_waits) (locking.takes_lock pid stream s) p

-- where one is freed or handed over
pub same_unlocks : (P : List (ℕ × Pending) → List ℕ → Type 0) (s : ClientFiles) (stream : StreamNo) → P s.pending s.fillers → P (locking.unlocks stream s).pending (locking.unlocks stream s).fillers
same_unlocks P s stream p = handed (first_stream stream s.lock_waits)
  where
    handed : (o : Option ℕ) → P (locking.hands_first o stream (record (locking.frees stream s) { lock_waits = less_stream stream s.lock_waits })).pending (locking.hands_first o stream (record (locking.frees stream s) { lock_waits = less_stream stream s.lock_waits })).fillers
    handed (Some first) = p
    handed None = p

-- where an offset goes somewhere else
pub same_place : (P : List (ℕ × Pending) → List ℕ → Type 0) (s : ClientFiles) (number : StreamNo) (place : Place) → P s.pending s.fillers → P (streams.moves_place number place s).pending (streams.moves_place number place s).fillers
same_place P s number place p = on_if (may_be_at place (stream_at number s))
  where
    on_if : (b : Bool) → P (cond b (record s { streams = record s.streams { entries = placed s.streams.entries number place } }) s).pending (cond b (record s { streams = record s.streams { entries = placed s.streams.entries number place } }) s).fillers
    on_if true = p
    on_if false = p

-- and where a turn is left
left_so : (P : List (ℕ × Pending) → List ℕ → Type 0) (s : ClientFiles) (pid : ℕ) → P s.pending (less (is_pid pid) s.fillers) → P (fillers.leaves_filling pid s).pending (fillers.leaves_filling pid s).fillers
left_so P s pid p = on_if (is_filling pid s)
  where
    woken_so : (waiting : List ℕ) → P (fillers.wakes_first waiting (fillers.drops_filler pid s)).pending (fillers.wakes_first waiting (fillers.drops_filler pid s)).fillers
    woken_so [] = p
    woken_so (first ∷ rest) = p

    on_if : (b : Bool) → P (cond b (fillers.wakes_filler (fillers.drops_filler pid s)) (fillers.drops_filler pid s)).pending (cond b (fillers.wakes_filler (fillers.drops_filler pid s)) (fillers.drops_filler pid s)).fillers
    on_if true = woken_so (fillers.drops_filler pid s).fillers
    on_if false = p

begun_so : (s : ClientFiles) (pid : ℕ) → RankedBut pid s.pending s.fillers → RankedBut pid (fillers.begins_filling pid s).pending (fillers.begins_filling pid s).fillers
begun_so s pid r = by_test (has_turn pid s.fillers) refl
  where
    by_test : (b : Bool) → has_turn pid s.fillers ≡ b → RankedBut pid (cond b s (record s { fillers = s.fillers ++ pid ∷ [] })).pending (cond b s (record s { fillers = s.fillers ++ pid ∷ [] })).fillers
    by_test true e = r
    by_test false e = ranks.rank_begun pid s.pending s.fillers e r

-- Operations on files' data

-- who stands among those that fill holds the lock of its stream
abbrev Mine : ℕ → DataCall → ClientFiles → Type 0
Mine pid call s = has_turn pid s.fillers ≡ true → holder_of s.streams.entries call.stream ≡ Some pid

abbrev pub Looks : ℕ → DataCall → ClientFiles → Type 0
Looks pid call s = locked.HoldsOff pid s × (queued.HoldsAt pid call s × (RankedBut pid s.pending s.fillers × Mine pid call s))

abbrev pub Locks : ℕ → DataCall → ClientFiles → Type 0
Locks pid call s = locked.HoldsLocked pid call.stream s × (queued.HoldsAt pid call s × RankedBut pid s.pending s.fillers)

abbrev pub Fills : ℕ → DataCall → ClientFiles → Type 0
Fills pid call s = Locks pid call s × (is_filling pid s ≡ true)

mute_looks : (pid : ℕ) (call : DataCall) → Mute (Looks pid call)
mute_looks pid call = record { caches = λ s cache p. p; delays = λ s rows p. p; tells = λ s event p. p; answers = λ s tx body p. p; learns = λ s domains p. p; cwds = λ s rows p. p; counts = λ s p. p }

mute_locks : (pid : ℕ) (call : DataCall) → Mute (Locks pid call)
mute_locks pid call = record { caches = λ s cache p. p; delays = λ s rows p. p; tells = λ s event p. p; answers = λ s tx body p. p; learns = λ s domains p. p; cwds = λ s rows p. p; counts = λ s p. p }

mute_fills : (pid : ℕ) (call : DataCall) → Mute (Fills pid call)
mute_fills pid call = record { caches = λ s cache p. p; delays = λ s rows p. p; tells = λ s event p. p; answers = λ s tx body p. p; learns = λ s domains p. p; cwds = λ s rows p. p; counts = λ s p. p }

pub mute : Mute Holds
mute = record { caches = λ s cache p. p; delays = λ s rows p. p; tells = λ s event p. p; answers = λ s tx body p. p; learns = λ s domains p. p; cwds = λ s rows p. p; counts = λ s p. p }

-- who waits for a lock has no turn
none_waits : (s : ClientFiles) (pid : ℕ) (call : DataCall) → gets_lock pid call.stream s ≡ false → Mine pid call s → has_turn pid s.fillers ≡ false
none_waits s pid call e mine = by_test (has_turn pid s.fillers) refl
  where
    by_test : (b : Bool) → has_turn pid s.fillers ≡ b → b ≡ false
    by_test false f = refl
    by_test true f = absurd (let gets : gets_lock pid call.stream s ≡ true = ap (has_lock pid) (mine f) ∙ eq-eqb pid pid refl in let both = sym gets ∙ e in cc)

pub data_runs : (pid : ℕ) (call : DataCall) → RunsData pid call (Looks pid call) (Locks pid call) (Locks pid call) (Fills pid call) Holds
data_runs pid call = record {
  quiet = mute_looks pid call;
  held = mute_locks pid call;
  first = mute_fills pid call;
  locks = λ s e p. ((lock_runs.data_runs pid call).locks s e p.0, ((wait_runs.data_runs pid call).locks s e p.1.0, same_locks (RankedBut pid) s pid call.stream p.1.1.0));
  waits_lock = λ s e p.
      let operation : Pending = operations.Data (record call { state = states.WaitLock }) in
      same_locks (λ (rows : List (ℕ × Pending)) (turns : List ℕ). Ranked (rows ++ (pid, operation) ∷ []) turns) s pid call.stream (ranks.rank_apart pid s.pending s.fillers operation (none_waits s pid call e p.1.1.1) p.1.1.0);
  not_open = λ s e p. absurd (let never = leads_open s.streams pid call.fd call.stream p.1.0.off.sound.lawful p.1.0.leads e in cc);
  places = λ s place p. ((lock_runs.data_runs pid call).places s place p.0, ((wait_runs.data_runs pid call).places s place p.1.0, same_place (RankedBut pid) s call.stream place p.1.1));
  begins_filling = λ s on p. (((lock_runs.data_runs pid call).begins_filling s on p.0).locked, ((wait_runs.data_runs pid call).begins_filling s on p.1.0, begun_so s pid p.1.1));
  comes_first = λ s e p. (p, e);
  waits_turn = λ s e p. ranks.rank_turn pid s.pending s.fillers (operations.Data (record call { state = states.Turn })) p.0.off.none refl refl p.1.1;
  filled = λ s p. p.0;
  fetches = λ s block p. ranks.rank_first pid s.pending s.fillers (operations.Data (record call { state = states.Fetching s.out.next block })) p.0.0.off.none refl p.1 p.0.1.1;
  waits_back = λ s file block tx e p. ranks.rank_first pid s.pending s.fillers (operations.Data (record call { state = states.Room tx })) p.0.0.off.none refl p.1 p.0.1.1;
  sends_back = λ s file block number p. ranks.rank_first pid s.pending s.fillers (operations.Data (record call { state = states.Room s.out.next })) p.0.0.off.none refl p.1 p.0.1.1;
  none_dirty = λ s e p. ranks.rank_turn pid s.pending s.fillers (operations.Data (record call { state = states.Turn })) p.0.0.off.none refl refl p.0.1.1;
  asks = λ s offset append p.
      let operation : Pending = operations.Data (record call { state = states.AtServer (fillers.leaves_filling pid s).out.next }) in
      left_so (λ (rows : List (ℕ × Pending)) (turns : List ℕ). Ranked (rows ++ (pid, operation) ∷ []) turns) s pid
      (ranks.rank_apart pid s.pending (less (is_pid pid) s.fillers) operation (ranks.turn_gone pid s.fillers p.1.1.1) (ranks.rank_left pid s.pending s.fillers p.1.1));
  ends = λ s reply p.
      let given : ClientFiles = says.replies pid reply s in
      same_unlocks Ranked (fillers.leaves_filling pid given) call.stream
      (left_so Ranked given pid (ranks.rank_gone pid s.pending (less (is_pid pid) s.fillers) (ranks.turn_gone pid s.fillers p.1.1.1) (ranks.rank_left pid s.pending s.fillers p.1.1)));
}

-- Operations that need no blocks

pub sync_runs : (pid : ℕ) → RunsSync pid Holds Holds
sync_runs pid = record {
  quiet = mute;
  stays = λ s call p. ranks.rank_push s.pending s.fillers _ p;
  waits_other = λ s call block tx e p. ranks.rank_push s.pending s.fillers _ p;
  sends_own = λ s call block number p. ranks.rank_push s.pending s.fillers _ p;
  ends = λ s reply p. p;
}

close_ends : (cause : ClosingOf) (pid : ℕ) (s : ClientFiles) → Holds s → Holds (closing.ends_closing pid cause s)
close_ends (closings.Call number fd) pid s p = p
close_ends (closings.End about) pid s p = p

pub close_runs : (pid : ℕ) (cause : ClosingOf) → RunsClose pid cause Holds (λ number. Holds) Holds
close_runs pid cause = record {
  quiet = mute;
  held = λ number. mute;
  locks = λ s number e p. same_locks Ranked s pid number p;
  waits_lock = λ s fds fd number f d e p.
      same_locks (λ (rows : List (ℕ × Pending)) (turns : List ℕ). Ranked (rows ++ (pid, operations.Close (closing.closing cause fds)) ∷ []) turns) s pid number (ranks.rank_push s.pending s.fillers (pid, operations.Close (closing.closing cause fds)) p);
  drops = λ s fd p. p;
  drops_held = λ s fd number p. p;
  frees = λ s number p. same_unlocks Ranked s number p;
  asks = λ s work number file many e p. ranks.rank_push s.pending s.fillers (pid, operations.Close (record work { state = closes.Closing s.out.next number })) p;
  goes_on = λ s fds p. ranks.rank_push s.pending s.fillers (pid, operations.Close (closing.closing cause fds)) p;
  tells = λ s device p. p;
  ends = λ s p. close_ends cause pid s p;
}

pub move_runs : (pid : ℕ) (work : MoveWork) → RunsMove pid work Holds Holds Holds
move_runs pid work = record {
  locks = λ s e p. same_locks Ranked s pid work.stream p;
  waits_lock = λ s e p. same_locks (λ (rows : List (ℕ × Pending)) (turns : List ℕ). Ranked (rows ++ (pid, operations.Move work) ∷ []) turns) s pid work.stream (ranks.rank_push s.pending s.fillers (pid, operations.Move work) p);
  drops = λ s fd p. p;
  drops_held = λ s fd p. p;
  asks = λ s stream file kept p. ranks.rank_push s.pending s.fillers (pid, operations.Move (moving.moving_out work kept stream.place s)) p;
  moved = λ s place p. p;
  lost = λ s p. p;
}

-- One turn

ran_close_by : (state : CloseState) (pid : ℕ) (work : CloseWork) (s : ClientFiles) → work.state ≡ state → Holds s → Holds (closing.runs_close_by state pid work s)
ran_close_by closes.WaitLock pid work s e p = subst (λ (state : CloseState). Holds (closing.closes_next pid (record work { state = state }) s)) (sym e) (close_walks.runs_close pid work.of Holds (λ number. Holds) Holds (close_runs pid work.of) work.fds s p)
ran_close_by (closes.Closing tx stream) pid work s e p = ranks.rank_push s.pending s.fillers (pid, operations.Close work) p

ran_move_by : (state : MoveState) (pid : ℕ) (work : MoveWork) (s : ClientFiles) → Holds s → Holds (moving.runs_move_by state pid work s)
ran_move_by moves.WaitLock pid work s p = close_walks.runs_move pid work Holds Holds Holds (move_runs pid work) s p
ran_move_by (moves.MovingOut tx kept place) pid work s p = ranks.rank_push s.pending s.fillers (pid, operations.Move work) p

-- who has a turn needs blocks
all_need : (rows : List (ℕ × Pending)) (pid : ℕ) (rest : List ℕ) → AllByRecursion (λ (p : ℕ). waits_in rows p ≡ true) rest → has_turn pid rest ≡ true → needs_in rows pid ≡ true
all_need rows pid [] all e = absurd (cc)
all_need rows pid (p ∷ rest) all e = by_case (all_need rows pid rest all.1) (or_cases (p == pid) (has_turn pid rest) e)
  where
    by_case : (has_turn pid rest ≡ true → needs_in rows pid ≡ true) → ((p == pid) ≡ true) ⊎ (has_turn pid rest ≡ true) → needs_in rows pid ≡ true
    by_case later (inl here) = subst (λ (n : ℕ). needs_in rows n ≡ true) (eqb-true p pid here) (ranks.needs_turn (first_of p rows) all.0)
    by_case later (inr there) = later there

turn_needs : (rows : List (ℕ × Pending)) (pid : ℕ) (fillers : List ℕ) → InOrder (needs_in rows) (waits_in rows) fillers → has_turn pid fillers ≡ true → needs_in rows pid ≡ true
turn_needs rows pid [] h e = absurd (cc)
turn_needs rows pid (p ∷ rest) h e = by_case (or_cases (p == pid) (has_turn pid rest) e)
  where
    by_case : ((p == pid) ≡ true) ⊎ (has_turn pid rest ≡ true) → needs_in rows pid ≡ true
    by_case (inl here) = subst (λ (n : ℕ). needs_in rows n ≡ true) (eqb-true p pid here) h.0
    by_case (inr there) = all_need rows pid rest h.1 there

holds_so : (state : DataState) (stream : StreamNo) → needs_blocks state ≡ true → data_holds state stream ≡ Some stream
holds_so states.WaitLock stream e = absurd (cc)
holds_so states.Turn stream e = refl
holds_so (states.Room tx) stream e = refl
holds_so (states.Fetching tx block) stream e = refl
holds_so (states.AtServer tx) stream e = absurd (cc)

-- before it looks
pub looks_so : (s u : ClientFiles) (pid : ℕ) (call : DataCall) → first_of pid s.pending ≡ Some (operations.Data call) → u.fillers ≡ s.fillers → u.streams.entries ≡ s.streams.entries → Fine s.streams.entries s.fillers (pid, operations.Data call) → Holds s → Mine pid call u
looks_so s u pid call found same_turns same_entries fine r h =
    let turn : has_turn pid s.fillers ≡ true = sym (ap (has_turn pid) same_turns) ∙ h in
    let needs : needs_blocks call.state ≡ true = sym (ap (λ (o : Option Pending). does is_filler o) found) ∙ turn_needs s.pending pid s.fillers r.0 turn in
    ap (λ es. holder_of es call.stream) same_entries ∙ fine.lock call.stream (holds_so call.state call.stream needs)

pub idle_out : (s : ClientFiles) (pid : ℕ) (operation : Pending) → first_of pid s.pending ≡ Some operation → is_filler operation ≡ false → Holds s → Ranked (less_of pid s.pending) s.fillers
idle_out s pid operation found idle r = ranks.rank_idle_out pid s.pending s.fillers (ap (does is_filler) found ∙ idle) r

-- what holds of locks, queues and the order
pub record Turned (s : ClientFiles) : Type 0 where
  pub locks : lock_runs.Turned s
  pub waits : wait_runs.Turned s
  pub ranked : Holds s

ran_at : (o : Option Pending) (pid : ℕ) (pids : List ℕ) (s : ClientFiles) → s.ready ≡ pid ∷ pids → first_of pid s.pending ≡ o → Turned s → Holds (turning.runs_by o pid (record s { ready = pids; pending = less_of pid s.pending }))
ran_at None pid pids s e found t = ranks.rank_idle_out pid s.pending s.fillers (ap (does is_filler) found) t.ranked
ran_at (Some (operations.Name call)) pid pids s e found t = ranks.rank_push (less_of pid s.pending) s.fillers (pid, operations.Name call) (idle_out s pid (operations.Name call) found refl t.ranked)
ran_at (Some (operations.Data call)) pid pids s e found t =
    let left : ClientFiles = record s { ready = pids; pending = less_of pid s.pending } in
    let none = none_left pid s.pending t.locks.once in
    data_walks.looks pid call (Looks pid call) (Locks pid call) (Locks pid call) (Fills pid call) Holds (data_runs pid call) left (
      record { sound = boards.taken_out (board_of s) pid t.locks.holds; none = none },
      (
        record { off = wait_runs.left_so pid pids s e t.waits.once t.waits.holds; leads = (found_each (Settled s.streams.owners s.lock_waits s.ready) pid s.pending (operations.Data call) t.waits.holds.rows found).leads },
        (
          ranks.rank_out pid s.pending s.fillers t.ranked,
          looks_so s left pid call found refl refl (found_each (Fine s.streams.entries s.fillers) pid s.pending (operations.Data call) t.locks.holds.rows found) t.ranked,
        ),
      ),
    )
ran_at (Some (operations.Sync call)) pid pids s e found t = data_walks.syncs pid Holds Holds (sync_runs pid) call (record s { ready = pids; pending = less_of pid s.pending }) (idle_out s pid (operations.Sync call) found refl t.ranked)
ran_at (Some (operations.Close work)) pid pids s e found t = ran_close_by work.state pid work (record s { ready = pids; pending = less_of pid s.pending }) refl (idle_out s pid (operations.Close work) found refl t.ranked)
ran_at (Some (operations.Move work)) pid pids s e found t = ran_move_by work.state pid work (record s { ready = pids; pending = less_of pid s.pending }) (idle_out s pid (operations.Move work) found refl t.ranked)

pub ranked_by : (pids : List ℕ) (s : ClientFiles) → s.ready ≡ pids → Turned s → Holds (turning.turned_by pids s)
ranked_by [] s e t = t.ranked
ranked_by (pid ∷ pids) s e t = ran_at (first_of pid s.pending) pid pids s e refl t

turns : (count : ℕ) (s : ClientFiles) → Turned s → Turned (turning.turns count s)
turns zero s t = t
turns (suc count) s t =
    let before : ClientFiles = turning.turns count s in
    let so : Turned before = turns count s t in
    record { locks = lock_runs.turned_by before.ready before so.locks; waits = wait_runs.turned_by before.ready before refl so.waits; ranked = ranked_by before.ready before refl so }

-- who is woken goes on
pub going_on_keeps : (s : ClientFiles) → OneOperationEach s → locked.Holds s → queued.Holds s → Holds s → Holds (turning.goes_on s)
going_on_keeps s once b d r = (turns (turning.turns_for s) s (record { locks = record { once = once; holds = b }; waits = record { once = once; holds = d }; ranked = r })).ranked
