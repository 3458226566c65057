-- Operations of the files' side that run keep the facts of locks and turns.
use Rattle.std.proofs.Common.{◌≡◌, ℕ, zero, suc, Bool, true, false, cond, List, [], ◌∷◌, ◌++◌, Option, Some, None, refl, sym, ap, ◌∙◌, subst}
use Rattle.std.specs.List.{list_any}
use Rattle.sprite_ids.specs.declared.StreamNo.{StreamNo}
use Rattle.sprite_ids.proofs.ListLaws.{some_is}
use Rattle.kernel_steps.specs.Rows.{is_row}
use Rattle.stream_table.specs.declared.Place.{Place}
use Rattle.stream_table.specs.Entries.{Entry, holder_of, may_be_at, placed}
use Rattle.stream_table.specs.Streams.{Table}
use Rattle.client_file_tables.specs.declared.client_files.ClientFiles.{ClientFiles}
use Rattle.client_file_tables.specs.declared.moves.ClosingOf.{ClosingOf}
use Rattle.client_file_tables.specs.declared.moves.ClosingOf.TheVariants as closings
use Rattle.client_file_tables.specs.declared.moves.CloseWork.{CloseWork}
use Rattle.client_file_tables.specs.declared.moves.MoveWork.{MoveWork}
use Rattle.client_file_tables.specs.declared.pending.Pending.{Pending}
use Rattle.client_file_tables.specs.declared.pending.Pending.TheVariants as operations
use Rattle.client_file_tables.specs.declared.states.CloseState.{CloseState}
use Rattle.client_file_tables.specs.declared.states.CloseState.TheVariants as closes
use Rattle.client_file_tables.specs.declared.states.DataState.{DataState}
use Rattle.client_file_tables.specs.declared.states.DataState.TheVariants as states
use Rattle.client_file_tables.specs.declared.states.MoveState.{MoveState}
use Rattle.client_file_tables.specs.declared.states.MoveState.TheVariants as moves
use Rattle.client_file_tables.specs.declared.works.DataCall.{DataCall}
use Rattle.client_file_tables.specs.Fillers as fillers
use Rattle.client_file_tables.specs.Fillers.{is_filling}
use Rattle.client_file_tables.specs.Locks as locking
use Rattle.client_file_tables.specs.Locks.{gets_lock}
use Rattle.client_file_tables.specs.Rows.{first_of, first_stream, less_of, less_stream, same_pid, same_stream}
use Rattle.client_file_tables.specs.Says as says
use Rattle.client_file_tables.specs.Steps as steps
use Rattle.client_file_tables.specs.Streams as streams
use Rattle.client_file_tables.specs.Streams.{stream_at}
use Rattle.client_files.specs.Turns as turning
use Rattle.client_streams.specs.Closing as closing
use Rattle.client_streams.specs.Descriptors as descriptors
use Rattle.client_streams.specs.Moving as moving
use Rattle.client_facts.specs.FileFacts.{OneOperationEach, held_lock, is_filler, move_holds}
use Rattle.client_facts.proofs.CostLaws.{none_left}
use Rattle.file_walks.specs.Fits.{begins_so}
use Rattle.file_walks.proofs.CloseWalks as close_walks
use Rattle.file_walks.proofs.CloseWalks.{RunsClose, RunsMove}
use Rattle.file_walks.proofs.DataWalks as data_walks
use Rattle.file_walks.proofs.DataWalks.{RunsData, RunsSync}
use Rattle.file_walks.proofs.Muted.{Mute}
use Rattle.file_facts.proofs.BookLaws.{found_each}
use Rattle.file_facts.proofs.RunFacts.{once_turned}
use Rattle.lock_facts.proofs.Boards.{Board, Fine, Holds, HoldsLocked, HoldsOff, HoldsTurning, Locked, Off, Sound, Turning, board_of, has_turn}
use Rattle.lock_facts.proofs.BoardLaws as boards
use Rattle.lock_facts.proofs.HolderLaws.{SameHolders, keeps_locked, same_closed, same_keeps, same_placed}

-- What the facts don't see

pub mute : (P : Board → Type 0) → Mute (λ s. P (board_of s))
mute P = record {
  caches = λ s cache p. p;
  delays = λ s rows p. p;
  tells = λ s event p. p;
  answers = λ s tx body p. p;
  learns = λ s domains p. p;
  cwds = λ s rows p. p;
  counts = λ s p. p;
}

-- streams that change, where each lock has its holder still
pub same_sound : (s : ClientFiles) (items : Table) → SameHolders s.streams.entries items.entries → Holds s → Holds (record s { streams = items })
same_sound s items same p = boards.sound_more (board_of s) items.entries s.fillers (same_keeps s.streams.entries items.entries same) (λ pid e. e) p

same_off : (s : ClientFiles) (items : Table) (pid : ℕ) → SameHolders s.streams.entries items.entries → HoldsOff pid s → HoldsOff pid (record s { streams = items })
same_off s items pid same p = record { sound = same_sound s items same p.sound; none = p.none }

same_locked : (s : ClientFiles) (items : Table) (pid : ℕ) (stream : StreamNo) → SameHolders s.streams.entries items.entries → HoldsLocked pid stream s → HoldsLocked pid stream (record s { streams = items })
same_locked s items pid stream same p = record { off = same_off s items pid same p.off; lock = same stream ∙ p.lock }

-- Locks and turns

pub locks_got : (s : ClientFiles) (pid : ℕ) (stream : StreamNo) → gets_lock pid stream s ≡ true → HoldsOff pid s → HoldsLocked pid stream (locking.locks pid stream s)
locks_got s pid stream e p =
    let taken : ClientFiles = locking.takes_lock pid stream s in
    subst (λ (b : Bool). HoldsLocked pid stream (cond b taken (locking.waits_for_lock pid stream taken))) (sym e) (boards.locks (board_of s) pid stream e p)

locks_waits : (s : ClientFiles) (pid : ℕ) (stream : StreamNo) → gets_lock pid stream s ≡ false → HoldsOff pid s → HoldsOff pid (locking.locks pid stream s)
locks_waits s pid stream e p =
    subst (λ (b : Bool). HoldsOff pid (cond b taken (locking.waits_for_lock pid stream taken))) (sym e) (waits_if (list_any (is_row same_stream same_pid stream pid) s.lock_waits) refl)
  where
    taken : ClientFiles
    taken = locking.takes_lock pid stream s

    so : HoldsOff pid (locking.takes_lock pid stream s)
    so = boards.asked (board_of s) pid stream p

    waits_if : (b : Bool) → list_any (is_row same_stream same_pid stream pid) s.lock_waits ≡ b → HoldsOff pid (cond b (locking.takes_lock pid stream s) (record (locking.takes_lock pid stream s) { lock_waits = s.lock_waits ++ (stream, pid) ∷ [] }))
    waits_if true f = so
    waits_if false f =
        boards.waits_more (board_of (locking.takes_lock pid stream s)) pid stream
        (boards.out_more s.streams.entries (locking.takes_lock pid stream s).streams.entries (keeps_locked s.streams.entries stream pid) (stream, pid) e) f so

hands_first : (o : Option ℕ) (stream : StreamNo) (pid : ℕ) (s : ClientFiles) → Off pid (record (board_of s) { entries = boards.handed o stream s.streams.entries }) → HoldsOff pid (locking.hands_first o stream s)
hands_first (Some first) stream pid s p = p
hands_first None stream pid s p = p

pub unlocks : (s : ClientFiles) (pid : ℕ) (stream : StreamNo) → HoldsLocked pid stream s → HoldsOff pid (locking.unlocks stream s)
unlocks s pid stream p = hands_first (first_stream stream s.lock_waits) stream pid (record (locking.frees stream s) { lock_waits = less_stream stream s.lock_waits }) (boards.frees (board_of s) pid stream p)

wakes_first : (waiting : List ℕ) (pid : ℕ) (stream : StreamNo) (s : ClientFiles) → HoldsLocked pid stream s → HoldsLocked pid stream (fillers.wakes_first waiting s)
wakes_first [] pid stream s p = p
wakes_first (first ∷ rest) pid stream s p = p

pub leaves_filling : (s : ClientFiles) (pid : ℕ) (stream : StreamNo) → HoldsLocked pid stream s → HoldsLocked pid stream (fillers.leaves_filling pid s)
leaves_filling s pid stream p = on_if (is_filling pid s)
  where
    dropped : HoldsLocked pid stream (fillers.drops_filler pid s)
    dropped = boards.leaves (board_of s) pid stream p

    on_if : (b : Bool) → HoldsLocked pid stream (cond b (fillers.wakes_filler (fillers.drops_filler pid s)) (fillers.drops_filler pid s))
    on_if true = wakes_first (fillers.drops_filler pid s).fillers pid stream (fillers.drops_filler pid s) dropped
    on_if false = dropped

begins_filling : (s : ClientFiles) (pid : ℕ) (stream : StreamNo) → HoldsLocked pid stream s → HoldsTurning pid stream (fillers.begins_filling pid s)
begins_filling s pid stream p = by_test (has_turn pid s.fillers) refl
  where
    by_test : (b : Bool) → has_turn pid s.fillers ≡ b → HoldsTurning pid stream (cond b s (record s { fillers = s.fillers ++ pid ∷ [] }))
    by_test true e = record { locked = p; turn = e }
    by_test false e = boards.begins (board_of s) pid stream p

pub moves_place : (s : ClientFiles) (pid : ℕ) (stream number : StreamNo) (place : Place) → HoldsLocked pid stream s → HoldsLocked pid stream (streams.moves_place number place s)
moves_place s pid stream number place p = on_if (may_be_at place (stream_at number s))
  where
    on_if : (b : Bool) → HoldsLocked pid stream (cond b (record s { streams = record s.streams { entries = placed s.streams.entries number place } }) s)
    on_if true = same_locked s (record s.streams { entries = placed s.streams.entries number place }) pid stream (same_placed s.streams.entries number place) p
    on_if false = p

-- Operations that are kept

-- whether an operation needs neither lock nor turn
abbrev pub NeedsNone : Pending → Type 0
NeedsNone operation = (held_lock operation ≡ None) × (is_filler operation ≡ false)

pub fine_free : (es : List Entry) (turns : List ℕ) (pid : ℕ) (operation : Pending) → NeedsNone operation → Fine es turns (pid, operation)
fine_free es turns pid operation free = record {
  lock = λ stream e. absurd (let both = sym free.0 ∙ e in cc);
  turn = λ e. absurd (let both = sym free.1 ∙ e in cc);
}

pub kept_free : (s : ClientFiles) (pid : ℕ) (operation : Pending) → NeedsNone operation → Holds s → Holds (steps.keeps pid operation s)
kept_free s pid operation free p = boards.kept (board_of s) pid operation (fine_free s.streams.entries s.fillers pid operation free) p

-- and what begins needs none
pub begun_free : (operation : Pending) → begins_so operation ≡ true → NeedsNone operation
begun_free (operations.Name call) e = absurd (cc)
begun_free (operations.Data call) e = in_state call.state e
  where
    in_state : (state : DataState) → begins_so (operations.Data (record call { state = state })) ≡ true → NeedsNone (operations.Data (record call { state = state }))
    in_state states.WaitLock e = (refl, refl)
    in_state states.Turn e = absurd (cc)
    in_state (states.Room tx) e = absurd (cc)
    in_state (states.Fetching tx block) e = absurd (cc)
    in_state (states.AtServer tx) e = absurd (cc)
begun_free (operations.Sync call) e = (refl, refl)
begun_free (operations.Close work) e = in_state work.state e
  where
    in_state : (state : CloseState) → begins_so (operations.Close (record work { state = state })) ≡ true → NeedsNone (operations.Close (record work { state = state }))
    in_state closes.WaitLock e = (refl, refl)
    in_state (closes.Closing tx stream) e = absurd (cc)
begun_free (operations.Move work) e = absurd (cc)

fine_locked : (s : ClientFiles) (pid : ℕ) (stream : StreamNo) (operation : Pending) → held_lock operation ≡ Some stream → is_filler operation ≡ false → HoldsLocked pid stream s → Fine s.streams.entries s.fillers (pid, operation)
fine_locked s pid stream operation holds free p = record {
  lock = λ other e. subst (λ (n : StreamNo). holder_of s.streams.entries n ≡ Some pid) (some_is stream other (sym holds ∙ e)) p.lock;
  turn = λ e. absurd (let both = sym free ∙ e in cc);
}

kept_locked : (s : ClientFiles) (pid : ℕ) (stream : StreamNo) (operation : Pending) → held_lock operation ≡ Some stream → is_filler operation ≡ false → HoldsLocked pid stream s → Holds (steps.keeps pid operation s)
kept_locked s pid stream operation holds free p = boards.kept (board_of s) pid operation (fine_locked s pid stream operation holds free p) p.off.sound

kept_turning : (s : ClientFiles) (pid : ℕ) (stream : StreamNo) (operation : Pending) → held_lock operation ≡ Some stream → HoldsTurning pid stream s → Holds (steps.keeps pid operation s)
kept_turning s pid stream operation holds p =
    boards.kept (board_of s) pid operation
    (record {
      lock = λ other e. subst (λ (n : StreamNo). holder_of s.streams.entries n ≡ Some pid) (some_is stream other (sym holds ∙ e)) p.locked.lock;
      turn = λ e. p.turn;
    }) p.locked.off.sound

-- Operations on files' data

pub data_runs : (pid : ℕ) (call : DataCall) → RunsData pid call (HoldsOff pid) (HoldsLocked pid call.stream) (HoldsTurning pid call.stream) (HoldsTurning pid call.stream) Holds
data_runs pid call = record {
  quiet = mute (Off pid);
  held = mute (Locked pid call.stream);
  first = mute (Turning pid call.stream);
  locks = λ s e p. locks_got s pid call.stream e p;
  waits_lock = λ s e p. kept_free (locking.locks pid call.stream s) pid (operations.Data (record call { state = states.WaitLock })) (refl, refl) (locks_waits s pid call.stream e p).sound;
  not_open = λ s e p. kept_free s pid (operations.Data (record call { state = states.WaitLock })) (refl, refl) p.off.sound;
  places = λ s place p. moves_place s pid call.stream call.stream place p;
  begins_filling = λ s on p. begins_filling s pid call.stream p;
  comes_first = λ s e p. p;
  waits_turn = λ s e p. kept_turning s pid call.stream (operations.Data (record call { state = states.Turn })) refl p;
  filled = λ s p. p.locked;
  fetches = λ s block p. kept_turning s pid call.stream (operations.Data (record call { state = states.Fetching s.out.next block })) refl p;
  waits_back = λ s file block tx e p. kept_turning s pid call.stream (operations.Data (record call { state = states.Room tx })) refl p;
  sends_back = λ s file block number p. kept_turning s pid call.stream (operations.Data (record call { state = states.Room s.out.next })) refl p;
  none_dirty = λ s e p. kept_turning s pid call.stream (operations.Data (record call { state = states.Turn })) refl p;
  asks = λ s offset append p.
      let left : ClientFiles = fillers.leaves_filling pid s in
      kept_locked left pid call.stream (operations.Data (record call { state = states.AtServer left.out.next })) refl refl (leaves_filling s pid call.stream p);
  ends = λ s reply p. let given : ClientFiles = says.replies pid reply s in (unlocks (fillers.leaves_filling pid given) pid call.stream (leaves_filling given pid call.stream p)).sound;
}

-- Syncs

sync_runs : (pid : ℕ) → RunsSync pid Holds Holds
sync_runs pid = record {
  quiet = mute Sound;
  stays = λ s call p. kept_free s pid _ (refl, refl) p;
  waits_other = λ s call block tx e p. kept_free s pid _ (refl, refl) p;
  sends_own = λ s call block number p. kept_free s pid _ (refl, refl) p;
  ends = λ s reply p. p;
}

-- Closes and moves

close_ends : (cause : ClosingOf) (pid : ℕ) (s : ClientFiles) → Holds s → Holds (closing.ends_closing pid cause s)
close_ends (closings.Call number fd) pid s p = p
close_ends (closings.End about) pid s p = p

pub close_runs : (pid : ℕ) (cause : ClosingOf) → RunsClose pid cause (HoldsOff pid) (HoldsLocked pid) Holds
close_runs pid cause = record {
  quiet = mute (Off pid);
  held = λ number. mute (Locked pid number);
  locks = λ s number e p. locks_got s pid number e p;
  waits_lock = λ s fds fd number f d e p. kept_free (locking.locks pid number s) pid (operations.Close (closing.closing cause fds)) (refl, refl) (locks_waits s pid number e p).sound;
  drops = λ s fd p. same_off s (descriptors.drops pid fd s).streams pid (same_closed s.streams pid fd) p;
  drops_held = λ s fd number p. same_locked s (descriptors.drops pid fd s).streams pid number (same_closed s.streams pid fd) p;
  frees = λ s number p. unlocks s pid number p;
  asks = λ s work number file many e p. kept_locked s pid number (operations.Close (record work { state = closes.Closing s.out.next number })) refl refl p;
  goes_on = λ s fds p. kept_free s pid (operations.Close (closing.closing cause fds)) (refl, refl) p.sound;
  tells = λ s device p. p;
  ends = λ s p. close_ends cause pid s p.sound;
}

pub move_runs : (pid : ℕ) (work : MoveWork) → work.state ≡ moves.WaitLock → RunsMove pid work (HoldsOff pid) (HoldsLocked pid work.stream) Holds
move_runs pid work w = record {
  locks = λ s e p. locks_got s pid work.stream e p;
  waits_lock = λ s e p. kept_free (locking.locks pid work.stream s) pid (operations.Move work) (ap (λ (state : MoveState). move_holds state work.stream) w, refl) (locks_waits s pid work.stream e p).sound;
  drops = λ s fd p. same_off s (descriptors.drops pid fd s).streams pid (same_closed s.streams pid fd) p;
  drops_held = λ s fd p. same_locked s (descriptors.drops pid fd s).streams pid work.stream (same_closed s.streams pid fd) p;
  asks = λ s stream file kept p. kept_locked s pid work.stream (operations.Move (moving.moving_out work kept stream.place s)) refl refl p;
  moved = λ s place p. p.sound;
  lost = λ s p. p.sound;
}

-- One turn

ran_close_by : (state : CloseState) (pid : ℕ) (work : CloseWork) (s : ClientFiles) → work.state ≡ state → Fine s.streams.entries s.fillers (pid, operations.Close work) → HoldsOff pid s → Holds (closing.runs_close_by state pid work s)
ran_close_by closes.WaitLock pid work s e fine p =
    subst (λ (state : CloseState). Holds (closing.closes_next pid (record work { state = state }) s)) (sym e) (close_walks.runs_close pid work.of (HoldsOff pid) (HoldsLocked pid) Holds (close_runs pid work.of) work.fds s p)
ran_close_by (closes.Closing tx stream) pid work s e fine p = boards.kept (board_of s) pid (operations.Close work) fine p.sound

ran_move_by : (state : MoveState) (pid : ℕ) (work : MoveWork) (s : ClientFiles) → work.state ≡ state → Fine s.streams.entries s.fillers (pid, operations.Move work) → HoldsOff pid s → Holds (moving.runs_move_by state pid work s)
ran_move_by moves.WaitLock pid work s e fine p = close_walks.runs_move pid work (HoldsOff pid) (HoldsLocked pid work.stream) Holds (move_runs pid work e) s p
ran_move_by (moves.MovingOut tx kept place) pid work s e fine p = boards.kept (board_of s) pid (operations.Move work) fine p.sound

-- an operation that was taken out runs
ran : (operation : Pending) (pid : ℕ) (s : ClientFiles) → Fine s.streams.entries s.fillers (pid, operation) → HoldsOff pid s → Holds (turning.runs_by (Some operation) pid s)
ran (operations.Name call) pid s fine p = boards.kept (board_of s) pid (operations.Name call) fine p.sound
ran (operations.Data call) pid s fine p = data_walks.looks pid call (HoldsOff pid) (HoldsLocked pid call.stream) (HoldsTurning pid call.stream) (HoldsTurning pid call.stream) Holds (data_runs pid call) s p
ran (operations.Sync call) pid s fine p = data_walks.syncs pid Holds Holds (sync_runs pid) call s p.sound
ran (operations.Close work) pid s fine p = ran_close_by work.state pid work s refl fine p
ran (operations.Move work) pid s fine p = ran_move_by work.state pid work s refl fine p

-- Turns

pub record Turned (s : ClientFiles) : Type 0 where
  pub once : OneOperationEach s
  pub holds : Holds s

ran_at : (o : Option Pending) (pid : ℕ) (pids : List ℕ) (s : ClientFiles) → OneOperationEach s → first_of pid s.pending ≡ o → Holds s → Holds (turning.runs_by o pid (record s { ready = pids; pending = less_of pid s.pending }))
ran_at None pid pids s once found p = boards.taken_out (board_of s) pid p
ran_at (Some operation) pid pids s once found p =
    ran operation pid (record s { ready = pids; pending = less_of pid s.pending }) (found_each (Fine s.streams.entries s.fillers) pid s.pending operation p.rows found)
    (record { sound = boards.taken_out (board_of s) pid p; none = none_left pid s.pending once })

pub turned_by : (pids : List ℕ) (s : ClientFiles) → Turned s → Turned (turning.turned_by pids s)
turned_by [] s turned = turned
turned_by (pid ∷ pids) s turned = record {
  once = once_turned (first_of pid s.pending) pid pids s turned.once;
  holds = ran_at (first_of pid s.pending) pid pids s turned.once refl turned.holds;
}

turns : (count : ℕ) (s : ClientFiles) → Turned s → Turned (turning.turns count s)
turns zero s turned = turned
turns (suc count) s turned = let before : ClientFiles = turning.turns count s in turned_by before.ready before (turns count s turned)

-- who is woken goes on
pub going_on_keeps : (s : ClientFiles) → OneOperationEach s → Holds s → Holds (turning.goes_on s)
going_on_keeps s once p = (turns (turning.turns_for s) s (record { once = once; holds = p })).holds
