-- Operations of the files' side that run keep the facts of queues.
use Rattle.std.proofs.Common.{◌≡◌, inr, ℕ, zero, suc, Bool, true, false, ◌&&◌, cond, List, [], ◌∷◌, ◌++◌, Option, Some, None, refl, sym, ap, ◌∙◌, subst}
use Rattle.std.proofs.lemmas.Bool.{eq-eqb}
use Rattle.sprite_ids.specs.declared.StreamNo.{StreamNo}
use Rattle.kernel_steps.specs.Rows.{is_row, is_under}
use Rattle.stream_table.specs.declared.Place.{Place}
use Rattle.stream_table.specs.Entries.{may_be_at, placed}
use Rattle.stream_table.specs.Owners.{descriptor}
use Rattle.stream_table.specs.Streams.{Table, closed}
use Rattle.client_file_tables.specs.declared.client_files.ClientFiles.{ClientFiles}
use Rattle.client_file_tables.specs.declared.moves.ClosingOf.{ClosingOf}
use Rattle.client_file_tables.specs.declared.moves.ClosingOf.TheVariants as closings
use Rattle.client_file_tables.specs.declared.moves.CloseWork.{CloseWork}
use Rattle.client_file_tables.specs.declared.moves.MoveWork.{MoveWork}
use Rattle.client_file_tables.specs.declared.pending.Pending.{Pending}
use Rattle.client_file_tables.specs.declared.pending.Pending.TheVariants as operations
use Rattle.client_file_tables.specs.declared.states.CloseState.{CloseState}
use Rattle.client_file_tables.specs.declared.states.CloseState.TheVariants as closes
use Rattle.client_file_tables.specs.declared.states.DataState.TheVariants as states
use Rattle.client_file_tables.specs.declared.states.MoveState.{MoveState}
use Rattle.client_file_tables.specs.declared.states.MoveState.TheVariants as moves
use Rattle.client_file_tables.specs.declared.works.DataCall.{DataCall}
use Rattle.client_file_tables.specs.Fillers as fillers
use Rattle.client_file_tables.specs.Fillers.{is_filling}
use Rattle.client_file_tables.specs.Locks as locking
use Rattle.client_file_tables.specs.Locks.{gets_lock}
use Rattle.client_file_tables.specs.Rows.{first_of, first_stream, less_of, less_stream, same_pid, same_stream}
use Rattle.client_file_tables.specs.Says as says
use Rattle.client_file_tables.specs.Steps as steps
use Rattle.client_file_tables.specs.Streams as streams
use Rattle.client_file_tables.specs.Streams.{stream_at}
use Rattle.client_files.specs.Turns as turning
use Rattle.client_streams.specs.Closing as closing
use Rattle.client_streams.specs.Descriptors as descriptors
use Rattle.client_streams.specs.Moving as moving
use Rattle.client_facts.specs.FileFacts.{OneOperationEach, move_wants}
use Rattle.client_facts.proofs.CostLaws.{none_left}
use Rattle.file_walks.specs.Fits.{LeadsThere}
use Rattle.file_walks.proofs.CloseWalks as close_walks
use Rattle.file_walks.proofs.CloseWalks.{RunsClose, RunsMove}
use Rattle.file_walks.proofs.DataWalks as data_walks
use Rattle.file_walks.proofs.DataWalks.{RunsData, RunsSync}
use Rattle.file_walks.proofs.Muted.{Mute}
use Rattle.file_facts.proofs.BookLaws.{any_behind, each_less, found_each, or_left}
use Rattle.file_facts.proofs.RunFacts.{once_turned}
use Rattle.stream_table.proofs.EntryLaws.{number_itself}
use Rattle.lock_facts.specs.WaitFacts.{close_waits, move_waits, waits_for_lock}
use Rattle.lock_facts.proofs.BoardLaws.{handed}
use Rattle.lock_facts.proofs.Desks.{Desk, Holds, HoldsAt, HoldsOff, Off, OffAt, Settled, Sound, desk_of, named_by, stands_by, wanted_in}
use Rattle.lock_facts.proofs.DeskLaws as desks
use Rattle.lock_facts.proofs.OwnerLaws.{others_closed}
use Rattle.lock_facts.proofs.TableFacts.{Lawful, closed_so, leads_open, locked_so, placed_so}

-- What the facts don't see

pub mute : (P : Desk → Type 0) → Mute (λ s. P (desk_of s))
mute P = record {
  caches = λ s cache p. p;
  delays = λ s rows p. p;
  tells = λ s event p. p;
  answers = λ s tx body p. p;
  learns = λ s domains p. p;
  cwds = λ s rows p. p;
  counts = λ s p. p;
}

-- Locks and turns

with_entries : (s : ClientFiles) (pid : ℕ) (items : Table) → items.owners ≡ s.streams.owners → Lawful items → HoldsOff pid s → HoldsOff pid (record s { streams = items })
with_entries s pid items same lawful p = record {
  sound = desks.grows (desk_of s) items s.lock_waits s.ready (λ other fd stream e. ap (λ owners. descriptor owners other fd) same ∙ e) (λ other stream e. e) (λ other e. e) lawful p.sound;
  none = p.none;
}

takes_lock : (s : ClientFiles) (pid : ℕ) (stream : StreamNo) → HoldsOff pid s → HoldsOff pid (locking.takes_lock pid stream s)
takes_lock s pid stream p = with_entries s pid (locking.takes_lock pid stream s).streams refl (locked_so s.streams.owners s.streams.entries stream pid p.sound.lawful) p

-- it waits for a lock, in whose queue it stands then
record Waits (pid : ℕ) (stream : StreamNo) (s : ClientFiles) : Type 0 where
  off : HoldsOff pid s
  stands : stands_by pid stream s.lock_waits ≡ true

itself : (stream : StreamNo) (pid : ℕ) (waits : List (StreamNo × ℕ)) → stands_by pid stream (waits ++ (stream, pid) ∷ []) ≡ true
itself stream pid waits = any_behind (is_row same_stream same_pid stream pid) waits ((stream, pid) ∷ []) (or_left (is_row same_stream same_pid stream pid (stream, pid)) false (both (same_stream stream stream) (same_pid pid pid) (number_itself stream) (eq-eqb pid pid refl)))
  where
    both : (a b : Bool) → a ≡ true → b ≡ true → (a && b) ≡ true
    both true b e f = f
    both false b e f = absurd (cc)

locks_waits : (s : ClientFiles) (pid : ℕ) (stream : StreamNo) → gets_lock pid stream s ≡ false → HoldsOff pid s → Waits pid stream (locking.locks pid stream s)
locks_waits s pid stream e p =
    subst (λ (b : Bool). Waits pid stream (cond b (locking.takes_lock pid stream s) (locking.waits_for_lock pid stream (locking.takes_lock pid stream s)))) (sym e) (waits_if (stands_by pid stream s.lock_waits) refl)
  where
    so : HoldsOff pid (locking.takes_lock pid stream s)
    so = takes_lock s pid stream p

    waits_if : (b : Bool) → stands_by pid stream s.lock_waits ≡ b → Waits pid stream (cond b (locking.takes_lock pid stream s) (record (locking.takes_lock pid stream s) { lock_waits = s.lock_waits ++ (stream, pid) ∷ [] }))
    waits_if true f = record { off = so; stands = f }
    waits_if false f = record { off = desks.queues (desk_of (locking.takes_lock pid stream s)) pid stream so; stands = itself stream pid s.lock_waits }

locks_got : (s : ClientFiles) (pid : ℕ) (stream : StreamNo) → gets_lock pid stream s ≡ true → HoldsOff pid s → HoldsOff pid (locking.locks pid stream s)
locks_got s pid stream e p = subst (λ (b : Bool). HoldsOff pid (cond b (locking.takes_lock pid stream s) (locking.waits_for_lock pid stream (locking.takes_lock pid stream s)))) (sym e) (takes_lock s pid stream p)

hands_first : (o : Option ℕ) (stream : StreamNo) (pid : ℕ) (s : ClientFiles) → Off pid (record (desk_of s) { table = record s.streams { entries = handed o stream s.streams.entries }; ready = desks.awake o s.ready }) → HoldsOff pid (locking.hands_first o stream s)
hands_first (Some first) stream pid s p = p
hands_first None stream pid s p = p

pub unlocks : (s : ClientFiles) (pid : ℕ) (stream : StreamNo) → HoldsOff pid s → HoldsOff pid (locking.unlocks stream s)
unlocks s pid stream p =
    hands_first (first_stream stream s.lock_waits) stream pid (record (locking.frees stream s) { lock_waits = less_stream stream s.lock_waits })
    (record { sound = desks.frees (desk_of s) stream p.sound; none = p.none })

wakes : (s : ClientFiles) (pid other : ℕ) → HoldsOff pid s → HoldsOff pid (steps.wakes other s)
wakes s pid other p = record { sound = desks.wakes (desk_of s) (other ∷ []) p.sound; none = p.none }

wakes_first : (waiting : List ℕ) (pid : ℕ) (s : ClientFiles) → HoldsOff pid s → HoldsOff pid (fillers.wakes_first waiting s)
wakes_first [] pid s p = p
wakes_first (first ∷ rest) pid s p = wakes s pid first p

leaves_filling : (s : ClientFiles) (pid : ℕ) → HoldsOff pid s → HoldsOff pid (fillers.leaves_filling pid s)
leaves_filling s pid p = on_if (is_filling pid s)
  where
    on_if : (b : Bool) → HoldsOff pid (cond b (fillers.wakes_filler (fillers.drops_filler pid s)) (fillers.drops_filler pid s))
    on_if true = wakes_first (fillers.drops_filler pid s).fillers pid (fillers.drops_filler pid s) p
    on_if false = p

at_if : (pid : ℕ) (call : DataCall) (b : Bool) (s t : ClientFiles) → HoldsAt pid call s → HoldsAt pid call t → HoldsAt pid call (cond b s t)
at_if pid call true s t p q = p
at_if pid call false s t p q = q

pub moves_place : (s : ClientFiles) (pid : ℕ) (number : StreamNo) (place : Place) → HoldsOff pid s → HoldsOff pid (streams.moves_place number place s)
moves_place s pid number place p = by_test (may_be_at place (stream_at number s)) refl
  where
    by_test : (b : Bool) → may_be_at place (stream_at number s) ≡ b → HoldsOff pid (cond b (record s { streams = record s.streams { entries = placed s.streams.entries number place } }) s)
    by_test true e = with_entries s pid (record s.streams { entries = placed s.streams.entries number place }) refl (placed_so s.streams.owners s.streams.entries number place e p.sound.lawful) p
    by_test false e = p

leads_placed : (s : ClientFiles) (pid : ℕ) (call : DataCall) (place : Place) → descriptor s.streams.owners pid call.fd ≡ Some call.stream → descriptor (streams.moves_place call.stream place s).streams.owners pid call.fd ≡ Some call.stream
leads_placed s pid call place leads = on_if (may_be_at place (stream_at call.stream s))
  where
    on_if : (b : Bool) → descriptor (cond b (record s { streams = record s.streams { entries = placed s.streams.entries call.stream place } }) s).streams.owners pid call.fd ≡ Some call.stream
    on_if true = leads
    on_if false = leads

-- the descriptors stay where a lock is taken or waited for
same_locks : (s : ClientFiles) (pid : ℕ) (stream : StreamNo) (other fd : ℕ) → descriptor (locking.locks pid stream s).streams.owners other fd ≡ descriptor s.streams.owners other fd
same_locks s pid stream other fd = on_if (gets_lock pid stream s)
  where
    waits_if : (b : Bool) → descriptor (cond b (locking.takes_lock pid stream s) (record (locking.takes_lock pid stream s) { lock_waits = s.lock_waits ++ (stream, pid) ∷ [] })).streams.owners other fd ≡ descriptor s.streams.owners other fd
    waits_if true = refl
    waits_if false = refl

    on_if : (b : Bool) → descriptor (cond b (locking.takes_lock pid stream s) (locking.waits_for_lock pid stream (locking.takes_lock pid stream s))).streams.owners other fd ≡ descriptor s.streams.owners other fd
    on_if true = refl
    on_if false = waits_if (stands_by pid stream s.lock_waits)

-- nor do they move where a turn is left
same_left : (s : ClientFiles) (pid other fd : ℕ) → descriptor (fillers.leaves_filling pid s).streams.owners other fd ≡ descriptor s.streams.owners other fd
same_left s pid other fd = on_if (is_filling pid s)
  where
    first_of_all : (waiting : List ℕ) → descriptor (fillers.wakes_first waiting (fillers.drops_filler pid s)).streams.owners other fd ≡ descriptor s.streams.owners other fd
    first_of_all [] = refl
    first_of_all (first ∷ rest) = refl

    on_if : (b : Bool) → descriptor (cond b (fillers.wakes_filler (fillers.drops_filler pid s)) (fillers.drops_filler pid s)).streams.owners other fd ≡ descriptor s.streams.owners other fd
    on_if true = first_of_all (fillers.drops_filler pid s).fillers
    on_if false = refl

-- Operations that are kept

-- one that waits for no lock
pub kept_idle : (s : ClientFiles) (pid : ℕ) (operation : Pending) → waits_for_lock operation ≡ false → LeadsThere s.streams.owners pid operation → Holds s → Holds (steps.keeps pid operation s)
kept_idle s pid operation idle leads p = desks.kept (desk_of s) pid operation (record { leads = leads; waits_on = λ e. absurd (let both = sym idle ∙ e in cc) }) p

-- one that waits for one, in whose queue it stands
kept_waiting : (s : ClientFiles) (pid : ℕ) (operation : Pending) (stream : StreamNo) → wanted_in s.streams.owners pid operation ≡ Some stream → stands_by pid stream s.lock_waits ≡ true → LeadsThere s.streams.owners pid operation → Holds s → Holds (steps.keeps pid operation s)
kept_waiting s pid operation stream wanted stands leads p = desks.kept (desk_of s) pid operation (record { leads = leads; waits_on = λ e. inr (record { stream = stream; wanted = wanted; stands = stands }) }) p

pub started : (s : ClientFiles) (pid : ℕ) (operation : Pending) → LeadsThere s.streams.owners pid operation → Holds s → Holds (steps.starts pid operation s)
started s pid operation leads p = desks.started (desk_of s) pid operation leads p

-- Operations on files' data

pub data_runs : (pid : ℕ) (call : DataCall) → RunsData pid call (HoldsAt pid call) (HoldsAt pid call) (HoldsAt pid call) (HoldsAt pid call) Holds
data_runs pid call = record {
  quiet = mute (OffAt pid call);
  held = mute (OffAt pid call);
  first = mute (OffAt pid call);
  locks = λ s e p. record { off = locks_got s pid call.stream e p.off; leads = same_locks s pid call.stream pid call.fd ∙ p.leads };
  waits_lock = λ s e p.
      let locked : Waits pid call.stream (locking.locks pid call.stream s) = locks_waits s pid call.stream e p.off in
      kept_waiting (locking.locks pid call.stream s) pid (operations.Data (record call { state = states.WaitLock })) call.stream refl locked.stands (same_locks s pid call.stream pid call.fd ∙ p.leads) locked.off.sound;
  not_open = λ s e p. absurd (let never = leads_open s.streams pid call.fd call.stream p.off.sound.lawful p.leads e in cc);
  places = λ s place p. record { off = moves_place s pid call.stream place p.off; leads = leads_placed s pid call place p.leads };
  begins_filling = λ s on p. at_if pid call _ s _ p p;
  comes_first = λ s e p. p;
  waits_turn = λ s e p. kept_idle s pid (operations.Data (record call { state = states.Turn })) refl p.leads p.off.sound;
  filled = λ s p. p;
  fetches = λ s block p. kept_idle s pid (operations.Data (record call { state = states.Fetching s.out.next block })) refl p.leads p.off.sound;
  waits_back = λ s file block tx e p. kept_idle s pid (operations.Data (record call { state = states.Room tx })) refl p.leads p.off.sound;
  sends_back = λ s file block number p. kept_idle s pid (operations.Data (record call { state = states.Room s.out.next })) refl p.leads p.off.sound;
  none_dirty = λ s e p. kept_idle s pid (operations.Data (record call { state = states.Turn })) refl p.leads p.off.sound;
  asks = λ s offset append p.
      let left : ClientFiles = fillers.leaves_filling pid s in
      kept_idle left pid (operations.Data (record call { state = states.AtServer left.out.next })) refl (same_left s pid pid call.fd ∙ p.leads) (leaves_filling s pid p.off).sound;
  ends = λ s reply p. let given : ClientFiles = says.replies pid reply s in (unlocks (fillers.leaves_filling pid given) pid call.stream (leaves_filling given pid p.off)).sound;
}

-- Syncs

sync_runs : (pid : ℕ) → RunsSync pid Holds Holds
sync_runs pid = record {
  quiet = mute Sound;
  stays = λ s call p. kept_idle s pid _ refl tt p;
  waits_other = λ s call block tx e p. kept_idle s pid _ refl tt p;
  sends_own = λ s call block number p. kept_idle s pid _ refl tt p;
  ends = λ s reply p. p;
}

-- Closes and moves

close_ends : (cause : ClosingOf) (pid : ℕ) (s : ClientFiles) → Holds s → Holds (closing.ends_closing pid cause s)
close_ends (closings.Call number fd) pid s p = p
close_ends (closings.End about) pid s p = p

drops : (s : ClientFiles) (pid fd : ℕ) → HoldsOff pid s → HoldsOff pid (descriptors.drops pid fd s)
drops s pid fd p = desks.others_stay (desk_of s) pid (closed s.streams pid fd) (others_closed s.streams pid fd) (closed_so s.streams pid fd p.sound.lawful) p

pub close_runs : (pid : ℕ) (cause : ClosingOf) → RunsClose pid cause (HoldsOff pid) (λ number. HoldsOff pid) Holds
close_runs pid cause = record {
  quiet = mute (Off pid);
  held = λ number. mute (Off pid);
  locks = λ s number e p. locks_got s pid number e p;
  waits_lock = λ s fds fd number f d e p.
      let locked : Waits pid number (locking.locks pid number s) = locks_waits s pid number e p in
      kept_waiting (locking.locks pid number s) pid (operations.Close (closing.closing cause fds)) number
      (ap (λ (first : Option ℕ). named_by (locking.locks pid number s).streams.owners pid first) f ∙ same_locks s pid number pid fd ∙ d) locked.stands tt locked.off.sound;
  drops = λ s fd p. drops s pid fd p;
  drops_held = λ s fd number p. drops s pid fd p;
  frees = λ s number p. unlocks s pid number p;
  asks = λ s work number file many e p. kept_idle s pid (operations.Close (record work { state = closes.Closing s.out.next number })) refl tt p.sound;
  goes_on = λ s fds p. started s pid (operations.Close (closing.closing cause fds)) tt p.sound;
  tells = λ s device p. p;
  ends = λ s p. close_ends cause pid s p.sound;
}

pub move_runs : (pid : ℕ) (work : MoveWork) → work.state ≡ moves.WaitLock → RunsMove pid work (HoldsOff pid) (HoldsOff pid) Holds
move_runs pid work w = record {
  locks = λ s e p. locks_got s pid work.stream e p;
  waits_lock = λ s e p.
      let locked : Waits pid work.stream (locking.locks pid work.stream s) = locks_waits s pid work.stream e p in
      kept_waiting (locking.locks pid work.stream s) pid (operations.Move work) work.stream (ap (λ (state : MoveState). move_wants state work.stream) w) locked.stands tt locked.off.sound;
  drops = λ s fd p. drops s pid fd p;
  drops_held = λ s fd p. drops s pid fd p;
  asks = λ s stream file kept p. kept_idle s pid (operations.Move (moving.moving_out work kept stream.place s)) refl tt p.sound;
  moved = λ s place p. p.sound;
  lost = λ s p. p.sound;
}

-- One turn

ran_close_by : (state : CloseState) (pid : ℕ) (work : CloseWork) (s : ClientFiles) → work.state ≡ state → HoldsOff pid s → Holds (closing.runs_close_by state pid work s)
ran_close_by closes.WaitLock pid work s e p =
    subst (λ (state : CloseState). Holds (closing.closes_next pid (record work { state = state }) s)) (sym e) (close_walks.runs_close pid work.of (HoldsOff pid) (λ number. HoldsOff pid) Holds (close_runs pid work.of) work.fds s p)
ran_close_by (closes.Closing tx stream) pid work s e p = kept_idle s pid (operations.Close work) (ap close_waits e) tt p.sound

ran_move_by : (state : MoveState) (pid : ℕ) (work : MoveWork) (s : ClientFiles) → work.state ≡ state → HoldsOff pid s → Holds (moving.runs_move_by state pid work s)
ran_move_by moves.WaitLock pid work s e p = close_walks.runs_move pid work (HoldsOff pid) (HoldsOff pid) Holds (move_runs pid work e) s p
ran_move_by (moves.MovingOut tx kept place) pid work s e p = kept_idle s pid (operations.Move work) (ap move_waits e) tt p.sound

-- an operation that was taken out runs
ran : (operation : Pending) (pid : ℕ) (s : ClientFiles) → LeadsThere s.streams.owners pid operation → HoldsOff pid s → Holds (turning.runs_by (Some operation) pid s)
ran (operations.Name call) pid s leads p = kept_idle s pid (operations.Name call) refl tt p.sound
ran (operations.Data call) pid s leads p = data_walks.looks pid call (HoldsAt pid call) (HoldsAt pid call) (HoldsAt pid call) (HoldsAt pid call) Holds (data_runs pid call) s (record { off = p; leads = leads })
ran (operations.Sync call) pid s leads p = data_walks.syncs pid Holds Holds (sync_runs pid) call s p.sound
ran (operations.Close work) pid s leads p = ran_close_by work.state pid work s refl p
ran (operations.Move work) pid s leads p = ran_move_by work.state pid work s refl p

-- Turns

pub record Turned (s : ClientFiles) : Type 0 where
  pub once : OneOperationEach s
  pub holds : Holds s

-- what is left without the operation that looks
pub left_so : (pid : ℕ) (pids : List ℕ) (s : ClientFiles) → s.ready ≡ pid ∷ pids → OneOperationEach s → Holds s → HoldsOff pid (record s { ready = pids; pending = less_of pid s.pending })
left_so pid pids s e once p =
    desks.looks (desk_of s) pid pids (less_of pid s.pending) e (none_left pid s.pending once) (each_less (Settled s.streams.owners s.lock_waits s.ready) (is_under same_pid pid) s.pending p.rows) p

ran_at : (o : Option Pending) (pid : ℕ) (pids : List ℕ) (s : ClientFiles) → s.ready ≡ pid ∷ pids → OneOperationEach s → first_of pid s.pending ≡ o → Holds s → Holds (turning.runs_by o pid (record s { ready = pids; pending = less_of pid s.pending }))
ran_at None pid pids s e once found p = (left_so pid pids s e once p).sound
ran_at (Some operation) pid pids s e once found p =
    ran operation pid (record s { ready = pids; pending = less_of pid s.pending }) (found_each (Settled s.streams.owners s.lock_waits s.ready) pid s.pending operation p.rows found).leads (left_so pid pids s e once p)

pub turned_by : (pids : List ℕ) (s : ClientFiles) → s.ready ≡ pids → Turned s → Turned (turning.turned_by pids s)
turned_by [] s e turned = turned
turned_by (pid ∷ pids) s e turned = record {
  once = once_turned (first_of pid s.pending) pid pids s turned.once;
  holds = ran_at (first_of pid s.pending) pid pids s e turned.once refl turned.holds;
}

turns : (count : ℕ) (s : ClientFiles) → Turned s → Turned (turning.turns count s)
turns zero s turned = turned
turns (suc count) s turned = let before : ClientFiles = turning.turns count s in turned_by before.ready before refl (turns count s turned)

-- who is woken goes on
pub going_on_keeps : (s : ClientFiles) → OneOperationEach s → Holds s → Holds (turning.goes_on s)
going_on_keeps s once p = (turns (turning.turns_for s) s (record { once = once; holds = p })).holds
