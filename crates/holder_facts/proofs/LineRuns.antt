-- Operations of the files' side that run keep that who stands in a queue waits for that lock.
use Rattle.std.proofs.Common.{arith, ◌≡◌, ◌⊎◌, inl, inr, ℕ, zero, suc, ◌≤◌, ◌==◌, Bool, true, false, cond, List, [], ◌∷◌, ◌++◌, Option, Some, None, refl, sym, ap, ◌∙◌, subst}
use Rattle.std.proofs.lemmas.Bool.{and_parts, eq-eqb, eqb-true}
use Rattle.std.specs.List.{AllByRecursion, list_any}
use Rattle.sprite_ids.specs.declared.StreamNo.{StreamNo}
use Rattle.sprite_ids.specs.Lists.{less}
use Rattle.sprite_ids.proofs.ListLaws.{some_is}
use Rattle.kernel_steps.specs.Rows.{is_row, is_under}
use Rattle.stream_table.specs.declared.Place.{Place}
use Rattle.stream_table.specs.Entries.{has_lock, holder_of, locked, may_be_at, placed, unlocked}
use Rattle.stream_table.specs.Owners.{Owner}
use Rattle.stream_table.specs.Streams.{closed}
use Rattle.stream_table.proofs.EntryLaws.{one_number}
use Rattle.client_file_tables.specs.declared.client_files.ClientFiles.{ClientFiles}
use Rattle.client_file_tables.specs.declared.moves.ClosingOf.{ClosingOf}
use Rattle.client_file_tables.specs.declared.moves.ClosingOf.TheVariants as closings
use Rattle.client_file_tables.specs.declared.moves.CloseWork.{CloseWork}
use Rattle.client_file_tables.specs.declared.moves.MoveWork.{MoveWork}
use Rattle.client_file_tables.specs.declared.pending.Pending.{Pending}
use Rattle.client_file_tables.specs.declared.pending.Pending.TheVariants as operations
use Rattle.client_file_tables.specs.declared.states.CloseState.{CloseState}
use Rattle.client_file_tables.specs.declared.states.CloseState.TheVariants as closes
use Rattle.client_file_tables.specs.declared.states.DataState.{DataState}
use Rattle.client_file_tables.specs.declared.states.DataState.TheVariants as states
use Rattle.client_file_tables.specs.declared.states.MoveState.{MoveState}
use Rattle.client_file_tables.specs.declared.states.MoveState.TheVariants as moves
use Rattle.client_file_tables.specs.declared.works.DataCall.{DataCall}
use Rattle.client_file_tables.specs.Fillers as fillers
use Rattle.client_file_tables.specs.Fillers.{is_filling}
use Rattle.client_file_tables.specs.Locks as locking
use Rattle.client_file_tables.specs.Locks.{gets_lock}
use Rattle.client_file_tables.specs.Rows.{first_of, first_stream, is_pid, less_of, less_stream, same_pid, same_stream}
use Rattle.client_file_tables.specs.Says as says
use Rattle.client_file_tables.specs.Steps as steps
use Rattle.client_file_tables.specs.Streams as streams
use Rattle.client_file_tables.specs.Streams.{stream_at}
use Rattle.client_files.specs.Turns as turning
use Rattle.client_streams.specs.Closing as closing
use Rattle.client_streams.specs.Descriptors as descriptors
use Rattle.client_streams.specs.Moving as moving
use Rattle.client_facts.specs.FileFacts.{OneOperationEach, data_wants, does, is_filler, move_wants}
use Rattle.client_facts.proofs.CostLaws.{none_left, times}
use Rattle.file_walks.proofs.CloseWalks as close_walks
use Rattle.file_walks.proofs.CloseWalks.{RunsClose, RunsMove}
use Rattle.file_walks.proofs.DataWalks as data_walks
use Rattle.file_walks.proofs.DataWalks.{RunsData, RunsSync}
use Rattle.file_walks.proofs.Muted.{Mute}
use Rattle.file_facts.proofs.BookLaws.{found_each, or_cases, or_left, or_right}
use Rattle.lock_facts.proofs.Boards as locked_by
use Rattle.lock_facts.proofs.Boards.{Fine, IsKeptOut, board_of}
use Rattle.lock_facts.proofs.BoardLaws as boards
use Rattle.lock_facts.proofs.Desks as queued
use Rattle.lock_facts.proofs.Desks.{Settled, named_by, stands_by, wanted_in}
use Rattle.lock_facts.proofs.HolderLaws.{freed_own, got_locked}
use Rattle.lock_facts.proofs.OwnerLaws.{others_closed}
use Rattle.lock_facts.proofs.Ranks as ranks
use Rattle.lock_facts.proofs.Ranks.{Ranked, RankedBut, needs_in}
use Rattle.lock_facts.proofs.RankRuns as rank_runs
use Rattle.lock_facts.proofs.RunFacts as lock_runs
use Rattle.lock_facts.proofs.TableFacts.{leads_open}
use Rattle.lock_facts.proofs.WaitRuns as wait_runs
use Rattle.holder_facts.proofs.Lines as lines
use Rattle.holder_facts.proofs.Lines.{InLine, Lined, Out, Single, closes_or_moves}

abbrev pub Lines : ClientFiles → Type 0
Lines s = Lined s.pending s.streams.owners s.lock_waits s.ready

pub mute : Mute Lines
mute = record { caches = λ s cache p. p; delays = λ s rows p. p; tells = λ s event p. p; answers = λ s tx body p. p; learns = λ s domains p. p; cwds = λ s rows p. p; counts = λ s p. p }

pub on_if : (b : Bool) (s t : ClientFiles) → Lines s → Lines t → Lines (cond b s t)
on_if true s t p q = p
on_if false s t p q = q

-- Locks

-- a lock is freed, or handed over
pub unlocks : (s : ClientFiles) (pid : ℕ) (stream : StreamNo) → locked_by.HoldsLocked pid stream s → Lines s → Lines (locking.unlocks stream s)
unlocks s pid stream held p = handed (first_stream stream s.lock_waits) refl
  where
    freed : locked_by.Off pid (boards.freed (board_of s) stream)
    freed = boards.frees (board_of s) pid stream held

    handed : (o : Option ℕ) → first_stream stream s.lock_waits ≡ o → Lines (locking.hands_first o stream (record (locking.frees stream s) { lock_waits = less_stream stream s.lock_waits }))
    handed (Some first) e =
        lines.handed_lined s.pending s.streams.owners (locked (unlocked s.streams.entries stream) stream first) s.lock_waits s.ready stream first e
        (subst (λ (o : Option ℕ). AllByRecursion (IsKeptOut (boards.handed o stream (unlocked s.streams.entries stream))) (less_stream stream s.lock_waits)) e freed.sound.out)
        (got_locked (unlocked s.streams.entries stream) stream first (ap (has_lock first) (freed_own s.streams.entries stream))) p
    handed None e = lines.freed_lined s.pending s.streams.owners s.lock_waits s.ready stream p

-- another isn't woken by that
pub unlocked_times : (s : ClientFiles) (pid : ℕ) (stream : StreamNo) → list_any (is_under same_pid pid) s.pending ≡ false → Lines s → times pid s.ready ≡ 0 → times pid (locking.unlocks stream s).ready ≡ 0
unlocked_times s pid stream none p sleeps = handed (first_stream stream s.lock_waits) refl
  where
    handed : (o : Option ℕ) → first_stream stream s.lock_waits ≡ o → times pid (locking.hands_first o stream (record (locking.frees stream s) { lock_waits = less_stream stream s.lock_waits })).ready ≡ 0
    handed (Some first) e = lines.times_handed s.pending s.streams.owners s.lock_waits s.ready stream first pid e none p ∙ sleeps
    handed None e = sleeps

-- what is left alone where a lock is taken
got_so : (P : List (ℕ × Pending) → List Owner → List (StreamNo × ℕ) → List ℕ → Type 0) (s : ClientFiles) (pid : ℕ) (stream : StreamNo) → gets_lock pid stream s ≡ true → P s.pending s.streams.owners s.lock_waits s.ready
    → P (locking.locks pid stream s).pending (locking.locks pid stream s).streams.owners (locking.locks pid stream s).lock_waits (locking.locks pid stream s).ready
got_so P s pid stream e p = by_test (gets_lock pid stream s) e
  where
    taken : ClientFiles
    taken = locking.takes_lock pid stream s

    by_test : (b : Bool) → b ≡ true → P (cond b taken (locking.waits_for_lock pid stream taken)).pending (cond b taken (locking.waits_for_lock pid stream taken)).streams.owners (cond b taken (locking.waits_for_lock pid stream taken)).lock_waits (cond b taken (locking.waits_for_lock pid stream taken)).ready
    by_test true f = p
    by_test false f = absurd (cc)

-- where one is waited for, in whose queue the process may stand already
waits_so : (P : List (ℕ × Pending) → List Owner → List (StreamNo × ℕ) → List ℕ → Type 0) (s : ClientFiles) (pid : ℕ) (stream : StreamNo) → gets_lock pid stream s ≡ false → P s.pending s.streams.owners s.lock_waits s.ready → P s.pending s.streams.owners (s.lock_waits ++ (stream, pid) ∷ []) s.ready
    → P (locking.locks pid stream s).pending (locking.locks pid stream s).streams.owners (locking.locks pid stream s).lock_waits (locking.locks pid stream s).ready
waits_so P s pid stream e p q = by_test (gets_lock pid stream s) e
  where
    taken : ClientFiles
    taken = locking.takes_lock pid stream s

    waits_if : (b : Bool) → P (cond b taken (record taken { lock_waits = s.lock_waits ++ (stream, pid) ∷ [] })).pending (cond b taken (record taken { lock_waits = s.lock_waits ++ (stream, pid) ∷ [] })).streams.owners (cond b taken (record taken { lock_waits = s.lock_waits ++ (stream, pid) ∷ [] })).lock_waits (cond b taken (record taken { lock_waits = s.lock_waits ++ (stream, pid) ∷ [] })).ready
    waits_if true = p
    waits_if false = q

    by_test : (b : Bool) → b ≡ false → P (cond b taken (locking.waits_for_lock pid stream taken)).pending (cond b taken (locking.waits_for_lock pid stream taken)).streams.owners (cond b taken (locking.waits_for_lock pid stream taken)).lock_waits (cond b taken (locking.waits_for_lock pid stream taken)).ready
    by_test true f = absurd (cc)
    by_test false f = waits_if (list_any (is_row same_stream same_pid stream pid) s.lock_waits)

-- the last of a queue is the one that came
pub stands_more : (waits : List (StreamNo × ℕ)) (stream other : StreamNo) (pid last : ℕ) → stands_by pid other (waits ++ (stream, last) ∷ []) ≡ true → (stands_by pid other waits ≡ true) ⊎ ((last ≡ pid) × (other ≡ stream))
stands_more [] stream other pid last e = by_case (or_cases (is_row same_stream same_pid other pid (stream, last)) false e)
  where
    by_case : (is_row same_stream same_pid other pid (stream, last) ≡ true) ⊎ (false ≡ true) → (stands_by pid other [] ≡ true) ⊎ ((last ≡ pid) × (other ≡ stream))
    by_case (inl here) = (let parts = and_parts (same_stream stream other) (last == pid) here in inr (eqb-true last pid parts.1, one_number other stream parts.0))
    by_case (inr never) = absurd (cc)
stands_more (row ∷ rest) stream other pid last e = by_case (stands_more rest stream other pid last) (or_cases (is_row same_stream same_pid other pid row) (stands_by pid other (rest ++ (stream, last) ∷ [])) e)
  where
    on_rest : (stands_by pid other rest ≡ true) ⊎ ((last ≡ pid) × (other ≡ stream)) → (stands_by pid other (row ∷ rest) ≡ true) ⊎ ((last ≡ pid) × (other ≡ stream))
    on_rest (inl there) = inl (or_right (is_row same_stream same_pid other pid row) (stands_by pid other rest) there)
    on_rest (inr both) = inr both

    by_case : (stands_by pid other (rest ++ (stream, last) ∷ []) ≡ true → (stands_by pid other rest ≡ true) ⊎ ((last ≡ pid) × (other ≡ stream))) → (is_row same_stream same_pid other pid row ≡ true) ⊎ (stands_by pid other (rest ++ (stream, last) ∷ []) ≡ true) → (stands_by pid other (row ∷ rest) ≡ true) ⊎ ((last ≡ pid) × (other ≡ stream))
    by_case later (inl here) = inl (or_left (is_row same_stream same_pid other pid row) (stands_by pid other rest) here)
    by_case later (inr there) = on_rest (later there)

-- an operation that waits for a lock is kept
joins : (s : ClientFiles) (pid : ℕ) (stream : StreamNo) (operation : Pending) → list_any (is_under same_pid pid) s.pending ≡ false → (closes_or_moves operation ≡ true → times pid s.ready ≡ 0) → wanted_in s.streams.owners pid operation ≡ Some stream → gets_lock pid stream s ≡ false
    → ((other : StreamNo) → stands_by pid other s.lock_waits ≡ true → stream ≡ other) → Out pid s.pending s.streams.owners s.lock_waits s.ready → Lines (steps.keeps pid operation (locking.locks pid stream s))
joins s pid stream operation none sleeps wants e own p =
    waits_so (λ (rows : List (ℕ × Pending)) (owners : List Owner) (waits : List (StreamNo × ℕ)) (ready : List ℕ). Lined (rows ++ (pid, operation) ∷ []) owners waits ready) s pid stream e
    (lines.kept_lined s.pending s.streams.owners s.lock_waits s.lock_waits s.ready pid operation none sleeps (λ other stands. wants ∙ ap Some (own other stands)) (λ other others apart stands. stands) p)
    (lines.kept_lined s.pending s.streams.owners s.lock_waits (s.lock_waits ++ (stream, pid) ∷ []) s.ready pid operation none sleeps wanted fewer p)
  where
    wanted : (other : StreamNo) → stands_by pid other (s.lock_waits ++ (stream, pid) ∷ []) ≡ true → wanted_in s.streams.owners pid operation ≡ Some other
    wanted other stands = by_case (stands_more s.lock_waits stream other pid pid stands)
      where
        by_case : (stands_by pid other s.lock_waits ≡ true) ⊎ ((pid ≡ pid) × (other ≡ stream)) → wanted_in s.streams.owners pid operation ≡ Some other
        by_case (inl there) = wants ∙ ap Some (own other there)
        by_case (inr both) = wants ∙ ap Some (sym both.1)

    fewer : (other : StreamNo) (another : ℕ) → (another == pid) ≡ false → stands_by another other (s.lock_waits ++ (stream, pid) ∷ []) ≡ true → stands_by another other s.lock_waits ≡ true
    fewer other another apart stands = by_case (stands_more s.lock_waits stream other another pid stands)
      where
        by_case : (stands_by another other s.lock_waits ≡ true) ⊎ ((pid ≡ another) × (other ≡ stream)) → stands_by another other s.lock_waits ≡ true
        by_case (inl there) = there
        by_case (inr both) = absurd (let yes = eq-eqb another pid (sym both.0) in let no = sym yes ∙ apart in cc)

-- Turns

-- the next of those that fill is woken, whose operation needs blocks
left_so : (P : List (ℕ × Pending) → List Owner → List (StreamNo × ℕ) → List ℕ → Type 0) (s : ClientFiles) (pid : ℕ) → P s.pending s.streams.owners s.lock_waits s.ready
    → ((first : ℕ) (rest : List ℕ) → less (is_pid pid) s.fillers ≡ first ∷ rest → P s.pending s.streams.owners s.lock_waits (s.ready ++ first ∷ []))
    → P (fillers.leaves_filling pid s).pending (fillers.leaves_filling pid s).streams.owners (fillers.leaves_filling pid s).lock_waits (fillers.leaves_filling pid s).ready
left_so P s pid p wakes = by_test (is_filling pid s)
  where
    dropped : ClientFiles
    dropped = fillers.drops_filler pid s

    woken_so : (waiting : List ℕ) → less (is_pid pid) s.fillers ≡ waiting → P (fillers.wakes_first waiting dropped).pending (fillers.wakes_first waiting dropped).streams.owners (fillers.wakes_first waiting dropped).lock_waits (fillers.wakes_first waiting dropped).ready
    woken_so [] e = p
    woken_so (first ∷ rest) e = wakes first rest e

    by_test : (b : Bool) → P (cond b (fillers.wakes_filler dropped) dropped).pending (cond b (fillers.wakes_filler dropped) dropped).streams.owners (cond b (fillers.wakes_filler dropped) dropped).lock_waits (cond b (fillers.wakes_filler dropped) dropped).ready
    by_test true = woken_so dropped.fillers refl
    by_test false = p

calm_filler : (operation : Pending) → is_filler operation ≡ true → closes_or_moves operation ≡ false
calm_filler (operations.Name call) e = refl
calm_filler (operations.Data call) e = refl
calm_filler (operations.Sync call) e = refl
calm_filler (operations.Close work) e = absurd (cc)
calm_filler (operations.Move work) e = absurd (cc)

wakes_next : (s : ClientFiles) (pid first : ℕ) (rest : List ℕ) → less (is_pid pid) s.fillers ≡ first ∷ rest → RankedBut pid s.pending s.fillers → Lines s → Lined s.pending s.streams.owners s.lock_waits (s.ready ++ first ∷ [])
wakes_next s pid first rest e r p =
    lines.woken_lined s.pending s.streams.owners s.lock_waits s.ready first calm p
  where
    after : Ranked s.pending (less (is_pid pid) s.fillers)
    after = ranks.rank_gone pid s.pending (less (is_pid pid) s.fillers) (ranks.turn_gone pid s.fillers r.1) (ranks.rank_left pid s.pending s.fillers r)

    needs : needs_in s.pending first ≡ true
    needs = (subst (λ (turns : List ℕ). Ranked s.pending turns) e after).0.0

    calm : (operation : Pending) → first_of first s.pending ≡ Some operation → closes_or_moves operation ≡ false
    calm operation found = calm_filler operation (sym (ap (does is_filler) found) ∙ needs)

pub left_lines : (s : ClientFiles) (pid : ℕ) → RankedBut pid s.pending s.fillers → Lines s → Lines (fillers.leaves_filling pid s)
left_lines s pid r p = left_so Lined s pid p (λ first rest e. wakes_next s pid first rest e r p)

pub moves_place : (s : ClientFiles) (number : StreamNo) (place : Place) → Lines s → Lines (streams.moves_place number place s)
moves_place s number place p = on_if (may_be_at place (stream_at number s)) (record s { streams = record s.streams { entries = placed s.streams.entries number place } }) s p p

-- Operations on files' data

-- one that was taken out stands in the queue of its stream alone
abbrev pub LooksLined : ℕ → DataCall → ClientFiles → Type 0
LooksLined pid call s = Out pid s.pending s.streams.owners s.lock_waits s.ready × ((stream : StreamNo) → stands_by pid stream s.lock_waits ≡ true → call.stream ≡ stream)

abbrev pub Looks : ℕ → DataCall → ClientFiles → Type 0
Looks pid call s = (rank_runs.Looks pid call s) × (LooksLined pid call s)

abbrev pub Locks : ℕ → DataCall → ClientFiles → Type 0
Locks pid call s = (rank_runs.Locks pid call s) × (Lines s)

abbrev pub Fills : ℕ → DataCall → ClientFiles → Type 0
Fills pid call s = (rank_runs.Fills pid call s) × (Lines s)

mute_looks : (pid : ℕ) (call : DataCall) → Mute (Looks pid call)
mute_looks pid call = record { caches = λ s cache p. p; delays = λ s rows p. p; tells = λ s event p. p; answers = λ s tx body p. p; learns = λ s domains p. p; cwds = λ s rows p. p; counts = λ s p. p }

mute_locks : (pid : ℕ) (call : DataCall) → Mute (Locks pid call)
mute_locks pid call = record { caches = λ s cache p. p; delays = λ s rows p. p; tells = λ s event p. p; answers = λ s tx body p. p; learns = λ s domains p. p; cwds = λ s rows p. p; counts = λ s p. p }

mute_fills : (pid : ℕ) (call : DataCall) → Mute (Fills pid call)
mute_fills pid call = record { caches = λ s cache p. p; delays = λ s rows p. p; tells = λ s event p. p; answers = λ s tx body p. p; learns = λ s domains p. p; cwds = λ s rows p. p; counts = λ s p. p }

-- who gets the lock stands in no queue
gets_apart : (s : ClientFiles) (pid : ℕ) (call : DataCall) → gets_lock pid call.stream s ≡ true → Looks pid call s → (stream : StreamNo) → stands_by pid stream s.lock_waits ≡ true → true ≡ false
gets_apart s pid call e p stream stands =
    absurd (let never : has_lock pid (holder_of s.streams.entries stream) ≡ false = lines.out_at s.streams.entries s.lock_waits stream pid p.0.0.sound.out stands in
    let yes : has_lock pid (holder_of s.streams.entries stream) ≡ true = subst (λ (m : StreamNo). has_lock pid (holder_of s.streams.entries m) ≡ true) (p.1.1 stream stands) e in
    let both = sym yes ∙ never in
    cc)

-- one that needs no lock, or has it, is kept
keeps_data : (s : ClientFiles) (pid : ℕ) (call : DataCall) → list_any (is_under same_pid pid) s.pending ≡ false → Lines s → Lines (steps.keeps pid (operations.Data call) s)
keeps_data s pid call none p = lines.pushed_lined s.pending s.streams.owners s.lock_waits s.ready pid (operations.Data call) none (λ moves. absurd (cc)) p

pub data_runs : (pid : ℕ) (call : DataCall) → RunsData pid call (Looks pid call) (Locks pid call) (Locks pid call) (Fills pid call) Lines
data_runs pid call = record {
  quiet = mute_looks pid call;
  held = mute_locks pid call;
  first = mute_fills pid call;
  locks = λ s e p. ((rank_runs.data_runs pid call).locks s e p.0, got_so Lined s pid call.stream e (lines.still_lined s.pending s.streams.owners s.lock_waits s.ready pid (gets_apart s pid call e p) p.1.0));
  waits_lock = λ s e p. joins s pid call.stream (operations.Data (record call { state = states.WaitLock })) p.0.0.none (λ moves. absurd (cc)) refl e p.1.1 p.1.0;
  not_open = λ s e p. absurd (let never = leads_open s.streams pid call.fd call.stream p.0.1.0.off.sound.lawful p.0.1.0.leads e in cc);
  places = λ s place p. ((rank_runs.data_runs pid call).places s place p.0, moves_place s call.stream place p.1);
  begins_filling = λ s on p. ((rank_runs.data_runs pid call).begins_filling s on p.0, on_if _ s _ p.1 p.1);
  comes_first = λ s e p. ((rank_runs.data_runs pid call).comes_first s e p.0, p.1);
  waits_turn = λ s e p. keeps_data s pid (record call { state = states.Turn }) p.0.0.off.none p.1;
  filled = λ s p. (p.0.0, p.1);
  fetches = λ s block p. lines.pushed_lined s.pending s.streams.owners s.lock_waits s.ready pid (operations.Data (record call { state = states.Fetching s.out.next block })) p.0.0.0.off.none (λ moves. absurd (cc)) p.1;
  waits_back = λ s file block tx e p. keeps_data s pid (record call { state = states.Room tx }) p.0.0.0.off.none p.1;
  sends_back = λ s file block number p. lines.pushed_lined s.pending s.streams.owners s.lock_waits s.ready pid (operations.Data (record call { state = states.Room s.out.next })) p.0.0.0.off.none (λ moves. absurd (cc)) p.1;
  none_dirty = λ s e p. keeps_data s pid (record call { state = states.Turn }) p.0.0.0.off.none p.1;
  asks = λ s offset append p.
      let operation : Pending = operations.Data (record call { state = states.AtServer (fillers.leaves_filling pid s).out.next }) in
      left_so (λ (rows : List (ℕ × Pending)) (owners : List Owner) (waits : List (StreamNo × ℕ)) (ready : List ℕ). Lined (rows ++ (pid, operation) ∷ []) owners waits ready) s pid
      (lines.pushed_lined s.pending s.streams.owners s.lock_waits s.ready pid operation p.0.0.off.none (λ moves. absurd (cc)) p.1)
      (λ first rest e. lines.pushed_lined s.pending s.streams.owners s.lock_waits (s.ready ++ first ∷ []) pid operation p.0.0.off.none (λ moves. absurd (cc)) (wakes_next s pid first rest e p.0.1.1 p.1));
  ends = λ s reply p.
      let given : ClientFiles = says.replies pid reply s in
      unlocks (fillers.leaves_filling pid given) pid call.stream (lock_runs.leaves_filling given pid call.stream p.0.0) (left_lines given pid p.0.1.1 p.1);
}

-- Syncs

idle_push : (s : ClientFiles) (pid : ℕ) (operation : Pending) → list_any (is_under same_pid pid) s.pending ≡ false → closes_or_moves operation ≡ false → Lines s → Lines (steps.keeps pid operation s)
idle_push s pid operation none calm p = lines.pushed_lined s.pending s.streams.owners s.lock_waits s.ready pid operation none (λ moves. absurd (let both = sym moves ∙ calm in cc)) p

-- the process has no operation
abbrev pub Off : ℕ → ClientFiles → Type 0
Off pid s = (Lines s) × (list_any (is_under same_pid pid) s.pending ≡ false)

pub sync_runs : (pid : ℕ) → RunsSync pid (Off pid) Lines
sync_runs pid = record {
  quiet = record { caches = λ s cache p. p; delays = λ s rows p. p; tells = λ s event p. p; answers = λ s tx body p. p; learns = λ s domains p. p; cwds = λ s rows p. p; counts = λ s p. p };
  stays = λ s call p. idle_push s pid _ p.1 refl p.0;
  waits_other = λ s call block tx e p. idle_push s pid _ p.1 refl p.0;
  sends_own = λ s call block number p. lines.pushed_lined s.pending s.streams.owners s.lock_waits s.ready pid _ p.1 (λ moves. absurd (cc)) p.0;
  ends = λ s reply p. p.0;
}

-- Closes and moves

-- it was taken out, and isn't woken once more
abbrev pub Sleeps : ℕ → ClientFiles → Type 0
Sleeps pid s = (Lines s) × (times pid s.ready ≡ 0)

abbrev pub Closes : ℕ → ClientFiles → Type 0
Closes pid s = (locked_by.HoldsOff pid s) × (Sleeps pid s)

abbrev pub ClosesLocked : ℕ → StreamNo → ClientFiles → Type 0
ClosesLocked pid stream s = (locked_by.HoldsLocked pid stream s) × (Sleeps pid s)

closes_out : (s : ClientFiles) (pid : ℕ) → Lines s → Out pid s.pending s.streams.owners s.lock_waits s.ready
closes_out s pid p = record { others = λ stream other apart e. p.waiting stream other e; single = p.single }

own_none : (s : ClientFiles) (pid : ℕ) (stream : StreamNo) → list_any (is_under same_pid pid) s.pending ≡ false → Lines s → (other : StreamNo) → stands_by pid other s.lock_waits ≡ true → stream ≡ other
own_none s pid stream none p other stands = absurd (let no = lines.none_stands s.pending s.streams.owners s.lock_waits s.ready pid none p other stands in cc)

sleeps_locked : (s : ClientFiles) (pid : ℕ) (stream : StreamNo) → gets_lock pid stream s ≡ true → Sleeps pid s → Sleeps pid (locking.locks pid stream s)
sleeps_locked s pid stream e p = got_so (λ (rows : List (ℕ × Pending)) (owners : List Owner) (waits : List (StreamNo × ℕ)) (ready : List ℕ). (Lined rows owners waits ready) × (times pid ready ≡ 0)) s pid stream e p

drops_so : (s : ClientFiles) (pid fd : ℕ) → list_any (is_under same_pid pid) s.pending ≡ false → Lines s → Lines (descriptors.drops pid fd s)
drops_so s pid fd none p = lines.owners_lined s.pending s.streams.owners (closed s.streams pid fd).owners s.lock_waits s.ready (λ other operation found. keeps other operation (other == pid) refl found) p
  where
    keeps : (other : ℕ) (operation : Pending) (b : Bool) → (other == pid) ≡ b → first_of other s.pending ≡ Some operation → lines.KeepsThose other s.streams.owners (closed s.streams pid fd).owners
    keeps other operation true e found = absurd (let mine = ap (λ (n : ℕ). first_of n s.pending) (eqb-true other pid e) in let nothing = lines.first_none pid s.pending none in let both = sym found ∙ mine ∙ nothing in cc)
    keeps other operation false e found = λ slot stream leads. others_closed s.streams pid fd other slot stream e leads

pub frees_so : (s : ClientFiles) (pid : ℕ) (stream : StreamNo) → ClosesLocked pid stream s → Sleeps pid (locking.unlocks stream s)
frees_so s pid stream p = (unlocks s pid stream p.0 p.1.0, unlocked_times s pid stream p.0.off.none p.1.0 p.1.1)

pushed_asleep : (s : ClientFiles) (pid : ℕ) (operation : Pending) → list_any (is_under same_pid pid) s.pending ≡ false → Sleeps pid s → Lines (steps.keeps pid operation s)
pushed_asleep s pid operation none p = lines.pushed_lined s.pending s.streams.owners s.lock_waits s.ready pid operation none (λ moves. p.1) p.0

close_ends : (cause : ClosingOf) (pid : ℕ) (s : ClientFiles) → Lines s → Lines (closing.ends_closing pid cause s)
close_ends (closings.Call number fd) pid s p = p
close_ends (closings.End about) pid s p = p

pub close_runs : (pid : ℕ) (cause : ClosingOf) → RunsClose pid cause (Closes pid) (ClosesLocked pid) Lines
close_runs pid cause = record {
  quiet = record { caches = λ s cache p. p; delays = λ s rows p. p; tells = λ s event p. p; answers = λ s tx body p. p; learns = λ s domains p. p; cwds = λ s rows p. p; counts = λ s p. p };
  held = λ number. record { caches = λ s cache p. p; delays = λ s rows p. p; tells = λ s event p. p; answers = λ s tx body p. p; learns = λ s domains p. p; cwds = λ s rows p. p; counts = λ s p. p };
  locks = λ s number e p. ((lock_runs.close_runs pid cause).locks s number e p.0, sleeps_locked s pid number e p.1);
  waits_lock = λ s fds fd number f d e p.
      joins s pid number (operations.Close (closing.closing cause fds)) p.0.none (λ moves. p.1.1) (ap (λ (first : Option ℕ). named_by s.streams.owners pid first) f ∙ d) e (own_none s pid number p.0.none p.1.0) (closes_out s pid p.1.0);
  drops = λ s fd p. ((lock_runs.close_runs pid cause).drops s fd p.0, (drops_so s pid fd p.0.none p.1.0, p.1.1));
  drops_held = λ s fd number p. ((lock_runs.close_runs pid cause).drops_held s fd number p.0, (drops_so s pid fd p.0.off.none p.1.0, p.1.1));
  frees = λ s number p. ((lock_runs.close_runs pid cause).frees s number p.0, frees_so s pid number p);
  asks = λ s work number file many e p. lines.pushed_lined s.pending s.streams.owners s.lock_waits s.ready pid (operations.Close (record work { state = closes.Closing s.out.next number })) p.0.off.none (λ moves. p.1.1) p.1.0;
  goes_on = λ s fds p. lines.started_lined s.pending s.streams.owners s.lock_waits s.ready pid (operations.Close (closing.closing cause fds)) p.0.none (λ moves. p.1.1) p.1.0;
  tells = λ s device p. p;
  ends = λ s p. close_ends cause pid s p.1.0;
}

pub move_runs : (pid : ℕ) (work : MoveWork) → work.state ≡ moves.WaitLock → RunsMove pid work (Closes pid) (ClosesLocked pid work.stream) Lines
move_runs pid work w = record {
  locks = λ s e p. ((lock_runs.move_runs pid work w).locks s e p.0, sleeps_locked s pid work.stream e p.1);
  waits_lock = λ s e p.
      joins s pid work.stream (operations.Move work) p.0.none (λ moves. p.1.1) (ap (λ (state : MoveState). move_wants state work.stream) w) e (own_none s pid work.stream p.0.none p.1.0) (closes_out s pid p.1.0);
  drops = λ s fd p. ((lock_runs.move_runs pid work w).drops s fd p.0, (drops_so s pid fd p.0.none p.1.0, p.1.1));
  drops_held = λ s fd p. ((lock_runs.move_runs pid work w).drops_held s fd p.0, (drops_so s pid fd p.0.off.none p.1.0, p.1.1));
  asks = λ s stream file many p. lines.pushed_lined s.pending s.streams.owners s.lock_waits s.ready pid (operations.Move (moving.moving_out work many stream.place s)) p.0.off.none (λ moves. p.1.1) p.1.0;
  moved = λ s place p. p.1.0;
  lost = λ s p. p.1.0;
}

-- One turn

ran_close_by : (state : CloseState) (pid : ℕ) (work : CloseWork) (s : ClientFiles) → work.state ≡ state → Closes pid s → Lines (closing.runs_close_by state pid work s)
ran_close_by closes.WaitLock pid work s e p = subst (λ (state : CloseState). Lines (closing.closes_next pid (record work { state = state }) s)) (sym e) (close_walks.runs_close pid work.of (Closes pid) (ClosesLocked pid) Lines (close_runs pid work.of) work.fds s p)
ran_close_by (closes.Closing tx stream) pid work s e p = pushed_asleep s pid (operations.Close work) p.0.none p.1

ran_move_by : (state : MoveState) (pid : ℕ) (work : MoveWork) (s : ClientFiles) → work.state ≡ state → Closes pid s → Lines (moving.runs_move_by state pid work s)
ran_move_by moves.WaitLock pid work s e p = close_walks.runs_move pid work (Closes pid) (ClosesLocked pid work.stream) Lines (move_runs pid work e) s p
ran_move_by (moves.MovingOut tx many place) pid work s e p = pushed_asleep s pid (operations.Move work) p.0.none p.1

-- what an operation on a file's data wants is its stream's lock
data_own : (state : DataState) (stream other : StreamNo) → data_wants state stream ≡ Some other → stream ≡ other
data_own states.WaitLock stream other e = some_is stream other e
data_own states.Turn stream other e = absurd (cc)
data_own (states.Room tx) stream other e = absurd (cc)
data_own (states.Fetching tx block) stream other e = absurd (cc)
data_own (states.AtServer tx) stream other e = absurd (cc)

pub looks_own : (rows : List (ℕ × Pending)) (owners : List Owner) (waits : List (StreamNo × ℕ)) (ready : List ℕ) (pid : ℕ) (call : DataCall) → first_of pid rows ≡ Some (operations.Data call) → Lined rows owners waits ready → (stream : StreamNo) → stands_by pid stream waits ≡ true → call.stream ≡ stream
looks_own rows owners waits ready pid call found p stream stands =
    let line : InLine rows owners stream pid = p.waiting stream pid stands in
    let same : operations.Data call ≡ line.operation = some_is (operations.Data call) line.operation (sym found ∙ line.found) in
    data_own call.state call.stream stream (ap (wanted_in owners pid) same ∙ line.wants)

-- who closes or moves a stream stands in no queue where it is woken, and isn't woken once more
woken_out : (rows : List (ℕ × Pending)) (owners : List Owner) (waits : List (StreamNo × ℕ)) (pid : ℕ) (pids : List ℕ) (operation : Pending) → list_any (is_under same_pid pid) (less_of pid rows) ≡ false → first_of pid rows ≡ Some operation → closes_or_moves operation ≡ true → Lined rows owners waits (pid ∷ pids) → (Lined (less_of pid rows) owners waits pids) × (times pid pids ≡ 0)
woken_out rows owners waits pid pids operation none found moves p =
    let single : Single waits (pid ∷ pids) pid = p.single pid operation found moves in
    let first : times pid (pid ∷ pids) ≡ suc (times pid pids) = lines.times_first pid pids in (
      lines.still_lined (less_of pid rows) owners waits pids pid (λ stream stands. absurd (let never : times pid (pid ∷ pids) ≡ 0 = single.apart stream stands in let both = sym first ∙ never in cc)) (lines.taken_out rows owners waits pids pid none (lines.looks_lined rows owners waits pid pids p)),
      (let most : times pid (pid ∷ pids) ≤ 1 = single.once in omega (arith, first)),
    )

-- what holds of locks, queues and turns
pub record Turned (s : ClientFiles) : Type 0 where
  pub ranks : rank_runs.Turned s
  pub lined : Lines s

module _ (pid : ℕ) (pids : List ℕ) (s : ClientFiles) (e : s.ready ≡ pid ∷ pids) (t : Turned s) where
  abbrev pub left : ClientFiles
  left = record s { ready = pids; pending = less_of pid s.pending }

  none : list_any (is_under same_pid pid) (less_of pid s.pending) ≡ false
  none = none_left pid s.pending t.ranks.locks.once

  board_off : locked_by.HoldsOff pid left
  board_off = record { sound = boards.taken_out (board_of s) pid t.ranks.locks.holds; none = none }

  woken : Lined s.pending s.streams.owners s.lock_waits (pid ∷ pids)
  woken = subst (λ (ready : List ℕ). Lined s.pending s.streams.owners s.lock_waits ready) e t.lined

  looked : Lined s.pending s.streams.owners s.lock_waits pids
  looked = lines.looks_lined s.pending s.streams.owners s.lock_waits pid pids woken

  out_so : (operation : Pending) → first_of pid s.pending ≡ Some operation → wanted_in s.streams.owners pid operation ≡ None → Lines left
  out_so operation found idle = lines.idle_out s.pending s.streams.owners s.lock_waits pids pid operation none found idle looked

  -- one on a file's data that looks
  pub looks_out : (call : DataCall) → first_of pid s.pending ≡ Some (operations.Data call) → Looks pid call left
  looks_out call found = (
    (
      board_off,
      (
        record { off = wait_runs.left_so pid pids s e t.ranks.waits.once t.ranks.waits.holds; leads = (found_each (Settled s.streams.owners s.lock_waits s.ready) pid s.pending (operations.Data call) t.ranks.waits.holds.rows found).leads },
        (
          ranks.rank_out pid s.pending s.fillers t.ranks.ranked,
          rank_runs.looks_so s left pid call found refl refl (found_each (Fine s.streams.entries s.fillers) pid s.pending (operations.Data call) t.ranks.locks.holds.rows found) t.ranks.ranked,
        ),
      ),
    ),
    (lines.taken_out s.pending s.streams.owners s.lock_waits pids pid none looked, looks_own s.pending s.streams.owners s.lock_waits pids pid call found looked),
  )

  -- one that closes or moves a stream
  pub closes_left : (operation : Pending) → first_of pid s.pending ≡ Some operation → closes_or_moves operation ≡ true → Closes pid left
  closes_left operation found moves = (board_off, woken_out s.pending s.streams.owners s.lock_waits pid pids operation none found moves woken)

  ran_at : (o : Option Pending) → first_of pid s.pending ≡ o → Lines (turning.runs_by o pid left)
  ran_at None found = lines.still_lined (less_of pid s.pending) s.streams.owners s.lock_waits pids pid (λ stream stands. absurd (let line = (looked.waiting stream pid stands).found in let both = sym line ∙ found in cc)) (lines.taken_out s.pending s.streams.owners s.lock_waits pids pid none looked)
  ran_at (Some (operations.Name call)) found = idle_push left pid (operations.Name call) none refl (out_so (operations.Name call) found refl)
  ran_at (Some (operations.Data call)) found = data_walks.looks pid call (Looks pid call) (Locks pid call) (Locks pid call) (Fills pid call) Lines (data_runs pid call) left (looks_out call found)
  ran_at (Some (operations.Sync call)) found = data_walks.syncs pid (Off pid) Lines (sync_runs pid) call left (out_so (operations.Sync call) found refl, none)
  ran_at (Some (operations.Close work)) found = ran_close_by work.state pid work left refl (closes_left (operations.Close work) found refl)
  ran_at (Some (operations.Move work)) found = ran_move_by work.state pid work left refl (closes_left (operations.Move work) found refl)

lined_by : (pids : List ℕ) (s : ClientFiles) → s.ready ≡ pids → Turned s → Lines (turning.turned_by pids s)
lined_by [] s e t = t.lined
lined_by (pid ∷ pids) s e t = ran_at pid pids s e t (first_of pid s.pending) refl

ranks_by : (pids : List ℕ) (s : ClientFiles) → s.ready ≡ pids → rank_runs.Turned s → rank_runs.Turned (turning.turned_by pids s)
ranks_by pids s e t = record { locks = lock_runs.turned_by pids s t.locks; waits = wait_runs.turned_by pids s e t.waits; ranked = rank_runs.ranked_by pids s e t }

pub turns : (count : ℕ) (s : ClientFiles) → Turned s → Turned (turning.turns count s)
turns zero s t = t
turns (suc count) s t =
    let before : ClientFiles = turning.turns count s in
    let so : Turned before = turns count s t in
    record { ranks = ranks_by before.ready before refl so.ranks; lined = lined_by before.ready before refl so }

-- who is woken goes on
pub going_on_keeps : (s : ClientFiles) → OneOperationEach s → locked_by.Holds s → queued.Holds s → rank_runs.Holds s → Lines s → Lines (turning.goes_on s)
going_on_keeps s once b d r p = (turns (turning.turns_for s) s (record { ranks = record { locks = record { once = once; holds = b }; waits = record { once = once; holds = d }; ranked = r }; lined = p })).lined
