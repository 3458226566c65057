-- Operations of the files' side that run keep that streams of processes that leave move in turn.
use Rattle.std.proofs.Common.{◌≡◌, ℕ, zero, suc, ◌==◌, Bool, true, false, cond, List, [], ◌∷◌, ◌++◌, Option, Some, None, refl, sym, ap, ◌∙◌, subst, slice_get, slice_set}
use Rattle.std.proofs.lemmas.Bool.{eq-eqb, eqb-true}
use Rattle.std.specs.List.{list_any}
use Rattle.sprite_ids.specs.declared.FileId.{FileId}
use Rattle.sprite_ids.specs.declared.Object.{Object}
use Rattle.sprite_ids.specs.declared.Object.TheVariants as objects
use Rattle.sprite_ids.specs.declared.StreamNo.{StreamNo}
use Rattle.sprite_ids.proofs.ListLaws.{get_set_other, some_is}
use Rattle.kernel_steps.specs.Rows.{first_under, is_row, is_under}
use Rattle.stream_table.specs.declared.Place.{Place}
use Rattle.stream_table.specs.declared.Stream.{Stream}
use Rattle.stream_table.specs.Entries.{may_be_at, placed}
use Rattle.stream_table.specs.Owners.{Owner, descriptor, is_taken, is_used, named, numbers_of, numbers_or}
use Rattle.stream_table.specs.Streams.{Table, closed, closing}
use Rattle.stream_table.proofs.OwnerLaws.{kept_some}
use Rattle.stream_table.proofs.ReferLaws.{descriptor_slot}
use Rattle.client_file_tables.specs.declared.client_files.ClientFiles.{ClientFiles}
use Rattle.client_file_tables.specs.declared.moves.ClosingOf.{ClosingOf}
use Rattle.client_file_tables.specs.declared.moves.ClosingOf.TheVariants as closings
use Rattle.client_file_tables.specs.declared.moves.CloseWork.{CloseWork}
use Rattle.client_file_tables.specs.declared.moves.MoveWork.{MoveWork}
use Rattle.client_file_tables.specs.declared.moves.Report.{Report}
use Rattle.client_file_tables.specs.declared.moves.Report.TheVariants as reports
use Rattle.client_file_tables.specs.declared.pending.Pending.{Pending}
use Rattle.client_file_tables.specs.declared.pending.Pending.TheVariants as operations
use Rattle.client_file_tables.specs.declared.states.CloseState.{CloseState}
use Rattle.client_file_tables.specs.declared.states.CloseState.TheVariants as closes
use Rattle.client_file_tables.specs.declared.states.DataState.TheVariants as states
use Rattle.client_file_tables.specs.declared.states.MoveState.{MoveState}
use Rattle.client_file_tables.specs.declared.states.MoveState.TheVariants as moves
use Rattle.client_file_tables.specs.declared.works.DataCall.{DataCall}
use Rattle.client_file_tables.specs.Fillers as fillers
use Rattle.client_file_tables.specs.Fillers.{is_filling}
use Rattle.client_file_tables.specs.Locks as locking
use Rattle.client_file_tables.specs.Locks.{gets_lock}
use Rattle.client_file_tables.specs.Rows.{first_of, first_stream, is_pid, less_of, less_stream, same_pid, same_stream}
use Rattle.client_file_tables.specs.Says as says
use Rattle.client_file_tables.specs.Steps as steps
use Rattle.client_file_tables.specs.Streams as streams
use Rattle.client_file_tables.specs.Streams.{stream_at}
use Rattle.client_files.specs.Turns as turning
use Rattle.client_streams.specs.Closing as closing_of
use Rattle.client_streams.specs.Descriptors as descriptors
use Rattle.client_streams.specs.Moving as moving
use Rattle.client_homes.specs.declared.client.Leaving.{Leaving}
use Rattle.client_homes.specs.Procs as procs_of
use Rattle.client_facts.specs.FileFacts.{OneOperationEach}
use Rattle.client_facts.proofs.CostLaws.{none_left}
use Rattle.file_walks.proofs.CloseWalks as close_walks
use Rattle.file_walks.proofs.CloseWalks.{RunsClose}
use Rattle.file_walks.proofs.DataWalks as data_walks
use Rattle.file_walks.proofs.DataWalks.{RunsData, RunsSync}
use Rattle.file_walks.proofs.Muted.{Mute}
use Rattle.file_facts.proofs.BookLaws.{or_left, or_right}
use Rattle.file_facts.proofs.RunFacts.{once_turned}
use Rattle.lock_facts.proofs.OwnerLaws.{others_closed, own_put}
use Rattle.lock_facts.proofs.Ranks.{first_less, first_own}
use Rattle.holder_facts.proofs.Lines.{back_by, first_none, first_other}
use Rattle.move_facts.specs.MoveFacts.{IsNext, MovesInTurn, is_moving_out, is_out, move_in, move_of}
use Rattle.move_facts.proofs.MoveLaws as laws
use Rattle.move_facts.proofs.MoveLaws.{Gone}

-- Descriptors of a process that are dropped

used_at : (numbers : List (Option StreamNo)) (slot : ℕ) (n : StreamNo) → slice_get numbers slot ≡ Some (Some n) → is_used numbers ≡ true
used_at [] slot n e = absurd (cc)
used_at (known ∷ rest) zero n e = or_left (is_taken known) (is_used rest) (ap is_taken (some_is known (Some n) e))
used_at (known ∷ rest) (suc slot) n e = or_right (is_taken known) (is_used rest) (used_at rest slot n e)

not_slot : (slot fd : ℕ) → (slot == fd) ≡ false → fd ≡ slot → ⊥
not_slot slot fd apart same = absurd (let yes = eq-eqb slot fd (sym same) in let both = sym yes ∙ apart in cc)

own_closing : (o : Option StreamNo) (table : Table) (pid fd slot : ℕ) (n : StreamNo) → (slot == fd) ≡ false → descriptor table.owners pid slot ≡ Some n → descriptor (closing table pid fd o).owners pid slot ≡ Some n
own_closing None table pid fd slot n apart leads = leads
own_closing (Some m) table pid fd slot n apart leads =
    let numbers : List (Option StreamNo) = slice_set (numbers_of table.owners pid) fd None in
    let there : slice_get numbers slot ≡ Some (Some n) = get_set_other (numbers_of table.owners pid) fd slot None (not_slot slot fd apart) ∙ descriptor_slot table.owners pid slot n leads in
    let owner : Owner = record { pid = pid; numbers = numbers } in
    ap (λ (owners : List Owner). descriptor owners pid slot) (kept_some table.owners owner (used_at numbers slot n there))
    ∙ ap (λ (o : Option Owner). named (slice_get (numbers_or o) slot)) (own_put pid owner table.owners refl) ∙ ap named there

own_closed : (table : Table) (pid fd slot : ℕ) (n : StreamNo) → (slot == fd) ≡ false → descriptor table.owners pid slot ≡ Some n → descriptor (closed table pid fd).owners pid slot ≡ Some n
own_closed table pid fd slot n apart leads = own_closing (descriptor table.owners pid fd) table pid fd slot n apart leads

module _ (leaving : List (ℕ × Leaving)) (pid : ℕ) (stream : StreamNo) (owners : List Owner) (Q : List (ℕ × Pending) → List Report → Type 0) where
  -- those that lead to the stream
  abbrev pub Dropped : ClientFiles → Type 0
  Dropped s = (Gone leaving pid owners s.streams.owners stream) × (Q s.pending s.results)

  slot_by : (s : ClientFiles) (fd slot : ℕ) (other n : StreamNo) (b : Bool) → (slot == fd) ≡ b → descriptor s.streams.owners pid fd ≡ Some other → same_stream other stream ≡ true → same_stream n stream ≡ false → descriptor s.streams.owners pid slot ≡ Some n → b ≡ false
  slot_by s fd slot other n true e leads here apart mine =
      absurd (let same = ap (λ (k : ℕ). descriptor s.streams.owners pid k) (eqb-true slot fd e) in
      let is : n ≡ other = some_is n other (sym mine ∙ same ∙ leads) in
      let yes = ap (λ (m : StreamNo). same_stream m stream) is ∙ here in
      let both = sym yes ∙ apart in
      cc)
  slot_by s fd slot other n false e leads here apart mine = refl

  drops_by : (o : Option StreamNo) (fd : ℕ) (s : ClientFiles) → descriptor s.streams.owners pid fd ≡ o → Dropped s → Dropped (descriptors.drops_by pid fd stream o s)
  drops_by None fd s e p = p
  drops_by (Some other) fd s e p = by_test (same_stream other stream) refl
    where
      by_test : (b : Bool) → same_stream other stream ≡ b → Dropped (cond b (descriptors.drops pid fd s) s)
      by_test true here = (
        record {
          others = λ q slot n apart leads. others_closed s.streams pid fd q slot n apart (p.0.others q slot n apart leads);
          own = λ slot n apart leads. let mine = p.0.own slot n apart leads in own_closed s.streams pid fd slot n (slot_by s fd slot other n (slot == fd) refl e here apart mine) mine;
        },
        p.1,
      )
      by_test false here = p

  drops_under : (fd : ℕ) (s : ClientFiles) → Dropped s → Dropped (descriptors.drops_under fd pid stream s)
  drops_under zero s p = p
  drops_under (suc fd) s p = let before : ClientFiles = descriptors.drops_under fd pid stream s in drops_by (descriptor before.streams.owners pid fd) fd before refl (drops_under fd s p)

  pub drops_each : (s : ClientFiles) → Dropped s → Dropped (descriptors.drops_each pid stream s)
  drops_each s p = drops_under descriptors.descriptor_count s p

-- What stays where locks and turns are taken and left

module _ (P : List (ℕ × Pending) → List Owner → List Report → Type 0) where
  abbrev pub At : ClientFiles → Type 0
  At s = P s.pending s.streams.owners s.results

  on_if : (b : Bool) (s t : ClientFiles) → At s → At t → At (cond b s t)
  on_if true s t p q = p
  on_if false s t p q = q

  pub locks : (s : ClientFiles) (pid : ℕ) (stream : StreamNo) → At s → At (locking.locks pid stream s)
  locks s pid stream p =
      let taken : ClientFiles = locking.takes_lock pid stream s in
      on_if (gets_lock pid stream s) taken (locking.waits_for_lock pid stream taken) p (on_if (list_any (is_row same_stream same_pid stream pid) s.lock_waits) taken (record taken { lock_waits = s.lock_waits ++ (stream, pid) ∷ [] }) p p)

  pub unlocks : (s : ClientFiles) (stream : StreamNo) → At s → At (locking.unlocks stream s)
  unlocks s stream p = handed (first_stream stream s.lock_waits)
    where
      handed : (o : Option ℕ) → At (locking.hands_first o stream (record (locking.frees stream s) { lock_waits = less_stream stream s.lock_waits }))
      handed (Some first) = p
      handed None = p

  wakes_first : (waiting : List ℕ) (s : ClientFiles) → At s → At (fillers.wakes_first waiting s)
  wakes_first [] s p = p
  wakes_first (first ∷ rest) s p = p

  pub leaves_filling : (s : ClientFiles) (pid : ℕ) → At s → At (fillers.leaves_filling pid s)
  leaves_filling s pid p = let dropped : ClientFiles = fillers.drops_filler pid s in on_if (is_filling pid s) (fillers.wakes_filler dropped) dropped (wakes_first dropped.fillers dropped p) p

  pub begins_filling : (s : ClientFiles) (pid : ℕ) → At s → At (fillers.begins_filling pid s)
  begins_filling s pid p = on_if (list_any (is_pid pid) s.fillers) s (record s { fillers = s.fillers ++ pid ∷ [] }) p p

  pub moves_place : (s : ClientFiles) (number : StreamNo) (place : Place) → At s → At (streams.moves_place number place s)
  moves_place s number place p = on_if (may_be_at place (stream_at number s)) (record s { streams = record s.streams { entries = placed s.streams.entries number place } }) s p p

-- Operations on files' data, syncs and closes

-- whether it closes
abbrev pub is_close : Option Pending → Bool
is_close (Some (operations.Close work)) = true
is_close _ = false

-- who closes doesn't leave
abbrev pub Calm : List (ℕ × Leaving) → List (ℕ × Pending) → Type 0
Calm leaving rows = (q : ℕ) → is_close (first_of q rows) ≡ true → first_under procs_of.is_pid q leaving ≡ None

abbrev pub Turning : List (ℕ × Leaving) → List (ℕ × Pending) → List Owner → List Report → Type 0
Turning leaving rows owners told = (MovesInTurn leaving rows owners told) × (Calm leaving rows)

abbrev pub TurningOut : List (ℕ × Leaving) → ℕ → List (ℕ × Pending) → List Owner → List Report → Type 0
TurningOut leaving pid rows owners told = (Turning leaving rows owners told) × (list_any (is_under same_pid pid) rows ≡ false)

calm_push : (leaving : List (ℕ × Leaving)) (rows : List (ℕ × Pending)) (pid : ℕ) (operation : Pending) → list_any (is_under same_pid pid) rows ≡ false → (is_close (Some operation) ≡ true → first_under procs_of.is_pid pid leaving ≡ None) → Calm leaving rows → Calm leaving (rows ++ (pid, operation) ∷ [])
calm_push leaving rows pid operation none own p q e = by_test (q == pid) refl
  where
    by_test : (b : Bool) → (q == pid) ≡ b → first_under procs_of.is_pid q leaving ≡ None
    by_test true f =
        let is : q ≡ pid = eqb-true q pid f in
        ap (λ (n : ℕ). first_under procs_of.is_pid n leaving) is ∙ own (sym (ap is_close (ap (λ (n : ℕ). first_of n (rows ++ (pid, operation) ∷ [])) is ∙ first_own pid rows operation none)) ∙ e)
    by_test false f = p q (sym (ap is_close (first_other q pid rows operation f)) ∙ e)

pub calm_out : (leaving : List (ℕ × Leaving)) (rows : List (ℕ × Pending)) (pid : ℕ) → list_any (is_under same_pid pid) (less_of pid rows) ≡ false → Calm leaving rows → Calm leaving (less_of pid rows)
calm_out leaving rows pid none p q e = by_test (q == pid) refl
  where
    by_test : (b : Bool) → (q == pid) ≡ b → first_under procs_of.is_pid q leaving ≡ None
    by_test true f = absurd (let gone = ap is_close (ap (λ (n : ℕ). first_of n (less_of pid rows)) (eqb-true q pid f) ∙ first_none pid (less_of pid rows) none) in let both = sym e ∙ gone in cc)
    by_test false f = p q (sym (ap is_close (first_less q pid rows f)) ∙ e)

module _ (leaving : List (ℕ × Leaving)) where
  abbrev pub Turns : ClientFiles → Type 0
  Turns s = Turning leaving s.pending s.streams.owners s.results

  abbrev pub Outs : ℕ → ClientFiles → Type 0
  Outs pid s = TurningOut leaving pid s.pending s.streams.owners s.results

  keeps : (s : ClientFiles) (pid : ℕ) (operation : Pending) → move_in (Some operation) ≡ None → (is_close (Some operation) ≡ true → first_under procs_of.is_pid pid leaving ≡ None) → Outs pid s → Turns (steps.keeps pid operation s)
  keeps s pid operation e own p = (laws.pushed leaving s.pending s.streams.owners s.results pid operation e p.0.0, calm_push leaving s.pending pid operation p.1 own p.0.1)

  mute_outs : (pid : ℕ) → Mute (Outs pid)
  mute_outs pid = record { caches = λ s cache p. p; delays = λ s rows p. p; tells = λ s event p. p; answers = λ s tx body p. p; learns = λ s domains p. p; cwds = λ s rows p. p; counts = λ s p. p }

  pub data_runs : (pid : ℕ) (call : DataCall) → RunsData pid call (Outs pid) (Outs pid) (Outs pid) (Outs pid) Turns
  data_runs pid call = record {
    quiet = mute_outs pid;
    held = mute_outs pid;
    first = mute_outs pid;
    locks = λ s e p. locks (TurningOut leaving pid) s pid call.stream p;
    waits_lock = λ s e p. keeps (locking.locks pid call.stream s) pid (operations.Data (record call { state = states.WaitLock })) refl (λ never. absurd (cc)) (locks (TurningOut leaving pid) s pid call.stream p);
    not_open = λ s e p. keeps s pid (operations.Data (record call { state = states.WaitLock })) refl (λ never. absurd (cc)) p;
    places = λ s place p. moves_place (TurningOut leaving pid) s call.stream place p;
    begins_filling = λ s on p. begins_filling (TurningOut leaving pid) s pid p;
    comes_first = λ s e p. p;
    waits_turn = λ s e p. keeps s pid (operations.Data (record call { state = states.Turn })) refl (λ never. absurd (cc)) p;
    filled = λ s p. p;
    fetches = λ s block p. keeps s pid (operations.Data (record call { state = states.Fetching s.out.next block })) refl (λ never. absurd (cc)) p;
    waits_back = λ s file block tx e p. keeps s pid (operations.Data (record call { state = states.Room tx })) refl (λ never. absurd (cc)) p;
    sends_back = λ s file block number p. keeps s pid (operations.Data (record call { state = states.Room s.out.next })) refl (λ never. absurd (cc)) p;
    none_dirty = λ s e p. keeps s pid (operations.Data (record call { state = states.Turn })) refl (λ never. absurd (cc)) p;
    asks = λ s offset append p.
        let left : ClientFiles = fillers.leaves_filling pid s in
        keeps left pid (operations.Data (record call { state = states.AtServer left.out.next })) refl (λ never. absurd (cc)) (leaves_filling (TurningOut leaving pid) s pid p);
    ends = λ s reply p. let given : ClientFiles = says.replies pid reply s in unlocks (Turning leaving) (fillers.leaves_filling pid given) call.stream (leaves_filling (TurningOut leaving pid) given pid p).0;
  }

  pub sync_runs : (pid : ℕ) → RunsSync pid (Outs pid) Turns
  sync_runs pid = record {
    quiet = mute_outs pid;
    stays = λ s call p. keeps s pid _ refl (λ never. absurd (cc)) p;
    waits_other = λ s call block tx e p. keeps s pid _ refl (λ never. absurd (cc)) p;
    sends_own = λ s call block number p. (laws.pushed leaving s.pending s.streams.owners s.results pid _ refl p.0.0, calm_push leaving s.pending pid _ p.1 (λ never. absurd (cc)) p.0.1);
    ends = λ s reply p. p.0;
  }

  tells_so : (s : ClientFiles) (report : Report) → Turns s → Turns (steps.reports report s)
  tells_so s report p = (laws.told_more leaving s.pending s.streams.owners s.results (s.results ++ report ∷ []) (λ q e. laws.moved_before q s.results (report ∷ []) e) p.0, p.1)

  -- whose process doesn't leave
  abbrev pub Stays : ℕ → ClientFiles → Type 0
  Stays pid s = (Outs pid s) × (first_under procs_of.is_pid pid leaving ≡ None)

  abbrev StaysIn : ℕ → List (ℕ × Pending) → List Owner → List Report → Type 0
  StaysIn pid rows owners told = (TurningOut leaving pid rows owners told) × (first_under procs_of.is_pid pid leaving ≡ None)

  mute_stays : (pid : ℕ) → Mute (Stays pid)
  mute_stays pid = record { caches = λ s cache p. p; delays = λ s rows p. p; tells = λ s event p. p; answers = λ s tx body p. p; learns = λ s domains p. p; cwds = λ s rows p. p; counts = λ s p. p }

  closes_so : (s : ClientFiles) (pid fd : ℕ) → Stays pid s → Stays pid (descriptors.drops pid fd s)
  closes_so s pid fd p = (((laws.drops leaving s.pending s.streams.owners (closed s.streams pid fd).owners s.results pid p.1 (λ q slot n apart leads. others_closed s.streams pid fd q slot n apart leads) p.0.0.0, p.0.0.1), p.0.1), p.1)

  close_ends : (cause : ClosingOf) (pid : ℕ) (s : ClientFiles) → Stays pid s → Turns (closing_of.ends_closing pid cause s)
  close_ends (closings.Call number fd) pid s p = p.0.0
  close_ends (closings.End about) pid s p = tells_so s (reports.AllClosed pid) p.0.0

  pub close_runs : (pid : ℕ) (cause : ClosingOf) → RunsClose pid cause (Stays pid) (λ number. Stays pid) Turns
  close_runs pid cause = record {
    quiet = mute_stays pid;
    held = λ number. mute_stays pid;
    locks = λ s number e p. locks (StaysIn pid) s pid number p;
    waits_lock = λ s fds fd number f d e p. let waits : Stays pid (locking.locks pid number s) = locks (StaysIn pid) s pid number p in keeps (locking.locks pid number s) pid (operations.Close (closing_of.closing cause fds)) refl (λ c. p.1) waits.0;
    drops = λ s fd p. closes_so s pid fd p;
    drops_held = λ s fd number p. closes_so s pid fd p;
    frees = λ s number p. unlocks (StaysIn pid) s number p;
    asks = λ s work number file many e p. keeps s pid (operations.Close (record work { state = closes.Closing s.out.next number })) refl (λ c. p.1) p.0;
    goes_on = λ s fds p. keeps s pid (operations.Close (closing_of.closing cause fds)) refl (λ c. p.1) p.0;
    tells = λ s device p. ((tells_so s (reports.MasterClosed device) p.0.0, p.0.1), p.1);
    ends = λ s p. close_ends cause pid s p;
  }

  -- Moves

  module _ (pid : ℕ) (work : MoveWork) (mine : IsNext leaving pid work) where
    abbrev Kept : List Owner → List (ℕ × Pending) → List Report → Type 0
    Kept owners rows told = TurningOut leaving pid rows owners told

    moved : (s : ClientFiles) (place : Place) → Outs pid s → Turns (moving.moves_device pid work.stream place s)
    moved s place p =
        let after : ClientFiles = descriptors.drops_each pid work.stream s in
        let so = drops_each leaving pid work.stream s.streams.owners (Kept s.streams.owners) s (record { others = λ q fd n apart leads. leads; own = λ fd n apart leads. leads }, p) in
        (laws.moved_at_once leaving after.pending s.streams.owners after.streams.owners after.results pid work so.1.1 mine so.0 so.1.0.0 place None 1, so.1.0.1)

    moves_file : (b : Bool) (stream : Stream) (file : FileId) (s : ClientFiles) → work.state ≡ moves.WaitLock → Outs pid s
        → Turns (cond b (moving.moves_locked pid work stream file (locking.locks pid work.stream s)) (steps.keeps pid (operations.Move work) (locking.locks pid work.stream s)))
    moves_file true stream file s w p =
        let locked_one : ClientFiles = locking.locks pid work.stream s in
        let after : ClientFiles = descriptors.drops_each pid work.stream locked_one in
        let so = drops_each leaving pid work.stream locked_one.streams.owners (Kept locked_one.streams.owners) locked_one (record { others = λ q fd n apart leads. leads; own = λ fd n apart leads. leads }, locks (TurningOut leaving pid) s pid work.stream p) in
        (laws.sent_out leaving after.pending locked_one.streams.owners after.streams.owners after.results pid work so.1.1 mine so.0 so.1.0.0 (moving.moving_out work _ stream.place after) refl refl, calm_push leaving after.pending pid (operations.Move (moving.moving_out work _ stream.place after)) so.1.1 (λ never. absurd (cc)) so.1.0.1)
    moves_file false stream file s w p =
        let locked_one : ClientFiles = locking.locks pid work.stream s in
        let so : Outs pid locked_one = locks (TurningOut leaving pid) s pid work.stream p in
        (laws.begun leaving locked_one.pending locked_one.streams.owners locked_one.results pid work so.1 mine so.0.0, calm_push leaving locked_one.pending pid (operations.Move work) so.1 (λ never. absurd (cc)) so.0.1)

    moves_object : (object : Object) (stream : Stream) (s : ClientFiles) → work.state ≡ moves.WaitLock → Outs pid s → Turns (moving.moves_object_by object pid work stream s)
    moves_object (objects.File file) stream s w p = moves_file (gets_lock pid work.stream s) stream file s w p
    moves_object (objects.Device device) stream s w p = moved s stream.place p
    moves_object (objects.Master device) stream s w p = moved s stream.place p

    moves_on : (o : Option Stream) (s : ClientFiles) → work.state ≡ moves.WaitLock → Outs pid s → Turns (moving.moves_on_by o pid work s)
    moves_on (Some stream) s w p = moves_object stream.object stream s w p
    moves_on None s w p = p.0

  -- One turn

  module _ (pid : ℕ) (pids : List ℕ) (s : ClientFiles) (once : OneOperationEach s) (p : Turns s) where
    abbrev left : ClientFiles
    left = record s { ready = pids; pending = less_of pid s.pending }

    none : list_any (is_under same_pid pid) (less_of pid s.pending) ≡ false
    none = none_left pid s.pending once

    out : is_out (move_of pid s.pending) ≡ false → Outs pid left
    out calm = ((laws.taken_out leaving s.pending s.streams.owners s.results pid none calm p.0, calm_out leaving s.pending pid none p.1), none)

    back : (operation : Pending) → first_of pid s.pending ≡ Some operation → Turns (steps.keeps pid operation left)
    back operation found =
        let same : (q : ℕ) → first_of q (less_of pid s.pending ++ (pid, operation) ∷ []) ≡ first_of q s.pending = λ q. back_by q pid s.pending operation (q == pid) refl none found in
        (laws.same_moves leaving s.pending (less_of pid s.pending ++ (pid, operation) ∷ []) s.streams.owners s.results (λ q. ap move_in (same q)) p.0, λ q e. p.1 q (sym (ap is_close (same q)) ∙ e))

    close_ran : (state : CloseState) (work : CloseWork) → work.state ≡ state → first_of pid s.pending ≡ Some (operations.Close work) → Turns (closing_of.runs_close_by state pid work left)
    close_ran closes.WaitLock work w found =
        subst (λ (state : CloseState). Turns (closing_of.closes_next pid (record work { state = state }) left)) (sym w)
        (close_walks.runs_close pid work.of (Stays pid) (λ number. Stays pid) Turns (close_runs pid work.of) work.fds left (out (ap (λ (o : Option Pending). is_out (move_in o)) found), p.1 pid (ap is_close found)))
    close_ran (closes.Closing tx stream) work w found = back (operations.Close work) found

    move_ran : (state : MoveState) (work : MoveWork) → work.state ≡ state → first_of pid s.pending ≡ Some (operations.Move work) → Turns (moving.runs_move_by state pid work left)
    move_ran moves.WaitLock work w found = moves_on pid work (p.0.next pid work (ap move_in found)) (stream_at work.stream left) left w (out (ap (λ (o : Option Pending). is_out (move_in o)) found ∙ ap is_moving_out w))
    move_ran (moves.MovingOut tx kept place) work w found = back (operations.Move work) found

    pub ran_at : (o : Option Pending) → first_of pid s.pending ≡ o → Turns (turning.runs_by o pid left)
    ran_at None found = (out (ap (λ (o : Option Pending). is_out (move_in o)) found)).0
    ran_at (Some (operations.Name call)) found = back (operations.Name call) found
    ran_at (Some (operations.Data call)) found = data_walks.looks pid call (Outs pid) (Outs pid) (Outs pid) (Outs pid) Turns (data_runs pid call) left (out (ap (λ (o : Option Pending). is_out (move_in o)) found))
    ran_at (Some (operations.Sync call)) found = data_walks.syncs pid (Outs pid) Turns (sync_runs pid) call left (out (ap (λ (o : Option Pending). is_out (move_in o)) found))
    ran_at (Some (operations.Close work)) found = close_ran work.state work refl found
    ran_at (Some (operations.Move work)) found = move_ran work.state work refl found

  record Turned (s : ClientFiles) : Type 0 where
    once : OneOperationEach s
    moves : Turns s

  turned_by : (pids : List ℕ) (s : ClientFiles) → Turned s → Turned (turning.turned_by pids s)
  turned_by [] s t = t
  turned_by (pid ∷ pids) s t = record { once = once_turned (first_of pid s.pending) pid pids s t.once; moves = ran_at pid pids s t.once t.moves (first_of pid s.pending) refl }

  turns : (count : ℕ) (s : ClientFiles) → Turned s → Turned (turning.turns count s)
  turns zero s t = t
  turns (suc count) s t = let before : ClientFiles = turning.turns count s in turned_by before.ready before (turns count s t)

  -- who is woken goes on
  pub going_on_keeps : (s : ClientFiles) → OneOperationEach s → Turns s → Turns (turning.goes_on s)
  going_on_keeps s once p = (turns (turning.turns_for s) s (record { once = once; moves = p })).moves
