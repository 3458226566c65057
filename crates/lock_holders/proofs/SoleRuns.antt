-- Operations of the files' side that run keep that who has a lock has an operation that has it, or is woken to take it.
use Rattle.std.proofs.Common.{◌≡◌, ◌⊎◌, inl, inr, ℕ, zero, suc, ◌==◌, Bool, true, false, cond, List, [], ◌∷◌, ◌++◌, Option, Some, None, refl, sym, ap, ◌∙◌, subst, slice_get}
use Rattle.std.proofs.lemmas.Bool.{eq-eqb}
use Rattle.std.specs.List.{list_any}
use Rattle.sprite_ids.specs.declared.DeviceId.{DeviceId}
use Rattle.sprite_ids.specs.declared.FileId.{FileId}
use Rattle.sprite_ids.specs.declared.Object.{Object}
use Rattle.sprite_ids.specs.declared.Object.TheVariants as objects
use Rattle.sprite_ids.specs.declared.StreamNo.{StreamNo}
use Rattle.sprite_ids.proofs.ListLaws.{some_is}
use Rattle.kernel_steps.specs.Rows.{is_row, is_under}
use Rattle.unix_calls.specs.declared.Event.{Event}
use Rattle.stream_table.specs.declared.Place.{Place}
use Rattle.stream_table.specs.declared.Stream.{Stream}
use Rattle.stream_table.specs.Entries.{Entry, holder_of, may_be_at, placed, stream_of, unlocked}
use Rattle.stream_table.specs.Owners.{Owner, descriptor}
use Rattle.stream_table.specs.Streams.{closed_stream, is_last}
use Rattle.client_file_tables.specs.declared.client_files.ClientFiles.{ClientFiles}
use Rattle.client_file_tables.specs.declared.moves.ClosingOf.{ClosingOf}
use Rattle.client_file_tables.specs.declared.moves.ClosingOf.TheVariants as closings
use Rattle.client_file_tables.specs.declared.moves.CloseWork.{CloseWork}
use Rattle.client_file_tables.specs.declared.moves.MoveWork.{MoveWork}
use Rattle.client_file_tables.specs.declared.pending.Pending.{Pending}
use Rattle.client_file_tables.specs.declared.pending.Pending.TheVariants as operations
use Rattle.client_file_tables.specs.declared.states.CloseState.{CloseState}
use Rattle.client_file_tables.specs.declared.states.CloseState.TheVariants as closes
use Rattle.client_file_tables.specs.declared.states.DataState.{DataState}
use Rattle.client_file_tables.specs.declared.states.DataState.TheVariants as states
use Rattle.client_file_tables.specs.declared.states.MoveState.{MoveState}
use Rattle.client_file_tables.specs.declared.states.MoveState.TheVariants as moves
use Rattle.client_file_tables.specs.declared.works.DataCall.{DataCall}
use Rattle.client_file_tables.specs.Fillers as fillers
use Rattle.client_file_tables.specs.Fillers.{is_filling}
use Rattle.client_file_tables.specs.Locks as locking
use Rattle.client_file_tables.specs.Locks.{gets_lock}
use Rattle.client_file_tables.specs.Rows.{first_of, first_stream, is_pid, less_of, less_stream, same_pid, same_stream}
use Rattle.client_file_tables.specs.Says as says
use Rattle.client_file_tables.specs.Steps as steps
use Rattle.client_file_tables.specs.Streams as streams
use Rattle.client_file_tables.specs.Streams.{stream_at}
use Rattle.client_files.specs.Turns as turning
use Rattle.client_streams.specs.Closing as closing
use Rattle.client_streams.specs.Descriptors as descriptors
use Rattle.client_streams.specs.Moving as moving
use Rattle.client_facts.specs.FileFacts.{OneOperationEach, close_holds, data_holds, data_wants, held_lock, move_holds, move_wants}
use Rattle.client_facts.proofs.CostLaws.{none_left}
use Rattle.file_walks.proofs.CloseWalks as close_walks
use Rattle.file_walks.proofs.DataWalks as data_walks
use Rattle.file_walks.proofs.DataWalks.{RunsData, RunsSync}
use Rattle.file_facts.proofs.Books.{is_woken}
use Rattle.file_facts.proofs.BookLaws.{woken_by}
use Rattle.lock_facts.proofs.Boards as locked_by
use Rattle.lock_facts.proofs.Desks as queued
use Rattle.lock_facts.proofs.Desks.{close_wants_in, named_by, stands_by, wanted_in}
use Rattle.lock_facts.proofs.HolderLaws.{same_closed, same_placed}
use Rattle.lock_facts.proofs.OwnerLaws.{others_closed}
use Rattle.lock_facts.proofs.RankRuns as rank_runs
use Rattle.lock_facts.proofs.TableFacts.{Lawful, closed_so, leads_open, locked_so, unlocked_so}
use Rattle.holder_facts.proofs.Lines as lines
use Rattle.holder_facts.proofs.LineRuns as line_runs
use Rattle.holder_facts.proofs.LineRuns.{Lines}
use Rattle.lock_holders.specs.HolderFacts.{IsOwn, Leads, LeadsToFile, closes_or_moves, is_file, is_file_object, waits_at}
use Rattle.lock_holders.proofs.FileStreams.{files_closed, files_placed}
use Rattle.lock_holders.proofs.Soles as soles
use Rattle.lock_holders.proofs.Soles.{But, Has, Sole, Woken}

abbrev pub Soles : Type 0 → ClientFiles → Type 0
Soles F s = Sole F s.pending s.streams.owners s.streams.entries s.lock_waits s.ready

abbrev pub Buts : Type 0 → ℕ → Option StreamNo → ClientFiles → Type 0
Buts F pid lock s = But F pid lock s.pending s.streams.owners s.streams.entries s.lock_waits s.ready

module _ (F : Type 0) where
  -- Locks

  pub unlocks : (s : ClientFiles) (pid : ℕ) (stream : StreamNo) → Lines s → Buts F pid (Some stream) s → Buts F pid None (locking.unlocks stream s)
  unlocks s pid stream line p = handed (first_stream stream s.lock_waits) refl
    where
      handed : (o : Option ℕ) → first_stream stream s.lock_waits ≡ o → Buts F pid None (locking.hands_first o stream (record (locking.frees stream s) { lock_waits = less_stream stream s.lock_waits }))
      handed (Some first) e = soles.hands_over F pid stream first s.pending s.streams.owners s.streams.entries s.lock_waits s.ready e line p
      handed None e = soles.frees F pid stream s.pending s.streams.owners s.streams.entries s.lock_waits s.ready p

  locks_got : (s : ClientFiles) (pid : ℕ) (lock : Option StreamNo) (stream : StreamNo) → gets_lock pid stream s ≡ true → ((other : StreamNo) → lock ≡ Some other → stream ≡ other) → Buts F pid lock s → Buts F pid (Some stream) (locking.locks pid stream s)
  locks_got s pid lock stream e mine p =
      let taken : ClientFiles = locking.takes_lock pid stream s in
      subst (λ (b : Bool). Buts F pid (Some stream) (cond b taken (locking.waits_for_lock pid stream taken))) (sym e) (soles.locks F pid lock stream s.pending s.streams.owners s.streams.entries s.lock_waits s.ready mine p)

  -- an operation that waits for a lock is kept
  joins : (s : ClientFiles) (pid : ℕ) (stream : StreamNo) (operation : Pending) → gets_lock pid stream s ≡ false → (closes_or_moves operation ≡ true → LeadsToFile s.streams.owners s.streams.entries stream pid) → ((other : StreamNo) → stands_by pid other s.lock_waits ≡ true → stream ≡ other) → (F → IsOwn s.streams.owners (pid, operation))
      → Buts F pid None s → Soles F (steps.keeps pid operation (locking.locks pid stream s))
  joins s pid stream operation e there own fits p = by_test (gets_lock pid stream s) e
    where
      taken : ClientFiles
      taken = locking.takes_lock pid stream s

      more : List (StreamNo × ℕ)
      more = s.lock_waits ++ (stream, pid) ∷ []

      entries_by : (waits : List (StreamNo × ℕ)) → Sole F (s.pending ++ (pid, operation) ∷ []) s.streams.owners s.streams.entries waits s.ready → Sole F (s.pending ++ (pid, operation) ∷ []) s.streams.owners taken.streams.entries waits s.ready
      entries_by waits so = subst (λ (entries : List Entry). Sole F (s.pending ++ (pid, operation) ∷ []) s.streams.owners entries waits s.ready) (sym (soles.locked_same F s.streams.entries stream pid e)) so

      stands : (other : StreamNo) → stream ≡ other → closes_or_moves operation ≡ true → LeadsToFile s.streams.owners s.streams.entries other pid
      stands other same moves = subst (λ (m : StreamNo). LeadsToFile s.streams.owners s.streams.entries m pid) same (there moves)

      stands_in : (other : StreamNo) → (stands_by pid other s.lock_waits ≡ true) ⊎ ((pid ≡ pid) × (other ≡ stream)) → closes_or_moves operation ≡ true → LeadsToFile s.streams.owners s.streams.entries other pid
      stands_in other (inl before) = stands other (own other before)
      stands_in other (inr last) = stands other (sym last.1)

      fewer_by : (other : StreamNo) (another : ℕ) → (another == pid) ≡ false → (stands_by another other s.lock_waits ≡ true) ⊎ ((pid ≡ another) × (other ≡ stream)) → stands_by another other s.lock_waits ≡ true
      fewer_by other another apart (inl before) = before
      fewer_by other another apart (inr last) = absurd (let yes = eq-eqb another pid (sym last.0) in let both = sym yes ∙ apart in cc)

      waits_if : (b : Bool) → Soles F (steps.keeps pid operation (cond b taken (record taken { lock_waits = more })))
      waits_if true =
          entries_by s.lock_waits
          (soles.kept F pid None s.pending s.streams.owners s.streams.entries s.lock_waits s.lock_waits s.ready operation (λ other never. absurd (cc)) (λ other before. stands other (own other before)) (λ other another apart before. before) fits p)
      waits_if false =
          entries_by more
          (soles.kept F pid None s.pending s.streams.owners s.streams.entries s.lock_waits more s.ready operation (λ other never. absurd (cc)) (λ other after. stands_in other (line_runs.stands_more s.lock_waits stream other pid pid after))
          (λ other another apart after. fewer_by other another apart (line_runs.stands_more s.lock_waits stream other another pid after)) fits p)

      by_test : (b : Bool) → b ≡ false → Soles F (steps.keeps pid operation (cond b taken (locking.waits_for_lock pid stream taken)))
      by_test true f = absurd (cc)
      by_test false f = waits_if (list_any (is_row same_stream same_pid stream pid) s.lock_waits)

  -- another has the lock that it asks for, so that it has none
  unheld : (s : ClientFiles) (pid : ℕ) (stream : StreamNo) (lock : Option StreamNo) → gets_lock pid stream s ≡ false → ((other : StreamNo) → lock ≡ Some other → stream ≡ other) → Buts F pid lock s → Buts F pid None s
  unheld s pid stream lock e mine p = soles.unheld F pid lock s.pending s.streams.owners s.streams.entries s.lock_waits s.ready (λ other holds. soles.kept_out F s.streams.entries stream other pid e (mine other (p.own other holds)) holds) p

  -- one that stands in no queue, or neither closes nor moves a stream, is kept
  keeps : (s : ClientFiles) (pid : ℕ) (operation : Pending) (lock : Option StreamNo) → ((stream : StreamNo) → lock ≡ Some stream → held_lock operation ≡ Some stream) → ((stream : StreamNo) → stands_by pid stream s.lock_waits ≡ true → closes_or_moves operation ≡ true → true ≡ false) → (F → IsOwn s.streams.owners (pid, operation))
      → Buts F pid lock s → Soles F (steps.keeps pid operation s)
  keeps s pid operation lock holds stands fits p =
      soles.kept F pid lock s.pending s.streams.owners s.streams.entries s.lock_waits s.lock_waits s.ready operation holds (λ stream there moves. absurd (let no = stands stream there moves in cc)) (λ stream other apart there. there) fits p

  -- Turns

  wakes_first : (waiting : List ℕ) (s : ClientFiles) (pid : ℕ) (lock : Option StreamNo) → Buts F pid lock s → Buts F pid lock (fillers.wakes_first waiting s)
  wakes_first [] s pid lock p = p
  wakes_first (first ∷ rest) s pid lock p = soles.but_woken F pid lock s.pending s.streams.owners s.streams.entries s.lock_waits s.ready (first ∷ []) p

  left_buts : (s : ClientFiles) (pid : ℕ) (lock : Option StreamNo) → Buts F pid lock s → Buts F pid lock (fillers.leaves_filling pid s)
  left_buts s pid lock p = by_test (is_filling pid s)
    where
      by_test : (b : Bool) → Buts F pid lock (cond b (fillers.wakes_filler (fillers.drops_filler pid s)) (fillers.drops_filler pid s))
      by_test true = wakes_first (fillers.drops_filler pid s).fillers (fillers.drops_filler pid s) pid lock p
      by_test false = p

  -- Operations on files' data

  abbrev pub Looks : ℕ → DataCall → ClientFiles → Type 0
  Looks pid call s = (line_runs.Looks pid call s) × (Buts F pid (Some call.stream) s)

  abbrev pub Locks : ℕ → DataCall → ClientFiles → Type 0
  Locks pid call s = (line_runs.Locks pid call s) × (Buts F pid (Some call.stream) s)

  abbrev pub Fills : ℕ → DataCall → ClientFiles → Type 0
  Fills pid call s = (line_runs.Fills pid call s) × (Buts F pid (Some call.stream) s)

  buts_if : (pid : ℕ) (lock : Option StreamNo) (b : Bool) (s t : ClientFiles) → Buts F pid lock s → Buts F pid lock t → Buts F pid lock (cond b s t)
  buts_if pid lock true s t p q = p
  buts_if pid lock false s t p q = q

  pub moves_place : (s : ClientFiles) (pid : ℕ) (lock : Option StreamNo) (number : StreamNo) (place : Place) → Buts F pid lock s → Buts F pid lock (streams.moves_place number place s)
  moves_place s pid lock number place p =
      buts_if pid lock (may_be_at place (stream_at number s)) (record s { streams = record s.streams { entries = placed s.streams.entries number place } }) s
      (soles.but_still F pid lock s.pending s.streams.owners s.streams.owners s.streams.entries (placed s.streams.entries number place) s.lock_waits s.ready (λ other apart fd stream leads. leads) (same_placed s.streams.entries number place) (λ other fd stream apart leads file. files_placed s.streams.entries number place stream file) p) p

  keeps_data : (s : ClientFiles) (pid : ℕ) (call : DataCall) → held_lock (operations.Data call) ≡ Some call.stream → Buts F pid (Some call.stream) s → Soles F (steps.keeps pid (operations.Data call) s)
  keeps_data s pid call holds p = keeps s pid (operations.Data call) (Some call.stream) (λ stream e. holds ∙ e) (λ stream there never. absurd (cc)) (λ f. tt) p

  ends_data : (s : ClientFiles) (pid : ℕ) (stream : StreamNo) → Lines s → Buts F pid (Some stream) s → Soles F (locking.unlocks stream s)
  ends_data s pid stream line p =
      let freed : ClientFiles = locking.unlocks stream s in
      soles.idle F pid freed.pending freed.streams.owners freed.streams.entries freed.lock_waits freed.ready (unlocks s pid stream line p)

  pub data_runs : (pid : ℕ) (call : DataCall) → RunsData pid call (Looks pid call) (Locks pid call) (Locks pid call) (Fills pid call) (Soles F)
  data_runs pid call = record {
    quiet = record { caches = λ s cache p. p; delays = λ s rows p. p; tells = λ s event p. p; answers = λ s tx body p. p; learns = λ s domains p. p; cwds = λ s rows p. p; counts = λ s p. p };
    held = record { caches = λ s cache p. p; delays = λ s rows p. p; tells = λ s event p. p; answers = λ s tx body p. p; learns = λ s domains p. p; cwds = λ s rows p. p; counts = λ s p. p };
    first = record { caches = λ s cache p. p; delays = λ s rows p. p; tells = λ s event p. p; answers = λ s tx body p. p; learns = λ s domains p. p; cwds = λ s rows p. p; counts = λ s p. p };
    locks = λ s e p. ((line_runs.data_runs pid call).locks s e p.0, locks_got s pid (Some call.stream) call.stream e (λ other same. some_is call.stream other same) p.1);
    waits_lock = λ s e p. joins s pid call.stream (operations.Data (record call { state = states.WaitLock })) e (λ never. absurd (cc)) p.0.1.1 (λ f. tt) (unheld s pid call.stream (Some call.stream) e (λ other same. some_is call.stream other same) p.1);
    not_open = λ s e p. absurd (let never = leads_open s.streams pid call.fd call.stream p.0.0.1.0.off.sound.lawful p.0.0.1.0.leads e in cc);
    places = λ s place p. ((line_runs.data_runs pid call).places s place p.0, moves_place s pid (Some call.stream) call.stream place p.1);
    begins_filling = λ s on p. ((line_runs.data_runs pid call).begins_filling s on p.0, buts_if pid (Some call.stream) (list_any (is_pid pid) s.fillers) s (record s { fillers = s.fillers ++ pid ∷ [] }) p.1 p.1);
    comes_first = λ s e p. ((line_runs.data_runs pid call).comes_first s e p.0, p.1);
    waits_turn = λ s e p. keeps_data s pid (record call { state = states.Turn }) refl p.1;
    filled = λ s p. ((line_runs.data_runs pid call).filled s p.0, p.1);
    fetches = λ s block p. keeps_data s pid (record call { state = states.Fetching s.out.next block }) refl p.1;
    waits_back = λ s file block tx e p. keeps_data s pid (record call { state = states.Room tx }) refl p.1;
    sends_back = λ s file block number p. keeps_data s pid (record call { state = states.Room s.out.next }) refl p.1;
    none_dirty = λ s e p. keeps_data s pid (record call { state = states.Turn }) refl p.1;
    asks = λ s offset append p.
        let left : ClientFiles = fillers.leaves_filling pid s in
        keeps_data left pid (record call { state = states.AtServer left.out.next }) refl (left_buts s pid (Some call.stream) p.1);
    ends = λ s reply p.
        let given : ClientFiles = says.replies pid reply s in
        ends_data (fillers.leaves_filling pid given) pid call.stream (line_runs.left_lines given pid p.0.0.1.1 p.0.1) (left_buts given pid (Some call.stream) p.1);
  }

  -- Syncs

  pub sync_runs : (pid : ℕ) → RunsSync pid (Buts F pid None) (Soles F)
  sync_runs pid = record {
    quiet = record { caches = λ s cache p. p; delays = λ s rows p. p; tells = λ s event p. p; answers = λ s tx body p. p; learns = λ s domains p. p; cwds = λ s rows p. p; counts = λ s p. p };
    stays = λ s call p. keeps s pid _ None (λ stream never. absurd (cc)) (λ stream there never. absurd (cc)) (λ f. tt) p;
    waits_other = λ s call block tx e p. keeps s pid _ None (λ stream never. absurd (cc)) (λ stream there never. absurd (cc)) (λ f. tt) p;
    sends_own = λ s call block number p. soles.kept F pid None s.pending s.streams.owners s.streams.entries s.lock_waits s.lock_waits s.ready _ (λ stream never. absurd (cc)) (λ stream there never. absurd (cc)) (λ stream other apart there. there) (λ f. tt) p;
    ends = λ s reply p. soles.idle F pid s.pending s.streams.owners s.streams.entries s.lock_waits s.ready p;
  }

  -- Closes: one that was taken out has no lock, that of the stream of its descriptor, or maybe that of the first one, which is then a file's

  abbrev pub Tabled : ℕ → Option StreamNo → ClientFiles → Type 0
  Tabled pid lock s = (Buts F pid lock s) × (Lawful s.streams)

  abbrev pub Free : ℕ → ClientFiles → Type 0
  Free pid s = (line_runs.Closes pid s) × (Tabled pid None s)

  abbrev pub Held : ℕ → StreamNo → ClientFiles → Type 0
  Held pid number s = (line_runs.ClosesLocked pid number s) × (Tabled pid (Some number) s)

  unlocked_table : (s : ClientFiles) (number : StreamNo) → Lawful s.streams → Lawful (locking.unlocks number s).streams
  unlocked_table s number is = handed (first_stream number s.lock_waits)
    where
      handed : (o : Option ℕ) → Lawful (locking.hands_first o number (record (locking.frees number s) { lock_waits = less_stream number s.lock_waits })).streams
      handed (Some first) = locked_so s.streams.owners (unlocked s.streams.entries number) number first (unlocked_so s.streams.owners s.streams.entries number is)
      handed None = unlocked_so s.streams.owners s.streams.entries number is

  locked_table : (s : ClientFiles) (pid : ℕ) (number : StreamNo) → gets_lock pid number s ≡ true → Lawful s.streams → Lawful (locking.locks pid number s).streams
  locked_table s pid number e is =
      let taken : ClientFiles = locking.takes_lock pid number s in
      subst (λ (b : Bool). Lawful (cond b taken (locking.waits_for_lock pid number taken)).streams) (sym e) (locked_so s.streams.owners s.streams.entries number pid is)

  dropped : (s : ClientFiles) (pid fd : ℕ) (lock : Option StreamNo) → Tabled pid lock s → Tabled pid lock (descriptors.drops pid fd s)
  dropped s pid fd lock p =
      let after : ClientFiles = descriptors.drops pid fd s in (
        soles.but_still F pid lock s.pending s.streams.owners after.streams.owners s.streams.entries after.streams.entries s.lock_waits s.ready (λ other apart slot stream leads. others_closed s.streams pid fd other slot stream apart leads) (same_closed s.streams pid fd)
            (λ other slot stream apart leads file. files_closed s.streams pid fd other slot stream p.1 apart leads file) p.0,
        closed_so s.streams pid fd p.1,
      )

  pub freed : (s : ClientFiles) (pid : ℕ) (number : StreamNo) (cause : ClosingOf) → Held pid number s → Free pid (locking.unlocks number s)
  freed s pid number cause p = ((line_runs.close_runs pid cause).frees s number p.0, (unlocks s pid number p.0.1.0 p.1.0, unlocked_table s number p.1.1))

  -- it stands in no queue
  none_stands : (s : ClientFiles) (pid : ℕ) → list_any (is_under same_pid pid) s.pending ≡ false → Lines s → (stream : StreamNo) → stands_by pid stream s.lock_waits ≡ true → true ≡ false
  none_stands s pid none line stream there = lines.none_stands s.pending s.streams.owners s.lock_waits s.ready pid none line stream there

  module _ (pid : ℕ) (cause : ClosingOf) where
    entered : (P : ClientFiles → Type 0) → ((s : ClientFiles) (event : Event) → P s → P (says.notes event s)) → (of : ClosingOf) (s : ClientFiles) → P s → P (closing.enters_closed pid of s)
    entered P tells (closings.Call number fd) s p = tells s _ p
    entered P tells (closings.End about) s p = p

    ended : (of : ClosingOf) (s : ClientFiles) → Free pid s → Soles F (closing.ends_closing pid of s)
    ended (closings.Call number fd) s p = soles.idle F pid s.pending s.streams.owners s.streams.entries s.lock_waits s.ready p.1.0
    ended (closings.End about) s p = soles.idle F pid s.pending s.streams.owners s.streams.entries s.lock_waits s.ready p.1.0

    closes_rest : (fds : List ℕ) (s : ClientFiles) → Free pid s → Soles F (closing.closes_rest fds pid cause s)
    closes_rest [] s p = ended cause s p
    closes_rest (fd ∷ fds) s p =
        let operation : Pending = operations.Close (closing.closing cause (fd ∷ fds)) in
        soles.sole_woken F (s.pending ++ (pid, operation) ∷ []) s.streams.owners s.streams.entries s.lock_waits s.ready (pid ∷ [])
        (keeps s pid operation None (λ stream never. absurd (cc)) (λ stream there moves. none_stands s pid p.1.0.none p.0.1.0 stream there) (λ f. tt) p.1.0)

    -- the next descriptor, behind one that was closed
    pub closes_on : (work : CloseWork) (s : ClientFiles) → work.of ≡ cause → Free pid s → Soles F (closing.closes_on pid work s)
    closes_on work s e p = subst (λ (of : ClosingOf). Soles F (closing.closes_rest work.fds pid of s)) (sym e) (closes_rest work.fds s p)

    closes_last : (o : Option (StreamNo × Stream)) (work : CloseWork) (number : StreamNo) (file : FileId) (s : ClientFiles) → work.of ≡ cause → Held pid number s → Soles F (closing.closes_last pid work number file o s)
    closes_last (Some last) work number file s e p =
        keeps s pid (operations.Close (record work { state = closes.Closing s.out.next number })) (Some number) (λ stream same. same) (λ stream there moves. none_stands s pid p.1.0.none p.0.1.0 stream there) (λ f. tt) p.1.0
    closes_last None work number file s e p = closes_on work (locking.unlocks number s) e (freed s pid number cause p)

    -- its first descriptor's lock may have been handed to it
    abbrev May : List ℕ → ClientFiles → Type 0
    May fds s = (line_runs.Closes pid s) × ((Tabled pid (named_by s.streams.owners pid (slice_get fds 0)) s) × ((stream : StreamNo) → holder_of s.streams.entries stream ≡ Some pid → is_file (stream_of s.streams.entries stream) ≡ true))

    idle_of : (s : ClientFiles) (fds : List ℕ) (o : Option StreamNo) → named_by s.streams.owners pid (slice_get fds 0) ≡ o → ((stream : StreamNo) → o ≡ Some stream → is_file (stream_of s.streams.entries stream) ≡ false) → May fds s → Free pid s
    idle_of s fds o e never p = (
      p.0,
      (
        soles.unheld F pid (named_by s.streams.owners pid (slice_get fds 0)) s.pending s.streams.owners s.streams.entries s.lock_waits s.ready (λ stream holds. sym (p.1.1 stream holds) ∙ never stream (sym e ∙ p.1.0.0.own stream holds)) p.1.0.0,
        p.1.0.1,
      ),
    )

    closes_file : (b : Bool) (fds : List ℕ) (fd : ℕ) (number : StreamNo) (file : FileId) (s : ClientFiles) → slice_get fds 0 ≡ Some fd → descriptor s.streams.owners pid fd ≡ Some number → is_file (stream_at number s) ≡ true → gets_lock pid number s ≡ b → May fds s
        → Soles F (cond b (closing.closes_locked pid (closing.closing cause fds) fd number file (locking.locks pid number s)) (steps.keeps pid (operations.Close (closing.closing cause fds)) (locking.locks pid number s)))
    closes_file true fds fd number file s f d there e p =
        let locked_one : ClientFiles = locking.locks pid number s in
        let after : ClientFiles = descriptors.drops pid fd locked_one in
        let got : Held pid number locked_one = ((line_runs.close_runs pid cause).locks s number e p.0, (locks_got s pid (named_by s.streams.owners pid (slice_get fds 0)) number e (λ other same. some_is number other (sym (ap (named_by s.streams.owners pid) f ∙ d) ∙ same)) p.1.0.0, locked_table s pid number e p.1.0.1)) in
        closes_last (closed_stream locked_one.streams pid fd) (closing.without_first (closing.closing cause fds)) number file (closing.enters_closed pid cause after) refl
        (entered (Held pid number) (λ t event q. q) cause after ((line_runs.close_runs pid cause).drops_held locked_one fd number got.0, dropped locked_one pid fd (Some number) got.1))
    closes_file false fds fd number file s f d there e p =
        joins s pid number (operations.Close (closing.closing cause fds)) e (λ moves. record { there = record { fd = fd; leads = d }; file = there }) (λ other stands. absurd (let no = none_stands s pid p.1.0.0.none p.0.1.0 other stands in cc)) (λ f. tt)
        (unheld s pid number (named_by s.streams.owners pid (slice_get fds 0)) e (λ other same. some_is number other (sym (ap (named_by s.streams.owners pid) f ∙ d) ∙ same)) p.1.0.0)

    reported : (b : Bool) (device : DeviceId) (s : ClientFiles) → Free pid s → Free pid (closing.reports_last b device s)
    reported true device s p = p
    reported false device s p = p

    free_drops : (s : ClientFiles) (fd : ℕ) → Free pid s → Free pid (closing.enters_closed pid cause (descriptors.drops pid fd s))
    free_drops s fd p = entered (Free pid) (λ t event q. q) cause (descriptors.drops pid fd s) ((line_runs.close_runs pid cause).drops s fd p.0, dropped s pid fd None p.1)

    other_file : (s : ClientFiles) (number : StreamNo) → is_file (stream_at number s) ≡ false → (stream : StreamNo) → Some number ≡ Some stream → is_file (stream_of s.streams.entries stream) ≡ false
    other_file s number other stream same = ap (λ (m : StreamNo). is_file (stream_of s.streams.entries m)) (sym (some_is number stream same)) ∙ other

    closes_object : (object : Object) (stream : Stream) (fds : List ℕ) (fd : ℕ) (number : StreamNo) (s : ClientFiles) → stream.object ≡ object → stream_at number s ≡ Some stream → slice_get fds 0 ≡ Some fd → descriptor s.streams.owners pid fd ≡ Some number → May fds s
        → Soles F (closing.closes_object pid (closing.closing cause fds) fd number object s)
    closes_object (objects.File file) stream fds fd number s o at f d p = closes_file (gets_lock pid number s) fds fd number file s f d (ap is_file at ∙ ap is_file_object o) refl p
    closes_object (objects.Device device) stream fds fd number s o at f d p =
        let free : Free pid s = idle_of s fds (Some number) (ap (named_by s.streams.owners pid) f ∙ d) (other_file s number (ap is_file at ∙ ap is_file_object o)) p in
        closes_on (closing.without_first (closing.closing cause fds)) (closing.enters_closed pid cause (descriptors.drops pid fd s)) refl (free_drops s fd free)
    closes_object (objects.Master device) stream fds fd number s o at f d p =
        let free : Free pid s = idle_of s fds (Some number) (ap (named_by s.streams.owners pid) f ∙ d) (other_file s number (ap is_file at ∙ ap is_file_object o)) p in
        let after : ClientFiles = closing.enters_closed pid cause (descriptors.drops pid fd s) in
        closes_on (closing.without_first (closing.closing cause fds)) (closing.reports_last (is_last s.streams pid fd) device after) refl (reported (is_last s.streams pid fd) device after (free_drops s fd free))

    closes_stream : (o : Option Stream) (fds : List ℕ) (fd : ℕ) (number : StreamNo) (s : ClientFiles) → stream_at number s ≡ o → slice_get fds 0 ≡ Some fd → descriptor s.streams.owners pid fd ≡ Some number → May fds s → Soles F (closing.closes_stream_by pid (closing.closing cause fds) fd number o s)
    closes_stream (Some stream) fds fd number s at f d p = closes_object stream.object stream fds fd number s refl at f d p
    closes_stream None fds fd number s at f d p =
        closes_on (closing.without_first (closing.closing cause fds)) s refl (idle_of s fds (Some number) (ap (named_by s.streams.owners pid) f ∙ d) (other_file s number (ap is_file at)) p)

    closes_first : (o : Option StreamNo) (fds : List ℕ) (fd : ℕ) (s : ClientFiles) → slice_get fds 0 ≡ Some fd → descriptor s.streams.owners pid fd ≡ o → May fds s → Soles F (closing.closes_first_by pid (closing.closing cause fds) fd o s)
    closes_first (Some number) fds fd s f d p = closes_stream (stream_at number s) fds fd number s refl f d p
    closes_first None fds fd s f d p = closes_on (closing.without_first (closing.closing cause fds)) s refl (idle_of s fds None (ap (named_by s.streams.owners pid) f ∙ d) (λ stream never. absurd (cc)) p)

    closes_next : (o : Option ℕ) (fds : List ℕ) (s : ClientFiles) → slice_get fds 0 ≡ o → May fds s → Soles F (closing.closes_next_by pid (closing.closing cause fds) o s)
    closes_next (Some fd) fds s f p = closes_first (descriptor s.streams.owners pid fd) fds fd s f refl p
    closes_next None fds s f p = ended cause s (idle_of s fds None (ap (named_by s.streams.owners pid) f) (λ stream never. absurd (cc)) p)

    pub runs_close : (fds : List ℕ) (s : ClientFiles) → May fds s → Soles F (closing.closes_next pid (closing.closing cause fds) s)
    runs_close fds s p = closes_next (slice_get fds 0) fds s refl p

  -- Moves: one that was taken out has no lock, or its stream's, which is then a file's

  module _ (pid : ℕ) (work : MoveWork) (w : work.state ≡ moves.WaitLock) where
    abbrev Moves : ClientFiles → Type 0
    Moves s = (line_runs.Closes pid s) × ((Tabled pid (Some work.stream) s) × ((stream : StreamNo) → holder_of s.streams.entries stream ≡ Some pid → is_file (stream_of s.streams.entries stream) ≡ true))

    own_of : (s : ClientFiles) → Leads s.streams.owners work.stream pid → IsOwn s.streams.owners (pid, operations.Move work)
    own_of s there = subst (λ (state : MoveState). waits_at state s.streams.owners work.stream pid) (sym w) there

    move_free : (s : ClientFiles) → is_file (stream_at work.stream s) ≡ false → Moves s → Free pid s
    move_free s other p = (
      p.0,
      (
        soles.unheld F pid (Some work.stream) s.pending s.streams.owners s.streams.entries s.lock_waits s.ready
            (λ stream holds. sym (p.1.1 stream holds) ∙ ap (λ (m : StreamNo). is_file (stream_of s.streams.entries m)) (sym (some_is work.stream stream (p.1.0.0.own stream holds))) ∙ other) p.1.0.0,
        p.1.0.1,
      ),
    )

    moved : (s : ClientFiles) (place : Place) → Free pid s → Soles F (moving.moves_device pid work.stream place s)
    moved s place p =
        let after : ClientFiles = descriptors.drops_each pid work.stream s in
        let so : Free pid after = close_walks.drops_each pid (Free pid) (λ t fd q. ((line_runs.move_runs pid work w).drops t fd q.0, dropped t pid fd None q.1)) work.stream s p in
        soles.idle F pid after.pending after.streams.owners after.streams.entries after.lock_waits after.ready so.1.0

    moves_file : (b : Bool) (stream : Stream) (file : FileId) (s : ClientFiles) → gets_lock pid work.stream s ≡ b → is_file (stream_at work.stream s) ≡ true → Leads s.streams.owners work.stream pid → Moves s
        → Soles F (cond b (moving.moves_locked pid work stream file (locking.locks pid work.stream s)) (steps.keeps pid (operations.Move work) (locking.locks pid work.stream s)))
    moves_file true stream file s e at there p =
        let locked_one : ClientFiles = locking.locks pid work.stream s in
        let after : ClientFiles = descriptors.drops_each pid work.stream locked_one in
        let got : Held pid work.stream locked_one = ((line_runs.move_runs pid work w).locks s e p.0, (locks_got s pid (Some work.stream) work.stream e (λ other same. some_is work.stream other same) p.1.0.0, locked_table s pid work.stream e p.1.0.1)) in
        let so : Held pid work.stream after = close_walks.drops_each pid (Held pid work.stream) (λ t fd q. ((line_runs.move_runs pid work w).drops_held t fd q.0, dropped t pid fd (Some work.stream) q.1)) work.stream locked_one got in
        keeps after pid (operations.Move (moving.moving_out work _ stream.place after)) (Some work.stream) (λ other same. same) (λ other stands moves. none_stands after pid so.1.0.none so.0.1.0 other stands) (λ f. tt) so.1.0
    moves_file false stream file s e at there p =
        joins s pid work.stream (operations.Move work) e (λ moves. record { there = there; file = at }) (λ other stands. absurd (let no = none_stands s pid p.1.0.0.none p.0.1.0 other stands in cc)) (λ f. own_of s there)
        (unheld s pid work.stream (Some work.stream) e (λ other same. some_is work.stream other same) p.1.0.0)

    moves_object : (object : Object) (stream : Stream) (s : ClientFiles) → stream.object ≡ object → stream_at work.stream s ≡ Some stream → Leads s.streams.owners work.stream pid → Moves s → Soles F (moving.moves_object_by object pid work stream s)
    moves_object (objects.File file) stream s o at there p = moves_file (gets_lock pid work.stream s) stream file s refl (ap is_file at ∙ ap is_file_object o) there p
    moves_object (objects.Device device) stream s o at there p = moved s stream.place (move_free s (ap is_file at ∙ ap is_file_object o) p)
    moves_object (objects.Master device) stream s o at there p = moved s stream.place (move_free s (ap is_file at ∙ ap is_file_object o) p)

    moves_on : (o : Option Stream) (s : ClientFiles) → stream_at work.stream s ≡ o → Leads s.streams.owners work.stream pid → Moves s → Soles F (moving.moves_on_by o pid work s)
    moves_on (Some stream) s at there p = moves_object stream.object stream s refl at there p
    moves_on None s at there p = absurd (let never = leads_open s.streams pid there.fd work.stream p.1.0.1 there.leads at in cc)

    pub runs_move : (s : ClientFiles) → Leads s.streams.owners work.stream pid → Moves s → Soles F (moving.moves_on pid work s)
    runs_move s there p = moves_on (stream_at work.stream s) s refl there p

-- where each queued move is known to be of its process's stream
abbrev pub Known : Type 0
Known = Unit {0}

-- One turn

how_of : (rows : List (ℕ × Pending)) (owners : List Owner) (es : List Entry) (ready : List ℕ) (stream : StreamNo) (pid : ℕ) (operation : Pending) → first_of pid rows ≡ Some operation → Has rows owners es ready stream pid → (held_lock operation ≡ Some stream) ⊎ Woken owners es ready stream pid operation
how_of rows owners es ready stream pid operation found has =
    subst (λ (other : Pending). (held_lock other ≡ Some stream) ⊎ Woken owners es ready stream pid other) (some_is has.operation operation (sym has.found ∙ found)) has.how

-- the lock that an operation on a file's data has, or wants
data_lock : (state : DataState) (stream other : StreamNo) → (data_holds state stream ≡ Some other) ⊎ (data_wants state stream ≡ Some other) → Some stream ≡ Some other
data_lock states.WaitLock stream other (inl held) = absurd (cc)
data_lock states.WaitLock stream other (inr wants) = wants
data_lock states.Turn stream other (inl held) = held
data_lock states.Turn stream other (inr wants) = absurd (cc)
data_lock (states.Room tx) stream other (inl held) = held
data_lock (states.Room tx) stream other (inr wants) = absurd (cc)
data_lock (states.Fetching tx block) stream other (inl held) = held
data_lock (states.Fetching tx block) stream other (inr wants) = absurd (cc)
data_lock (states.AtServer tx) stream other (inl held) = held
data_lock (states.AtServer tx) stream other (inr wants) = absurd (cc)

either : (owners : List Owner) (es : List Entry) (ready : List ℕ) (stream : StreamNo) (pid : ℕ) (call : DataCall) → (held_lock (operations.Data call) ≡ Some stream) ⊎ Woken owners es ready stream pid (operations.Data call) → (data_holds call.state call.stream ≡ Some stream) ⊎ (data_wants call.state call.stream ≡ Some stream)
either owners es ready stream pid call (inl held) = inl held
either owners es ready stream pid call (inr woken) = inr woken.wants

-- what was taken out of these rows has that lock at most, and maybe a file's
module _ (F : Type 0) (rows : List (ℕ × Pending)) (owners : List Owner) (es : List Entry) (ready : List ℕ) (pid : ℕ) where
  pub data_own : (call : DataCall) → first_of pid rows ≡ Some (operations.Data call) → (stream : StreamNo) → Has rows owners es ready stream pid → Some call.stream ≡ Some stream
  data_own call found stream has = data_lock call.state call.stream stream (either owners es ready stream pid call (how_of rows owners es ready stream pid (operations.Data call) found has))

  pub none_own : first_of pid rows ≡ None → (stream : StreamNo) → Has rows owners es ready stream pid → None ≡ Some stream
  none_own found stream has = absurd (let there = has.found in let both = sym found ∙ there in cc)

  idle_by : (operation : Pending) (stream : StreamNo) → held_lock operation ≡ None → wanted_in owners pid operation ≡ None → (held_lock operation ≡ Some stream) ⊎ Woken owners es ready stream pid operation → None ≡ Some stream
  idle_by operation stream free calm (inl held) = sym free ∙ held
  idle_by operation stream free calm (inr woken) = sym calm ∙ woken.wants

  pub idle_own : (operation : Pending) → first_of pid rows ≡ Some operation → held_lock operation ≡ None → wanted_in owners pid operation ≡ None → (stream : StreamNo) → Has rows owners es ready stream pid → None ≡ Some stream
  idle_own operation found free calm stream has = idle_by operation stream free calm (how_of rows owners es ready stream pid operation found has)

  wants_by : (operation : Pending) (stream : StreamNo) (lock : Option StreamNo) → held_lock operation ≡ None → wanted_in owners pid operation ≡ lock → (held_lock operation ≡ Some stream) ⊎ Woken owners es ready stream pid operation → lock ≡ Some stream
  wants_by operation stream lock free wants (inl held) = absurd (let both = sym free ∙ held in cc)
  wants_by operation stream lock free wants (inr woken) = sym wants ∙ woken.wants

  pub wants_own : (operation : Pending) (lock : Option StreamNo) → first_of pid rows ≡ Some operation → held_lock operation ≡ None → wanted_in owners pid operation ≡ lock → (stream : StreamNo) → Has rows owners es ready stream pid → lock ≡ Some stream
  wants_own operation lock found free wants stream has = wants_by operation stream lock free wants (how_of rows owners es ready stream pid operation found has)

  holds_by : (operation : Pending) (stream : StreamNo) (lock : Option StreamNo) → held_lock operation ≡ lock → wanted_in owners pid operation ≡ None → (held_lock operation ≡ Some stream) ⊎ Woken owners es ready stream pid operation → lock ≡ Some stream
  holds_by operation stream lock held calm (inl mine) = sym held ∙ mine
  holds_by operation stream lock held calm (inr woken) = absurd (let wants = woken.wants in let both = sym calm ∙ wants in cc)

  pub holds_own : (operation : Pending) (lock : Option StreamNo) → first_of pid rows ≡ Some operation → held_lock operation ≡ lock → wanted_in owners pid operation ≡ None → (stream : StreamNo) → Has rows owners es ready stream pid → lock ≡ Some stream
  holds_own operation lock found held calm stream has = holds_by operation stream lock held calm (how_of rows owners es ready stream pid operation found has)

  file_by : (operation : Pending) (stream : StreamNo) → held_lock operation ≡ None → closes_or_moves operation ≡ true → (held_lock operation ≡ Some stream) ⊎ Woken owners es ready stream pid operation → is_file (stream_of es stream) ≡ true
  file_by operation stream free moves (inl held) = absurd (let both = sym free ∙ held in cc)
  file_by operation stream free moves (inr woken) = (woken.file moves).file

  pub file_own : (operation : Pending) → first_of pid rows ≡ Some operation → held_lock operation ≡ None → closes_or_moves operation ≡ true → (stream : StreamNo) → Has rows owners es ready stream pid → is_file (stream_of es stream) ≡ true
  file_own operation found free moves stream has = file_by operation stream free moves (how_of rows owners es ready stream pid operation found has)

waits_so : (state : MoveState) (owners : List Owner) (stream : StreamNo) (pid : ℕ) → state ≡ moves.WaitLock → waits_at state owners stream pid → Leads owners stream pid
waits_so state owners stream pid e own = subst (λ (other : MoveState). waits_at other owners stream pid) e own

module _ (pid : ℕ) (pids : List ℕ) (s : ClientFiles) (e : s.ready ≡ pid ∷ pids) (t : line_runs.Turned s) (p : Soles Known s) where
  abbrev left : ClientFiles
  left = record s { ready = pids; pending = less_of pid s.pending }

  none : list_any (is_under same_pid pid) (less_of pid s.pending) ≡ false
  none = none_left pid s.pending t.ranks.locks.once

  stay : (other : ℕ) → (other == pid) ≡ false → is_woken other s.ready ≡ true → is_woken other pids ≡ true
  stay other apart woken = woken_by other pid pids apart (subst (λ (ready : List ℕ). is_woken other ready ≡ true) e woken)

  out : (lock : Option StreamNo) → ((stream : StreamNo) → Has s.pending s.streams.owners s.streams.entries s.ready stream pid → lock ≡ Some stream) → Buts Known pid lock left
  out lock mine = soles.taken_out Known s.pending s.streams.owners s.streams.entries s.lock_waits s.ready pids pid lock none stay mine p

  table : Lawful s.streams
  table = t.ranks.waits.holds.lawful

  close_ran : (state : CloseState) (work : CloseWork) → work.state ≡ state → first_of pid s.pending ≡ Some (operations.Close work) → Soles Known (closing.runs_close_by state pid work left)
  close_ran closes.WaitLock work w found =
      let free : held_lock (operations.Close work) ≡ None = ap close_holds w in
      subst (λ (state : CloseState). Soles Known (closing.closes_next pid (record work { state = state }) left)) (sym w)
      (runs_close Known pid work.of work.fds left (
        line_runs.closes_left pid pids s e t (operations.Close work) found refl,
        (
          (out (named_by s.streams.owners pid (slice_get work.fds 0)) (wants_own Known s.pending s.streams.owners s.streams.entries s.ready pid (operations.Close work) (named_by s.streams.owners pid (slice_get work.fds 0)) found free (ap (λ (state : CloseState). close_wants_in s.streams.owners pid state work.fds) w)), table),
          λ stream holds. file_own Known s.pending s.streams.owners s.streams.entries s.ready pid (operations.Close work) found free refl stream (p.has stream pid holds),
        ),
      ))
  close_ran (closes.Closing tx stream) work w found =
      keeps Known left pid (operations.Close work) (Some stream) (λ other same. ap close_holds w ∙ same) (λ other there moves. none_stands Known left pid none (line_runs.closes_left pid pids s e t (operations.Close work) found refl).1.0 other there) (λ f. tt)
      (out (Some stream) (holds_own Known s.pending s.streams.owners s.streams.entries s.ready pid (operations.Close work) (Some stream) found (ap close_holds w) (ap (λ (state : CloseState). close_wants_in s.streams.owners pid state work.fds) w)))

  move_ran : (state : MoveState) (work : MoveWork) → work.state ≡ state → first_of pid s.pending ≡ Some (operations.Move work) → Soles Known (moving.runs_move_by state pid work left)
  move_ran moves.WaitLock work w found =
      let free : held_lock (operations.Move work) ≡ None = ap (λ (state : MoveState). move_holds state work.stream) w in
      runs_move Known pid work w left (waits_so work.state s.streams.owners work.stream pid w (p.owned tt pid (operations.Move work) found)) (
        line_runs.closes_left pid pids s e t (operations.Move work) found refl,
        (
          (out (Some work.stream) (wants_own Known s.pending s.streams.owners s.streams.entries s.ready pid (operations.Move work) (Some work.stream) found free (ap (λ (state : MoveState). move_wants state work.stream) w)), table),
          λ stream holds. file_own Known s.pending s.streams.owners s.streams.entries s.ready pid (operations.Move work) found free refl stream (p.has stream pid holds),
        ),
      )
  move_ran (moves.MovingOut tx kept place) work w found =
      keeps Known left pid (operations.Move work) (Some work.stream) (λ other same. ap (λ (state : MoveState). move_holds state work.stream) w ∙ same) (λ other there moves. none_stands Known left pid none (line_runs.closes_left pid pids s e t (operations.Move work) found refl).1.0 other there)
      (λ f. p.owned tt pid (operations.Move work) found)
      (out (Some work.stream) (holds_own Known s.pending s.streams.owners s.streams.entries s.ready pid (operations.Move work) (Some work.stream) found (ap (λ (state : MoveState). move_holds state work.stream) w) (ap (λ (state : MoveState). move_wants state work.stream) w)))

  ran_at : (o : Option Pending) → first_of pid s.pending ≡ o → Soles Known (turning.runs_by o pid left)
  ran_at None found = soles.idle Known pid left.pending s.streams.owners s.streams.entries s.lock_waits pids (out None (none_own Known s.pending s.streams.owners s.streams.entries s.ready pid found))
  ran_at (Some (operations.Name call)) found =
      keeps Known left pid (operations.Name call) None (λ stream never. absurd (cc)) (λ stream there never. absurd (cc)) (λ f. tt) (out None (idle_own Known s.pending s.streams.owners s.streams.entries s.ready pid (operations.Name call) found refl refl))
  ran_at (Some (operations.Data call)) found =
      data_walks.looks pid call (Looks Known pid call) (Locks Known pid call) (Locks Known pid call) (Fills Known pid call) (Soles Known) (data_runs Known pid call) left
      (line_runs.looks_out pid pids s e t call found, out (Some call.stream) (data_own Known s.pending s.streams.owners s.streams.entries s.ready pid call found))
  ran_at (Some (operations.Sync call)) found = data_walks.syncs pid (Buts Known pid None) (Soles Known) (sync_runs Known pid) call left (out None (idle_own Known s.pending s.streams.owners s.streams.entries s.ready pid (operations.Sync call) found refl refl))
  ran_at (Some (operations.Close work)) found = close_ran work.state work refl found
  ran_at (Some (operations.Move work)) found = move_ran work.state work refl found

turned_by : (pids : List ℕ) (s : ClientFiles) → s.ready ≡ pids → line_runs.Turned s → Soles Known s → Soles Known (turning.turned_by pids s)
turned_by [] s e t p = p
turned_by (pid ∷ pids) s e t p = ran_at pid pids s e t p (first_of pid s.pending) refl

turns : (count : ℕ) (s : ClientFiles) → line_runs.Turned s → Soles Known s → Soles Known (turning.turns count s)
turns zero s t p = p
turns (suc count) s t p = let before : ClientFiles = turning.turns count s in turned_by before.ready before refl (line_runs.turns count s t) (turns count s t p)

-- who is woken goes on
pub going_on_keeps : (s : ClientFiles) → OneOperationEach s → locked_by.Holds s → queued.Holds s → rank_runs.Holds s → Lines s → Soles Known s → Soles Known (turning.goes_on s)
going_on_keeps s once b d r line p =
    turns (turning.turns_for s) s (record { ranks = record { locks = record { once = once; holds = b }; waits = record { once = once; holds = d }; ranked = r }; lined = line }) p
