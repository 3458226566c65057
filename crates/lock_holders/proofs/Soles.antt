-- Who has a lock has an operation that has it, or is woken to take it: where operations come and go, locks are taken, freed and handed over, and streams
-- come and go.
use Rattle.std.proofs.Common.{◌≡◌, ◌⊎◌, inl, inr, ℕ, ◌==◌, Bool, true, false, cond, List, [], ◌∷◌, ◌++◌, Option, Some, None, refl, sym, ap, ◌∙◌, subst}
use Rattle.std.proofs.lemmas.Bool.{eq-eqb, eqb-true}
use Rattle.std.specs.List.{list_any}
use Rattle.sprite_ids.specs.declared.StreamNo.{StreamNo}
use Rattle.sprite_ids.proofs.ListLaws.{some_is}
use Rattle.kernel_steps.specs.Rows.{is_under}
use Rattle.stream_table.specs.Entries.{Entry, has_lock, holder_of, locked, locking, stream_of, unlocked}
use Rattle.stream_table.specs.Owners.{Owner, descriptor, is_number}
use Rattle.stream_table.proofs.EntryLaws.{number_itself, one_number}
use Rattle.client_file_tables.specs.declared.pending.Pending.{Pending}
use Rattle.client_file_tables.specs.declared.pending.Pending.TheVariants as operations
use Rattle.client_file_tables.specs.declared.states.MoveState.{MoveState}
use Rattle.client_file_tables.specs.declared.states.MoveState.TheVariants as moves
use Rattle.client_file_tables.specs.Rows.{first_of, first_stream, is_pid, less_of, less_stream, same_pid}
use Rattle.client_facts.specs.FileFacts.{held_lock}
use Rattle.file_facts.proofs.Books.{is_woken}
use Rattle.file_facts.proofs.BookLaws.{any_before, any_behind, or_left}
use Rattle.lock_facts.proofs.Desks.{stands_by, wanted_in}
use Rattle.lock_facts.proofs.HolderLaws.{SameHolders, holder_put, unlocked_holder}
use Rattle.lock_facts.proofs.Ranks.{first_less, first_own}
use Rattle.holder_facts.proofs.Lines as lines
use Rattle.holder_facts.proofs.Lines.{InLine, KeepsThose, Lined}
use Rattle.lock_holders.specs.HolderFacts.{IsOwn, LeadsToFile, closes_or_moves, is_file, waits_at}
use Rattle.lock_holders.proofs.FileStreams.{KeepsFiles, same_files, same_locked, same_unlocked}

-- the process is woken to take the lock for which its operation waits: one that closes or moves a stream finds a file's
pub record Woken (owners : List Owner) (es : List Entry) (ready : List ℕ) (stream : StreamNo) (pid : ℕ) (operation : Pending) : Type 0 where
  pub wants : wanted_in owners pid operation ≡ Some stream
  pub woken : is_woken pid ready ≡ true
  pub file : closes_or_moves operation ≡ true → LeadsToFile owners es stream pid

-- its operation has the lock, or it is woken to take it
pub record Has (rows : List (ℕ × Pending)) (owners : List Owner) (es : List Entry) (ready : List ℕ) (stream : StreamNo) (pid : ℕ) : Type 0 where
  pub operation : Pending
  pub found : first_of pid rows ≡ Some operation
  pub how : (held_lock operation ≡ Some stream) ⊎ Woken owners es ready stream pid operation

abbrev pub Stood : List (ℕ × Pending) → List Owner → List Entry → List (StreamNo × ℕ) → Type 0
Stood rows owners es waits = (stream : StreamNo) (pid : ℕ) (operation : Pending) → stands_by pid stream waits ≡ true → first_of pid rows ≡ Some operation → closes_or_moves operation ≡ true → LeadsToFile owners es stream pid

-- a process's operation is one that it may have by its descriptors, where that is known
abbrev pub Owned : List (ℕ × Pending) → List Owner → Type 0
Owned rows owners = (pid : ℕ) (operation : Pending) → first_of pid rows ≡ Some operation → IsOwn owners (pid, operation)

pub record Sole (F : Type 0) (rows : List (ℕ × Pending)) (owners : List Owner) (es : List Entry) (waits : List (StreamNo × ℕ)) (ready : List ℕ) : Type 0 where
  pub has : (stream : StreamNo) (pid : ℕ) → holder_of es stream ≡ Some pid → Has rows owners es ready stream pid
  pub stood : Stood rows owners es waits
  pub owned : F → Owned rows owners

-- the same but for a process whose operation was taken out: it has that lock at most
pub record But (F : Type 0) (out : ℕ) (lock : Option StreamNo) (rows : List (ℕ × Pending)) (owners : List Owner) (es : List Entry) (waits : List (StreamNo × ℕ)) (ready : List ℕ) : Type 0 where
  pub others : (stream : StreamNo) (pid : ℕ) → (pid == out) ≡ false → holder_of es stream ≡ Some pid → Has rows owners es ready stream pid
  pub own : (stream : StreamNo) → holder_of es stream ≡ Some out → lock ≡ Some stream
  pub stood : Stood rows owners es waits
  pub owned : F → Owned rows owners
  pub none : list_any (is_under same_pid out) rows ≡ false

-- Where streams stay

own_move : (state : MoveState) (owners more : List Owner) (stream : StreamNo) (pid : ℕ) → KeepsThose pid owners more → waits_at state owners stream pid → waits_at state more stream pid
own_move moves.WaitLock owners more stream pid keeps own = record { fd = own.fd; leads = keeps own.fd stream own.leads }
own_move (moves.MovingOut tx kept place) owners more stream pid keeps own = tt

own_still : (operation : Pending) (owners more : List Owner) (pid : ℕ) → KeepsThose pid owners more → IsOwn owners (pid, operation) → IsOwn more (pid, operation)
own_still (operations.Name call) owners more pid keeps own = tt
own_still (operations.Data call) owners more pid keeps own = tt
own_still (operations.Sync call) owners more pid keeps own = tt
own_still (operations.Close work) owners more pid keeps own = tt
own_still (operations.Move work) owners more pid keeps own = own_move work.state owners more work.stream pid keeps own

module _ (F : Type 0) where
  leads_still : (owners more : List Owner) (es others : List Entry) (stream : StreamNo) (pid : ℕ) → KeepsThose pid owners more → ((fd : ℕ) → descriptor owners pid fd ≡ Some stream → is_file (stream_of es stream) ≡ true → is_file (stream_of others stream) ≡ true) → LeadsToFile owners es stream pid → LeadsToFile more others stream pid
  leads_still owners more es others stream pid keeps files there = record { there = record { fd = there.there.fd; leads = keeps there.there.fd stream there.there.leads }; file = files there.there.fd there.there.leads there.file }

  how_still : (owners more : List Owner) (es others : List Entry) (ready : List ℕ) (stream : StreamNo) (pid : ℕ) (operation : Pending) → KeepsThose pid owners more → ((fd : ℕ) → descriptor owners pid fd ≡ Some stream → is_file (stream_of es stream) ≡ true → is_file (stream_of others stream) ≡ true)
      → (held_lock operation ≡ Some stream) ⊎ Woken owners es ready stream pid operation → (held_lock operation ≡ Some stream) ⊎ Woken more others ready stream pid operation
  how_still owners more es others ready stream pid operation keeps files (inl held) = inl held
  how_still owners more es others ready stream pid operation keeps files (inr woken) =
      inr (record { wants = lines.wants_still owners more pid operation stream keeps woken.wants; woken = woken.woken; file = λ moves. leads_still owners more es others stream pid keeps files (woken.file moves) })

  has_still : (rows : List (ℕ × Pending)) (owners more : List Owner) (es others : List Entry) (ready : List ℕ) (stream : StreamNo) (pid : ℕ) → KeepsThose pid owners more → ((fd : ℕ) → descriptor owners pid fd ≡ Some stream → is_file (stream_of es stream) ≡ true → is_file (stream_of others stream) ≡ true)
      → Has rows owners es ready stream pid → Has rows more others ready stream pid
  has_still rows owners more es others ready stream pid keeps files has = record { operation = has.operation; found = has.found; how = how_still owners more es others ready stream pid has.operation keeps files has.how }

  -- all descriptors lead where they did, locks have their holders, and files' streams are files' still
  pub sole_still : (rows : List (ℕ × Pending)) (owners more : List Owner) (es others : List Entry) (waits : List (StreamNo × ℕ)) (ready : List ℕ) → ((pid : ℕ) → KeepsThose pid owners more) → SameHolders es others → KeepsFiles es others → Sole F rows owners es waits ready → Sole F rows more others waits ready
  sole_still rows owners more es others waits ready keeps same files p = record {
    has = λ stream pid e. has_still rows owners more es others ready stream pid (keeps pid) (λ fd leads. files stream) (p.has stream pid (sym (same stream) ∙ e));
    stood = λ stream pid operation stands found moves. leads_still owners more es others stream pid (keeps pid) (λ fd leads. files stream) (p.stood stream pid operation stands found moves);
    owned = λ f pid operation found. own_still operation owners more pid (keeps pid) (p.owned f pid operation found);
  }

  not_out : (pid out : ℕ) (rows : List (ℕ × Pending)) (operation : Pending) (b : Bool) → (pid == out) ≡ b → list_any (is_under same_pid out) rows ≡ false → first_of pid rows ≡ Some operation → b ≡ false
  not_out pid out rows operation true e none found = absurd (let mine = ap (λ (n : ℕ). first_of n rows) (eqb-true pid out e) in let nothing = lines.first_none out rows none in let both = sym found ∙ mine ∙ nothing in cc)
  not_out pid out rows operation false e none found = refl

  -- where the process's own descriptors may go
  pub but_still : (out : ℕ) (lock : Option StreamNo) (rows : List (ℕ × Pending)) (owners more : List Owner) (es others : List Entry) (waits : List (StreamNo × ℕ)) (ready : List ℕ) → ((pid : ℕ) → (pid == out) ≡ false → KeepsThose pid owners more) → SameHolders es others
      → ((pid fd : ℕ) (stream : StreamNo) → (pid == out) ≡ false → descriptor owners pid fd ≡ Some stream → is_file (stream_of es stream) ≡ true → is_file (stream_of others stream) ≡ true) → But F out lock rows owners es waits ready → But F out lock rows more others waits ready
  but_still out lock rows owners more es others waits ready keeps same files p = record {
    others = λ stream pid apart e. has_still rows owners more es others ready stream pid (keeps pid apart) (λ fd leads. files pid fd stream apart leads) (p.others stream pid apart (sym (same stream) ∙ e));
    own = λ stream e. p.own stream (sym (same stream) ∙ e);
    stood = λ stream pid operation stands found moves.
        let apart : (pid == out) ≡ false = not_out pid out rows operation (pid == out) refl p.none found in
        leads_still owners more es others stream pid (keeps pid apart) (λ fd leads. files pid fd stream apart leads) (p.stood stream pid operation stands found moves);
    owned = λ f pid operation found. own_still operation owners more pid (keeps pid (not_out pid out rows operation (pid == out) refl p.none found)) (p.owned f pid operation found);
    none = p.none;
  }

  -- Who is woken

  how_woken : (owners : List Owner) (es : List Entry) (ready more : List ℕ) (stream : StreamNo) (pid : ℕ) (operation : Pending) → (is_woken pid ready ≡ true → is_woken pid more ≡ true) → (held_lock operation ≡ Some stream) ⊎ Woken owners es ready stream pid operation → (held_lock operation ≡ Some stream) ⊎ Woken owners es more stream pid operation
  how_woken owners es ready more stream pid operation stay (inl held) = inl held
  how_woken owners es ready more stream pid operation stay (inr woken) = inr (record { wants = woken.wants; woken = stay woken.woken; file = woken.file })

  has_woken : (rows : List (ℕ × Pending)) (owners : List Owner) (es : List Entry) (ready more : List ℕ) (stream : StreamNo) (pid : ℕ) → (is_woken pid ready ≡ true → is_woken pid more ≡ true) → Has rows owners es ready stream pid → Has rows owners es more stream pid
  has_woken rows owners es ready more stream pid stay has = record { operation = has.operation; found = has.found; how = how_woken owners es ready more stream pid has.operation stay has.how }

  pub sole_woken : (rows : List (ℕ × Pending)) (owners : List Owner) (es : List Entry) (waits : List (StreamNo × ℕ)) (ready pids : List ℕ) → Sole F rows owners es waits ready → Sole F rows owners es waits (ready ++ pids)
  sole_woken rows owners es waits ready pids p = record {
    has = λ stream pid e. has_woken rows owners es ready (ready ++ pids) stream pid (any_before (is_pid pid) ready pids) (p.has stream pid e);
    stood = p.stood;
    owned = p.owned;
  }

  pub but_woken : (out : ℕ) (lock : Option StreamNo) (rows : List (ℕ × Pending)) (owners : List Owner) (es : List Entry) (waits : List (StreamNo × ℕ)) (ready pids : List ℕ) → But F out lock rows owners es waits ready → But F out lock rows owners es waits (ready ++ pids)
  but_woken out lock rows owners es waits ready pids p = record {
    others = λ stream pid apart e. has_woken rows owners es ready (ready ++ pids) stream pid (any_before (is_pid pid) ready pids) (p.others stream pid apart e);
    own = p.own;
    stood = p.stood;
    owned = p.owned;
    none = p.none;
  }

  -- Operations

  -- one is taken out, whose process may be woken no more
  pub taken_out : (rows : List (ℕ × Pending)) (owners : List Owner) (es : List Entry) (waits : List (StreamNo × ℕ)) (ready more : List ℕ) (out : ℕ) (lock : Option StreamNo) → list_any (is_under same_pid out) (less_of out rows) ≡ false → ((pid : ℕ) → (pid == out) ≡ false → is_woken pid ready ≡ true → is_woken pid more ≡ true)
      → ((stream : StreamNo) → Has rows owners es ready stream out → lock ≡ Some stream) → Sole F rows owners es waits ready → But F out lock (less_of out rows) owners es waits more
  taken_out rows owners es waits ready more out lock none stay mine p = record {
    others = λ stream pid apart e.
        let has : Has rows owners es more stream pid = has_woken rows owners es ready more stream pid (stay pid apart) (p.has stream pid e) in
        record { operation = has.operation; found = first_less pid out rows apart ∙ has.found; how = has.how };
    own = λ stream e. mine stream (p.has stream out e);
    stood = λ stream pid operation stands found moves.
        let apart : (pid == out) ≡ false = not_out pid out (less_of out rows) operation (pid == out) refl none found in
        p.stood stream pid operation stands (sym (first_less pid out rows apart) ∙ found) moves;
    owned = λ f pid operation found. p.owned f pid operation (sym (first_less pid out rows (not_out pid out (less_of out rows) operation (pid == out) refl none found)) ∙ found);
    none = none;
  }

  -- one that has none has no lock
  pub none_but : (rows : List (ℕ × Pending)) (owners : List Owner) (es : List Entry) (waits : List (StreamNo × ℕ)) (ready : List ℕ) (out : ℕ) → list_any (is_under same_pid out) rows ≡ false → Sole F rows owners es waits ready → But F out None rows owners es waits ready
  none_but rows owners es waits ready out none p = record {
    others = λ stream pid apart e. p.has stream pid e;
    own = λ stream e. absurd (let has = p.has stream out e in let found = has.found in let nothing = lines.first_none out rows none in let both = sym found ∙ nothing in cc);
    stood = p.stood;
    owned = p.owned;
    none = none;
  }

  -- one that was taken out is put back
  pub back : (rows : List (ℕ × Pending)) (owners : List Owner) (es : List Entry) (waits : List (StreamNo × ℕ)) (ready : List ℕ) (out : ℕ) (operation : Pending) → list_any (is_under same_pid out) (less_of out rows) ≡ false → first_of out rows ≡ Some operation → Sole F rows owners es waits ready → Sole F (less_of out rows ++ (out, operation) ∷ []) owners es waits ready
  back rows owners es waits ready out operation none there p = record {
    has = λ stream pid e. let has : Has rows owners es ready stream pid = p.has stream pid e in record { operation = has.operation; found = same pid ∙ has.found; how = has.how };
    stood = λ stream pid other stands found moves. p.stood stream pid other stands (sym (same pid) ∙ found) moves;
    owned = λ f pid other found. p.owned f pid other (sym (same pid) ∙ found);
  }
    where
      same : (pid : ℕ) → first_of pid (less_of out rows ++ (out, operation) ∷ []) ≡ first_of pid rows
      same pid = lines.back_by pid out rows operation (pid == out) refl none there

  -- it has none, and none is kept
  pub idle : (out : ℕ) (rows : List (ℕ × Pending)) (owners : List Owner) (es : List Entry) (waits : List (StreamNo × ℕ)) (ready : List ℕ) → But F out None rows owners es waits ready → Sole F rows owners es waits ready
  idle out rows owners es waits ready p = record { has = λ stream pid e. by_test stream pid (pid == out) refl e; stood = p.stood; owned = p.owned }
    where
      by_test : (stream : StreamNo) (pid : ℕ) (b : Bool) → (pid == out) ≡ b → holder_of es stream ≡ Some pid → Has rows owners es ready stream pid
      by_test stream pid true e holds = absurd (let mine = p.own stream (holds ∙ ap Some (eqb-true pid out e)) in cc)
      by_test stream pid false e holds = p.others stream pid e holds

  -- what it may have is given up where it hasn't it
  pub unheld : (out : ℕ) (lock : Option StreamNo) (rows : List (ℕ × Pending)) (owners : List Owner) (es : List Entry) (waits : List (StreamNo × ℕ)) (ready : List ℕ) → ((stream : StreamNo) → holder_of es stream ≡ Some out → true ≡ false) → But F out lock rows owners es waits ready → But F out None rows owners es waits ready
  unheld out lock rows owners es waits ready never p = record { others = p.others; own = λ stream e. absurd (let no = never stream e in cc); stood = p.stood; owned = p.owned; none = p.none }

  -- one is kept that has what its process may have, and stands at files
  pub kept : (out : ℕ) (lock : Option StreamNo) (rows : List (ℕ × Pending)) (owners : List Owner) (es : List Entry) (waits more : List (StreamNo × ℕ)) (ready : List ℕ) (operation : Pending) → ((stream : StreamNo) → lock ≡ Some stream → held_lock operation ≡ Some stream)
      → ((stream : StreamNo) → stands_by out stream more ≡ true → closes_or_moves operation ≡ true → LeadsToFile owners es stream out) → ((stream : StreamNo) (pid : ℕ) → (pid == out) ≡ false → stands_by pid stream more ≡ true → stands_by pid stream waits ≡ true) → (F → IsOwn owners (out, operation))
      → But F out lock rows owners es waits ready → Sole F (rows ++ (out, operation) ∷ []) owners es more ready
  kept out lock rows owners es waits more ready operation holds stands fewer fits p = record {
    has = λ stream pid e. by_test stream pid (pid == out) refl e;
    stood = λ stream pid other there found moves. stood_by stream pid other (pid == out) refl there found moves;
    owned = λ f pid other found. owned_by f pid other (pid == out) refl found;
  }
    where
      by_test : (stream : StreamNo) (pid : ℕ) (b : Bool) → (pid == out) ≡ b → holder_of es stream ≡ Some pid → Has (rows ++ (out, operation) ∷ []) owners es ready stream pid
      by_test stream pid true e mine =
          let is : pid ≡ out = eqb-true pid out e in
          subst (λ (n : ℕ). Has (rows ++ (out, operation) ∷ []) owners es ready stream n) (sym is)
          (record { operation = operation; found = first_own out rows operation p.none; how = inl (holds stream (p.own stream (mine ∙ ap Some is))) })
      by_test stream pid false e mine =
          let has : Has rows owners es ready stream pid = p.others stream pid e mine in
          record { operation = has.operation; found = lines.found_push pid rows (out, operation) has.operation has.found; how = has.how }

      owned_by : (f : F) (pid : ℕ) (other : Pending) (b : Bool) → (pid == out) ≡ b → first_of pid (rows ++ (out, operation) ∷ []) ≡ Some other → IsOwn owners (pid, other)
      owned_by f pid other true e found =
          let is : pid ≡ out = eqb-true pid out e in
          let same : operation ≡ other = some_is operation other (sym (first_own out rows operation p.none) ∙ subst (λ (n : ℕ). first_of n (rows ++ (out, operation) ∷ []) ≡ Some other) is found) in
          subst (λ (n : ℕ). IsOwn owners (n, other)) (sym is) (subst (λ (new : Pending). IsOwn owners (out, new)) same (fits f))
      owned_by f pid other false e found = p.owned f pid other (sym (lines.first_other pid out rows operation e) ∙ found)

      stood_by : (stream : StreamNo) (pid : ℕ) (other : Pending) (b : Bool) → (pid == out) ≡ b → stands_by pid stream more ≡ true → first_of pid (rows ++ (out, operation) ∷ []) ≡ Some other → closes_or_moves other ≡ true → LeadsToFile owners es stream pid
      stood_by stream pid other true e there found moves =
          let is : pid ≡ out = eqb-true pid out e in
          let same : operation ≡ other = some_is operation other (sym (first_own out rows operation p.none) ∙ subst (λ (n : ℕ). first_of n (rows ++ (out, operation) ∷ []) ≡ Some other) is found) in
          subst (λ (n : ℕ). LeadsToFile owners es stream n) (sym is) (stands stream (subst (λ (n : ℕ). stands_by n stream more ≡ true) is there) (ap closes_or_moves same ∙ moves))
      stood_by stream pid other false e there found moves = p.stood stream pid other (fewer stream pid e there) (sym (lines.first_other pid out rows operation e) ∙ found) moves

  -- Locks that are taken

  locking_back : (o : Option ℕ) (es : List Entry) (n m : StreamNo) (pid other : ℕ) (b : Bool) → is_number m n ≡ b → holder_of (locking es n pid o) m ≡ Some other → (holder_of es m ≡ Some other) ⊎ ((other ≡ pid) × (m ≡ n))
  locking_back (Some holder) es n m pid other b e h = inl h
  locking_back None es n m pid other true e h =
      inr (some_is other pid (sym h ∙ holder_put m n (stream_of es n) (Some pid) es ∙ ap (λ (b : Bool). cond b (Some pid) (holder_of es m)) e), one_number m n e)
  locking_back None es n m pid other false e h = inl (sym (holder_put m n (stream_of es n) (Some pid) es ∙ ap (λ (b : Bool). cond b (Some pid) (holder_of es m)) e) ∙ h)

  -- who has one then had it before, or is who asked for it
  locked_back : (es : List Entry) (n m : StreamNo) (pid other : ℕ) → holder_of (locked es n pid) m ≡ Some other → (holder_of es m ≡ Some other) ⊎ ((other ≡ pid) × (m ≡ n))
  locked_back es n m pid other h = locking_back (holder_of es n) es n m pid other (is_number m n) refl h

  keeps_own : (pid : ℕ) (owners : List Owner) → KeepsThose pid owners owners
  keeps_own pid owners = λ fd stream leads. leads

  -- the same streams with other holders
  has_same : (rows : List (ℕ × Pending)) (owners : List Owner) (es more : List Entry) (ready : List ℕ) (stream : StreamNo) (pid : ℕ) → KeepsFiles es more → Has rows owners es ready stream pid → Has rows owners more ready stream pid
  has_same rows owners es more ready stream pid files has = has_still rows owners owners es more ready stream pid (keeps_own pid owners) (λ fd leads. files stream) has

  stood_same : (rows : List (ℕ × Pending)) (owners : List Owner) (es more : List Entry) (waits : List (StreamNo × ℕ)) → KeepsFiles es more → Stood rows owners es waits → Stood rows owners more waits
  stood_same rows owners es more waits files stood stream pid operation stands found moves = leads_still owners owners es more stream pid (keeps_own pid owners) (λ fd leads. files stream) (stood stream pid operation stands found moves)

  -- the process takes the one that it may have
  pub locks : (out : ℕ) (lock : Option StreamNo) (n : StreamNo) (rows : List (ℕ × Pending)) (owners : List Owner) (es : List Entry) (waits : List (StreamNo × ℕ)) (ready : List ℕ) → ((stream : StreamNo) → lock ≡ Some stream → n ≡ stream) → But F out lock rows owners es waits ready → But F out (Some n) rows owners (locked es n out) waits ready
  locks out lock n rows owners es waits ready mine p = record {
    others = λ stream pid apart e. other_by stream pid apart (locked_back es n stream out pid e);
    own = λ stream e. own_by stream (locked_back es n stream out out e);
    stood = stood_same rows owners es (locked es n out) waits files p.stood;
    owned = p.owned;
    none = p.none;
  }
    where
      files : KeepsFiles es (locked es n out)
      files = same_files es (locked es n out) (same_locked es n out)

      other_by : (stream : StreamNo) (pid : ℕ) → (pid == out) ≡ false → (holder_of es stream ≡ Some pid) ⊎ ((pid ≡ out) × (stream ≡ n)) → Has rows owners (locked es n out) ready stream pid
      other_by stream pid apart (inl before) = has_same rows owners es (locked es n out) ready stream pid files (p.others stream pid apart before)
      other_by stream pid apart (inr got) = absurd (let yes = eq-eqb pid out got.0 in let both = sym yes ∙ apart in cc)

      own_by : (stream : StreamNo) → (holder_of es stream ≡ Some out) ⊎ ((out ≡ out) × (stream ≡ n)) → Some n ≡ Some stream
      own_by stream (inl before) = ap Some (mine stream (p.own stream before))
      own_by stream (inr got) = ap Some (sym got.1)

  -- one that another has stays as it is
  locking_same : (o : Option ℕ) (es : List Entry) (n : StreamNo) (pid : ℕ) → has_lock pid o ≡ false → locking es n pid o ≡ es
  locking_same (Some holder) es n pid e = refl
  locking_same None es n pid e = absurd (cc)

  pub locked_same : (es : List Entry) (n : StreamNo) (pid : ℕ) → has_lock pid (holder_of es n) ≡ false → locked es n pid ≡ es
  locked_same es n pid e = locking_same (holder_of es n) es n pid e

  -- and isn't its
  pub kept_out : (es : List Entry) (n stream : StreamNo) (pid : ℕ) → has_lock pid (holder_of es n) ≡ false → n ≡ stream → holder_of es stream ≡ Some pid → true ≡ false
  kept_out es n stream pid e same mine = sym (ap (has_lock pid) (ap (holder_of es) same ∙ mine) ∙ eq-eqb pid pid refl) ∙ e

  -- Locks that are freed or handed over

  freed_back : (es : List Entry) (n m : StreamNo) (pid : ℕ) (b : Bool) → is_number m n ≡ b → holder_of (unlocked es n) m ≡ Some pid → (holder_of es m ≡ Some pid) × (b ≡ false)
  freed_back es n m pid true e h = absurd (let none = unlocked_holder es n m ∙ ap (λ (b : Bool). cond b None (holder_of es m)) e in let both = sym h ∙ none in cc)
  freed_back es n m pid false e h = (sym (unlocked_holder es n m ∙ ap (λ (b : Bool). cond b None (holder_of es m)) e) ∙ h, refl)

  -- it is freed
  pub frees : (out : ℕ) (n : StreamNo) (rows : List (ℕ × Pending)) (owners : List Owner) (es : List Entry) (waits : List (StreamNo × ℕ)) (ready : List ℕ) → But F out (Some n) rows owners es waits ready → But F out None rows owners (unlocked es n) (less_stream n waits) ready
  frees out n rows owners es waits ready p = record {
    others = λ stream pid apart e. has_same rows owners es (unlocked es n) ready stream pid files (p.others stream pid apart (freed_back es n stream pid (is_number stream n) refl e).0);
    own = λ stream e.
        absurd (let before = freed_back es n stream out (is_number stream n) refl e in
        let same : n ≡ stream = some_is n stream (p.own stream before.0) in
        let yes : is_number stream n ≡ true = subst (λ (m : StreamNo). is_number m n ≡ true) same (number_itself n) in
        let both = sym yes ∙ before.1 in
        cc);
    stood = λ stream pid operation stands found moves. stood_same rows owners es (unlocked es n) waits files p.stood stream pid operation (lines.less_stands pid stream n waits stands) found moves;
    owned = p.owned;
    none = p.none;
  }
    where
      files : KeepsFiles es (unlocked es n)
      files = same_files es (unlocked es n) (same_unlocked es n)

  last_woken : (pid : ℕ) (ready : List ℕ) → is_woken pid (ready ++ pid ∷ []) ≡ true
  last_woken pid ready = any_behind (is_pid pid) ready (pid ∷ []) (or_left (pid == pid) false (eq-eqb pid pid refl))

  -- or handed over to one that stands in its queue
  pub hands_over : (out : ℕ) (n : StreamNo) (first : ℕ) (rows : List (ℕ × Pending)) (owners : List Owner) (es : List Entry) (waits : List (StreamNo × ℕ)) (ready : List ℕ) → first_stream n waits ≡ Some first → Lined rows owners waits ready → But F out (Some n) rows owners es waits ready
      → But F out None rows owners (locked (unlocked es n) n first) (less_stream n waits) (ready ++ first ∷ [])
  hands_over out n first rows owners es waits ready there line p = record {
    others = λ stream pid apart e. other_by stream pid apart (locked_back (unlocked es n) n stream first pid e);
    own = λ stream e. own_by stream (locked_back (unlocked es n) n stream first out e);
    stood = stood_same rows owners (unlocked es n) (locked (unlocked es n) n first) (less_stream n waits) files freed.stood;
    owned = p.owned;
    none = p.none;
  }
    where
      freed : But F out None rows owners (unlocked es n) (less_stream n waits) ready
      freed = frees out n rows owners es waits ready p

      files : KeepsFiles (unlocked es n) (locked (unlocked es n) n first)
      files = same_files (unlocked es n) (locked (unlocked es n) n first) (same_locked (unlocked es n) n first)

      mine : InLine rows owners n first
      mine = line.waiting n first (lines.first_stands n waits first there)

      all_files : KeepsFiles es (locked (unlocked es n) n first)
      all_files = λ m file. files m (same_files es (unlocked es n) (same_unlocked es n) m file)

      given : Has rows owners (locked (unlocked es n) n first) (ready ++ first ∷ []) n first
      given = record {
        operation = mine.operation;
        found = mine.found;
        how = inr (record {
          wants = mine.wants;
          woken = last_woken first ready;
          file = λ moves. leads_still owners owners es (locked (unlocked es n) n first) n first (keeps_own first owners) (λ fd leads. all_files n) (p.stood n first mine.operation (lines.first_stands n waits first there) mine.found moves);
        });
      }

      other_by : (stream : StreamNo) (pid : ℕ) → (pid == out) ≡ false → (holder_of (unlocked es n) stream ≡ Some pid) ⊎ ((pid ≡ first) × (stream ≡ n)) → Has rows owners (locked (unlocked es n) n first) (ready ++ first ∷ []) stream pid
      other_by stream pid apart (inl before) =
          has_woken rows owners (locked (unlocked es n) n first) ready (ready ++ first ∷ []) stream pid (any_before (is_pid pid) ready (first ∷ [])) (has_same rows owners (unlocked es n) (locked (unlocked es n) n first) ready stream pid files (freed.others stream pid apart before))
      other_by stream pid apart (inr got) =
          subst (λ (m : StreamNo). Has rows owners (locked (unlocked es n) n first) (ready ++ first ∷ []) m pid) (sym got.1)
          (subst (λ (q : ℕ). Has rows owners (locked (unlocked es n) n first) (ready ++ first ∷ []) n q) (sym got.0) given)

      own_by : (stream : StreamNo) → (holder_of (unlocked es n) stream ≡ Some out) ⊎ ((out ≡ first) × (stream ≡ n)) → None ≡ Some stream
      own_by stream (inl before) = freed.own stream before
      own_by stream (inr got) = absurd (let found = mine.found in let nothing = lines.first_none out rows p.none in let same = ap (λ (q : ℕ). first_of q rows) got.0 in let both = sym found ∙ sym same ∙ nothing in cc)
