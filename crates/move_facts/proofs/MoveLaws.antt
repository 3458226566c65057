-- Streams of processes that leave move in turn: where operations come and go, descriptors come and go, and reports and processes that leave do.
use Rattle.std.proofs.Common.{◌≡◌, ℕ, ◌==◌, Bool, true, false, cond, List, [], ◌∷◌, ◌++◌, Option, Some, None, option_map, refl, sym, ap, ◌∙◌, subst, find}
use Rattle.std.proofs.lemmas.Bool.{eq-eqb, eqb-true}
use Rattle.std.specs.List.{list_any}
use Rattle.sprite_ids.specs.declared.Grant.{Grant}
use Rattle.sprite_ids.specs.declared.StreamNo.{StreamNo}
use Rattle.sprite_ids.proofs.ListLaws.{some_is}
use Rattle.kernel_steps.specs.Rows.{first_under, is_under}
use Rattle.stream_table.specs.declared.Place.{Place}
use Rattle.stream_table.specs.Owners.{Owner, descriptor}
use Rattle.migrate_freeze.specs.declared.frozen.MoveStep.{MoveStep}
use Rattle.migrate_freeze.specs.declared.frozen.MoveStep.TheVariants as steps
use Rattle.migrate_freeze.specs.Moves.{is_stream}
use Rattle.migrate_freeze.specs.OneMove.{OneMove}
use Rattle.client_file_tables.specs.declared.moves.MoveWork.{MoveWork}
use Rattle.client_file_tables.specs.declared.moves.Report.{Report}
use Rattle.client_file_tables.specs.declared.moves.Report.TheVariants as reports
use Rattle.client_file_tables.specs.declared.pending.Pending.{Pending}
use Rattle.client_file_tables.specs.declared.pending.Pending.TheVariants as operations
use Rattle.client_file_tables.specs.Rows.{first_of, less_of, same_pid, same_stream}
use Rattle.client_homes.specs.declared.client.Leaving.{Leaving}
use Rattle.client_homes.specs.Procs.{is_pid}
use Rattle.file_facts.proofs.BookLaws.{any_before, any_behind, or_left}
use Rattle.lock_facts.proofs.Ranks.{first_less, first_own}
use Rattle.holder_facts.proofs.Lines.{first_none, first_other}
use Rattle.move_facts.specs.MoveFacts.{IsLeaving, IsNext, MovesInTurn, has_moved, is_out, move_in, move_of, tells_of}

-- The moves among the operations

abbrev value_of : Option (ℕ × Pending) → Option Pending
value_of o = option_map (λ (row : ℕ × Pending). row.1) o

push_by : (row : ℕ × Pending) (o p : Option (ℕ × Pending)) (b : Bool) → move_in (value_of p) ≡ move_in (value_of o) → move_in (value_of (cond b (Some row) p)) ≡ move_in (value_of (cond b (Some row) o))
push_by row o p true e = refl
push_by row o p false e = e

last_by : (row : ℕ × Pending) (b : Bool) → move_in (Some row.1) ≡ None → move_in (value_of (cond b (Some row) None)) ≡ None
last_by row true e = e
last_by row false e = refl

-- one more that is none
pub move_push : (q : ℕ) (rows : List (ℕ × Pending)) (pid : ℕ) (operation : Pending) → move_in (Some operation) ≡ None → move_of q (rows ++ (pid, operation) ∷ []) ≡ move_of q rows
move_push q [] pid operation e = last_by (pid, operation) (pid == q) e
move_push q (row ∷ rest) pid operation e = push_by row (find (is_under same_pid q) rest) (find (is_under same_pid q) (rest ++ (pid, operation) ∷ [])) (row.0 == q) (move_push q rest pid operation e)

module _ (leaving : List (ℕ × Leaving)) where
  -- Where each process has the same move still
  pub same_moves : (rows more : List (ℕ × Pending)) (owners : List Owner) (told : List Report) → ((q : ℕ) → move_of q more ≡ move_of q rows) → MovesInTurn leaving rows owners told → MovesInTurn leaving more owners told
  same_moves rows more owners told same p = record {
    goes = p.goes;
    held = λ q found moving there step out told_none. p.held q found moving there step (sym (ap is_out (same q)) ∙ out) told_none;
    next = λ q work e. p.next q work (sym (same q) ∙ e);
  }

  pub pushed : (rows : List (ℕ × Pending)) (owners : List Owner) (told : List Report) (pid : ℕ) (operation : Pending) → move_in (Some operation) ≡ None → MovesInTurn leaving rows owners told → MovesInTurn leaving (rows ++ (pid, operation) ∷ []) owners told
  pushed rows owners told pid operation e p = same_moves rows (rows ++ (pid, operation) ∷ []) owners told (λ q. move_push q rows pid operation e) p

  -- an operation is taken out that doesn't wait for the server with a move
  pub taken_out : (rows : List (ℕ × Pending)) (owners : List Owner) (told : List Report) (pid : ℕ) → list_any (is_under same_pid pid) (less_of pid rows) ≡ false → is_out (move_of pid rows) ≡ false → MovesInTurn leaving rows owners told → MovesInTurn leaving (less_of pid rows) owners told
  taken_out rows owners told pid none calm p = record {
    goes = p.goes;
    held = λ q found moving there step out told_none. p.held q found moving there step (out_by q (q == pid) refl out) told_none;
    next = λ q work e. next_by q work (q == pid) refl e;
  }
    where
      out_by : (q : ℕ) (b : Bool) → (q == pid) ≡ b → is_out (move_of q (less_of pid rows)) ≡ false → is_out (move_of q rows) ≡ false
      out_by q true e out = ap (λ (n : ℕ). is_out (move_of n rows)) (eqb-true q pid e) ∙ calm
      out_by q false e out = sym (ap (λ (o : Option Pending). is_out (move_in o)) (first_less q pid rows e)) ∙ out

      next_by : (q : ℕ) (work : MoveWork) (b : Bool) → (q == pid) ≡ b → move_of q (less_of pid rows) ≡ Some work → IsNext leaving q work
      next_by q work true e there = absurd (let gone = ap move_in (ap (λ (n : ℕ). first_of n (less_of pid rows)) (eqb-true q pid e) ∙ first_none pid (less_of pid rows) none) in let both = sym there ∙ gone in cc)
      next_by q work false e there = p.next q work (sym (ap move_in (first_less q pid rows e)) ∙ there)

  -- the move that is next begins, or goes on
  pub begun : (rows : List (ℕ × Pending)) (owners : List Owner) (told : List Report) (pid : ℕ) (work : MoveWork) → list_any (is_under same_pid pid) rows ≡ false → IsNext leaving pid work → MovesInTurn leaving rows owners told → MovesInTurn leaving (rows ++ (pid, operations.Move work) ∷ []) owners told
  begun rows owners told pid work none mine p = record {
    goes = p.goes;
    held = λ q found moving there step out told_none. p.held q found moving there step (out_by q (q == pid) refl out) told_none;
    next = λ q other e. next_by q other (q == pid) refl e;
  }
    where
      out_by : (q : ℕ) (b : Bool) → (q == pid) ≡ b → is_out (move_of q (rows ++ (pid, operations.Move work) ∷ [])) ≡ false → is_out (move_of q rows) ≡ false
      out_by q true e out = ap (λ (o : Option Pending). is_out (move_in o)) (ap (λ (n : ℕ). first_of n rows) (eqb-true q pid e) ∙ first_none pid rows none)
      out_by q false e out = sym (ap (λ (o : Option Pending). is_out (move_in o)) (first_other q pid rows (operations.Move work) e)) ∙ out

      next_by : (q : ℕ) (other : MoveWork) (b : Bool) → (q == pid) ≡ b → move_of q (rows ++ (pid, operations.Move work) ∷ []) ≡ Some other → IsNext leaving q other
      next_by q other true e there =
          let is : q ≡ pid = eqb-true q pid e in
          let found : Some work ≡ Some other = sym (ap move_in (ap (λ (n : ℕ). first_of n (rows ++ (pid, operations.Move work) ∷ [])) is ∙ first_own pid rows (operations.Move work) none)) ∙ there in
          subst (λ (n : ℕ). IsNext leaving n other) (sym is) (subst (λ (new : MoveWork). IsNext leaving pid new) (some_is work other found) mine)
      next_by q other false e there = p.next q other (sym (ap move_in (first_other q pid rows (operations.Move work) e)) ∙ there)

  -- Descriptors

  going_still : (owners more : List Owner) (pid : ℕ) (moving : OneMove) → ((fd : ℕ) (n : StreamNo) → descriptor owners pid fd ≡ Some n → descriptor more pid fd ≡ Some n) → IsLeaving owners pid moving → IsLeaving more pid moving
  going_still owners more pid moving keeps g = record { way = g.way; rest = λ item one unmoved apart. keeps item.fd item.number (g.rest item one unmoved apart) }

  pub owners_more : (rows : List (ℕ × Pending)) (owners more : List Owner) (told : List Report) → ((pid fd : ℕ) (n : StreamNo) → descriptor owners pid fd ≡ Some n → descriptor more pid fd ≡ Some n) → MovesInTurn leaving rows owners told → MovesInTurn leaving rows more told
  owners_more rows owners more told keeps p = record {
    goes = λ q found moving there step. going_still owners more q moving (keeps q) (p.goes q found moving there step);
    held = λ q found moving there step out told_none. keeps q moving.item.fd moving.item.number (p.held q found moving there step out told_none);
    next = p.next;
  }

  -- those of a process that doesn't leave may go
  pub drops : (rows : List (ℕ × Pending)) (owners more : List Owner) (told : List Report) (pid : ℕ) → first_under is_pid pid leaving ≡ None → ((q fd : ℕ) (n : StreamNo) → (q == pid) ≡ false → descriptor owners q fd ≡ Some n → descriptor more q fd ≡ Some n) → MovesInTurn leaving rows owners told → MovesInTurn leaving rows more told
  drops rows owners more told pid stays keeps p = record {
    goes = λ q found moving there step. going_still owners more q moving (λ fd n leads. keeps q fd n (apart q found (q == pid) refl there) leads) (p.goes q found moving there step);
    held = λ q found moving there step out told_none. keeps q moving.item.fd moving.item.number (apart q found (q == pid) refl there) (p.held q found moving there step out told_none);
    next = p.next;
  }
    where
      apart : (q : ℕ) (found : Leaving) (b : Bool) → (q == pid) ≡ b → first_under is_pid q leaving ≡ Some found → b ≡ false
      apart q found true e there = absurd (let mine = ap (λ (n : ℕ). first_under is_pid n leaving) (eqb-true q pid e) ∙ stays in let both = sym there ∙ mine in cc)
      apart q found false e there = refl

  -- Reports

  pub told_more : (rows : List (ℕ × Pending)) (owners : List Owner) (told more : List Report) → ((q : ℕ) → has_moved q more ≡ false → has_moved q told ≡ false) → MovesInTurn leaving rows owners told → MovesInTurn leaving rows owners more
  told_more rows owners told more fewer p = record {
    goes = p.goes;
    held = λ q found moving there step out told_none. p.held q found moving there step out (fewer q told_none);
    next = p.next;
  }

-- one more says no less
pub moved_before : (q : ℕ) (told more : List Report) → has_moved q (told ++ more) ≡ false → has_moved q told ≡ false
moved_before q told more e = by_test (has_moved q told) refl
  where
    by_test : (b : Bool) → has_moved q told ≡ b → b ≡ false
    by_test true f = absurd (let yes = any_before (tells_of q) told more f in let both = sym yes ∙ e in cc)
    by_test false f = refl

-- Streams that move

abbrev moving_or : OneMove → MoveStep → OneMove
moving_or moving (steps.Moving other) = other
moving_or moving (steps.Sent sent) = moving

pub moving_is : (moving other : OneMove) → steps.Moving moving ≡ steps.Moving other → moving ≡ other
moving_is moving other e = ap (moving_or moving) e

-- the one that is next is the one that leaves
pub next_is : (leaving : List (ℕ × Leaving)) (pid : ℕ) (work : MoveWork) (mine : IsNext leaving pid work) (found : Leaving) (moving : OneMove) → first_under is_pid pid leaving ≡ Some found → found.step ≡ steps.Moving moving → moving.item.number ≡ work.stream
next_is leaving pid work mine found moving there step =
    let same : mine.found ≡ found = some_is mine.found found (sym mine.there ∙ there) in
    let one : mine.moving ≡ moving = moving_is mine.moving moving (sym mine.step ∙ ap (λ (l : Leaving). l.step) same ∙ step) in
    sym (ap (λ (m : OneMove). m.item.number) one) ∙ mine.same

-- the descriptors of the next stream have gone, and it waits for the server, or has moved
pub record Gone (leaving : List (ℕ × Leaving)) (pid : ℕ) (owners more : List Owner) (stream : StreamNo) : Type 0 where
  pub others : (q fd : ℕ) (n : StreamNo) → (q == pid) ≡ false → descriptor owners q fd ≡ Some n → descriptor more q fd ≡ Some n
  pub own : (fd : ℕ) (n : StreamNo) → same_stream n stream ≡ false → descriptor owners pid fd ≡ Some n → descriptor more pid fd ≡ Some n

module _ (leaving : List (ℕ × Leaving)) (rows : List (ℕ × Pending)) (owners more : List Owner) (told : List Report) (pid : ℕ) (work : MoveWork) (none : list_any (is_under same_pid pid) rows ≡ false) (mine : IsNext leaving pid work) (gone : Gone leaving pid owners more work.stream) (p : MovesInTurn leaving rows owners told) where
  goes_by : (q : ℕ) (found : Leaving) (moving : OneMove) (b : Bool) → (q == pid) ≡ b → first_under is_pid q leaving ≡ Some found → found.step ≡ steps.Moving moving → IsLeaving more q moving
  goes_by q found moving true e there step =
      let is : q ≡ pid = eqb-true q pid e in
      let before : IsLeaving owners q moving = p.goes q found moving there step in
      let same : moving.item.number ≡ work.stream = next_is leaving pid work mine found moving (ap (λ (n : ℕ). first_under is_pid n leaving) (sym is) ∙ there) step in
      record {
        way = before.way;
        rest = λ item one unmoved apart.
            subst (λ (n : ℕ). descriptor more n item.fd ≡ Some item.number) (sym is)
            (gone.own item.fd item.number (sym (ap (λ (n : StreamNo). is_stream n item.number) same) ∙ apart) (subst (λ (n : ℕ). descriptor owners n item.fd ≡ Some item.number) is (before.rest item one unmoved apart)));
      }
  goes_by q found moving false e there step = let before : IsLeaving owners q moving = p.goes q found moving there step in record { way = before.way; rest = λ item one unmoved apart. gone.others q item.fd item.number e (before.rest item one unmoved apart) }

  -- it is sent to the server
  pub sent_out : (out : MoveWork) → out.stream ≡ work.stream → is_out (Some out) ≡ true → MovesInTurn leaving (rows ++ (pid, operations.Move out) ∷ []) more told
  sent_out out same moving_out = record {
    goes = λ q found moving there step. goes_by q found moving (q == pid) refl there step;
    held = λ q found moving there step calm told_none. held_by q found moving (q == pid) refl there step calm told_none;
    next = λ q other e. next_by q other (q == pid) refl e;
  }
    where
      held_by : (q : ℕ) (found : Leaving) (moving : OneMove) (b : Bool) → (q == pid) ≡ b → first_under is_pid q leaving ≡ Some found → found.step ≡ steps.Moving moving → is_out (move_of q (rows ++ (pid, operations.Move out) ∷ [])) ≡ false → has_moved q told ≡ false → descriptor more q moving.item.fd ≡ Some moving.item.number
      held_by q found moving true e there step calm told_none =
          absurd (let yes = ap (λ (o : Option Pending). is_out (move_in o)) (ap (λ (n : ℕ). first_of n (rows ++ (pid, operations.Move out) ∷ [])) (eqb-true q pid e) ∙ first_own pid rows (operations.Move out) none) ∙ moving_out in let both = sym yes ∙ calm in cc)
      held_by q found moving false e there step calm told_none =
          gone.others q moving.item.fd moving.item.number e (p.held q found moving there step (sym (ap (λ (o : Option Pending). is_out (move_in o)) (first_other q pid rows (operations.Move out) e)) ∙ calm) told_none)

      next_by : (q : ℕ) (other : MoveWork) (b : Bool) → (q == pid) ≡ b → move_of q (rows ++ (pid, operations.Move out) ∷ []) ≡ Some other → IsNext leaving q other
      next_by q other true e there =
          let is : q ≡ pid = eqb-true q pid e in
          let found : Some out ≡ Some other = sym (ap move_in (ap (λ (n : ℕ). first_of n (rows ++ (pid, operations.Move out) ∷ [])) is ∙ first_own pid rows (operations.Move out) none)) ∙ there in
          subst (λ (n : ℕ). IsNext leaving n other) (sym is)
          (subst (λ (new : MoveWork). IsNext leaving pid new) (some_is out other found) (record { found = mine.found; moving = mine.moving; there = mine.there; step = mine.step; same = mine.same ∙ sym same }))
      next_by q other false e there = p.next q other (sym (ap move_in (first_other q pid rows (operations.Move out) e)) ∙ there)

  -- or has moved at once
  pub moved_at_once : (place : Place) (grant : Option Grant) (many : ℕ) → MovesInTurn leaving rows more (told ++ reports.Moved pid place grant many ∷ [])
  moved_at_once place grant many = record {
    goes = λ q found moving there step. goes_by q found moving (q == pid) refl there step;
    held = λ q found moving there step calm told_none. held_by q found moving (q == pid) refl there step calm told_none;
    next = p.next;
  }
    where
      held_by : (q : ℕ) (found : Leaving) (moving : OneMove) (b : Bool) → (q == pid) ≡ b → first_under is_pid q leaving ≡ Some found → found.step ≡ steps.Moving moving → is_out (move_of q rows) ≡ false → has_moved q (told ++ reports.Moved pid place grant many ∷ []) ≡ false → descriptor more q moving.item.fd ≡ Some moving.item.number
      held_by q found moving true e there step calm told_none =
          absurd (let yes = any_behind (tells_of q) told (reports.Moved pid place grant many ∷ []) (or_left (pid == q) false (eq-eqb pid q (sym (eqb-true q pid e)))) in let both = sym yes ∙ told_none in cc)
      held_by q found moving false e there step calm told_none = gone.others q moving.item.fd moving.item.number e (p.held q found moving there step calm (moved_before q told (reports.Moved pid place grant many ∷ []) told_none))

-- the server has answered: the move is taken out, and reported
pub answered_out : (leaving : List (ℕ × Leaving)) (rows : List (ℕ × Pending)) (owners : List Owner) (told : List Report) (pid : ℕ) (place : Place) (grant : Option Grant) (many : ℕ) → list_any (is_under same_pid pid) (less_of pid rows) ≡ false → MovesInTurn leaving rows owners told
    → MovesInTurn leaving (less_of pid rows) owners (told ++ reports.Moved pid place grant many ∷ [])
answered_out leaving rows owners told pid place grant many none p = record {
  goes = p.goes;
  held = λ q found moving there step calm told_none. held_by q found moving (q == pid) refl there step calm told_none;
  next = λ q work e. next_by q work (q == pid) refl e;
}
  where
    held_by : (q : ℕ) (found : Leaving) (moving : OneMove) (b : Bool) → (q == pid) ≡ b → first_under is_pid q leaving ≡ Some found → found.step ≡ steps.Moving moving → is_out (move_of q (less_of pid rows)) ≡ false → has_moved q (told ++ reports.Moved pid place grant many ∷ []) ≡ false → descriptor owners q moving.item.fd ≡ Some moving.item.number
    held_by q found moving true e there step calm told_none =
        absurd (let yes = any_behind (tells_of q) told (reports.Moved pid place grant many ∷ []) (or_left (pid == q) false (eq-eqb pid q (sym (eqb-true q pid e)))) in let both = sym yes ∙ told_none in cc)
    held_by q found moving false e there step calm told_none = p.held q found moving there step (sym (ap (λ (o : Option Pending). is_out (move_in o)) (first_less q pid rows e)) ∙ calm) (moved_before q told (reports.Moved pid place grant many ∷ []) told_none)

    next_by : (q : ℕ) (work : MoveWork) (b : Bool) → (q == pid) ≡ b → move_of q (less_of pid rows) ≡ Some work → IsNext leaving q work
    next_by q work true e there = absurd (let gone = ap move_in (ap (λ (n : ℕ). first_of n (less_of pid rows)) (eqb-true q pid e) ∙ first_none pid (less_of pid rows) none) in let both = sym there ∙ gone in cc)
    next_by q work false e there = p.next q work (sym (ap move_in (first_less q pid rows e)) ∙ there)

-- Processes that leave

next_same : (leaving more : List (ℕ × Leaving)) (pid : ℕ) (work : MoveWork) → first_under is_pid pid more ≡ first_under is_pid pid leaving → IsNext leaving pid work → IsNext more pid work
next_same leaving more pid work same mine = record { found = mine.found; moving = mine.moving; there = same ∙ mine.there; step = mine.step; same = mine.same }

-- each is found as before
pub same_leaving : (leaving more : List (ℕ × Leaving)) (rows : List (ℕ × Pending)) (owners : List Owner) (told : List Report) → ((q : ℕ) → first_under is_pid q more ≡ first_under is_pid q leaving) → MovesInTurn leaving rows owners told → MovesInTurn more rows owners told
same_leaving leaving more rows owners told same p = record {
  goes = λ q found moving there step. p.goes q found moving (sym (same q) ∙ there) step;
  held = λ q found moving there step calm told_none. p.held q found moving (sym (same q) ∙ there) step calm told_none;
  next = λ q work e. next_same leaving more q work (same q) (p.next q work e);
}

-- one that has no move is found otherwise: it leaves no more, or is that far
pub other_leaving : (leaving more : List (ℕ × Leaving)) (rows : List (ℕ × Pending)) (owners : List Owner) (told newer : List Report) (pid : ℕ) → move_of pid rows ≡ None → ((q : ℕ) → (q == pid) ≡ false → has_moved q newer ≡ false → has_moved q told ≡ false) → ((q : ℕ) → (q == pid) ≡ false → first_under is_pid q more ≡ first_under is_pid q leaving)
    → ((found : Leaving) (moving : OneMove) → first_under is_pid pid more ≡ Some found → found.step ≡ steps.Moving moving → (IsLeaving owners pid moving) × (descriptor owners pid moving.item.fd ≡ Some moving.item.number)) → MovesInTurn leaving rows owners told → MovesInTurn more rows owners newer
other_leaving leaving more rows owners told newer pid idle fewer same own p = record {
  goes = λ q found moving there step. goes_by q found moving (q == pid) refl there step;
  held = λ q found moving there step calm told_none. held_by q found moving (q == pid) refl there step calm told_none;
  next = λ q work e. next_by q work (q == pid) refl e;
}
  where
    goes_by : (q : ℕ) (found : Leaving) (moving : OneMove) (b : Bool) → (q == pid) ≡ b → first_under is_pid q more ≡ Some found → found.step ≡ steps.Moving moving → IsLeaving owners q moving
    goes_by q found moving true e there step = let is : q ≡ pid = eqb-true q pid e in subst (λ (n : ℕ). IsLeaving owners n moving) (sym is) (own found moving (ap (λ (n : ℕ). first_under is_pid n more) (sym is) ∙ there) step).0
    goes_by q found moving false e there step = p.goes q found moving (sym (same q e) ∙ there) step

    held_by : (q : ℕ) (found : Leaving) (moving : OneMove) (b : Bool) → (q == pid) ≡ b → first_under is_pid q more ≡ Some found → found.step ≡ steps.Moving moving → is_out (move_of q rows) ≡ false → has_moved q newer ≡ false → descriptor owners q moving.item.fd ≡ Some moving.item.number
    held_by q found moving true e there step calm told_none = let is : q ≡ pid = eqb-true q pid e in subst (λ (n : ℕ). descriptor owners n moving.item.fd ≡ Some moving.item.number) (sym is) (own found moving (ap (λ (n : ℕ). first_under is_pid n more) (sym is) ∙ there) step).1
    held_by q found moving false e there step calm told_none = p.held q found moving (sym (same q e) ∙ there) step calm (fewer q e told_none)

    next_by : (q : ℕ) (work : MoveWork) (b : Bool) → (q == pid) ≡ b → move_of q rows ≡ Some work → IsNext more q work
    next_by q work true e there = absurd (let gone = ap (λ (n : ℕ). move_of n rows) (eqb-true q pid e) ∙ idle in let both = sym there ∙ gone in cc)
    next_by q work false e there = next_same leaving more q work (same q e) (p.next q work there)
