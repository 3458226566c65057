-- What is done with processes that leave, each function of a client's kernel as a whole, keeps that their streams move in turn.
use Rattle.std.proofs.Common.{◌≡◌, ◌⊎◌, inl, inr, ℕ, zero, suc, ◌==◌, Bool, true, false, ◌||◌, not, cond, List, [], ◌∷◌, ◌++◌, Option, Some, None, refl, sym, ap, ◌∙◌, subst, is_some}
use Rattle.std.proofs.lemmas.Bool.{eq-eqb, eqb-true}
use Rattle.std.specs.List.{list_any}
use Rattle.sprite_ids.specs.declared.Grant.{Grant}
use Rattle.sprite_ids.specs.declared.StreamNo.{StreamNo}
use Rattle.sprite_ids.specs.Lists.{EachOnce, less}
use Rattle.sprite_ids.proofs.ListLaws.{some_is}
use Rattle.sprite_ids.proofs.OnceLaws.{or_false, pushed_once}
use Rattle.kernel_steps.specs.Rows.{first_under, is_under}
use Rattle.stream_table.specs.declared.Carried.{Carried}
use Rattle.stream_table.specs.declared.Place.{Place}
use Rattle.stream_table.specs.declared.Stream.{Stream}
use Rattle.stream_table.specs.Entries.{stream_of}
use Rattle.stream_table.specs.Owners.{Owner, descriptor}
use Rattle.stream_table.specs.Streams.{carried_as, carried_one}
use Rattle.stream_table.proofs.EntryLaws.{number_itself, one_number}
use Rattle.unix_calls.specs.declared.About.{About}
use Rattle.unix_calls.specs.declared.Entry.{Entry}
use Rattle.unix_calls.specs.declared.Event.TheVariants as events
use Rattle.migrate_freeze.specs.declared.freeze.Freeze.{Freeze}
use Rattle.migrate_freeze.specs.declared.frozen.MoveStep.{MoveStep}
use Rattle.migrate_freeze.specs.declared.frozen.MoveStep.TheVariants as steps
use Rattle.migrate_freeze.specs.declared.process.Process.{Process}
use Rattle.migrate_freeze.specs.Landing.{IsOneOf, next_of}
use Rattle.migrate_freeze.specs.Moves.{frozen_for, is_moved, is_stream, moved_on, moved_stream, step_by, step_of}
use Rattle.migrate_freeze.specs.OneMove.{OneMove}
use Rattle.migrate_freeze.specs.Packing.{can_move}
use Rattle.migrate_freeze.proofs.LandingLaws.{next_one}
use Rattle.client_file_tables.specs.declared.moves.MoveWork.{MoveWork}
use Rattle.client_file_tables.specs.declared.moves.Report.{Report}
use Rattle.client_file_tables.specs.declared.moves.Report.TheVariants as reports
use Rattle.client_file_tables.specs.declared.pending.Pending.{Pending}
use Rattle.client_file_tables.specs.declared.pending.Pending.TheVariants as operations
use Rattle.client_file_tables.specs.declared.states.MoveState.TheVariants as move_states
use Rattle.client_homes.specs.declared.client.ClientProcs.{ClientProcs}
use Rattle.client_homes.specs.declared.client.Leaving.{Leaving}
use Rattle.client_homes.specs.declared.process.Proc.{Proc}
use Rattle.client_homes.specs.Procs as procs_of
use Rattle.client_homes.specs.Procs.{is_pid, proc_at}
use Rattle.client_homes.specs.Says as says
use Rattle.client_homes.specs.Says.{value}
use Rattle.client_moves.specs.declared.Route.{Route}
use Rattle.client_moves.specs.Carrying.{all_carried, carried_at, carried_upto, with_item}
use Rattle.client_moves.specs.Freezing as freezing
use Rattle.client_moves.specs.Leaving as leaving_of
use Rattle.client_facts.specs.FileFacts.{same_process}
use Rattle.client_facts.proofs.CostLaws.{less_once, none_left, processes_same}
use Rattle.client_walks.proofs.RowLaws.{less_same}
use Rattle.client_rounds.specs.Rounds.{IsUnderWay}
use Rattle.client_rounds.proofs.DeedLaws.{goes_frozen, goes_on_from, some_room}
use Rattle.file_facts.proofs.BookLaws.{or_right}
use Rattle.holder_facts.proofs.Lines.{first_other}
use Rattle.move_facts.specs.MoveFacts.{IsLeaving, IsNext, MovesInTurn, StreamsMoveInTurn, has_moved, move_in, move_of}
use Rattle.move_facts.proofs.Leavers.{Told, found_none, less_other, next_unmoved, none_found, not_noted, push_other, push_own}
use Rattle.move_facts.proofs.MoveLaws as laws

-- what changes is the process's own
pub record OnlyOwn (pid : ℕ) (s t : ClientProcs) : Type 0 where
  pub others : (q : ℕ) → (q == pid) ≡ false → first_under is_pid q t.leaving ≡ first_under is_pid q s.leaving
  pub moves : (q : ℕ) → (q == pid) ≡ false → move_of q t.files.pending ≡ move_of q s.files.pending
  pub told : t.files.results ≡ s.files.results

-- it went on so far
pub record Left (pid : ℕ) (s t : ClientProcs) : Type 0 where
  pub streams : StreamsMoveInTurn t
  pub only : OnlyOwn pid s t

none_by : (b : Bool) → not b ≡ true → b ≡ false
none_by true e = absurd (cc)
none_by false e = refl

abbrev moving_step : MoveStep → Bool
moving_step (steps.Moving moving) = true
moving_step (steps.Sent sent) = false

not_moving : (sent : Freeze) (moving : OneMove) → steps.Sent sent ≡ steps.Moving moving → true ≡ false
not_moving sent moving e = sym (ap moving_step e)

module _ (pid : ℕ) (s : ClientProcs) (once : EachOnce same_process s.leaving) (p : StreamsMoveInTurn s) where
  abbrev fewer : List (ℕ × Leaving)
  fewer = less (is_under is_pid pid) s.leaving

  abbrev taken : ClientProcs
  taken = leaving_of.takes_leaving pid s

  gone : list_any (is_under is_pid pid) fewer ≡ false
  gone = none_left pid s.leaving once

  others_kept : (row : Leaving) (q : ℕ) → (q == pid) ≡ false → first_under is_pid q (fewer ++ (pid, row) ∷ []) ≡ first_under is_pid q s.leaving
  others_kept row q apart = push_other q pid fewer row apart ∙ less_other q pid s.leaving apart

  kept_again : (row : Leaving) → first_under is_pid pid s.leaving ≡ Some row → (q : ℕ) → first_under is_pid q (fewer ++ (pid, row) ∷ []) ≡ first_under is_pid q s.leaving
  kept_again row there q = by_test (q == pid) refl
    where
      by_test : (b : Bool) → (q == pid) ≡ b → first_under is_pid q (fewer ++ (pid, row) ∷ []) ≡ first_under is_pid q s.leaving
      by_test true e = subst (λ (n : ℕ). first_under is_pid n (fewer ++ (pid, row) ∷ []) ≡ first_under is_pid n s.leaving) (sym (eqb-true q pid e)) (push_own pid fewer row gone ∙ sym there)
      by_test false e = others_kept row q e

  -- the next stream moves
  moving_by : (b : Bool) (one : OneMove) (about : Option About) → not (list_any (is_under is_pid pid) s.files.pending) ≡ b → first_under is_pid pid s.leaving ≡ Some (record { step = steps.Moving one; about = about })
      → Left pid s (leaving_of.keeps_leaving pid (steps.Moving one) about (cond b (leaving_of.begins_move pid one about taken) taken))
  moving_by true one about e there =
      let work : MoveWork = record { about = about; stream = one.item.number; to = one.freeze.to; state = move_states.WaitLock } in
      let row : Leaving = record { step = steps.Moving one; about = about } in
      let rows : List (ℕ × Pending) = s.files.pending ++ (pid, operations.Move work) ∷ [] in
      record {
        streams = laws.same_leaving s.leaving (fewer ++ (pid, row) ∷ []) rows s.files.streams.owners s.files.results (kept_again row there)
            (laws.begun s.leaving s.files.pending s.files.streams.owners s.files.results pid work (none_by (list_any (is_under is_pid pid) s.files.pending) e) (record { found = row; moving = one; there = there; step = refl; same = refl }) p);
        only = record { others = λ q apart. others_kept row q apart; moves = λ q apart. ap move_in (first_other q pid s.files.pending (operations.Move work) apart); told = refl };
      }
  moving_by false one about e there =
      let row : Leaving = record { step = steps.Moving one; about = about } in
      record {
        streams = laws.same_leaving s.leaving (fewer ++ (pid, row) ∷ []) s.files.pending s.files.streams.owners s.files.results (kept_again row there) p;
        only = record { others = λ q apart. others_kept row q apart; moves = λ q apart. refl; told = refl };
      }

  -- or none is left
  idle : (sent : Freeze) (about : Option About) → first_under is_pid pid s.leaving ≡ Some (record { step = steps.Sent sent; about = about }) → move_of pid s.files.pending ≡ None
  idle sent about there = by_move (move_of pid s.files.pending) refl
    where
      by_move : (o : Option MoveWork) → move_of pid s.files.pending ≡ o → o ≡ None
      by_move None e = refl
      by_move (Some work) e =
          absurd (let mine : IsNext s.leaving pid work = p.next pid work e in
          let same = some_is (record { step = steps.Sent sent; about = about }) mine.found (sym there ∙ mine.there) in
          let never = not_moving sent mine.moving (ap (λ (l : Leaving). l.step) same ∙ mine.step) in
          cc)

  sent_by : (b : Bool) (sent : Freeze) (about : Option About) → first_under is_pid pid s.leaving ≡ Some (record { step = steps.Sent sent; about = about }) → Left pid s (cond b (leaving_of.keeps_leaving pid (steps.Sent sent) about taken) (leaving_of.sends_process sent about taken))
  sent_by true sent about there =
      let row : Leaving = record { step = steps.Sent sent; about = about } in
      record {
        streams = laws.same_leaving s.leaving (fewer ++ (pid, row) ∷ []) s.files.pending s.files.streams.owners s.files.results (kept_again row there) p;
        only = record { others = λ q apart. others_kept row q apart; moves = λ q apart. refl; told = refl };
      }
  sent_by false sent about there = record {
    streams = laws.other_leaving s.leaving fewer s.files.pending s.files.streams.owners s.files.results s.files.results pid (idle sent about there) (λ q apart none. none) (λ q apart. less_other q pid s.leaving apart)
        (λ found moving leaves step. absurd (let none = none_found pid fewer gone in let both = sym leaves ∙ none in cc)) p;
    only = record { others = λ q apart. less_other q pid s.leaving apart; moves = λ q apart. refl; told = refl };
  }

  left_as : (step : MoveStep) (about : Option About) → first_under is_pid pid s.leaving ≡ Some (record { step = step; about = about }) → Left pid s (leaving_of.leaves_as pid step about taken)
  left_as (steps.Moving one) about there = moving_by (not (list_any (is_under is_pid pid) s.files.pending)) one about refl there
  left_as (steps.Sent sent) about there = sent_by (list_any (leaving_of.is_page_out pid) s.unfinished) sent about there

  left_if : (o : Option Leaving) → first_under is_pid pid s.leaving ≡ o → Left pid s (leaving_of.leaves_if pid o taken)
  left_if None there =
      let same : fewer ≡ s.leaving = less_same pid s.leaving there in
      record {
        streams = laws.same_leaving s.leaving fewer s.files.pending s.files.streams.owners s.files.results (λ q. ap (first_under is_pid q) same) p;
        only = record { others = λ q apart. ap (first_under is_pid q) same; moves = λ q apart. refl; told = refl };
      }
  left_if (Some found) there = left_as found.step found.about there

  pub left_on : Left pid s (leaving_of.leaves_on pid s)
  left_on = left_if (leaving_of.leaving_at pid s) refl

-- What is told

told_by : (pid : ℕ) (s t : ClientProcs) → OnlyOwn pid s t → has_moved pid s.files.results ≡ false → Told s.leaving s.files.pending s.files.results → Told t.leaving t.files.pending s.files.results
told_by pid s t only none told = record {
  once = told.once;
  free = λ q work e. free_by q work (q == pid) refl e;
  leads = λ q e. leads_by q (q == pid) refl e;
}
  where
    free_by : (q : ℕ) (work : MoveWork) (b : Bool) → (q == pid) ≡ b → move_of q t.files.pending ≡ Some work → has_moved q s.files.results ≡ false
    free_by q work true e there = ap (λ (n : ℕ). has_moved n s.files.results) (eqb-true q pid e) ∙ none
    free_by q work false e there = told.free q work (sym (only.moves q e) ∙ there)

    leads_by : (q : ℕ) (b : Bool) → (q == pid) ≡ b → has_moved q s.files.results ≡ true → is_some (first_under is_pid q t.leaving) ≡ true
    leads_by q true e there = absurd (let no = ap (λ (n : ℕ). has_moved n s.files.results) (eqb-true q pid e) ∙ none in let both = sym there ∙ no in cc)
    leads_by q false e there = ap is_some (only.others q e) ∙ told.leads q there

pub told_left : (pid : ℕ) (s t : ClientProcs) → OnlyOwn pid s t → has_moved pid s.files.results ≡ false → Told s.leaving s.files.pending s.files.results → Told t.leaving t.files.pending t.files.results
told_left pid s t only none told = subst (λ (results : List Report). Told t.leaving t.files.pending results) (sym only.told) (told_by pid s t only none told)

-- A stream has moved

is_turned : (n m : StreamNo) → is_stream n m ≡ false → is_stream m n ≡ false
is_turned n m e = by_test (is_stream m n) refl
  where
    by_test : (b : Bool) → is_stream m n ≡ b → b ≡ false
    by_test false f = refl
    by_test true f = absurd (let same : m ≡ n = one_number m n f in let yes : is_stream n m ≡ true = ap (is_stream n) same ∙ number_itself n in let both = sym yes ∙ e in cc)

-- the next one, where that has moved
moved_next : (owners : List Owner) (pid : ℕ) (one : OneMove) (place : Place) (grant : Option Grant) (many : ℕ) (o : Option Carried) → IsLeaving owners pid one → next_of (moved_on one place grant many) ≡ o → IsUnderWay (step_by (moved_on one place grant many) o) → (moving : OneMove) → step_by (moved_on one place grant many) o ≡ steps.Moving moving
    → (IsLeaving owners pid moving) × (descriptor owners pid moving.item.fd ≡ Some moving.item.number)
moved_next owners pid one place grant many None g e way moving step = absurd (let never = not_moving (moved_on one place grant many) moving step in cc)
moved_next owners pid one place grant many (Some item) g e way moving step =
    subst (λ (m : OneMove). (IsLeaving owners pid m) × (descriptor owners pid m.item.fd ≡ Some m.item.number)) (laws.moving_is (record { freeze = moved_on one place grant many; item = item }) moving step)
    (record { way = way; rest = λ other inside unmoved apart. rest other inside unmoved }, rest item (found (next_one (moved_on one place grant many).moved None one.freeze.process.streams item e)) (next_unmoved (moved_on one place grant many).moved None one.freeze.process.streams item (λ never. absurd (cc)) e))
  where
    found : (None ≡ Some item) ⊎ IsOneOf one.freeze.process.streams item → IsOneOf one.freeze.process.streams item
    found (inl never) = absurd (cc)
    found (inr inside) = inside

    rest : (other : Carried) → IsOneOf one.freeze.process.streams other → is_moved other.number (moved_on one place grant many).moved ≡ false → descriptor owners pid other.fd ≡ Some other.number
    rest other inside unmoved =
        let before = not_noted other.number (moved_stream one.item place grant many) one.freeze.moved (some_room one g.way.0 g.way.1) unmoved in
        g.rest other inside before.0 (is_turned other.number one.item.number before.1)

-- the report of it is taken: the next one moves
module _ (pid : ℕ) (place : Place) (grant : Option Grant) (many : ℕ) (rest : List Report) (s : ClientProcs) (once : EachOnce same_process s.leaving) (e : s.files.results ≡ reports.Moved pid place grant many ∷ rest) (p : StreamsMoveInTurn s) (told : Told s.leaving s.files.pending s.files.results) where
  abbrev after : ClientProcs
  after = record s { files = record s.files { results = rest } }

  abbrev less_one : List (ℕ × Leaving)
  less_one = less (is_under is_pid pid) s.leaving

  moves_told : MovesInTurn s.leaving s.files.pending s.files.streams.owners (reports.Moved pid place grant many ∷ rest)
  moves_told = subst (λ (results : List Report). MovesInTurn s.leaving s.files.pending s.files.streams.owners results) e p

  told_first : Told s.leaving s.files.pending (reports.Moved pid place grant many ∷ rest)
  told_first = subst (λ (results : List Report). Told s.leaving s.files.pending results) e told

  idle_move : move_of pid s.files.pending ≡ None
  idle_move = by_move (move_of pid s.files.pending) refl
    where
      by_move : (o : Option MoveWork) → move_of pid s.files.pending ≡ o → o ≡ None
      by_move None f = refl
      by_move (Some work) f = absurd (let no = (or_false (pid == pid) (has_moved pid rest) (told_first.free pid work f)).0 in let yes = eq-eqb pid pid refl in let both = sym yes ∙ no in cc)

  off : (q : ℕ) → (q == pid) ≡ false → has_moved q rest ≡ false → has_moved q (reports.Moved pid place grant many ∷ rest) ≡ false
  off q apart none = ap (λ (b : Bool). b || has_moved q rest) (turned (pid == q) refl) ∙ none
    where
      turned : (b : Bool) → (pid == q) ≡ b → b ≡ false
      turned true f = absurd (let yes = eq-eqb q pid (sym (eqb-true pid q f)) in let both = sym yes ∙ apart in cc)
      turned false f = refl

  -- what is told afterwards, where others leave as before
  told_rest : (leaving : List (ℕ × Leaving)) → ((q : ℕ) → (q == pid) ≡ false → first_under is_pid q leaving ≡ first_under is_pid q s.leaving) → Told leaving s.files.pending rest
  told_rest leaving same = record {
    once = told_first.once.1;
    free = λ q work f. (or_false (pid == q) (has_moved q rest) (told_first.free q work f)).1;
    leads = λ q f. leads_by q (q == pid) refl f;
  }
    where
      leads_by : (q : ℕ) (b : Bool) → (q == pid) ≡ b → has_moved q rest ≡ true → is_some (first_under is_pid q leaving) ≡ true
      leads_by q true f there = absurd (let no = ap (λ (n : ℕ). has_moved n rest) (eqb-true q pid f) ∙ told_first.once.0 in let both = sym there ∙ no in cc)
      leads_by q false f there = ap is_some (same q f) ∙ told_first.leads q (or_right (pid == q) (has_moved q rest) there)

  -- with that in the place of what was known of it
  record Noted (t : ClientProcs) : Type 0 where
    once_more : EachOnce same_process t.leaving
    streams : StreamsMoveInTurn t
    told_more : Told t.leaving t.files.pending t.files.results
    none : has_moved pid t.files.results ≡ false
    same : t.files.results ≡ rest

  noted_if : (o : Option Leaving) → first_under is_pid pid s.leaving ≡ o → Noted (leaving_of.notes_move_if pid o place grant many (leaving_of.takes_leaving pid after))
  noted_if None there = record {
    once_more = less_once same_process (is_under is_pid pid) s.leaving once;
    streams = laws.other_leaving s.leaving less_one s.files.pending s.files.streams.owners (reports.Moved pid place grant many ∷ rest) rest pid idle_move off (λ q apart. less_other q pid s.leaving apart)
        (λ found moving leaves step. absurd (let same = ap (first_under is_pid pid) (less_same pid s.leaving there) in let both = sym leaves ∙ same ∙ there in cc)) moves_told;
    told_more = told_rest less_one (λ q apart. less_other q pid s.leaving apart);
    none = told_first.once.0;
    same = refl;
  }
  noted_if (Some found) there =
      let step : MoveStep = leaving_of.moved_step place grant many found.step in
      let row : Leaving = record { step = step; about = found.about } in
      let gone_one : list_any (is_under is_pid pid) less_one ≡ false = none_left pid s.leaving once in
      record {
        once_more = pushed_once same_process processes_same (pid, row) less_one (gone_one) (less_once same_process (is_under is_pid pid) s.leaving once);
        streams = laws.other_leaving s.leaving (less_one ++ (pid, row) ∷ []) s.files.pending s.files.streams.owners (reports.Moved pid place grant many ∷ rest) rest pid idle_move off (λ q apart. push_other q pid less_one row apart ∙ less_other q pid s.leaving apart)
            (λ other moving leaves at. own found.step refl moving (ap (λ (l : Leaving). l.step) (some_is row other (sym (push_own pid less_one row gone_one) ∙ leaves)) ∙ at)) moves_told;
        told_more = told_rest (less_one ++ (pid, row) ∷ []) (λ q apart. push_other q pid less_one row apart ∙ less_other q pid s.leaving apart);
        none = told_first.once.0;
        same = refl;
      }
    where
      own : (before : MoveStep) → found.step ≡ before → (moving : OneMove) → leaving_of.moved_step place grant many before ≡ steps.Moving moving → (IsLeaving s.files.streams.owners pid moving) × (descriptor s.files.streams.owners pid moving.item.fd ≡ Some moving.item.number)
      own (steps.Moving one) f moving step =
          let g : IsLeaving s.files.streams.owners pid one = p.goes pid found one there f in
          moved_next s.files.streams.owners pid one place grant many (next_of (moved_on one place grant many)) g refl (goes_on_from (steps.Moving one) place grant many g.way).way moving step
      own (steps.Sent sent) f moving step = absurd (let never = not_moving sent moving step in cc)

  pub has_moved_on : (StreamsMoveInTurn (leaving_of.has_moved pid place grant many after)) × (Told (leaving_of.has_moved pid place grant many after).leaving (leaving_of.has_moved pid place grant many after).files.pending (leaving_of.has_moved pid place grant many after).files.results × ((leaving_of.has_moved pid place grant many after).files.results ≡ rest))
  has_moved_on =
      let noted : ClientProcs = leaving_of.notes_move_if pid (leaving_of.leaving_at pid after) place grant many (leaving_of.takes_leaving pid after) in
      let so : Noted noted = noted_if (leaving_of.leaving_at pid s) refl in
      let left : Left pid noted (leaving_of.leaves_on pid noted) = left_on pid noted so.once_more so.streams in
      (left.streams, (told_left pid noted (leaving_of.leaves_on pid noted) left.only so.none so.told_more, left.only.told ∙ so.same))

-- A process is frozen

carried_one_is : (o : Option StreamNo) (s : ClientProcs) (fd : ℕ) (item : Carried) → carried_one s.files.streams.entries fd o ≡ Some item → (o ≡ Some item.number) × (fd ≡ item.fd)
carried_one_is None s fd item e = absurd (cc)
carried_one_is (Some number) s fd item e = by_stream (stream_of s.files.streams.entries number) e
  where
    by_stream : (o : Option Stream) → carried_as fd number o ≡ Some item → (Some number ≡ Some item.number) × (fd ≡ item.fd)
    by_stream None f = absurd (cc)
    by_stream (Some stream) f = let same = some_is (record { fd = fd; number = number; stream = stream }) item f in (ap (λ (x : Carried). Some x.number) same, ap (λ (x : Carried). x.fd) same)

last_of : (items : List Carried) (x item : Carried) → IsOneOf (items ++ x ∷ []) item → (IsOneOf items item) ⊎ (item ≡ x)
last_of [] x item (inl here) = inr here
last_of [] x item (inr there) = absurd there
last_of (first ∷ rest) x item (inl here) = inl (inl here)
last_of (first ∷ rest) x item (inr there) = behind (last_of rest x item there)
  where
    behind : (IsOneOf rest item) ⊎ (item ≡ x) → (IsOneOf (first ∷ rest) item) ⊎ (item ≡ x)
    behind (inl inside) = inl (inr inside)
    behind (inr last) = inr last

-- each descriptor that a process carries leads to its stream
carried_held : (count pid : ℕ) (s : ClientProcs) (item : Carried) → IsOneOf (carried_upto count pid s) item → descriptor s.files.streams.owners pid item.fd ≡ Some item.number
carried_held zero pid s item inside = absurd inside
carried_held (suc count) pid s item inside = by_item (carried_at pid count s) refl inside (carried_held count pid s item)
  where
    by_item : (o : Option Carried) → carried_at pid count s ≡ o → IsOneOf (with_item o (carried_upto count pid s)) item → (IsOneOf (carried_upto count pid s) item → descriptor s.files.streams.owners pid item.fd ≡ Some item.number) → descriptor s.files.streams.owners pid item.fd ≡ Some item.number
    by_item None e there later = later there
    by_item (Some x) e there later = by_place (last_of (carried_upto count pid s) x item there)
      where
        by_place : (IsOneOf (carried_upto count pid s) item) ⊎ (item ≡ x) → descriptor s.files.streams.owners pid item.fd ≡ Some item.number
        by_place (inl before) = later before
        by_place (inr last) =
            let one = carried_one_is (descriptor s.files.streams.owners pid count) s count x e in
            subst (λ (y : Carried). descriptor s.files.streams.owners pid y.fd ≡ Some y.number) (sym last) (ap (λ (fd : ℕ). descriptor s.files.streams.owners pid fd) (sym one.1) ∙ one.0)

all_held : (pid : ℕ) (s : ClientProcs) (item : Carried) → IsOneOf (all_carried pid s) item → descriptor s.files.streams.owners pid item.fd ≡ Some item.number
unfolding all_carried
all_held pid s item inside = carried_held 16 pid s item inside

module _ (pid : ℕ) (streams : List Carried) (results : List Report) where
  -- it is here, with these streams
  record Before (s : ClientProcs) : Type 0 where
    apart : (proc : Proc) → proc_at pid s ≡ Some proc → first_under is_pid pid s.leaving ≡ None
    once : EachOnce same_process s.leaving
    moves : StreamsMoveInTurn s
    held : (item : Carried) → IsOneOf streams item → descriptor s.files.streams.owners pid item.fd ≡ Some item.number
    told : Told s.leaving s.files.pending s.files.results
    same : s.files.results ≡ results

  -- it was taken out
  record Out (s : ClientProcs) : Type 0 where
    none : first_under is_pid pid s.leaving ≡ None
    once : EachOnce same_process s.leaving
    moves : StreamsMoveInTurn s
    held : (item : Carried) → IsOneOf streams item → descriptor s.files.streams.owners pid item.fd ≡ Some item.number
    told : Told s.leaving s.files.pending s.files.results
    same : s.files.results ≡ results

  pub record Frozen (s : ClientProcs) : Type 0 where
    pub moves : StreamsMoveInTurn s
    pub told : Told s.leaving s.files.pending s.files.results
    pub same : s.files.results ≡ results

  entered_if : (o : Option Entry) (s : ClientProcs) → Before s → Before (procs_of.enters_if o s)
  entered_if (Some entry) s b = record { apart = b.apart; once = b.once; moves = b.moves; held = b.held; told = b.told; same = b.same }
  entered_if None s b = b

  entered : (o : Option About) (s : ClientProcs) → Before s → Before (freezing.enters_move pid o s)
  entered (Some about) s b = entered_if (procs_of.entry_at pid (value 0 0) s) s b
  entered None s b = b

  pages_put : (pages : List (ℕ × List ℕ)) (s : ClientProcs) → Out s → Out (freezing.puts_pages pid pages s)
  pages_put [] s b = b
  pages_put (page ∷ pages) s b = pages_put pages (freezing.puts_page pid page.0 page.1 s) (record { none = b.none; once = b.once; moves = b.moves; held = b.held; told = b.told; same = b.same })

  idle_out : (s : ClientProcs) → Out s → move_of pid s.files.pending ≡ None
  idle_out s b = by_move (move_of pid s.files.pending) refl
    where
      by_move : (o : Option MoveWork) → move_of pid s.files.pending ≡ o → o ≡ None
      by_move None e = refl
      by_move (Some work) e = absurd (let mine : IsNext s.leaving pid work = b.moves.next pid work e in let there = mine.there in let none = b.none in let both = sym there ∙ none in cc)

  none_told : (s : ClientProcs) → Out s → has_moved pid s.files.results ≡ false
  none_told s b = by_told (has_moved pid s.files.results) refl
    where
      by_told : (c : Bool) → has_moved pid s.files.results ≡ c → c ≡ false
      by_told false e = refl
      by_told true e = absurd (let leads = b.told.leads pid e in let none = ap is_some b.none in let both = sym leads ∙ none in cc)

  frozen_next : (freeze : Freeze) (owners : List Owner) (o : Option Carried) → IsUnderWay (step_by freeze o) → ((item : Carried) → IsOneOf freeze.process.streams item → descriptor owners pid item.fd ≡ Some item.number) → next_of freeze ≡ o → (moving : OneMove) → step_by freeze o ≡ steps.Moving moving
      → (IsLeaving owners pid moving) × (descriptor owners pid moving.item.fd ≡ Some moving.item.number)
  frozen_next freeze owners None way held e moving step = absurd (let never = not_moving freeze moving step in cc)
  frozen_next freeze owners (Some item) way held e moving step =
      subst (λ (m : OneMove). (IsLeaving owners pid m) × (descriptor owners pid m.item.fd ≡ Some m.item.number)) (laws.moving_is (record { freeze = freeze; item = item }) moving step)
      (record { way = way; rest = λ other inside unmoved apart. held other inside }, held item (found (next_one freeze.moved None freeze.process.streams item e)))
    where
      found : (None ≡ Some item) ⊎ IsOneOf freeze.process.streams item → IsOneOf freeze.process.streams item
      found (inl never) = absurd (cc)
      found (inr inside) = inside

  sent_off : (proc : Proc) (route : Route) (s : ClientProcs) → can_move streams ≡ true → Out s → Frozen (freezing.sends_off pid proc route streams s)
  sent_off proc route s can b =
      let process : Process = freezing.process_of pid proc route streams s in
      let dropped : ClientProcs = freezing.drops_cwd pid s in
      let frozen_one : Freeze = frozen_for process route.to route.program in
      let row : Leaving = record { step = step_of frozen_one; about = route.about } in
      let kept : ClientProcs = leaving_of.keeps_leaving pid row.step route.about dropped in
      let nobody : list_any (is_under is_pid pid) s.leaving ≡ false = found_none pid s.leaving b.none in
      let only : OnlyOwn pid s kept = record { others = λ q apart. push_other q pid s.leaving row apart; moves = λ q apart. refl; told = refl } in
      let moves : StreamsMoveInTurn kept =
      laws.other_leaving s.leaving (s.leaving ++ (pid, row) ∷ []) s.files.pending s.files.streams.owners s.files.results s.files.results pid (idle_out s b) (λ q apart none. none) (λ q apart. push_other q pid s.leaving row apart)
      (λ other moving leaves at.
      frozen_next frozen_one s.files.streams.owners (next_of frozen_one) (goes_frozen process route.to route.program can).way b.held refl moving
      (ap (λ (l : Leaving). l.step) (some_is row other (sym (push_own pid s.leaving row nobody) ∙ leaves)) ∙ at)) b.moves in
      let left : Left pid kept (leaving_of.leaves_on pid kept) = left_on pid kept (pushed_once same_process processes_same (pid, row) s.leaving nobody b.once) moves in
      record {
        moves = left.streams;
        told = told_left pid kept (leaving_of.leaves_on pid kept) left.only (none_told s b) (told_left pid s kept only (none_told s b) b.told);
        same = left.only.told ∙ b.same;
      }

  put_out_if : (o : Option Proc) (route : Route) (s : ClientProcs) → can_move streams ≡ true → proc_at pid s ≡ o → Before s → Frozen (freezing.puts_out_if pid o route streams (freezing.takes_proc pid s))
  put_out_if None route s can e b = record { moves = b.moves; told = b.told; same = b.same }
  put_out_if (Some proc) route s can e b =
      let pages : List (ℕ × List ℕ) = freezing.pages_for route.program proc.image in
      let taken_one : ClientProcs = freezing.takes_proc pid s in
      sent_off (freezing.without_pages route.program proc) route (freezing.puts_pages pid pages taken_one) can (pages_put pages taken_one (record { none = b.apart proc e; once = b.once; moves = b.moves; held = b.held; told = b.told; same = b.same }))

-- unless its streams can't move
pub frozen : (pid : ℕ) (route : Route) (s : ClientProcs) → ((proc : Proc) → proc_at pid s ≡ Some proc → first_under is_pid pid s.leaving ≡ None) → EachOnce same_process s.leaving → StreamsMoveInTurn s → Told s.leaving s.files.pending s.files.results → Frozen pid (all_carried pid s) s.files.results (freezing.freezes pid route s)
frozen pid route s apart once moves told = by_test (can_move (all_carried pid s)) refl
  where
    by_test : (b : Bool) → can_move (all_carried pid s) ≡ b → Frozen pid (all_carried pid s) s.files.results (cond (not b) s (freezing.freezes_with pid route (all_carried pid s) s))
    by_test false e = record { moves = moves; told = told; same = refl }
    by_test true e =
        let noted : ClientProcs = says.notes (events.Freeze pid) s in
        let inside : ClientProcs = freezing.enters_move pid route.about noted in
        put_out_if pid (all_carried pid s) s.files.results (proc_at pid inside) route inside e refl
        (entered pid (all_carried pid s) s.files.results route.about noted (record { apart = apart; once = once; moves = moves; held = all_held pid s; told = told; same = refl }))
