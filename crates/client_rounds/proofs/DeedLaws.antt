-- What the deeds of a round do to what is on its way to a process.
use Rattle.std.proofs.Common.{arith, ◌≡◌, ℕ, zero, suc, ◌+◌, ◌*◌, ◌≤◌, ◌==◌, Bool, true, false, ◌&&◌, not, cond, List, [], ◌∷◌, ◌++◌, length, Option, Some, None, option_map, is_some, refl, sym, ap, ◌∙◌, subst}
use Rattle.std.proofs.lemmas.Bool.{and_parts, eq-eqb, eqb-true, le-leb, leb-true}
use Rattle.std.specs.BTreeMap.{is_at}
use Rattle.std.specs.List.{AllByRecursion, find, list_any}
use Rattle.std.specs.Map.{lookup, remove_entry, set_value}
use Rattle.std.specs.Ordering.{nat_cmp}
use Rattle.sprite_ids.specs.declared.Ending.TheVariants.{Killed}
use Rattle.sprite_ids.specs.declared.Errno.TheVariants.{NoServer}
use Rattle.sprite_ids.specs.declared.Grant.{Grant}
use Rattle.sprite_ids.specs.declared.TxNo.{TxNo}
use Rattle.sprite_ids.specs.Lists.{less, one_if, total}
use Rattle.sprite_ids.specs.Pid.{home_of}
use Rattle.sprite_ids.proofs.ListLaws.{each_push, some_is}
use Rattle.sprite_ids.proofs.OnceLaws.{found_passes}
use Rattle.process_machine.specs.declared.Reply.{Reply}
use Rattle.process_machine.specs.declared.Reply.TheVariants.{Error, Value}
use Rattle.pseudo_device.specs.declared.ask.Ask.{Ask}
use Rattle.pseudo_device.specs.Device.{Asks}
use Rattle.stream_table.specs.declared.Carried.{Carried}
use Rattle.stream_table.specs.declared.Place.{Place}
use Rattle.migrate_freeze.specs.declared.freeze.Freeze.{Freeze}
use Rattle.migrate_freeze.specs.declared.frozen.MoveStep.{MoveStep}
use Rattle.migrate_freeze.specs.declared.frozen.MoveStep.TheVariants as steps
use Rattle.migrate_freeze.specs.declared.moves.MovedStream.{MovedStream}
use Rattle.migrate_freeze.specs.declared.process.Process.{Process}
use Rattle.migrate_freeze.specs.Landing.{Took, moved_all, moved_once, next_of}
use Rattle.migrate_freeze.specs.Moves.{frozen_for, moved_on, moved_stream, noted, step_by, step_of}
use Rattle.migrate_freeze.specs.OneMove.{OneMove}
use Rattle.migrate_freeze.specs.Packing.{can_move}
use Rattle.migrate_freeze.proofs.EndLaws.{moves_end}
use Rattle.packet_bodies.specs.declared.Request.TheVariants as requests
use Rattle.unix_calls.specs.declared.About.{About}
use Rattle.unix_calls.specs.declared.Event.TheVariants as events
use Rattle.kernel_steps.specs.Rows.{first_under, is_under}
use Rattle.client_file_tables.specs.declared.client_files.ClientFiles.{ClientFiles}
use Rattle.client_file_tables.specs.declared.moves.Report.{Report}
use Rattle.client_file_tables.specs.declared.pending.Pending.{Pending}
use Rattle.client_file_tables.specs.declared.pending.Pending.TheVariants as operations
use Rattle.client_file_tables.specs.declared.MoveState.TheVariants.{WaitLock}
use Rattle.client_file_tables.specs.Closes as file_closes
use Rattle.client_homes.specs.declared.client.ClientProcs.{ClientProcs}
use Rattle.client_homes.specs.declared.client.Leaving.{Leaving}
use Rattle.client_homes.specs.declared.client.Parked.{Parked}
use Rattle.client_homes.specs.declared.process.Proc.{Proc}
use Rattle.client_homes.specs.declared.process.ProcState.{ProcState}
use Rattle.client_homes.specs.declared.process.ProcState.TheVariants as states
use Rattle.client_homes.specs.Ends as ending
use Rattle.client_homes.specs.Homes as homes
use Rattle.client_homes.specs.Killing as killing
use Rattle.client_homes.specs.Procs as procs_of
use Rattle.client_homes.specs.Procs.{is_pid, proc_at}
use Rattle.client_homes.specs.Says as says
use Rattle.client_homes.specs.Waits as waiting
use Rattle.client_devices.specs.Asking as asking
use Rattle.client_devices.specs.Making as making
use Rattle.client_devices.specs.Tables as tables
use Rattle.client_moves.specs.declared.Route.{Route}
use Rattle.client_moves.specs.Carrying.{all_carried, holds_master}
use Rattle.client_moves.specs.Freezing as freezing
use Rattle.client_moves.specs.Leaving as leaving_of
use Rattle.client_moves.specs.Returning as returning
use Rattle.client_facts.specs.GoingOn.{has_few_fds}
use Rattle.client_facts.proofs.CostLaws.{length_pushed}
use Rattle.client_facts.proofs.PlaceLaws.{by_bool}
use Rattle.client_facts.proofs.RowLaws.{all_append}
use Rattle.client_rounds.specs.Rounds.{IsUnderWay, MovesFit, ask_of, move_of, of_process, room_in, wait_of, work_of}
use Rattle.client_rounds.proofs.RunLaws.{answer_of, one}
use Rattle.client_rounds.proofs.Sides.{Stands, each, left_of, own_ask, own_wait, room_of, side_of, stands_less}
use Rattle.client_rounds.proofs.Totals.{less_none, removed_none, total_first, total_found, total_push, total_removed, total_set}
use Rattle.client_walks.proofs.RowLaws.{each_less}

-- The room that a frozen process has

room_one : (new : MovedStream) (places : List (Option MovedStream)) → room_in places ≤ suc (room_in (noted new places))
room_one new [] = omega arith
room_one new (None ∷ rest) = omega arith
room_one new (Some moved ∷ rest) = (let less = room_one new rest in omega arith)

room_less : (new : MovedStream) (places : List (Option MovedStream)) → 1 ≤ room_in places → suc (room_in (noted new places)) ≡ room_in places
room_less new [] h = absurd (omega arith)
room_less new (None ∷ rest) h = omega arith
room_less new (Some moved ∷ rest) h = (let less = room_less new rest (omega arith) in omega arith)

-- what a move that begins wakes
abbrev pub need : MoveStep → ℕ
need (steps.Moving moving) = 1
need (steps.Sent sent) = 0

need_most : (step : MoveStep) → need step ≤ 1
need_most (steps.Moving moving) = omega arith
need_most (steps.Sent sent) = omega arith

room_most : (step : MoveStep) → room_of step + need step ≤ 17 → room_of step ≤ 16
room_most (steps.Moving moving) h = omega arith
room_most (steps.Sent sent) h = omega arith

pub record Goes (room : ℕ) (step : MoveStep) : Type 0 where
  pub way : IsUnderWay step
  pub less : room_of step + need step ≤ room

goes_by : (freeze : Freeze) (o : Option Carried) (room : ℕ) → next_of freeze ≡ o → MovesFit freeze → room_in freeze.moved + 1 ≤ room → Goes room (step_by freeze o)
goes_by freeze (Some item) room e fit h = record { way = (e, fit); less = h }
goes_by freeze None room e fit h = record { way = tt; less = omega arith }

pub some_room : (moving : OneMove) → next_of moving.freeze ≡ Some moving.item → MovesFit moving.freeze → 1 ≤ room_in moving.freeze.moved
some_room moving e fit = by_room (room_in moving.freeze.moved) refl
  where
    by_room : (n : ℕ) → room_in moving.freeze.moved ≡ n → 1 ≤ n
    by_room zero same = absurd (let none = fit.end [] (omega arith) in let both = sym none ∙ e in cc)
    by_room (suc n) same = omega arith

-- a move of a stream leaves less room
goes_moved : (moving : OneMove) (place : Place) (grant : Option Grant) (many : ℕ) → IsUnderWay (steps.Moving moving) → Goes (room_in moving.freeze.moved) (step_of (moved_on moving place grant many))
goes_moved moving place grant many way =
    let new : MovedStream = moved_stream moving.item place grant many in
    let took : Took = record { place = place; grant = grant; grants = many } in
    let some = some_room moving way.0 way.1 in
    let less = room_less new moving.freeze.moved some in
    let few = way.1.few in
    goes_by (moved_on moving place grant many) (next_of (moved_on moving place grant many)) (room_in moving.freeze.moved) refl
    (record {
      few = omega arith;
      end = λ moves h. subst (λ (o : Option Carried). next_of (moved_all moves (moved_once took moving.freeze o)) ≡ None) way.0 (way.1.end (took ∷ moves) (omega arith));
    })
    (omega arith)

-- and each step, where a stream has moved
pub goes_on_from : (step : MoveStep) (place : Place) (grant : Option Grant) (many : ℕ) → IsUnderWay step → Goes (room_of step) (leaving_of.moved_step place grant many step)
goes_on_from (steps.Moving moving) place grant many way = goes_moved moving place grant many way
goes_on_from (steps.Sent sent) place grant many way = record { way = tt; less = omega arith }

-- and one that was frozen just now
pub goes_frozen : (process : Process) (to : ℕ) (program : Option ℕ) → can_move process.streams ≡ true → Goes 17 (step_of (frozen_for process to program))
goes_frozen process to program can =
    let parts = and_parts _ _ can in
    let few = leb-true (length process.streams) 16 parts.0 in
    goes_by (frozen_for process to program) (next_of (frozen_for process to program)) 17 refl
    (record { few = omega arith; end = λ moves h. moves_end process to program moves can (omega arith) })
    (omega arith)

-- Descriptors that are closed at an end

pub fds_few : (fd pid : ℕ) (s : ClientFiles) → length (file_closes.fds_under fd pid s) ≤ fd
fds_few zero pid s = omega arith
fds_few (suc fd) pid s = by_test (file_closes.is_used pid fd s) (fds_few fd pid s)
  where
    by_test : (b : Bool) → length (file_closes.fds_under fd pid s) ≤ fd → length (cond b (file_closes.fds_under fd pid s ++ fd ∷ []) (file_closes.fds_under fd pid s)) ≤ suc fd
    by_test true h = (let more = length_pushed (file_closes.fds_under fd pid s) fd in omega arith)
    by_test false h = omega arith

-- Rows of processes that leave

none_by : {X : Type 0} (b : Bool) (x : X) (o : Option X) (n : ℕ) → one_if b + n ≤ 0 → (n ≤ 0 → o ≡ None) → cond b (Some x) o ≡ None
none_by true x o n h later = absurd (omega arith)
none_by false x o n h later = later (omega arith)

pub none_there : {V : Type 0} (pid : ℕ) (rows : List (ℕ × V)) → total (of_process pid) rows ≤ 0 → find (is_under is_pid pid) rows ≡ None
none_there pid [] h = refl
none_there {V} pid ((key, value) ∷ rows) h = none_by (key == pid) (key, value) (find (is_under is_pid pid) rows) (total (of_process pid) rows) h (none_there pid rows)

last_by : {V : Type 0} (b : Bool) (row : ℕ × V) (v : V) (o more : Option (ℕ × V)) → cond b (Some row) o ≡ None → (o ≡ None → option_map (λ (row : ℕ × V). row.1) more ≡ Some v) → option_map (λ (row : ℕ × V). row.1) (cond b (Some row) more) ≡ Some v
last_by {V} true row v o more h later = absurd (cc)
last_by {V} false row v o more h later = later h

pub found_last : {V : Type 0} (pid : ℕ) (rows : List (ℕ × V)) (v : V) → find (is_under is_pid pid) rows ≡ None → first_under is_pid pid (rows ++ (pid, v) ∷ []) ≡ Some v
found_last {V} pid [] v none = ap (λ b. option_map (λ (row : ℕ × V). row.1) (cond b (Some (pid, v)) None)) (eq-eqb pid pid refl)
found_last {V} pid ((key, value) ∷ rows) v none = last_by (key == pid) (key, value) v (find (is_under is_pid pid) rows) (find (is_under is_pid pid) (rows ++ (pid, v) ∷ [])) none (found_last pid rows v)

pub self_one : (pid : ℕ) → one_if (pid == pid) ≡ 1
self_one pid = ap one_if (eq-eqb pid pid refl)

each_by : {X : Type 0} (P : X → Type 0) (b : Bool) (first row : X) (o : Option X) → P first → (o ≡ Some row → P row) → cond b (Some first) o ≡ Some row → P row
each_by P true first row o h later e = subst P (some_is first row e) h
each_by P false first row o h later e = later e

each_found : {V : Type 0} (P : ℕ × V → Type 0) (p : ℕ × V → Bool) (rows : List (ℕ × V)) (row : ℕ × V) → AllByRecursion P rows → find p rows ≡ Some row → P row
each_found P p [] row h e = absurd (cc)
each_found {V} P p (first ∷ rows) row h e = each_by P (p first) first row (find p rows) h.0 (each_found P p rows row h.1) e

abbrev pub Way : ℕ × Leaving → Type 0
Way row = IsUnderWay row.1.step

pub way_found : (pid : ℕ) (rows : List (ℕ × Leaving)) (l : Leaving) → AllByRecursion Way rows → first_under is_pid pid rows ≡ Some l → IsUnderWay l.step
way_found pid rows l h e = by_found (find (is_under is_pid pid) rows) refl e
  where
    by_found : (o : Option (ℕ × Leaving)) → find (is_under is_pid pid) rows ≡ o → option_map (λ (row : ℕ × Leaving). row.1) o ≡ Some l → IsUnderWay l.step
    by_found None f k = absurd (cc)
    by_found (Some row) f k = subst (λ (other : Leaving). IsUnderWay other.step) (some_is row.1 l k) (each_found Way (is_under is_pid pid) rows row h f)

module _ (q W : ℕ) (Q : List Report → Type 0) where
  abbrev At : ℕ → ℕ → ℕ → ℕ → ClientProcs → Type 0
  At d l m w s = Stands q W Q d l m w (side_of s)

  abbrev is : ℕ → ℕ
  is pid = one_if (pid == q)

  on_if : (d l m w : ℕ) (b : Bool) (s t : ClientProcs) → At d l m w s → At d l m w t → At d l m w (cond b s t)
  on_if d l m w true s t a c = a
  on_if d l m w false s t a c = c

  less_at : (d l m w e n x : ℕ) (s : ClientProcs) → e ≤ d → n ≤ m → x ≤ w → At d l m w s → At e l n x s
  less_at d l m w e n x s f g h a = stands_less q W Q d l m w e n x (side_of s) f g h a

  -- Processes that are changed

  set_kept : (d l m w : ℕ) (p : ℕ → Bool) (proc : Proc) (s : ClientProcs) → At d l m w s → At d l m w (record s { procs = set_value p s.procs proc })
  set_kept d l m w p proc s a =
      let here_same : total (of_process q) (set_value p s.procs proc) ≡ total (of_process q) s.procs = total_set (λ (key : ℕ). one_if (key == q)) p s.procs proc in
      let count_same : total each (set_value p s.procs proc) ≡ total each s.procs = total_set (λ (key : ℕ). 1) p s.procs proc in
      let due_so = a.due in
      let apart_so = a.apart in
      let weight_so = a.weight in
      record { due = omega arith; moves = a.moves; apart = omega arith; weight = omega arith; ways = a.ways; turns = a.turns; queues = a.queues; short = a.short; held = a.held }

  with_kept : (d l m w pid : ℕ) (o : Option Proc) (f : Proc → Proc) (s : ClientProcs) → At d l m w s → At d l m w (procs_of.with_proc pid (option_map f o) s)
  with_kept d l m w pid None f s a = a
  with_kept d l m w pid (Some proc) f s a = set_kept d l m w (is_at (nat_cmp pid)) (f proc) s a

  in_state : (d l m w pid : ℕ) (state : ProcState) (s : ClientProcs) → At d l m w s → At d l m w (procs_of.in_state pid state s)
  in_state d l m w pid state s a = with_kept d l m w pid (proc_at pid s) (λ proc. record proc { state = state }) s a

  -- a reply more, of what is in hand
  replied : (d l m w pid : ℕ) (reply : Reply) (s : ClientProcs) → At (d + is pid) l m (w + 2) s → At d l m w (procs_of.replies pid reply s)
  replied d l m w pid reply s a =
      let t : ClientProcs = procs_of.in_state pid states.Returning s in
      let b = in_state (d + is pid) l m (w + 2) pid states.Returning s a in
      let more = total_push (of_process q) t.files.out.replies (pid, reply) in
      let ones = total_push one t.files.out.replies (pid, reply) in
      let due_so = b.due in
      let weight_so = b.weight in
      record { due = omega arith; moves = b.moves; apart = b.apart; weight = omega arith; ways = b.ways; turns = b.turns; queues = b.queues; short = b.short; held = b.held }

  -- Waits

  wait_taken : (d l m w pid : ℕ) (parked : Parked) (s : ClientProcs) → first_under is_pid pid s.waits ≡ Some parked → At d l m w s → At (d + wait_of q (pid, parked)) l m (w + 2 * own_wait (pid, parked)) (record s { waits = less (is_under is_pid pid) s.waits })
  wait_taken d l m w pid parked s found a =
      let waits = total_first (wait_of q) pid s.waits parked found in
      let owns = total_first own_wait pid s.waits parked found in
      let due_so = a.due in
      let weight_so = a.weight in
      record { due = omega arith; moves = a.moves; apart = a.apart; weight = omega arith; ways = a.ways; turns = a.turns; queues = a.queues; short = a.short; held = a.held }

  parks_kept : (d l m w pid : ℕ) (parked : Parked) (s : ClientProcs) → At (d + wait_of q (pid, parked)) l m (w + 2 * own_wait (pid, parked)) s → At d l m w (waiting.parks pid parked s)
  parks_kept d l m w pid parked s a =
      let waits = total_push (wait_of q) s.waits (pid, parked) in
      let owns = total_push own_wait s.waits (pid, parked) in
      let due_so = a.due in
      let weight_so = a.weight in
      record { due = omega arith; moves = a.moves; apart = a.apart; weight = omega arith; ways = a.ways; turns = a.turns; queues = a.queues; short = a.short; held = a.held }

  ends_wait : (o : Option TxNo) (d l m w pid : ℕ) (parked : Parked) (reply : Reply) (s : ClientProcs) → parked.tx ≡ o → At (d + wait_of q (pid, parked)) l m (w + 2 * own_wait (pid, parked)) s → At d l m w (waiting.ends_wait pid o reply s)
  ends_wait (Some tx) d l m w pid parked reply s e a = less_at (d + wait_of q (pid, parked)) l m (w + 2 * own_wait (pid, parked)) d m w s (omega arith) (omega arith) (omega arith) a
  ends_wait None d l m w pid parked reply s e a =
      let waits : wait_of q (pid, parked) ≡ is pid = ap (λ (o : Option TxNo). cond (not (is_some o)) (one_if (pid == q)) 0) e in
      let owns : own_wait (pid, parked) ≡ 1 = ap (λ (o : Option TxNo). one_if (not (is_some o))) e in
      replied d l m w pid reply s (less_at (d + wait_of q (pid, parked)) l m (w + 2 * own_wait (pid, parked)) (d + is pid) m (w + 2) s (omega arith) (omega arith) (omega arith) a)

  ends_or_parks : (o : Option Reply) (d l m w pid : ℕ) (parked : Parked) (s : ClientProcs) → At (d + wait_of q (pid, parked)) l m (w + 2 * own_wait (pid, parked)) s → At d l m w (waiting.ends_or_parks pid parked o s)
  ends_or_parks (Some reply) d l m w pid parked s a = ends_wait parked.tx d l m w pid parked reply s refl a
  ends_or_parks None d l m w pid parked s a = parks_kept d l m w pid parked s a

  waited : (d l m w pid : ℕ) (s : ClientProcs) → At d l m w s → At d l m w (homes.waited_at pid s)
  waited d l m w pid s a = on_if d l m w (homes.is_native pid s) _ s a a

  enters_if : (o : Option Reply) (d l m w pid : ℕ) (parked : Parked) (s : ClientProcs) → At d l m w s → At d l m w (waiting.enters_if (waiting.parked_call pid parked) o s)
  enters_if (Some reply) d l m w pid parked s a = a
  enters_if None d l m w pid parked s a = a

  wakes_if : (o : Option Parked) (d l m w pid : ℕ) (s : ClientProcs) → first_under is_pid pid s.waits ≡ o → At d l m w s → At d l m w (waiting.wakes_if pid o (record s { waits = less (is_under is_pid pid) s.waits }))
  wakes_if (Some parked) d l m w pid s found a =
      let left : ClientProcs = record s { waits = less (is_under is_pid pid) s.waits } in
      let taken : At (d + wait_of q (pid, parked)) l m (w + 2 * own_wait (pid, parked)) left = wait_taken d l m w pid parked s found a in
      let asked : ClientProcs = homes.waited_at pid left in
      let entered : ClientProcs = waiting.waits (waiting.parked_call pid parked) left in
      ends_or_parks (waiting.wait_reply pid left) d l m w pid parked entered
      (enters_if (waiting.wait_reply pid left) (d + wait_of q (pid, parked)) l m (w + 2 * own_wait (pid, parked)) pid parked asked (waited (d + wait_of q (pid, parked)) l m (w + 2 * own_wait (pid, parked)) pid left taken))
  wakes_if None d l m w pid s found a = subst (λ (rows : List (ℕ × Parked)). Stands q W Q d l m w (record (side_of s) { waits = rows })) (sym (less_none (is_under is_pid pid) s.waits (none_found s.waits found))) a
    where
      none_found : (rows : List (ℕ × Parked)) → first_under is_pid pid rows ≡ None → find (is_under is_pid pid) rows ≡ None
      none_found rows e = by_found (find (is_under is_pid pid) rows) e
        where
          by_found : (o : Option (ℕ × Parked)) → option_map (λ (row : ℕ × Parked). row.1) o ≡ None → o ≡ None
          by_found None k = refl
          by_found (Some row) k = absurd (cc)

  wakes_parent : (o : Option ℕ) (d l m w : ℕ) (s : ClientProcs) → At d l m w s → At d l m w (waiting.wakes_parent o s)
  wakes_parent None d l m w s a = a
  wakes_parent (Some parent) d l m w s a = wakes_if (first_under is_pid parent s.waits) d l m w parent s refl a

  wakes_after : (d l m w pid : ℕ) (s : ClientProcs) → At d l m w s → At d l m w (waiting.wakes_after pid s)
  wakes_after d l m w pid s a =
      let forgot : ClientProcs = killing.forgets_waiting pid s in
      wakes_parent (homes.parent_in pid forgot) d l m w forgot (on_if d l m w (killing.is_waiting (killing.kill_at pid s)) _ s a a)

  -- Deaths

  ends : (d l m w pid : ℕ) (about : Option About) (s : ClientProcs) → At (d + is pid) l m (w + 1) s → At d l m w (ending.ends pid about s)
  unfolding ending.closes_all
  ends d l m w pid about s a =
      let t : ClientProcs = procs_of.in_state pid states.Ending s in
      let b = in_state (d + is pid) l m (w + 1) pid states.Ending s a in
      let operation : Pending = operations.Close (file_closes.ends_by about (file_closes.fds_of pid t.files)) in
      let works = total_push (work_of q) t.files.pending (pid, operation) in
      let moves = total_push (move_of q) t.files.pending (pid, operation) in
      let answers = total_push answer_of t.files.pending (pid, operation) in
      let woken = length_pushed t.files.ready pid in
      let few = le-leb (length (file_closes.fds_of pid t.files)) 16 (fds_few 16 pid t.files) in
      let due_so = b.due in
      let moves_so = b.moves in
      let weight_so = b.weight in
      record { due = omega arith; moves = omega arith; apart = b.apart; weight = omega arith; ways = b.ways; turns = b.turns; queues = b.queues; short = all_append has_few_fds t.files.pending ((pid, operation) ∷ []) b.short (ap (λ c. c && true) few); held = b.held }

  ended_at : (d l m w pid : ℕ) (s : ClientProcs) → At d l m w s → At d l m w (homes.ends_at pid Killed s)
  ended_at d l m w pid s a = on_if d l m w (homes.is_native pid s) _ s a a

  dies_as : (about : About) (w : ℕ) (s : ClientProcs) → At (is about.pid) 0 0 (w + 2) s → At 0 0 0 (w + 1) (ending.dies_as about s)
  dies_as about w s a =
      let entered : ClientProcs = says.enters_death about s in
      let ended : ClientProcs = ending.ends_by_death about s in
      on_if 0 0 0 (w + 1) (homes.is_native about.pid s) _ _
      (ends 0 0 0 (w + 1) about.pid None (waiting.wakes_after about.pid ended) (less_at (is about.pid) 0 0 (w + 2) (0 + is about.pid) 0 (w + 1 + 1) (waiting.wakes_after about.pid ended) (omega arith) (omega arith) (omega arith) (wakes_after (is about.pid) 0 0 (w + 2) about.pid ended (ended_at (is about.pid) 0 0 (w + 2) about.pid entered a))))
      (in_state 0 0 0 (w + 1) about.pid (states.Dying (says.next_tx s)) (says.sends (home_of about.pid) None (requests.Home (ending.death_call about)) s) (less_at (is about.pid) 0 0 (w + 2) 0 0 (w + 1) s (omega arith) (omega arith) (omega arith) a))

  dies_by : (o : Option ℕ) (pid w : ℕ) (s : ClientProcs) → At (is pid) 0 0 (w + 2) s → At 0 0 0 (w + 1) (ending.dies_by pid o s)
  dies_by (Some number) pid w s a = dies_as (record { pid = pid; number = number }) w s a
  dies_by None pid w s a = less_at (is pid) 0 0 (w + 2) 0 0 (w + 1) s (omega arith) (omega arith) (omega arith) a

  -- Processes that leave

  leaves_more : (d m w pid : ℕ) (step : MoveStep) (about : Option About) (s : ClientProcs) → IsUnderWay step → At d (is pid) m (w + room_of step) s → At d 0 m w (leaving_of.keeps_leaving pid step about s)
  leaves_more d m w pid step about s way a =
      let row : ℕ × Leaving = (pid, record { step = step; about = about }) in
      let more = total_push (of_process q) s.leaving row in
      let room = total_push left_of s.leaving row in
      let moves_so = a.moves in
      let apart_so = a.apart in
      let weight_so = a.weight in
      record { due = a.due; moves = omega arith; apart = omega arith; weight = omega arith; ways = each_push Way s.leaving row a.ways way; turns = a.turns; queues = a.queues; short = a.short; held = a.held }

  leaves_less : (d w pid : ℕ) (found : Leaving) (s : ClientProcs) → leaving_of.leaving_at pid s ≡ Some found → At d 0 (is pid) w s → At d (is pid) (is pid) (w + room_of found.step) (leaving_of.takes_leaving pid s)
  leaves_less d w pid found s e a =
      let less_there = total_first (of_process q) pid s.leaving found e in
      let room = total_first left_of pid s.leaving found e in
      let moves_so = a.moves in
      let apart_so = a.apart in
      let weight_so = a.weight in
      record { due = a.due; moves = omega arith; apart = omega arith; weight = omega arith; ways = each_less Way (is_under is_pid pid) s.leaving a.ways; turns = a.turns; queues = a.queues; short = a.short; held = a.held }

  move_begun : (d w pid : ℕ) (moving : OneMove) (about : Option About) (s : ClientProcs) → At d (is pid) (is pid) (w + 1) s → At d (is pid) 0 w (leaving_of.begins_move pid moving about s)
  move_begun d w pid moving about s a =
      let operation : Pending = operations.Move (record { about = about; stream = moving.item.number; to = moving.freeze.to; state = WaitLock }) in
      let works = total_push (work_of q) s.files.pending (pid, operation) in
      let moves = total_push (move_of q) s.files.pending (pid, operation) in
      let answers = total_push answer_of s.files.pending (pid, operation) in
      let woken = length_pushed s.files.ready pid in
      let due_so = a.due in
      let moves_so = a.moves in
      let weight_so = a.weight in
      record { due = omega arith; moves = omega arith; apart = a.apart; weight = omega arith; ways = a.ways; turns = a.turns; queues = a.queues; short = all_append has_few_fds s.files.pending ((pid, operation) ∷ []) a.short refl; held = a.held }

  left_as : (step : MoveStep) (d w pid : ℕ) (about : Option About) (s : ClientProcs) → IsUnderWay step → At d (is pid) (is pid) (w + room_of step + need step) s → At d 0 0 w (leaving_of.leaves_as pid step about s)
  left_as (steps.Moving moving) d w pid about s way a =
      leaves_more d 0 w pid (steps.Moving moving) about (leaving_of.begins_if pid moving about s) way
      (on_if d (is pid) 0 (w + room_of (steps.Moving moving)) (not (list_any (is_under is_pid pid) s.files.pending)) (leaving_of.begins_move pid moving about s) s
      (move_begun d (w + room_of (steps.Moving moving)) pid moving about s a)
      (less_at d (is pid) (is pid) (w + room_of (steps.Moving moving) + 1) d 0 (w + room_of (steps.Moving moving)) s (omega arith) (omega arith) (omega arith) a))
  left_as (steps.Sent sent) d w pid about s way a =
      on_if d 0 0 w (list_any (leaving_of.is_page_out pid) s.unfinished) (leaving_of.keeps_leaving pid (steps.Sent sent) about s) (leaving_of.sends_process sent about s)
      (leaves_more d 0 w pid (steps.Sent sent) about s way (less_at d (is pid) (is pid) (w + 0 + 0) d 0 (w + room_of (steps.Sent sent)) s (omega arith) (omega arith) (omega arith) a))
      (let moves_so = a.moves in let apart_so = a.apart in let weight_so = a.weight in record { due = a.due; moves = omega arith; apart = omega arith; weight = omega arith; ways = a.ways; turns = a.turns; queues = a.queues; short = a.short; held = a.held })

  -- none leaves under that number
  none_taken : (d l m w pid : ℕ) (s : ClientProcs) → leaving_of.leaving_at pid s ≡ None → At d l m w s → At d l m w (leaving_of.takes_leaving pid s)
  none_taken d l m w pid s e a = subst (λ (rows : List (ℕ × Leaving)). Stands q W Q d l m w (record (side_of s) { leaving = rows })) (sym (less_none (is_under is_pid pid) s.leaving (by_found (find (is_under is_pid pid) s.leaving) e))) a
    where
      by_found : (o : Option (ℕ × Leaving)) → option_map (λ (row : ℕ × Leaving). row.1) o ≡ None → o ≡ None
      by_found None k = refl
      by_found (Some row) k = absurd (cc)

  left_if : (o : Option Leaving) (d w pid : ℕ) (s : ClientProcs) → leaving_of.leaving_at pid s ≡ o → At d 0 (is pid) (w + 1) s → At d 0 0 w (leaving_of.leaves_if pid o (leaving_of.takes_leaving pid s))
  left_if None d w pid s e a = none_taken d 0 0 w pid s e (less_at d 0 (is pid) (w + 1) d 0 w s (omega arith) (omega arith) (omega arith) a)
  left_if (Some found) d w pid s e a =
      let most = need_most found.step in
      left_as found.step d w pid found.about (leaving_of.takes_leaving pid s) (way_found pid s.leaving found a.ways e)
      (less_at d (is pid) (is pid) (w + 1 + room_of found.step) d (is pid) (w + room_of found.step + need found.step) (leaving_of.takes_leaving pid s) (omega arith) (omega arith) (omega arith) (leaves_less d (w + 1) pid found s e a))

  -- Streams that have moved, of a process that leaves once

  moved_by : (o : Option Leaving) (w pid : ℕ) (place : Place) (grant : Option Grant) (many : ℕ) (s : ClientProcs) → leaving_of.leaving_at pid s ≡ o → total (of_process pid) s.leaving ≤ 1 → At 0 0 (is pid) w s → At 0 0 0 w (leaving_of.leaves_on pid (leaving_of.notes_move_if pid o place grant many (leaving_of.takes_leaving pid s)))
  moved_by None w pid place grant many s e alone a =
      let left : ClientProcs = leaving_of.takes_leaving pid s in
      let so = none_taken 0 0 0 w pid s e (less_at 0 0 (is pid) w 0 0 w s (omega arith) (omega arith) (omega arith) a) in
      let none : leaving_of.leaving_at pid left ≡ None = still_none s.leaving e in
      subst (λ (o : Option Leaving). At 0 0 0 w (leaving_of.leaves_if pid o (leaving_of.takes_leaving pid left))) (sym none) (none_taken 0 0 0 w pid left none so)
    where
      still_none : (rows : List (ℕ × Leaving)) → first_under is_pid pid rows ≡ None → first_under is_pid pid (less (is_under is_pid pid) rows) ≡ None
      still_none rows k = ap (λ (rows : List (ℕ × Leaving)). first_under is_pid pid rows) (less_none (is_under is_pid pid) rows (by_found (find (is_under is_pid pid) rows) k)) ∙ k
        where
          by_found : (o : Option (ℕ × Leaving)) → option_map (λ (row : ℕ × Leaving). row.1) o ≡ None → o ≡ None
          by_found None k = refl
          by_found (Some row) k = absurd (cc)
  moved_by (Some found) w pid place grant many s e alone a =
      let left : ClientProcs = leaving_of.takes_leaving pid s in
      let step : MoveStep = leaving_of.moved_step place grant many found.step in
      let goes = goes_on_from found.step place grant many (way_found pid s.leaving found a.ways e) in
      let room = goes.less in
      let kept : ClientProcs = leaving_of.keeps_leaving pid step found.about left in
      let self = self_one pid in
      let count = total_first (of_process pid) pid s.leaving found e in
      let last : leaving_of.leaving_at pid kept ≡ Some (record { step = step; about = found.about }) = found_last pid left.leaving (record { step = step; about = found.about }) (none_there pid left.leaving (omega arith)) in
      let there : At 0 0 (is pid) (w + need step) kept = leaves_more 0 (is pid) (w + need step) pid step found.about left goes.way (less_at 0 (is pid) (is pid) (w + room_of found.step) 0 (is pid) (w + need step + room_of step) left (omega arith) (omega arith) (omega arith) (leaves_less 0 w pid found s e a)) in
      subst (λ (o : Option Leaving). At 0 0 0 w (leaving_of.leaves_if pid o (leaving_of.takes_leaving pid kept))) (sym last)
      (left_as step 0 w pid found.about (leaving_of.takes_leaving pid kept) goes.way (less_at 0 (is pid) (is pid) (w + need step + room_of step) 0 (is pid) (w + room_of step + need step) (leaving_of.takes_leaving pid kept) (omega arith) (omega arith) (omega arith) (leaves_less 0 (w + need step) pid (record { step = step; about = found.about }) kept last there)))

  pub has_moved : (w pid : ℕ) (place : Place) (grant : Option Grant) (many : ℕ) (s : ClientProcs) → total (of_process pid) s.leaving ≤ 1 → At 0 0 (is pid) w s → At 0 0 0 w (leaving_of.has_moved pid place grant many s)
  has_moved w pid place grant many s alone a = moved_by (leaving_of.leaving_at pid s) w pid place grant many s refl alone a

  -- Freezes

  pages_put : (pages : List (ℕ × List ℕ)) (d l m w pid : ℕ) (s : ClientProcs) → At d l m w s → At d l m w (freezing.puts_pages pid pages s)
  pages_put [] d l m w pid s a = a
  pages_put (page ∷ pages) d l m w pid s a = pages_put pages d l m w pid (freezing.puts_page pid page.0 page.1 s) a

  proc_taken : (w pid : ℕ) (proc : Proc) (s : ClientProcs) → proc_at pid s ≡ Some proc → At (is pid) 0 0 w s → At 0 (is pid) (is pid) (w + 17) (freezing.takes_proc pid s)
  proc_taken w pid proc s e a =
      let here_less : total (of_process q) (remove_entry (is_at (nat_cmp pid)) s.procs) + is pid ≡ total (of_process q) s.procs = total_removed (λ (key : ℕ). one_if (key == q)) pid s.procs proc e in
      let count_less : total each (remove_entry (is_at (nat_cmp pid)) s.procs) + 1 ≡ total each s.procs = total_removed (λ (key : ℕ). 1) pid s.procs proc e in
      let due_so = a.due in
      let moves_so = a.moves in
      let apart_so = a.apart in
      let weight_so = a.weight in
      record { due = omega arith; moves = omega arith; apart = omega arith; weight = omega arith; ways = a.ways; turns = a.turns; queues = a.queues; short = a.short; held = a.held }

  sent_off : (w pid : ℕ) (proc : Proc) (to : ℕ) (program : Option ℕ) (streams : List Carried) (s : ClientProcs) → can_move streams ≡ true → At 0 (is pid) (is pid) (w + 17) s → At 0 0 0 w (freezing.sends_off pid proc (record { to = to; about = None; program = program }) streams s)
  sent_off w pid proc to program streams s can a =
      let route : Route = record { to = to; about = None; program = program } in
      let process : Process = freezing.process_of pid proc route streams s in
      let dropped : ClientProcs = freezing.drops_cwd pid s in
      let step : MoveStep = step_of (frozen_for process to program) in
      let goes = goes_frozen process to program can in
      let room = room_most step goes.less in
      let kept : ClientProcs = leaving_of.keeps_leaving pid step None dropped in
      left_if (leaving_of.leaving_at pid kept) 0 w pid kept refl
      (leaves_more 0 (is pid) (w + 1) pid step None dropped goes.way (less_at 0 (is pid) (is pid) (w + 17) 0 (is pid) (w + 1 + room_of step) dropped (omega arith) (omega arith) (omega arith) a))

  put_out : (o : Option Proc) (w pid to : ℕ) (streams : List Carried) (s : ClientProcs) → proc_at pid s ≡ o → can_move streams ≡ true → At (is pid) 0 0 w s → At 0 0 0 w (freezing.puts_out_if pid o (record { to = to; about = None; program = None }) streams (freezing.takes_proc pid s))
  put_out None w pid to streams s e can a =
      subst (λ (rows : List (ℕ × Proc)). Stands q W Q 0 0 0 w (record (side_of s) { procs = rows })) (sym (removed_none (is_at (nat_cmp pid)) s.procs e)) (less_at (is pid) 0 0 w 0 0 w s (omega arith) (omega arith) (omega arith) a)
  put_out (Some proc) w pid to streams s e can a =
      let route : Route = record { to = to; about = None; program = None } in
      let pages : List (ℕ × List ℕ) = freezing.pages_for None proc.image in
      let taken : ClientProcs = freezing.takes_proc pid s in
      sent_off w pid (freezing.without_pages None proc) to None streams (freezing.puts_pages pid pages taken) can (pages_put pages 0 (is pid) (is pid) (w + 17) pid taken (proc_taken w pid proc s e a))

  frozen : (w pid to : ℕ) (s : ClientProcs) → At (is pid) 0 0 w s → At 0 0 0 w (freezing.freezes pid (record { to = to; about = None; program = None }) s)
  frozen w pid to s a = by_test (can_move (all_carried pid s)) refl
    where
      by_test : (b : Bool) → can_move (all_carried pid s) ≡ b → At 0 0 0 w (cond (not b) s (freezing.freezes_with pid (record { to = to; about = None; program = None }) (all_carried pid s) s))
      by_test false e = less_at (is pid) 0 0 w 0 0 w s (omega arith) (omega arith) (omega arith) a
      by_test true e =
          let noted : ClientProcs = says.notes (events.Freeze pid) s in
          put_out (proc_at pid noted) w pid to (all_carried pid s) noted refl e a

  -- Calls that return

  evicted : (w pid : ℕ) (s : ClientProcs) → At (is pid) 0 0 w s → At 0 0 0 w (returning.is_evicted pid s)
  evicted w pid s a =
      let stays : ClientProcs = returning.with_evict false pid s in
      let so = with_kept (is pid) 0 0 w pid (proc_at pid s) (λ proc. record proc { evict = false }) s a in
      on_if 0 0 0 w (holds_master pid stays) stays (freezing.freezes pid (record { to = home_of pid; about = None; program = None }) stays)
      (less_at (is pid) 0 0 w 0 0 w stays (omega arith) (omega arith) (omega arith) so) (frozen w pid (home_of pid) stays so)

  between_by : (o : Option Proc) (w pid : ℕ) (s : ClientProcs) → At (is pid) 0 0 (w + 2) s → At 0 0 0 (w + 1) (returning.goes_between_as pid (returning.standing_if o) s)
  between_by None w pid s a = less_at (is pid) 0 0 (w + 2) 0 0 (w + 1) s (omega arith) (omega arith) (omega arith) a
  between_by (Some proc) w pid s a =
      by_bool (λ standing. returning.goes_between_as pid standing s) (At 0 0 0 (w + 1)) proc.killed _ _
      (λ _. dies_by (ending.next_call pid s) pid w s a)
      (λ _. by_bool (λ standing. returning.goes_between_as pid standing s) (At 0 0 0 (w + 1)) proc.evict _ _
      (λ _. evicted (w + 1) pid s (less_at (is pid) 0 0 (w + 2) (is pid) 0 (w + 1) s (omega arith) (omega arith) (omega arith) a))
      (λ _. less_at (is pid) 0 0 (w + 2) 0 0 (w + 1) s (omega arith) (omega arith) (omega arith) a))

  unmade : (o : Option ℕ) (reply : Reply) (d w : ℕ) (s : ClientProcs) → At d 0 0 w s → At d 0 0 w (making.unmakes_if reply o s)
  unmade (Some device) (Error errno) d w s a = a
  unmade (Some device) (Value first second bytes) d w s a = a
  unmade None reply d w s a = a

  returned : (o : Option Proc) (d w pid : ℕ) (reply : Reply) (s : ClientProcs) → At d 0 0 w s → At d 0 0 w (record s { procs = returning.returned_with pid (option_map {T = Proc} (returning.returned s.programs reply) o) s.procs })
  returned (Some proc) d w pid reply s a = set_kept d 0 0 w (is_at (nat_cmp pid)) (returning.returned s.programs reply proc) s a
  returned None d w pid reply s a = a

  noted_return : (o : Option ℕ) (d w pid : ℕ) (reply : Reply) (s : ClientProcs) → At d 0 0 w s → At d 0 0 w (returning.notes_return_as pid reply o s)
  noted_return (Some number) d w pid reply s a = a
  noted_return None d w pid reply s a = a

  pub finished : (w pid : ℕ) (reply : Reply) (s : ClientProcs) → At (is pid) 0 0 (w + 2) s → At 0 0 0 (w + 1) (returning.finishes_call pid reply s)
  finished w pid reply s a =
      let started : ClientProcs = record s { making = less (is_under is_pid pid) s.making } in
      let made : ClientProcs = making.ends_making pid reply s in
      let back : ClientProcs = returning.has_returned pid reply made in
      let told : ClientProcs = returning.notes_return pid reply back in
      between_by (proc_at pid told) w pid told
      (noted_return (returning.number_at pid back) (is pid) (w + 2) pid reply back
      (returned (lookup (is_at (nat_cmp pid)) made.procs) (is pid) (w + 2) pid reply made (unmade (first_under is_pid pid s.making) reply (is pid) (w + 2) started a)))

  -- Devices that lose their masters

  device_kept : (o : Option Asks) (w device : ℕ) (s : ClientProcs) → At 0 0 0 w s → At 0 0 0 w (tables.with_device device o s)
  device_kept (Some asks) w device s a = a
  device_kept None w device s a = a

  asked_less : (w : ℕ) (p : About × Option TxNo → Bool) (row : About × Option TxNo) (s : ClientProcs) → find p s.asked ≡ Some row → At 0 0 0 w s → At (ask_of q row) 0 0 (w + 2 * own_ask row) (record s { asked = less p s.asked })
  asked_less w p row s e a =
      let asks = total_found (ask_of q) p s.asked row e in
      let owns = total_found own_ask p s.asked row e in
      let due_so = a.due in
      let weight_so = a.weight in
      record { due = omega arith; moves = a.moves; apart = a.apart; weight = omega arith; ways = a.ways; turns = a.turns; queues = a.queues; short = a.short; held = a.held }

  gives_to : (o : Option (About × Option TxNo)) (w : ℕ) (ask : Ask) (reply : Reply) (s : ClientProcs) → find (is_under asking.is_about (asking.about_ask ask)) s.asked ≡ o → At 0 0 0 w s
      → At 0 0 0 w (asking.gives_to ask.pid (option_map (λ (row : About × Option TxNo). row.1) o) reply (record s { asked = less (is_under asking.is_about (asking.about_ask ask)) s.asked }))
  gives_to None w ask reply s e a = subst (λ (rows : List (About × Option TxNo)). Stands q W Q 0 0 0 w (record (side_of s) { asked = rows })) (sym (less_none (is_under asking.is_about (asking.about_ask ask)) s.asked e)) a
  gives_to (Some (about, Some tx)) w ask reply s e a =
      less_at 0 0 0 (w + 2 * 0) 0 0 w (record s { asked = less (is_under asking.is_about (asking.about_ask ask)) s.asked }) (omega arith) (omega arith) (omega arith) (asked_less w (is_under asking.is_about (asking.about_ask ask)) (about, Some tx) s e a)
  gives_to (Some (about, None)) w ask reply s e a =
      let passes = found_passes (is_under asking.is_about (asking.about_ask ask)) (about, None) s.asked e in
      let parts = and_parts (about.pid == ask.pid) (about.number == ask.number) passes in
      let same : one_if (about.pid == q) ≡ is ask.pid = ap (λ (pid : ℕ). one_if (pid == q)) (eqb-true about.pid ask.pid parts.0) in
      let left : ClientProcs = record s { asked = less (is_under asking.is_about (asking.about_ask ask)) s.asked } in
      replied 0 0 0 w ask.pid reply left (less_at (one_if (about.pid == q)) 0 0 (w + 2 * 1) (0 + is ask.pid) 0 (w + 2) left (omega arith) (omega arith) (omega arith) (asked_less w (is_under asking.is_about (asking.about_ask ask)) (about, None) s e a))

  asks_ended : (asks : List Ask) (w : ℕ) (s : ClientProcs) → At 0 0 0 w s → At 0 0 0 w (making.ends_all asks s)
  asks_ended [] w s a = a
  asks_ended (ask ∷ asks) w s a =
      let told : ClientProcs = asking.notes_end ask (Error NoServer) s in
      asks_ended asks w (asking.ends_ask ask (Error NoServer) s) (gives_to (find (is_under asking.is_about (asking.about_ask ask)) told.asked) w ask (Error NoServer) told refl a)

  pub master_closed : (w device : ℕ) (s : ClientProcs) → At 0 0 0 w s → At 0 0 0 w (making.closes_master device s)
  master_closed w device s a = asks_ended (tables.asks_at device s) w (tables.left_at device s) (device_kept (option_map tables.left_by (tables.asks_in device s)) w device s a)

  -- Processes that have ended

  ended_by : (o : Option Proc) (w pid : ℕ) (s : ClientProcs) → proc_at pid s ≡ o → At (is pid) 0 0 w s → At 0 0 0 w (freezing.takes_proc pid s)
  ended_by None w pid s e a = subst (λ (rows : List (ℕ × Proc)). Stands q W Q 0 0 0 w (record (side_of s) { procs = rows })) (sym (removed_none (is_at (nat_cmp pid)) s.procs e)) (less_at (is pid) 0 0 w 0 0 w s (omega arith) (omega arith) (omega arith) a)
  ended_by (Some proc) w pid s e a =
      let here_less : total (of_process q) (remove_entry (is_at (nat_cmp pid)) s.procs) + is pid ≡ total (of_process q) s.procs = total_removed (λ (key : ℕ). one_if (key == q)) pid s.procs proc e in
      let count_less : total each (remove_entry (is_at (nat_cmp pid)) s.procs) + 1 ≡ total each s.procs = total_removed (λ (key : ℕ). 1) pid s.procs proc e in
      let due_so = a.due in
      let apart_so = a.apart in
      let weight_so = a.weight in
      record { due = omega arith; moves = a.moves; apart = omega arith; weight = omega arith; ways = a.ways; turns = a.turns; queues = a.queues; short = a.short; held = a.held }

  pub ended : (w pid : ℕ) (s : ClientProcs) → At (is pid) 0 0 w s → At 0 0 0 w (freezing.takes_proc pid s)
  ended w pid s a = ended_by (proc_at pid s) w pid s refl a
