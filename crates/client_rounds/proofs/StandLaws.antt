-- What the deeds of a client's kernel do to what is on its way to a process, and to the state in which it waits.
use Rattle.std.proofs.Common.{arith, ◌≡◌, ℕ, ◌+◌, ◌≤◌, ◌==◌, Bool, true, false, ◌&&◌, ◌||◌, not, cond, List, [], ◌∷◌, length, Option, Some, None, option_map, is_some, refl, sym, ap, ◌∙◌, subst}
use Rattle.std.proofs.lemmas.Bool.{and_parts, eq-eqb, eqb-true, le-leb}
use Rattle.std.specs.List.{find, list_any, position}
use Rattle.std.specs.Map.{lookup, set_value}
use Rattle.sprite_ids.specs.declared.Ending.TheVariants.{Killed}
use Rattle.sprite_ids.specs.declared.Errno.TheVariants.{NoServer}
use Rattle.sprite_ids.specs.declared.Grant.{Grant}
use Rattle.sprite_ids.specs.declared.TxNo.{TxNo}
use Rattle.sprite_ids.specs.Lists.{less, one_if, total, without}
use Rattle.sprite_ids.specs.Pid.{home_of}
use Rattle.sprite_ids.proofs.ListLaws.{each_push}
use Rattle.sprite_ids.proofs.OnceLaws.{found_passes, or_false}
use Rattle.process_machine.specs.declared.Reply.{Reply}
use Rattle.process_machine.specs.declared.Reply.TheVariants.{Error, Value}
use Rattle.pseudo_device.specs.declared.ask.Ask.{Ask}
use Rattle.pseudo_device.specs.Device.{Asks}
use Rattle.stream_table.specs.declared.Carried.{Carried}
use Rattle.stream_table.specs.declared.Place.{Place}
use Rattle.migrate_freeze.specs.declared.freeze.Freeze.{Freeze}
use Rattle.migrate_freeze.specs.declared.frozen.MoveStep.{MoveStep}
use Rattle.migrate_freeze.specs.declared.frozen.MoveStep.TheVariants as steps
use Rattle.migrate_freeze.specs.declared.process.Process.{Process}
use Rattle.migrate_freeze.specs.Moves.{frozen_for, step_of}
use Rattle.migrate_freeze.specs.OneMove.{OneMove}
use Rattle.migrate_freeze.specs.Packing.{can_move}
use Rattle.packet_bodies.specs.declared.Request.TheVariants as requests
use Rattle.unix_calls.specs.declared.About.{About}
use Rattle.unix_calls.specs.declared.Entry.{Entry}
use Rattle.unix_calls.specs.declared.Event.TheVariants as events
use Rattle.kernel_steps.specs.Rows.{first_under, is_under}
use Rattle.client_file_tables.specs.declared.moves.Report.{Report}
use Rattle.client_file_tables.specs.declared.pending.Pending.{Pending}
use Rattle.client_file_tables.specs.declared.pending.Pending.TheVariants as operations
use Rattle.client_file_tables.specs.declared.MoveState.TheVariants.{WaitLock}
use Rattle.client_file_tables.specs.Closes as file_closes
use Rattle.client_homes.specs.declared.client.ClientProcs.{ClientProcs}
use Rattle.client_homes.specs.declared.client.Leaving.{Leaving}
use Rattle.client_homes.specs.declared.client.Parked.{Parked}
use Rattle.client_homes.specs.declared.process.Proc.{Proc}
use Rattle.client_homes.specs.declared.process.ProcState.{ProcState}
use Rattle.client_homes.specs.declared.process.ProcState.TheVariants as states
use Rattle.client_homes.specs.Ends as ending
use Rattle.client_homes.specs.Homes as homes
use Rattle.client_homes.specs.Killing as killing
use Rattle.client_homes.specs.Procs as procs_of
use Rattle.client_homes.specs.Procs.{is_pid, proc_at}
use Rattle.client_homes.specs.Says as says
use Rattle.client_homes.specs.Waits as waiting
use Rattle.client_devices.specs.Asking as asking
use Rattle.client_devices.specs.Making as making
use Rattle.client_devices.specs.Tables as tables
use Rattle.client_moves.specs.declared.Route.{Route}
use Rattle.client_moves.specs.Carrying.{all_carried, holds_master}
use Rattle.client_moves.specs.Freezing as freezing
use Rattle.client_moves.specs.Leaving as leaving_of
use Rattle.client_moves.specs.Returning as returning
use Rattle.client_facts.specs.GoingOn.{has_few_fds}
use Rattle.client_facts.proofs.BirthLaws.{length_ending, length_killing, length_put, length_waiting}
use Rattle.client_facts.proofs.PlaceLaws.{by_bool}
use Rattle.client_facts.proofs.RowLaws.{all_append}
use Rattle.home_table.specs.Home as home_tables
use Rattle.home_table.specs.Home.{Table}
use Rattle.sprite_ids.specs.declared.Ending.{Ending}
use Rattle.packet_bodies.specs.declared.HomeRequest.{HomeRequest}
use Rattle.migrate_freeze.specs.Packing.{body_of}
use Rattle.kernel_steps.specs.Rows.{is_row}
use Rattle.client_homes.specs.declared.client.Unfinished.{Unfinished}
use Rattle.client_homes.specs.declared.client.Unfinished.TheVariants as unfinished
use Rattle.client_moves.specs.Evicting as evicting
use Rattle.client_facts.specs.ProcFacts.{gets_from, is_moving_in}
use Rattle.client_rounds.specs.OneThing.{busy_of, call_of, getter_of, getting_of, is_busy, moving_of, waits_for}
use Rattle.client_rounds.specs.Rounds.{IsUnderWay, ask_of, is_work, move_of, moved_of, of_process, wait_of, work_of}
use Rattle.client_rounds.proofs.DeedLaws.{Way, fds_few, found_last, goes_frozen, goes_on_from, none_there, self_one, way_found}
use Rattle.client_rounds.proofs.Standing.{Bal, busy_apart, cond_most, idle_apart, is_at_pid, moves_now, none_here, one_most, total_at, total_gone, total_there, whole_of}
use Rattle.client_rounds.proofs.Totals.{less_none, removed_none, total_first, total_found, total_less, total_push, total_set}
use Rattle.client_walks.proofs.RowLaws.{each_less}

cond_zero : (b : Bool) (n : ℕ) → n ≡ 0 → cond b 0 n ≡ 0
cond_zero true n h = refl
cond_zero false n h = h

none_moves : (pid : ℕ) (rows : List (ℕ × Pending)) → list_any (is_under is_pid pid) rows ≡ false → total (move_of pid) rows ≤ 0
none_moves pid [] h = omega arith
none_moves pid ((key, operation) ∷ rows) h =
    let parts = or_false (key == pid) (list_any (is_under is_pid pid) rows) h in
    let first = cond_zero (is_work operation) (one_if (key == pid)) (ap one_if parts.0) in
    let rest = none_moves pid rows parts.1 in
    omega arith

without_by : {X : Type 0} (f : X → ℕ) (b : Bool) (x : X) (rest : List X) (n : ℕ) → total f rest ≤ n → total f (cond (not b) (x ∷ rest) rest) ≤ f x + n
without_by f true x rest n h = omega arith
without_by f false x rest n h = omega arith

total_without : {X : Type 0} (f : X → ℕ) (p : X → Bool) (xs : List X) → total f (without p xs) ≤ total f xs
total_without f p [] = omega arith
total_without f p (x ∷ xs) = without_by f (p x) x (without p xs) (total f xs) (total_without f p xs)

-- who is between two calls is not busy and gets from nowhere
pub ready_lazy : (dev : ℕ) (state : ProcState) → evicting.is_ready_in state ≡ true → (is_busy state ≡ false) × (gets_from dev state ≡ false)
ready_lazy dev states.Ready e = (refl, refl)
ready_lazy dev state e = absurd (cc)

-- a process's place when it returns
made_alone : (o : Option ℕ) (pid : ℕ) (reply : Reply) (s : ClientProcs) → total (of_process pid) s.procs + total (of_process pid) s.leaving ≤ 1 → total (of_process pid) (making.unmakes_if reply o s).procs + total (of_process pid) (making.unmakes_if reply o s).leaving ≤ 1
made_alone (Some device) pid (Error errno) s h = h
made_alone (Some device) pid (Value first second bytes) s h = h
made_alone None pid reply s h = h

back_alone : (o : Option Proc) (pid : ℕ) (reply : Reply) (s : ClientProcs) → total (of_process pid) s.procs + total (of_process pid) s.leaving ≤ 1 → total (of_process pid) (returning.returned_with pid (option_map {T = Proc} (returning.returned s.programs reply) o) s.procs) + total (of_process pid) s.leaving ≤ 1
back_alone (Some proc) pid reply s h = (let same : total (of_process pid) (set_value (is_at_pid pid) s.procs (returning.returned s.programs reply proc)) ≡ total (of_process pid) s.procs = total_set (λ (key : ℕ). one_if (key == pid)) (is_at_pid pid) s.procs (returning.returned s.programs reply proc) in omega arith)
back_alone None pid reply s h = h

told_alone : (o : Option ℕ) (pid : ℕ) (reply : Reply) (s : ClientProcs) → total (of_process pid) s.procs + total (of_process pid) s.leaving ≤ 1 → total (of_process pid) (returning.notes_return_as pid reply o s).procs + total (of_process pid) (returning.notes_return_as pid reply o s).leaving ≤ 1
told_alone (Some number) pid reply s h = h
told_alone None pid reply s h = h

module _ (q dev A : ℕ) (Q : List Report → Type 0) (g : Bool) (H B : ℕ) where
  abbrev At : ℕ → ℕ → ℕ → ℕ → ℕ → ClientProcs → Type 0
  At d r l m n s = Bal q dev A Q g H B d r l m n (whole_of s)

  abbrev is : ℕ → ℕ
  is pid = one_if (pid == q)

  pub on_if : (d r l m n : ℕ) (b : Bool) (s t : ClientProcs) → At d r l m n s → At d r l m n t → At d r l m n (cond b s t)
  on_if d r l m n true s t a c = a
  on_if d r l m n false s t a c = c

  -- less is in hand
  pub less_at : (d r l m n e x k y : ℕ) (s : ClientProcs) → e ≤ d → x ≤ r → k ≤ l → y ≤ m → At d r l m n s → At e x k y n s
  less_at d r l m n e x k y s f h i j a =
      let owed_so = a.owed in
      let room_so = a.room in
      let moves_so = a.moves in
      let apart_so = a.apart in
      record { owed = omega arith; gets = a.gets; room = omega arith; moves = omega arith; apart = omega arith; most = a.most; ways = a.ways; turns = a.turns; queues = a.queues; short = a.short; held = a.held; kin = a.kin }

  -- what is owed to a busy process is so to one to which nothing is owed
  pub loosened : (d r l m n x : ℕ) (s : ClientProcs) → At (d + x) r l m n s → At d (r + x) l m n s
  loosened d r l m n x s a =
      let owed_so = a.owed in
      let room_so = a.room in
      record { owed = omega arith; gets = a.gets; room = omega arith; moves = a.moves; apart = a.apart; most = a.most; ways = a.ways; turns = a.turns; queues = a.queues; short = a.short; held = a.held; kin = a.kin }

  -- Processes that are changed

  same_kept : (d r l m n pid : ℕ) (old new : Proc) (s : ClientProcs) → proc_at pid s ≡ Some old → new.state ≡ old.state → At d r l m n s → At d r l m n (record s { procs = set_value (is_at_pid pid) s.procs new })
  same_kept d r l m n pid old new s e same a =
      let busy = total_at (busy_of q) pid s.procs old new e in
      let getting = total_at (getting_of dev q) pid s.procs old new e in
      let here_so = total_at (of_process q) pid s.procs old new e in
      let first = ap (λ (state : ProcState). cond (is_busy state) (one_if (pid == q)) 0) same in
      let second = ap (λ (state : ProcState). cond (gets_from dev state) (one_if (pid == q)) 0) same in
      let owed_so = a.owed in
      let gets_so = a.gets in
      let room_so = a.room in
      let apart_so = a.apart in
      record { owed = omega arith; gets = omega arith; room = omega arith; moves = a.moves; apart = omega arith; most = a.most; ways = a.ways; turns = a.turns; queues = a.queues; short = a.short; held = a.held; kin = a.kin }

  pub with_same : (o : Option Proc) (d r l m n pid : ℕ) (f : Proc → Proc) (s : ClientProcs) → proc_at pid s ≡ o → ((proc : Proc) → (f proc).state ≡ proc.state) → At d r l m n s → At d r l m n (procs_of.with_proc pid (option_map f o) s)
  with_same None d r l m n pid f s e same a = a
  with_same (Some proc) d r l m n pid f s e same a = same_kept d r l m n pid proc (f proc) s e (same proc) a

  -- a process to which nothing is owed gets busy
  pub settled : (d r l m n pid : ℕ) (old new : Proc) (s : ClientProcs) → proc_at pid s ≡ Some old → is_busy new.state ≡ true → gets_from dev new.state ≡ false → At d (r + is pid) l m n s → At (d + is pid) r l m n (record s { procs = set_value (is_at_pid pid) s.procs new })
  settled d r l m n pid old new s e busy_new gets_new a =
      let busy = total_at (busy_of q) pid s.procs old new e in
      let getting = total_at (getting_of dev q) pid s.procs old new e in
      let here_so = total_at (of_process q) pid s.procs old new e in
      let first : cond (is_busy new.state) (one_if (pid == q)) 0 ≡ one_if (pid == q) = ap (λ b. cond b (one_if (pid == q)) 0) busy_new in
      let second : cond (gets_from dev new.state) (one_if (pid == q)) 0 ≡ 0 = ap (λ b. cond b (one_if (pid == q)) 0) gets_new in
      let third = cond_most (is_busy old.state) (one_if (pid == q)) in
      let fourth = cond_most (gets_from dev old.state) (one_if (pid == q)) in
      let fifth = total_there (busy_of q) pid s.procs old e in
      let unit = one_most (pid == q) in
      let owed_so = a.owed in
      let gets_so = a.gets in
      let room_so = a.room in
      let apart_so = a.apart in
      let most_so = a.most in
      record { owed = omega arith; gets = omega arith; room = omega arith; moves = a.moves; apart = omega arith; most = a.most; ways = a.ways; turns = a.turns; queues = a.queues; short = a.short; held = a.held; kin = a.kin }

  -- one that is busy isn't any more
  readied : (d r l m n pid : ℕ) (old new : Proc) (s : ClientProcs) → proc_at pid s ≡ Some old → is_busy new.state ≡ false → gets_from dev new.state ≡ false → At (d + is pid) r l m n s → At d (r + is pid) l m n (record s { procs = set_value (is_at_pid pid) s.procs new })
  readied d r l m n pid old new s e busy_new gets_new a =
      let busy = total_at (busy_of q) pid s.procs old new e in
      let getting = total_at (getting_of dev q) pid s.procs old new e in
      let here_so = total_at (of_process q) pid s.procs old new e in
      let first : cond (is_busy new.state) (one_if (pid == q)) 0 ≡ 0 = ap (λ b. cond b (one_if (pid == q)) 0) busy_new in
      let second : cond (gets_from dev new.state) (one_if (pid == q)) 0 ≡ 0 = ap (λ b. cond b (one_if (pid == q)) 0) gets_new in
      let third = cond_most (is_busy old.state) (one_if (pid == q)) in
      let fourth = cond_most (gets_from dev old.state) (one_if (pid == q)) in
      let apart_busy = busy_apart q dev s.procs in
      let unit = one_most (pid == q) in
      let owed_so = a.owed in
      let gets_so = a.gets in
      let room_so = a.room in
      let apart_so = a.apart in
      let most_so = a.most in
      record { owed = omega arith; gets = omega arith; room = omega arith; moves = a.moves; apart = omega arith; most = a.most; ways = a.ways; turns = a.turns; queues = a.queues; short = a.short; held = a.held; kin = a.kin }

  -- one to which nothing is owed is ready
  still_ready : (o : Option Proc) (d r l m n pid : ℕ) (s : ClientProcs) → proc_at pid s ≡ o → At d (r + is pid) l m n s → At d (r + is pid) l m n (procs_of.with_proc pid (option_map {T = Proc} (λ proc. record proc { state = states.Ready }) o) s)
  still_ready None d r l m n pid s e a = a
  still_ready (Some old) d r l m n pid s e a =
      let new : Proc = record old { state = states.Ready } in
      let busy = total_at (busy_of q) pid s.procs old new e in
      let getting = total_at (getting_of dev q) pid s.procs old new e in
      let here_so = total_at (of_process q) pid s.procs old new e in
      let third = cond_most (is_busy old.state) (one_if (pid == q)) in
      let fourth = cond_most (gets_from dev old.state) (one_if (pid == q)) in
      let unit = one_most (pid == q) in
      let owed_so = a.owed in
      let gets_so = a.gets in
      let room_so = a.room in
      let apart_so = a.apart in
      let most_so = a.most in
      record { owed = omega arith; gets = omega arith; room = omega arith; moves = a.moves; apart = omega arith; most = a.most; ways = a.ways; turns = a.turns; queues = a.queues; short = a.short; held = a.held; kin = a.kin }

  pub readied_free : (d r l m n pid : ℕ) (s : ClientProcs) → At d (r + is pid) l m n s → At d (r + is pid) l m n (procs_of.in_state pid states.Ready s)
  readied_free d r l m n pid s a = still_ready (proc_at pid s) d r l m n pid s refl a

  -- to one that is ready nothing is owed
  pub freed : (d l m n pid : ℕ) (old : Proc) (s : ClientProcs) → proc_at pid s ≡ Some old → is_busy old.state ≡ false → gets_from dev old.state ≡ false → At d 0 l m n s → At d (is pid) l m n s
  freed d l m n pid old s e lazy gets a =
      let idle = idle_apart q dev pid s.procs old e lazy gets in
      let owed_so = a.owed in
      let gets_so = a.gets in
      record { owed = a.owed; gets = a.gets; room = omega arith; moves = a.moves; apart = a.apart; most = a.most; ways = a.ways; turns = a.turns; queues = a.queues; short = a.short; held = a.held; kin = a.kin }

  settled_by : (o : Option Proc) (d r l m n pid : ℕ) (f : Proc → Proc) (s : ClientProcs) → proc_at pid s ≡ o → ((proc : Proc) → is_busy (f proc).state ≡ true) → ((proc : Proc) → gets_from dev (f proc).state ≡ false) → At d (r + is pid) l m n s → At (d + is pid) r l m n (procs_of.with_proc pid (option_map f o) s)
  settled_by None d r l m n pid f s e busy_new gets_new a =
      let room_so = a.room in
      let none = none_here q pid s.procs e (omega arith) in
      let owed_so = a.owed in
      record { owed = omega arith; gets = a.gets; room = omega arith; moves = a.moves; apart = a.apart; most = a.most; ways = a.ways; turns = a.turns; queues = a.queues; short = a.short; held = a.held; kin = a.kin }
  settled_by (Some proc) d r l m n pid f s e busy_new gets_new a = settled d r l m n pid proc (f proc) s e (busy_new proc) (gets_new proc) a

  -- in that state, in which it is busy
  pub in_state : (d r l m n pid : ℕ) (state : ProcState) (s : ClientProcs) → is_busy state ≡ true → gets_from dev state ≡ false → At d (r + is pid) l m n s → At (d + is pid) r l m n (procs_of.in_state pid state s)
  in_state d r l m n pid state s busy_new gets_new a = settled_by (proc_at pid s) d r l m n pid (λ proc. record proc { state = state }) s refl (λ proc. busy_new) (λ proc. gets_new) a

  -- a reply more
  given : (d r l m n pid : ℕ) (reply : Reply) (s : ClientProcs) → At (d + is pid) r l m n s → At d r l m n (says.gives pid reply s)
  given d r l m n pid reply s a =
      let more = total_push (of_process q) s.files.out.replies (pid, reply) in
      let owed_so = a.owed in
      let room_so = a.room in
      record { owed = omega arith; gets = a.gets; room = omega arith; moves = a.moves; apart = a.apart; most = a.most; ways = a.ways; turns = a.turns; queues = a.queues; short = a.short; held = a.held; kin = a.kin }

  pub replied : (d r l m n pid : ℕ) (reply : Reply) (s : ClientProcs) → At d (r + is pid) l m n s → At d r l m n (procs_of.replies pid reply s)
  replied d r l m n pid reply s a = given d r l m n pid reply (procs_of.in_state pid states.Returning s) (in_state d r l m n pid states.Returning s refl refl a)

  -- a remote call more, of which something is owed to the process
  pub calls : (d r l m n pid : ℕ) (tx : TxNo) (call : Unfinished) (s : ClientProcs) → waits_for q call ≤ is pid → At (d + is pid) r l m n s → At d r l m n (ending.keeps_tx tx call s)
  calls d r l m n pid tx call s few a =
      let more = total_push (call_of q) s.unfinished (tx, call) in
      let owed_so = a.owed in
      let room_so = a.room in
      record { owed = omega arith; gets = a.gets; room = omega arith; moves = a.moves; apart = a.apart; most = a.most; ways = a.ways; turns = a.turns; queues = a.queues; short = a.short; held = a.held; kin = a.kin }

  -- and one of which nothing is
  pub calls_free : (d r l m n : ℕ) (tx : TxNo) (call : Unfinished) (s : ClientProcs) → waits_for q call ≡ 0 → At d r l m n s → At d r l m n (ending.keeps_tx tx call s)
  calls_free d r l m n tx call s none a =
      let more = total_push (call_of q) s.unfinished (tx, call) in
      let owed_so = a.owed in
      let room_so = a.room in
      record { owed = omega arith; gets = a.gets; room = omega arith; moves = a.moves; apart = a.apart; most = a.most; ways = a.ways; turns = a.turns; queues = a.queues; short = a.short; held = a.held; kin = a.kin }

  -- Waits

  wait_taken : (d r l m n pid : ℕ) (parked : Parked) (s : ClientProcs) → first_under is_pid pid s.waits ≡ Some parked → At d r l m n s → At (d + wait_of q (pid, parked)) r l m n (record s { waits = less (is_under is_pid pid) s.waits })
  wait_taken d r l m n pid parked s found a =
      let waits = total_first (wait_of q) pid s.waits parked found in
      let owed_so = a.owed in
      let room_so = a.room in
      record { owed = omega arith; gets = a.gets; room = omega arith; moves = a.moves; apart = a.apart; most = a.most; ways = a.ways; turns = a.turns; queues = a.queues; short = a.short; held = a.held; kin = a.kin }

  pub parks_kept : (d r l m n pid : ℕ) (parked : Parked) (s : ClientProcs) → At (d + wait_of q (pid, parked)) r l m n s → At d r l m n (waiting.parks pid parked s)
  parks_kept d r l m n pid parked s a =
      let waits = total_push (wait_of q) s.waits (pid, parked) in
      let owed_so = a.owed in
      let room_so = a.room in
      record { owed = omega arith; gets = a.gets; room = omega arith; moves = a.moves; apart = a.apart; most = a.most; ways = a.ways; turns = a.turns; queues = a.queues; short = a.short; held = a.held; kin = a.kin }

  ends_wait : (o : Option TxNo) (d r l m n pid : ℕ) (parked : Parked) (reply : Reply) (s : ClientProcs) → parked.tx ≡ o → At (d + wait_of q (pid, parked)) r l m n s → At d r l m n (waiting.ends_wait pid o reply s)
  ends_wait (Some tx) d r l m n pid parked reply s e a = less_at (d + wait_of q (pid, parked)) r l m n d r l m s (omega arith) (omega arith) (omega arith) (omega arith) a
  ends_wait None d r l m n pid parked reply s e a =
      let waits : wait_of q (pid, parked) ≡ is pid = ap (λ (o : Option TxNo). cond (not (is_some o)) (one_if (pid == q)) 0) e in
      replied d r l m n pid reply s (loosened d r l m n (is pid) s (less_at (d + wait_of q (pid, parked)) r l m n (d + is pid) r l m s (omega arith) (omega arith) (omega arith) (omega arith) a))

  ends_or_parks : (o : Option Reply) (d r l m n pid : ℕ) (parked : Parked) (s : ClientProcs) → At (d + wait_of q (pid, parked)) r l m n s → At d r l m n (waiting.ends_or_parks pid parked o s)
  ends_or_parks (Some reply) d r l m n pid parked s a = ends_wait parked.tx d r l m n pid parked reply s refl a
  ends_or_parks None d r l m n pid parked s a = parks_kept d r l m n pid parked s a

  -- Homes

  -- where as many were born
  home_kept : (d r l m n : ℕ) (b : Bool) (table : Table) (s : ClientProcs) → table.home ≡ s.home.home → length table.births ≡ length s.home.births → At d r l m n s → At d r l m n (cond b (record s { home = table }) s)
  home_kept d r l m n true table s same many a =
      record { owed = a.owed; gets = a.gets; room = a.room; moves = a.moves; apart = a.apart; most = a.most; ways = a.ways; turns = a.turns; queues = a.queues; short = a.short; held = a.held; kin = λ on. (let k = a.kin on in (same ∙ k.0, many ∙ k.1)) }
  home_kept d r l m n false table s same many a = a

  pub waited : (d r l m n pid : ℕ) (s : ClientProcs) → At d r l m n s → At d r l m n (homes.waited_at pid s)
  waited d r l m n pid s a = home_kept d r l m n (homes.is_native pid s) (home_tables.waited s.home pid) s refl (length_waiting (position (home_tables.is_ended_child pid) s.home.births) s.home.births) a

  pub ended_at : (d r l m n pid : ℕ) (how : Ending) (s : ClientProcs) → At d r l m n s → At d r l m n (homes.ends_at pid how s)
  ended_at d r l m n pid how s a = home_kept d r l m n (homes.is_native pid s) (home_tables.ended s.home pid how) s refl (length_ending (home_tables.life_at s.home.births pid) s.home.births (home_tables.index_of pid) how) a

  pub killed_home : (d r l m n pid : ℕ) (s : ClientProcs) → At d r l m n s → At d r l m n (homes.kills_at pid s)
  killed_home d r l m n pid s a = home_kept d r l m n (homes.is_native pid s) (home_tables.killed s.home pid) s refl (length_killing (home_tables.life_at s.home.births pid) s.home.births (home_tables.index_of pid)) a

  pub moved_home : (d r l m n pid kernel : ℕ) (s : ClientProcs) → At d r l m n s → At d r l m n (homes.moves_to pid kernel s)
  moved_home d r l m n pid kernel s a = home_kept d r l m n (homes.is_native pid s) (home_tables.moved s.home pid kernel) s refl (length_put _ s.home.births _) a

  pub enters_if : (o : Option Reply) (d r l m n : ℕ) (request : HomeRequest) (s : ClientProcs) → At d r l m n s → At d r l m n (waiting.enters_if request o s)
  enters_if (Some reply) d r l m n request s a = a
  enters_if None d r l m n request s a = a

  wakes_if : (o : Option Parked) (d r l m n pid : ℕ) (s : ClientProcs) → first_under is_pid pid s.waits ≡ o → At d r l m n s → At d r l m n (waiting.wakes_if pid o (record s { waits = less (is_under is_pid pid) s.waits }))
  wakes_if (Some parked) d r l m n pid s found a =
      let left : ClientProcs = record s { waits = less (is_under is_pid pid) s.waits } in
      let taken : At (d + wait_of q (pid, parked)) r l m n left = wait_taken d r l m n pid parked s found a in
      let asked : ClientProcs = homes.waited_at pid left in
      let entered : ClientProcs = waiting.waits (waiting.parked_call pid parked) left in
      ends_or_parks (waiting.wait_reply pid left) d r l m n pid parked entered
      (enters_if (waiting.wait_reply pid left) (d + wait_of q (pid, parked)) r l m n (waiting.parked_call pid parked) asked (waited (d + wait_of q (pid, parked)) r l m n pid left taken))
  wakes_if None d r l m n pid s found a = subst (λ (rows : List (ℕ × Parked)). Bal q dev A Q g H B d r l m n (record (whole_of s) { waits = rows })) (sym (less_none (is_under is_pid pid) s.waits (by_found (find (is_under is_pid pid) s.waits) found))) a
    where
      by_found : (o : Option (ℕ × Parked)) → option_map (λ (row : ℕ × Parked). row.1) o ≡ None → o ≡ None
      by_found None k = refl
      by_found (Some row) k = absurd (cc)

  pub wakes : (d r l m n pid : ℕ) (s : ClientProcs) → At d r l m n s → At d r l m n (waiting.wakes pid s)
  wakes d r l m n pid s a = wakes_if (first_under is_pid pid s.waits) d r l m n pid s refl a

  wakes_parent : (o : Option ℕ) (d r l m n : ℕ) (s : ClientProcs) → At d r l m n s → At d r l m n (waiting.wakes_parent o s)
  wakes_parent None d r l m n s a = a
  wakes_parent (Some parent) d r l m n s a = wakes d r l m n parent s a

  pub wakes_after : (d r l m n pid : ℕ) (s : ClientProcs) → At d r l m n s → At d r l m n (waiting.wakes_after pid s)
  wakes_after d r l m n pid s a =
      let forgot : ClientProcs = killing.forgets_waiting pid s in
      wakes_parent (homes.parent_in pid forgot) d r l m n forgot (on_if d r l m n (killing.is_waiting (killing.kill_at pid s)) _ s a a)

  -- Deaths

  pub ends : (d r l m n pid : ℕ) (about : Option About) (s : ClientProcs) → At d (r + is pid) l m n s → At d r l m n (ending.ends pid about s)
  unfolding ending.closes_all
  ends d r l m n pid about s a =
      let t : ClientProcs = procs_of.in_state pid states.Ending s in
      let b = in_state d r l m n pid states.Ending s refl refl a in
      let operation : Pending = operations.Close (file_closes.ends_by about (file_closes.fds_of pid t.files)) in
      let works = total_push (work_of q) t.files.pending (pid, operation) in
      let moves = total_push (move_of q) t.files.pending (pid, operation) in
      let few = le-leb (length (file_closes.fds_of pid t.files)) 16 (fds_few 16 pid t.files) in
      let owed_so = b.owed in
      let room_so = b.room in
      let moves_so = b.moves in
      record { owed = omega arith; gets = b.gets; room = omega arith; moves = omega arith; apart = b.apart; most = b.most; ways = b.ways; turns = b.turns; queues = b.queues; short = all_append has_few_fds t.files.pending ((pid, operation) ∷ []) b.short (ap (λ c. c && true) few); held = b.held; kin = b.kin }

  dies_as : (about : About) (d r l m n : ℕ) (s : ClientProcs) → At d (r + is about.pid) l m n s → At d r l m n (ending.dies_as about s)
  dies_as about d r l m n s a =
      let entered : ClientProcs = says.enters_death about s in
      let ended : ClientProcs = ending.ends_by_death about s in
      let asked : ClientProcs = says.sends (home_of about.pid) None (requests.Home (ending.death_call about)) s in
      on_if d r l m n (homes.is_native about.pid s) _ _
      (ends d r l m n about.pid None (waiting.wakes_after about.pid ended) (wakes_after d (r + is about.pid) l m n about.pid ended (ended_at d (r + is about.pid) l m n about.pid Killed entered a)))
      (calls d r l m n about.pid (says.next_tx s) (unfinished.Death about.pid) (procs_of.in_state about.pid (states.Dying (says.next_tx s)) asked) (omega arith) (in_state d r l m n about.pid (states.Dying (says.next_tx s)) asked refl refl a))

  dies_by : (o : Option ℕ) (d r l m n pid : ℕ) (s : ClientProcs) → At d (r + is pid) l m n s → At d r l m n (ending.dies_by pid o s)
  dies_by (Some number) d r l m n pid s a = dies_as (record { pid = pid; number = number }) d r l m n s a
  dies_by None d r l m n pid s a = less_at d (r + is pid) l m n d r l m s (omega arith) (omega arith) (omega arith) (omega arith) a

  pub dies : (d r l m n pid : ℕ) (s : ClientProcs) → At d (r + is pid) l m n s → At d r l m n (ending.dies pid s)
  dies d r l m n pid s a = dies_by (ending.next_call pid s) d r l m n pid s a

  -- Processes that leave

  leaves_moving : (d r m pid : ℕ) (moving : OneMove) (about : Option About) (s : ClientProcs) → IsUnderWay (steps.Moving moving) → At d r (is pid) m (is pid) s → At d r 0 m 0 (leaving_of.keeps_leaving pid (steps.Moving moving) about s)
  leaves_moving d r m pid moving about s way a =
      let row : ℕ × Leaving = (pid, record { step = steps.Moving moving; about = about }) in
      let more = total_push (of_process q) s.leaving row in
      let move = total_push (moving_of q) s.leaving row in
      let moves_so = a.moves in
      let apart_so = a.apart in
      record { owed = a.owed; gets = a.gets; room = a.room; moves = omega arith; apart = omega arith; most = a.most; ways = each_push Way s.leaving row a.ways way; turns = a.turns; queues = a.queues; short = a.short; held = a.held; kin = a.kin }

  leaves_sent : (d r m n pid : ℕ) (sent : Freeze) (about : Option About) (s : ClientProcs) → n ≤ m → At d r (is pid) m n s → At d r 0 0 0 (leaving_of.keeps_leaving pid (steps.Sent sent) about s)
  leaves_sent d r m n pid sent about s few a =
      let row : ℕ × Leaving = (pid, record { step = steps.Sent sent; about = about }) in
      let more = total_push (of_process q) s.leaving row in
      let move = total_push (moving_of q) s.leaving row in
      let moves_so = a.moves in
      let apart_so = a.apart in
      record { owed = a.owed; gets = a.gets; room = a.room; moves = omega arith; apart = omega arith; most = a.most; ways = each_push Way s.leaving row a.ways tt; turns = a.turns; queues = a.queues; short = a.short; held = a.held; kin = a.kin }

  leaves_less : (d r m pid : ℕ) (found : Leaving) (s : ClientProcs) → leaving_of.leaving_at pid s ≡ Some found → At d r 0 m 0 s → At d r (is pid) m (moving_of q (pid, found)) (leaving_of.takes_leaving pid s)
  leaves_less d r m pid found s e a =
      let less_there = total_first (of_process q) pid s.leaving found e in
      let move = total_first (moving_of q) pid s.leaving found e in
      let moves_so = a.moves in
      let apart_so = a.apart in
      record { owed = a.owed; gets = a.gets; room = a.room; moves = omega arith; apart = omega arith; most = a.most; ways = each_less Way (is_under is_pid pid) s.leaving a.ways; turns = a.turns; queues = a.queues; short = a.short; held = a.held; kin = a.kin }

  move_begun : (d r l n pid : ℕ) (moving : OneMove) (about : Option About) (s : ClientProcs) → At d r l (is pid) n s → At d r l 0 n (leaving_of.begins_move pid moving about s)
  move_begun d r l n pid moving about s a =
      let operation : Pending = operations.Move (record { about = about; stream = moving.item.number; to = moving.freeze.to; state = WaitLock }) in
      let works = total_push (work_of q) s.files.pending (pid, operation) in
      let moves = total_push (move_of q) s.files.pending (pid, operation) in
      let owed_so = a.owed in
      let room_so = a.room in
      let moves_so = a.moves in
      record { owed = omega arith; gets = a.gets; room = omega arith; moves = omega arith; apart = a.apart; most = a.most; ways = a.ways; turns = a.turns; queues = a.queues; short = all_append has_few_fds s.files.pending ((pid, operation) ∷ []) a.short refl; held = a.held; kin = a.kin }

  -- what comes next, where a move of a stream is in hand
  left_as : (step : MoveStep) (d r pid : ℕ) (about : Option About) (s : ClientProcs) → IsUnderWay step → At d r (is pid) (is pid) (cond (is_moving_in step) (is pid) 0) s → At d r 0 0 0 (leaving_of.leaves_as pid step about s)
  left_as (steps.Moving moving) d r pid about s way a =
      leaves_moving d r 0 pid moving about (leaving_of.begins_if pid moving about s) way
      (on_if d r (is pid) 0 (is pid) (not (list_any (is_under is_pid pid) s.files.pending)) (leaving_of.begins_move pid moving about s) s
      (move_begun d r (is pid) (is pid) pid moving about s a)
      (less_at d r (is pid) (is pid) (is pid) d r (is pid) 0 s (omega arith) (omega arith) (omega arith) (omega arith) a))
  left_as (steps.Sent sent) d r pid about s way a =
      on_if d r 0 0 0 (list_any (leaving_of.is_page_out pid) s.unfinished) (leaving_of.keeps_leaving pid (steps.Sent sent) about s) (leaving_of.sends_process sent about s)
      (leaves_sent d r (is pid) 0 pid sent about s (omega arith) a)
      (calls_free d r 0 0 0 (says.next_tx s) (unfinished.Transfer sent.process.pid) (says.sends sent.to about (body_of sent) s) refl (less_at d r (is pid) (is pid) 0 d r 0 0 s (omega arith) (omega arith) (omega arith) (omega arith) a))

  none_taken : (d r l m n pid : ℕ) (s : ClientProcs) → leaving_of.leaving_at pid s ≡ None → At d r l m n s → At d r l m n (leaving_of.takes_leaving pid s)
  none_taken d r l m n pid s e a = subst (λ (rows : List (ℕ × Leaving)). Bal q dev A Q g H B d r l m n (record (whole_of s) { leaving = rows })) (sym (less_none (is_under is_pid pid) s.leaving (by_found (find (is_under is_pid pid) s.leaving) e))) a
    where
      by_found : (o : Option (ℕ × Leaving)) → option_map (λ (row : ℕ × Leaving). row.1) o ≡ None → o ≡ None
      by_found None k = refl
      by_found (Some row) k = absurd (cc)

  left_if : (o : Option Leaving) (d r pid : ℕ) (s : ClientProcs) → leaving_of.leaving_at pid s ≡ o → At d r 0 (is pid) 0 s → At d r 0 0 0 (leaving_of.leaves_if pid o (leaving_of.takes_leaving pid s))
  left_if None d r pid s e a = none_taken d r 0 0 0 pid s e (less_at d r 0 (is pid) 0 d r 0 0 s (omega arith) (omega arith) (omega arith) (omega arith) a)
  left_if (Some found) d r pid s e a = left_as found.step d r pid found.about (leaving_of.takes_leaving pid s) (way_found pid s.leaving found a.ways e) (leaves_less d r (is pid) pid found s e a)

  -- Streams that have moved, of a process that leaves once

  kept_as : (step : MoveStep) (d r n pid : ℕ) (about : Option About) (s : ClientProcs) → IsUnderWay step → n ≤ is pid → (is_moving_in step ≡ true → n ≡ is pid) → At d r (is pid) (is pid) n s → At d r 0 (cond (is_moving_in step) (is pid) 0) 0 (leaving_of.keeps_leaving pid step about s)
  kept_as (steps.Moving moving) d r n pid about s way few all a = leaves_moving d r (is pid) pid moving about s way (subst (λ (k : ℕ). At d r (is pid) (is pid) k s) (all refl) a)
  kept_as (steps.Sent sent) d r n pid about s way few all a = leaves_sent d r (is pid) n pid sent about s few a

  -- one that has no stream to move
  sent_left : (d r pid : ℕ) (sent : Freeze) (about : Option About) (s : ClientProcs) → At d r (is pid) 0 0 s → At d r 0 0 0 (leaving_of.leaves_as pid (steps.Sent sent) about s)
  sent_left d r pid sent about s a =
      on_if d r 0 0 0 (list_any (leaving_of.is_page_out pid) s.unfinished) (leaving_of.keeps_leaving pid (steps.Sent sent) about s) (leaving_of.sends_process sent about s)
      (leaves_sent d r 0 0 pid sent about s (omega arith) a)
      (calls_free d r 0 0 0 (says.next_tx s) (unfinished.Transfer sent.process.pid) (says.sends sent.to about (body_of sent) s) refl (less_at d r (is pid) 0 0 d r 0 0 s (omega arith) (omega arith) (omega arith) (omega arith) a))

  moved_by : (o : Option Leaving) (d r pid : ℕ) (place : Place) (grant : Option Grant) (many : ℕ) (s : ClientProcs) → leaving_of.leaving_at pid s ≡ o → total (of_process pid) s.leaving ≤ 1 → At d r 0 (is pid) 0 s → At d r 0 0 0 (leaving_of.leaves_on pid (leaving_of.notes_move_if pid o place grant many (leaving_of.takes_leaving pid s)))
  moved_by None d r pid place grant many s e alone a =
      let left : ClientProcs = leaving_of.takes_leaving pid s in
      let so = none_taken d r 0 0 0 pid s e (less_at d r 0 (is pid) 0 d r 0 0 s (omega arith) (omega arith) (omega arith) (omega arith) a) in
      let none : leaving_of.leaving_at pid left ≡ None = still_none s.leaving e in
      subst (λ (o : Option Leaving). At d r 0 0 0 (leaving_of.leaves_if pid o (leaving_of.takes_leaving pid left))) (sym none) (none_taken d r 0 0 0 pid left none so)
    where
      still_none : (rows : List (ℕ × Leaving)) → first_under is_pid pid rows ≡ None → first_under is_pid pid (less (is_under is_pid pid) rows) ≡ None
      still_none rows k = ap (λ (rows : List (ℕ × Leaving)). first_under is_pid pid rows) (less_none (is_under is_pid pid) rows (by_found (find (is_under is_pid pid) rows) k)) ∙ k
        where
          by_found : (o : Option (ℕ × Leaving)) → option_map (λ (row : ℕ × Leaving). row.1) o ≡ None → o ≡ None
          by_found None k = refl
          by_found (Some row) k = absurd (cc)
  moved_by (Some found) d r pid place grant many s e alone a =
      let left : ClientProcs = leaving_of.takes_leaving pid s in
      let step : MoveStep = leaving_of.moved_step place grant many found.step in
      let way = way_found pid s.leaving found a.ways e in
      let goes = goes_on_from found.step place grant many way in
      let kept : ClientProcs = leaving_of.keeps_leaving pid step found.about left in
      let self = self_one pid in
      let count = total_first (of_process pid) pid s.leaving found e in
      let last : leaving_of.leaving_at pid kept ≡ Some (record { step = step; about = found.about }) = found_last pid left.leaving (record { step = step; about = found.about }) (none_there pid left.leaving (omega arith)) in
      let there : At d r 0 (cond (is_moving_in step) (is pid) 0) 0 kept = kept_as step d r (moving_of q (pid, found)) pid found.about left goes.way (cond_most (is_moving_in found.step) (is pid)) (still_moving found.step) (leaves_less d r (is pid) pid found s e a) in
      subst (λ (o : Option Leaving). At d r 0 0 0 (leaving_of.leaves_if pid o (leaving_of.takes_leaving pid kept))) (sym last) (left_kept step kept last there goes.way)
    where
      still_moving : (step : MoveStep) → is_moving_in (leaving_of.moved_step place grant many step) ≡ true → cond (is_moving_in step) (is pid) 0 ≡ is pid
      still_moving (steps.Moving moving) h = refl
      still_moving (steps.Sent sent) h = absurd (cc)

      left_kept : (step : MoveStep) (s : ClientProcs) → leaving_of.leaving_at pid s ≡ Some (record { step = step; about = found.about }) → At d r 0 (cond (is_moving_in step) (is pid) 0) 0 s → IsUnderWay step → At d r 0 0 0 (leaving_of.leaves_as pid step found.about (leaving_of.takes_leaving pid s))
      left_kept (steps.Moving moving) s e a way = left_as (steps.Moving moving) d r pid found.about (leaving_of.takes_leaving pid s) way (leaves_less d r (is pid) pid (record { step = steps.Moving moving; about = found.about }) s e a)
      left_kept (steps.Sent sent) s e a way = sent_left d r pid sent found.about (leaving_of.takes_leaving pid s) (leaves_less d r 0 pid (record { step = steps.Sent sent; about = found.about }) s e a)

  pub has_moved : (d r pid : ℕ) (place : Place) (grant : Option Grant) (many : ℕ) (s : ClientProcs) → total (of_process pid) s.leaving ≤ 1 → At d r 0 (is pid) 0 s → At d r 0 0 0 (leaving_of.has_moved pid place grant many s)
  has_moved d r pid place grant many s alone a = moved_by (leaving_of.leaving_at pid s) d r pid place grant many s refl alone a

  -- a page was put, where nothing of its process is to be reported
  unmoved_by : (b : Bool) (d r pid : ℕ) (moving : OneMove) (about : Option About) (s : ClientProcs) → list_any (is_under is_pid pid) s.files.pending ≡ b → total (moved_of q) s.files.results ≡ 0 → At d r (is pid) 0 (is pid) s → At d r (is pid) 0 (is pid) (cond (not b) (leaving_of.begins_move pid moving about s) s)
  unmoved_by true d r pid moving about s e none a = a
  unmoved_by false d r pid moving about s e none a =
      let few = none_moves pid s.files.pending e in
      let moves_so = a.moves in
      move_begun d r (is pid) (is pid) pid moving about s (record { owed = a.owed; gets = a.gets; room = a.room; moves = by_same (pid == q) refl; apart = a.apart; most = a.most; ways = a.ways; turns = a.turns; queues = a.queues; short = a.short; held = a.held; kin = a.kin })
    where
      by_same : (c : Bool) → (pid == q) ≡ c → moves_now q (whole_of s) + one_if c ≤ total (moving_of q) s.leaving + one_if c
      by_same true f = (let zero_so : total (move_of q) s.files.pending ≤ 0 = subst (λ (k : ℕ). total (move_of k) s.files.pending ≤ 0) (eqb-true pid q f) (none_moves pid s.files.pending e) in omega arith)
      by_same false f = (let moves_so : moves_now q (whole_of s) + 0 ≤ total (moving_of q) s.leaving + is pid = a.moves in let zero_so : is pid ≡ 0 = ap one_if f in omega arith)

  page_left : (step : MoveStep) (d r pid : ℕ) (about : Option About) (s : ClientProcs) → total (moved_of q) s.files.results ≡ 0 → IsUnderWay step → At d r (is pid) 0 (cond (is_moving_in step) (is pid) 0) s → At d r 0 0 0 (leaving_of.leaves_as pid step about s)
  page_left (steps.Moving moving) d r pid about s none way a = leaves_moving d r 0 pid moving about (leaving_of.begins_if pid moving about s) way (unmoved_by (list_any (is_under is_pid pid) s.files.pending) d r pid moving about s refl none a)
  page_left (steps.Sent sent) d r pid about s none way a = sent_left d r pid sent about s a

  page_if : (o : Option Leaving) (d r pid : ℕ) (s : ClientProcs) → total (moved_of q) s.files.results ≡ 0 → leaving_of.leaving_at pid s ≡ o → At d r 0 0 0 s → At d r 0 0 0 (leaving_of.leaves_if pid o (leaving_of.takes_leaving pid s))
  page_if None d r pid s none e a = none_taken d r 0 0 0 pid s e a
  page_if (Some found) d r pid s none e a = page_left found.step d r pid found.about (leaving_of.takes_leaving pid s) none (way_found pid s.leaving found a.ways e) (leaves_less d r 0 pid found s e a)

  pub page_out : (d r pid : ℕ) (s : ClientProcs) → total (moved_of q) s.files.results ≡ 0 → At d r 0 0 0 s → At d r 0 0 0 (leaving_of.leaves_on pid s)
  page_out d r pid s none a = page_if (leaving_of.leaving_at pid s) d r pid s none refl a

  -- Freezes

  pages_put : (pages : List (ℕ × List ℕ)) (d r l m n pid : ℕ) (s : ClientProcs) → At d r l m n s → At d r l m n (freezing.puts_pages pid pages s)
  pages_put [] d r l m n pid s a = a
  pages_put (page ∷ pages) d r l m n pid s a =
      let sent : ClientProcs = says.sends s.swap_server None (requests.PageOut (record { pid = pid; page = page.0; bytes = page.1 })) s in
      pages_put pages d r l m n pid (freezing.puts_page pid page.0 page.1 s) (calls_free d r l m n (says.next_tx s) (unfinished.PageOut pid) sent refl a)

  proc_taken : (d r pid : ℕ) (proc : Proc) (s : ClientProcs) → proc_at pid s ≡ Some proc → At d (r + is pid) 0 0 0 s → At d r (is pid) (is pid) (is pid) (freezing.takes_proc pid s)
  proc_taken d r pid proc s e a =
      let busy = total_gone (busy_of q) pid s.procs proc e in
      let getting = total_gone (getting_of dev q) pid s.procs proc e in
      let here_so = total_gone (of_process q) pid s.procs proc e in
      let first = cond_most (is_busy proc.state) (one_if (pid == q)) in
      let second = cond_most (gets_from dev proc.state) (one_if (pid == q)) in
      let unit = one_most (pid == q) in
      let owed_so = a.owed in
      let gets_so = a.gets in
      let room_so = a.room in
      let moves_so = a.moves in
      let apart_so = a.apart in
      let most_so = a.most in
      record { owed = omega arith; gets = omega arith; room = omega arith; moves = omega arith; apart = omega arith; most = a.most; ways = a.ways; turns = a.turns; queues = a.queues; short = a.short; held = a.held; kin = a.kin }

  sent_off : (d r pid : ℕ) (proc : Proc) (route : Route) (streams : List Carried) (s : ClientProcs) → can_move streams ≡ true → total (of_process pid) s.leaving ≤ 0 → At d r (is pid) (is pid) (is pid) s → At d r 0 0 0 (freezing.sends_off pid proc route streams s)
  sent_off d r pid proc route streams s can alone a =
      let process : Process = freezing.process_of pid proc route streams s in
      let dropped : ClientProcs = freezing.drops_cwd pid s in
      let step : MoveStep = step_of (frozen_for process route.to route.program) in
      let goes = goes_frozen process route.to route.program can in
      let kept : ClientProcs = leaving_of.keeps_leaving pid step route.about dropped in
      let last : leaving_of.leaving_at pid kept ≡ Some (record { step = step; about = route.about }) = found_last pid dropped.leaving (record { step = step; about = route.about }) (none_there pid dropped.leaving alone) in
      subst (λ (o : Option Leaving). At d r 0 0 0 (leaving_of.leaves_if pid o (leaving_of.takes_leaving pid kept))) (sym last) (left_kept step kept last (kept_as step d r (is pid) pid route.about dropped goes.way (omega arith) (λ on. refl) a) goes.way)
    where
      left_kept : (step : MoveStep) (s : ClientProcs) → leaving_of.leaving_at pid s ≡ Some (record { step = step; about = route.about }) → At d r 0 (cond (is_moving_in step) (is pid) 0) 0 s → IsUnderWay step → At d r 0 0 0 (leaving_of.leaves_as pid step route.about (leaving_of.takes_leaving pid s))
      left_kept (steps.Moving moving) s e a way = left_as (steps.Moving moving) d r pid route.about (leaving_of.takes_leaving pid s) way (leaves_less d r (is pid) pid (record { step = steps.Moving moving; about = route.about }) s e a)
      left_kept (steps.Sent sent) s e a way = sent_left d r pid sent route.about (leaving_of.takes_leaving pid s) (leaves_less d r 0 pid (record { step = steps.Sent sent; about = route.about }) s e a)

  leaving_same : (pages : List (ℕ × List ℕ)) (pid : ℕ) (s : ClientProcs) → total (of_process pid) s.leaving ≤ 0 → total (of_process pid) (freezing.puts_pages pid pages s).leaving ≤ 0
  leaving_same [] pid s h = h
  leaving_same (page ∷ pages) pid s h = leaving_same pages pid (freezing.puts_page pid page.0 page.1 s) h

  put_out : (o : Option Proc) (d r pid : ℕ) (route : Route) (streams : List Carried) (s : ClientProcs) → proc_at pid s ≡ o → can_move streams ≡ true → total (of_process pid) s.procs + total (of_process pid) s.leaving ≤ 1 → At d (r + is pid) 0 0 0 s → At d r 0 0 0 (freezing.puts_out_if pid o route streams (freezing.takes_proc pid s))
  put_out None d r pid route streams s e can alone a =
      subst (λ (rows : List (ℕ × Proc)). Bal q dev A Q g H B d r 0 0 0 (record (whole_of s) { procs = rows })) (sym (removed_none (is_at_pid pid) s.procs e)) (less_at d (r + is pid) 0 0 0 d r 0 0 s (omega arith) (omega arith) (omega arith) (omega arith) a)
  put_out (Some proc) d r pid route streams s e can alone a =
      let pages : List (ℕ × List ℕ) = freezing.pages_for route.program proc.image in
      let taken : ClientProcs = freezing.takes_proc pid s in
      let there = total_there (of_process pid) pid s.procs proc e in
      let self = self_one pid in
      sent_off d r pid (freezing.without_pages route.program proc) route streams (freezing.puts_pages pid pages taken) can (leaving_same pages pid taken (omega arith)) (pages_put pages d r (is pid) (is pid) (is pid) pid taken (proc_taken d r pid proc s e a))

  pub entered_own : (o : Option Entry) (d r l m n : ℕ) (s : ClientProcs) → At d r l m n s → At d r l m n (procs_of.enters_if o s)
  entered_own (Some entry) d r l m n s a = a
  entered_own None d r l m n s a = a

  entered_move : (o : Option About) (d r l m n pid : ℕ) (s : ClientProcs) → At d r l m n s → At d r l m n (freezing.enters_move pid o s)
  entered_move (Some about) d r l m n pid s a = entered_own (procs_of.entry_at pid (says.value 0 0) s) d r l m n s a
  entered_move None d r l m n pid s a = a

  own_alone : (o : Option Entry) (pid : ℕ) (s : ClientProcs) → total (of_process pid) s.procs + total (of_process pid) s.leaving ≤ 1 → total (of_process pid) (procs_of.enters_if o s).procs + total (of_process pid) (procs_of.enters_if o s).leaving ≤ 1
  own_alone (Some entry) pid s h = h
  own_alone None pid s h = h

  move_alone : (o : Option About) (pid : ℕ) (s : ClientProcs) → total (of_process pid) s.procs + total (of_process pid) s.leaving ≤ 1 → total (of_process pid) (freezing.enters_move pid o s).procs + total (of_process pid) (freezing.enters_move pid o s).leaving ≤ 1
  move_alone (Some about) pid s h = own_alone (procs_of.entry_at pid (says.value 0 0) s) pid s h
  move_alone None pid s h = h

  pub frozen : (d r pid : ℕ) (route : Route) (s : ClientProcs) → total (of_process pid) s.procs + total (of_process pid) s.leaving ≤ 1 → At d (r + is pid) 0 0 0 s → At d r 0 0 0 (freezing.freezes pid route s)
  frozen d r pid route s alone a = by_test (can_move (all_carried pid s)) refl
    where
      by_test : (b : Bool) → can_move (all_carried pid s) ≡ b → At d r 0 0 0 (cond (not b) s (freezing.freezes_with pid route (all_carried pid s) s))
      by_test false e = less_at d (r + is pid) 0 0 0 d r 0 0 s (omega arith) (omega arith) (omega arith) (omega arith) a
      by_test true e =
          let noted : ClientProcs = says.notes (events.Freeze pid) s in
          let entered : ClientProcs = freezing.enters_move pid route.about noted in
          put_out (proc_at pid entered) d r pid route (all_carried pid s) entered refl e (move_alone route.about pid noted alone) (entered_move route.about d (r + is pid) 0 0 0 pid noted a)

  -- Calls that return

  evict_alone : (o : Option Proc) (pid : ℕ) (evict : Bool) (s : ClientProcs) → proc_at pid s ≡ o → total (of_process pid) s.procs + total (of_process pid) s.leaving ≤ 1
      → total (of_process pid) (procs_of.with_proc pid (option_map {T = Proc} (λ proc. record proc { evict = evict }) o) s).procs + total (of_process pid) s.leaving ≤ 1
  evict_alone None pid evict s e h = h
  evict_alone (Some proc) pid evict s e h = (let same : total (of_process pid) (set_value (is_at_pid pid) s.procs (record proc { evict = evict })) ≡ total (of_process pid) s.procs = total_set (λ (key : ℕ). one_if (key == pid)) (is_at_pid pid) s.procs (record proc { evict = evict }) in omega arith)

  with_evict : (d r l m n pid : ℕ) (evict : Bool) (s : ClientProcs) → At d r l m n s → At d r l m n (returning.with_evict evict pid s)
  with_evict d r l m n pid evict s a = with_same (proc_at pid s) d r l m n pid (λ proc. record proc { evict = evict }) s refl (λ proc. refl) a

  evict_leaving : (o : Option Proc) (pid : ℕ) (evict : Bool) (s : ClientProcs) → (procs_of.with_proc pid (option_map {T = Proc} (λ proc. record proc { evict = evict }) o) s).leaving ≡ s.leaving
  evict_leaving None pid evict s = refl
  evict_leaving (Some proc) pid evict s = refl

  evicted : (d r pid : ℕ) (s : ClientProcs) → total (of_process pid) s.procs + total (of_process pid) s.leaving ≤ 1 → At d (r + is pid) 0 0 0 s → At d r 0 0 0 (returning.is_evicted pid s)
  evicted d r pid s alone a =
      let stays : ClientProcs = returning.with_evict false pid s in
      let so = with_evict d (r + is pid) 0 0 0 pid false s a in
      let left = ap (total (of_process pid)) (evict_leaving (proc_at pid s) pid false s) in
      let here_so = evict_alone (proc_at pid s) pid false s refl alone in
      on_if d r 0 0 0 (holds_master pid stays) stays (freezing.freezes pid (record { to = home_of pid; about = None; program = None }) stays)
      (less_at d (r + is pid) 0 0 0 d r 0 0 stays (omega arith) (omega arith) (omega arith) (omega arith) so) (frozen d r pid (record { to = home_of pid; about = None; program = None }) stays (omega arith) so)

  between_by : (o : Option Proc) (d r pid : ℕ) (s : ClientProcs) → total (of_process pid) s.procs + total (of_process pid) s.leaving ≤ 1 → At d (r + is pid) 0 0 0 s → At d r 0 0 0 (returning.goes_between_as pid (returning.standing_if o) s)
  between_by None d r pid s alone a = less_at d (r + is pid) 0 0 0 d r 0 0 s (omega arith) (omega arith) (omega arith) (omega arith) a
  between_by (Some proc) d r pid s alone a =
      by_bool (λ standing. returning.goes_between_as pid standing s) (At d r 0 0 0) proc.killed _ _
      (λ _. dies d r 0 0 0 pid s a)
      (λ _. by_bool (λ standing. returning.goes_between_as pid standing s) (At d r 0 0 0) proc.evict _ _ (λ _. evicted d r pid s alone a)
      (λ _. less_at d (r + is pid) 0 0 0 d r 0 0 s (omega arith) (omega arith) (omega arith) (omega arith) a))

  pub between : (d r pid : ℕ) (s : ClientProcs) → total (of_process pid) s.procs + total (of_process pid) s.leaving ≤ 1 → At d (r + is pid) 0 0 0 s → At d r 0 0 0 (returning.goes_between pid s)
  between d r pid s alone a = between_by (proc_at pid s) d r pid s alone a

  getters_less : (d r l m n : ℕ) (p : ℕ × ℕ → Bool) (s : ClientProcs) → At d r l m n s → At d r l m n (record s { getters = without p s.getters })
  getters_less d r l m n p s a =
      let fewer = total_without (getter_of dev q) p s.getters in
      let gets_so = a.gets in
      let room_so = a.room in
      record { owed = a.owed; gets = omega arith; room = omega arith; moves = a.moves; apart = a.apart; most = a.most; ways = a.ways; turns = a.turns; queues = a.queues; short = a.short; held = a.held; kin = a.kin }

  unmade : (o : Option ℕ) (reply : Reply) (d r l m n : ℕ) (s : ClientProcs) → At d r l m n s → At d r l m n (making.unmakes_if reply o s)
  unmade (Some device) (Error errno) d r l m n s a = getters_less d r l m n (is_under is_pid device) s a
  unmade (Some device) (Value first second bytes) d r l m n s a = a
  unmade None reply d r l m n s a = a

  returned : (o : Option Proc) (d r pid : ℕ) (reply : Reply) (s : ClientProcs) → proc_at pid s ≡ o → At (d + is pid) r 0 0 0 s → At d (r + is pid) 0 0 0 (record s { procs = returning.returned_with pid (option_map {T = Proc} (returning.returned s.programs reply) o) s.procs })
  returned (Some proc) d r pid reply s e a = readied d r 0 0 0 pid proc (returning.returned s.programs reply proc) s e refl refl a
  returned None d r pid reply s e a = loosened d r 0 0 0 (is pid) s a

  noted_return : (o : Option ℕ) (d r pid : ℕ) (reply : Reply) (s : ClientProcs) → At d r 0 0 0 s → At d r 0 0 0 (returning.notes_return_as pid reply o s)
  noted_return (Some number) d r pid reply s a = a
  noted_return None d r pid reply s a = a

  pub finished : (d r pid : ℕ) (reply : Reply) (s : ClientProcs) → total (of_process pid) s.procs + total (of_process pid) s.leaving ≤ 1 → At (d + is pid) r 0 0 0 s → At d r 0 0 0 (returning.finishes_call pid reply s)
  finished d r pid reply s alone a =
      let started : ClientProcs = record s { making = less (is_under is_pid pid) s.making } in
      let made : ClientProcs = making.ends_making pid reply s in
      let back : ClientProcs = returning.has_returned pid reply made in
      let told : ClientProcs = returning.notes_return pid reply back in
      between d r pid told (told_alone (returning.number_at pid back) pid reply back (back_alone (lookup (is_at_pid pid) made.procs) pid reply made (made_alone (first_under is_pid pid s.making) pid reply started alone)))
      (noted_return (returning.number_at pid back) d (r + is pid) pid reply back (returned (lookup (is_at_pid pid) made.procs) d r pid reply made refl (unmade (first_under is_pid pid s.making) reply (d + is pid) r 0 0 0 started a)))

  -- Evictions

  evict_one : (b : Bool) (d pid : ℕ) (s : ClientProcs) → evicting.is_ready pid s ≡ b → total (of_process pid) s.procs + total (of_process pid) s.leaving ≤ 1 → At d 0 0 0 0 s → At d 0 0 0 0 (cond (not b) s (returning.goes_between pid s))
  evict_one false d pid s e alone a = a
  evict_one true d pid s e alone a = by_proc (proc_at pid s) refl e
    where
      by_proc : (o : Option Proc) → proc_at pid s ≡ o → evicting.is_ready_if o ≡ true → At d 0 0 0 0 (returning.goes_between pid s)
      by_proc None f k = absurd (cc)
      by_proc (Some proc) f k = (let lazy = ready_lazy dev proc.state k in between d 0 pid s alone (less_at d (is pid) 0 0 0 d (0 + is pid) 0 0 s (omega arith) (omega arith) (omega arith) (omega arith) (freed d 0 0 0 pid proc s f lazy.0 lazy.1 a)))

  pub evicts : (d pid : ℕ) (s : ClientProcs) → total (of_process pid) s.procs + total (of_process pid) s.leaving ≤ 1 → At d 0 0 0 0 s → At d 0 0 0 0 (evicting.evicts pid s)
  evicts d pid s alone a =
      let flagged : ClientProcs = returning.with_evict true pid s in
      let left = ap (total (of_process pid)) (evict_leaving (proc_at pid s) pid true s) in
      let here_so = evict_alone (proc_at pid s) pid true s refl alone in
      on_if d 0 0 0 0 ((home_of pid == s.kernel) || not (evicting.runs_here pid s)) s (evicting.leaves_if_ready pid flagged) a
      (evict_one (evicting.is_ready pid flagged) d pid flagged refl (omega arith) (with_evict d 0 0 0 0 pid true s a))

  -- Asks

  device_kept : (o : Option Asks) (d r device : ℕ) (s : ClientProcs) → At d r 0 0 0 s → At d r 0 0 0 (tables.with_device device o s)
  device_kept (Some asks) d r device s a = a
  device_kept None d r device s a = a

  asked_less : (d r : ℕ) (p : About × Option TxNo → Bool) (row : About × Option TxNo) (s : ClientProcs) → find p s.asked ≡ Some row → At d r 0 0 0 s → At (d + ask_of q row) r 0 0 0 (record s { asked = less p s.asked })
  asked_less d r p row s e a =
      let asks = total_found (ask_of q) p s.asked row e in
      let owed_so = a.owed in
      let room_so = a.room in
      record { owed = omega arith; gets = a.gets; room = omega arith; moves = a.moves; apart = a.apart; most = a.most; ways = a.ways; turns = a.turns; queues = a.queues; short = a.short; held = a.held; kin = a.kin }

  gives_to : (o : Option (About × Option TxNo)) (d r : ℕ) (ask : Ask) (reply : Reply) (s : ClientProcs) → find (is_under asking.is_about (asking.about_ask ask)) s.asked ≡ o → At d r 0 0 0 s
      → At d r 0 0 0 (asking.gives_to ask.pid (option_map (λ (row : About × Option TxNo). row.1) o) reply (record s { asked = less (is_under asking.is_about (asking.about_ask ask)) s.asked }))
  gives_to None d r ask reply s e a = subst (λ (rows : List (About × Option TxNo)). Bal q dev A Q g H B d r 0 0 0 (record (whole_of s) { asked = rows })) (sym (less_none (is_under asking.is_about (asking.about_ask ask)) s.asked e)) a
  gives_to (Some (about, Some tx)) d r ask reply s e a =
      less_at (d + 0) r 0 0 0 d r 0 0 (record s { asked = less (is_under asking.is_about (asking.about_ask ask)) s.asked }) (omega arith) (omega arith) (omega arith) (omega arith) (asked_less d r (is_under asking.is_about (asking.about_ask ask)) (about, Some tx) s e a)
  gives_to (Some (about, None)) d r ask reply s e a =
      let passes = found_passes (is_under asking.is_about (asking.about_ask ask)) (about, None) s.asked e in
      let parts = and_parts (about.pid == ask.pid) (about.number == ask.number) passes in
      let same : one_if (about.pid == q) ≡ is ask.pid = ap (λ (pid : ℕ). one_if (pid == q)) (eqb-true about.pid ask.pid parts.0) in
      let left : ClientProcs = record s { asked = less (is_under asking.is_about (asking.about_ask ask)) s.asked } in
      replied d r 0 0 0 ask.pid reply left (loosened d r 0 0 0 (is ask.pid) left (less_at (d + one_if (about.pid == q)) r 0 0 0 (d + is ask.pid) r 0 0 left (omega arith) (omega arith) (omega arith) (omega arith) (asked_less d r (is_under asking.is_about (asking.about_ask ask)) (about, None) s e a)))

  pub ends_ask : (d r : ℕ) (ask : Ask) (reply : Reply) (s : ClientProcs) → At d r 0 0 0 s → At d r 0 0 0 (asking.ends_ask ask reply s)
  ends_ask d r ask reply s a =
      let told : ClientProcs = asking.notes_end ask reply s in
      gives_to (find (is_under asking.is_about (asking.about_ask ask)) told.asked) d r ask reply told refl a

  asks_ended : (asks : List Ask) (d r : ℕ) (s : ClientProcs) → At d r 0 0 0 s → At d r 0 0 0 (making.ends_all asks s)
  asks_ended [] d r s a = a
  asks_ended (ask ∷ asks) d r s a = asks_ended asks d r (asking.ends_ask ask (Error NoServer) s) (ends_ask d r ask (Error NoServer) s a)

  pub master_closed : (d r device : ℕ) (s : ClientProcs) → At d r 0 0 0 s → At d r 0 0 0 (making.closes_master device s)
  master_closed d r device s a = asks_ended (tables.asks_at device s) d r (tables.left_at device s) (device_kept (option_map tables.left_by (tables.asks_in device s)) d r device s a)

  -- an ask of this kernel or of another
  pub asked_more : (d r : ℕ) (ask : Ask) (asker : Option TxNo) (s : ClientProcs) → At (d + ask_of q (asking.about_ask ask, asker)) r 0 0 0 s → At d r 0 0 0 (asking.notes_ask ask asker s)
  asked_more d r ask asker s a =
      let more = total_push (ask_of q) s.asked (asking.about_ask ask, asker) in
      let owed_so = a.owed in
      let room_so = a.room in
      record { owed = omega arith; gets = a.gets; room = omega arith; moves = a.moves; apart = a.apart; most = a.most; ways = a.ways; turns = a.turns; queues = a.queues; short = a.short; held = a.held; kin = a.kin }

  -- Masters that wait

  -- the first that waits for the device is taken out: nothing is owed to it then
  pub getter_taken : (d device pid : ℕ) (s : ClientProcs) → find (is_row is_pid is_pid device pid) s.getters ≡ Some (device, pid) → ((dev == device) ≡ false → total (busy_of q) s.procs + total (getting_of dev q) s.procs + is pid ≤ total (of_process q) s.procs) → At d 0 0 0 0 s
      → At d (is pid) 0 0 0 (record s { getters = less (is_row is_pid is_pid device pid) s.getters })
  getter_taken d device pid s e idle a = by_device (dev == device) refl
    where
      by_device : (b : Bool) → (dev == device) ≡ b → At d (is pid) 0 0 0 (record s { getters = less (is_row is_pid is_pid device pid) s.getters })
      by_device true f =
          let fewer = total_found (getter_of dev q) (is_row is_pid is_pid device pid) s.getters (device, pid) e in
          let same = ap (λ b. cond b (one_if (pid == q)) 0) (eq-eqb device dev (sym (eqb-true dev device f))) in
          let apart_busy = busy_apart q dev s.procs in
          let owed_so = a.owed in
          let gets_so = a.gets in
          record { owed = a.owed; gets = omega arith; room = omega arith; moves = a.moves; apart = a.apart; most = a.most; ways = a.ways; turns = a.turns; queues = a.queues; short = a.short; held = a.held; kin = a.kin }
      by_device false f =
          let fewer = total_less (getter_of dev q) (is_row is_pid is_pid device pid) s.getters in
          let idle_so = idle f in
          let owed_so = a.owed in
          let gets_so = a.gets in
          record { owed = a.owed; gets = omega arith; room = omega arith; moves = a.moves; apart = a.apart; most = a.most; ways = a.ways; turns = a.turns; queues = a.queues; short = a.short; held = a.held; kin = a.kin }
