-- What kills, births and calls that are done at homes do to what is on its way to a process, and to the state in which it waits.
use Rattle.std.proofs.Common.{arith, ◌≡◌, ℕ, ◌+◌, ◌≤◌, ◌==◌, Bool, true, false, ◌&&◌, ◌||◌, not, cond, List, [], ◌∷◌, Option, Some, None, option_map, refl, ap, ◌∙◌, subst}
use Rattle.std.proofs.lemmas.Bool.{and_parts, eqb-true}
use Rattle.std.specs.List.{find}
use Rattle.sprite_ids.specs.declared.Errno.TheVariants as errnos
use Rattle.sprite_ids.specs.declared.TxNo.{TxNo}
use Rattle.sprite_ids.specs.Lists.{less, one_if, total}
use Rattle.sprite_ids.proofs.OnceLaws.{found_passes}
use Rattle.process_machine.specs.declared.Reply.{Reply}
use Rattle.process_machine.specs.declared.Reply.TheVariants.{Error}
use Rattle.packet_bodies.specs.declared.HomeCall.{HomeCall}
use Rattle.packet_bodies.specs.declared.HomeCall.TheVariants as home_calls
use Rattle.packet_bodies.specs.declared.HomeRequest.{HomeRequest}
use Rattle.packet_bodies.specs.declared.ReplyBody.{ReplyBody}
use Rattle.packet_bodies.specs.declared.ReplyBody.TheVariants.{Done}
use Rattle.packet_bodies.specs.declared.Request.{Request}
use Rattle.packet_bodies.specs.declared.Request.TheVariants as requests
use Rattle.kernel_steps.specs.Rows.{is_row}
use Rattle.unix_calls.specs.declared.About.{About}
use Rattle.unix_calls.specs.declared.Entry.{Entry}
use Rattle.unix_calls.specs.declared.Event.TheVariants as events
use Rattle.client_file_tables.specs.declared.moves.Report.{Report}
use Rattle.client_homes.specs.declared.client.ClientProcs.{ClientProcs}
use Rattle.client_homes.specs.declared.client.KillState.{KillState}
use Rattle.client_homes.specs.declared.client.KillState.TheVariants as kill_states
use Rattle.client_homes.specs.declared.client.Unfinished.{Unfinished}
use Rattle.client_homes.specs.declared.client.Unfinished.TheVariants as unfinished
use Rattle.client_homes.specs.declared.process.Proc.{Proc}
use Rattle.client_homes.specs.declared.process.ProcState.{ProcState}
use Rattle.client_homes.specs.declared.process.ProcState.TheVariants as states
use Rattle.client_homes.specs.Calls as calling
use Rattle.client_homes.specs.Ends as ending
use Rattle.client_homes.specs.Homes as homes
use Rattle.client_homes.specs.Issuing as issuing
use Rattle.client_homes.specs.Killing as killing
use Rattle.client_homes.specs.Kills as kills
use Rattle.client_homes.specs.Pages as pages
use Rattle.client_homes.specs.Procs as procs_of
use Rattle.client_homes.specs.Procs.{is_pid, proc_at}
use Rattle.client_homes.specs.Says as says
use Rattle.client_homes.specs.Says.{value}
use Rattle.client_homes.specs.Waits as waiting
use Rattle.client_facts.specs.ProcFacts.{gets_from}
use Rattle.client_rounds.specs.OneThing.{getter_of, getting_of, is_busy, waits_for}
use Rattle.client_rounds.proofs.StandLaws as standing
use Rattle.client_rounds.proofs.Standing.{Bal, Whole, busy_apart, idle_apart, total_there, whole_of}
use Rattle.client_rounds.proofs.Totals.{total_found, total_less}

-- whatever is born
pub unkept : (q dev A : ℕ) (Q : List Report → Type 0) (g : Bool) (H B d r l m n : ℕ) (v : Whole) → Bal q dev A Q g H B d r l m n v → Bal q dev A Q false 0 0 d r l m n v
unkept q dev A Q g H B d r l m n v a =
    record { owed = a.owed; gets = a.gets; room = a.room; moves = a.moves; apart = a.apart; most = a.most; ways = a.ways; turns = a.turns; queues = a.queues; short = a.short; held = a.held; kin = λ on. absurd (cc) }

-- a row of a master that waits for a device
none_by : (a b : Bool) (row : ℕ × ℕ) (o : Option (ℕ × ℕ)) (n : ℕ) → (o ≡ None → n ≤ 0) → cond (a && b) (Some row) o ≡ None → cond a (one_if b) 0 + n ≤ 0
none_by true true row o n later e = absurd (cc)
none_by true false row o n later e = (let rest = later e in omega arith)
none_by false b row o n later e = (let rest = later e in omega arith)

none_row : (device pid : ℕ) (rows : List (ℕ × ℕ)) → find (is_row is_pid is_pid device pid) rows ≡ None → total (getter_of device pid) rows ≤ 0
none_row device pid [] e = omega arith
none_row device pid (row ∷ rows) e = none_by (row.0 == device) (row.1 == pid) row (find (is_row is_pid is_pid device pid) rows) (total (getter_of device pid) rows) (none_row device pid rows) e

module _ (q dev A : ℕ) (Q : List Report → Type 0) (g : Bool) (H B : ℕ) where
  abbrev At : ℕ → ℕ → ClientProcs → Type 0
  At d r s = Bal q dev A Q g H B d r 0 0 0 (whole_of s)

  abbrev is : ℕ → ℕ
  is pid = one_if (pid == q)

  pub on_if : (d r : ℕ) (b : Bool) (s t : ClientProcs) → At d r s → At d r t → At d r (cond b s t)
  on_if d r true s t a c = a
  on_if d r false s t a c = c

  pub less_in : (d r e x : ℕ) (s : ClientProcs) → e ≤ d → x ≤ r → At d r s → At e x s
  less_in d r e x s f h a = standing.less_at q dev A Q g H B d r 0 0 0 e x 0 0 s f h (omega arith) (omega arith) a

  -- a process to which something is owed, in another state
  pub turned : (d r pid : ℕ) (state : ProcState) (s : ClientProcs) → is_busy state ≡ true → gets_from dev state ≡ false → At (d + is pid) r s → At (d + is pid) r (procs_of.in_state pid state s)
  turned d r pid state s busy_new gets_new a = standing.in_state q dev A Q g H B d r 0 0 0 pid state s busy_new gets_new (standing.loosened q dev A Q g H B d r 0 0 0 (is pid) s a)

  pub replied : (d r pid : ℕ) (reply : Reply) (s : ClientProcs) → At (d + is pid) r s → At d r (procs_of.replies pid reply s)
  replied d r pid reply s a = standing.replied q dev A Q g H B d r 0 0 0 pid reply s (standing.loosened q dev A Q g H B d r 0 0 0 (is pid) s a)

  free_by : (o : Option Entry) (d r pid : ℕ) (reply : Reply) (s : ClientProcs) → At d (r + is pid) s → At d r (procs_of.answers_by pid reply o s)
  free_by (Some entry) d r pid reply s a = standing.replied q dev A Q g H B d r 0 0 0 pid reply (says.notes (events.Enter entry) s) a
  free_by None d r pid reply s a = less_in d (r + is pid) d r s (omega arith) (omega arith) a

  -- a call takes effect and is answered, of a process to which nothing is owed, or that is in the call
  pub answered_free : (d r pid : ℕ) (reply : Reply) (s : ClientProcs) → At d (r + is pid) s → At d r (procs_of.answers_here pid reply s)
  answered_free d r pid reply s a = free_by (procs_of.entry_at pid reply s) d r pid reply s a

  pub answered : (d r pid : ℕ) (reply : Reply) (s : ClientProcs) → At (d + is pid) r s → At d r (procs_of.answers_here pid reply s)
  answered d r pid reply s a = answered_free d r pid reply s (standing.loosened q dev A Q g H B d r 0 0 0 (is pid) s a)

  -- Kills

  pub flagged : (d r pid : ℕ) (s : ClientProcs) → At d r s → At d r (procs_of.killed_at pid s)
  flagged d r pid s a = standing.with_same q dev A Q g H B (proc_at pid s) d r 0 0 0 pid (λ proc. record proc { killed = true }) s refl (λ proc. refl) a

  row_taken : (o : Option (ℕ × ℕ)) (device pid : ℕ) (rows : List (ℕ × ℕ)) (n : ℕ) → find (is_row is_pid is_pid device pid) rows ≡ o → (device == dev) ≡ true → total (getter_of dev q) rows ≤ n → is pid ≤ n
      → is pid + total (getter_of dev q) (less (is_row is_pid is_pid device pid) rows) ≤ n
  row_taken (Some row) device pid rows n e k few some =
      let fewer = total_found (getter_of dev q) (is_row is_pid is_pid device pid) rows row e in
      let parts = and_parts (row.0 == device) (row.1 == pid) (found_passes (is_row is_pid is_pid device pid) row rows e) in
      let first : (row.0 == dev) ≡ true = ap (λ (other : ℕ). other == dev) (eqb-true row.0 device parts.0) ∙ k in
      let second : one_if (row.1 == q) ≡ is pid = ap (λ (other : ℕ). one_if (other == q)) (eqb-true row.1 pid parts.1) in
      let third : getter_of dev q row ≡ one_if (row.1 == q) = ap (λ b. cond b (one_if (row.1 == q)) 0) first in
      omega arith
  row_taken None device pid rows n e k few some = by_same (pid == q) refl
    where
      by_same : (b : Bool) → (pid == q) ≡ b → one_if b + total (getter_of dev q) (less (is_row is_pid is_pid device pid) rows) ≤ n
      by_same true f =
          let fewer = total_less (getter_of dev q) (is_row is_pid is_pid device pid) rows in
          let none : total (getter_of dev pid) rows ≤ 0 = subst (λ (other : ℕ). total (getter_of other pid) rows ≤ 0) (eqb-true device dev k) (none_row device pid rows e) in
          let zero_so : total (getter_of dev q) rows ≤ 0 = subst (λ (other : ℕ). total (getter_of dev other) rows ≤ 0) (eqb-true pid q f) none in
          let self : is pid ≡ 1 = ap one_if f in
          omega arith
      by_same false f = (let fewer = total_less (getter_of dev q) (is_row is_pid is_pid device pid) rows in omega arith)

  -- a process that is inside `pd_get` doesn't wait there any more
  pub row_off : (d pid device max : ℕ) (proc : Proc) (s : ClientProcs) → proc_at pid s ≡ Some proc → proc.state ≡ states.Getting device max → At d 0 s → At d (0 + is pid) (record s { getters = less (is_row is_pid is_pid device pid) s.getters })
  row_off d pid device max proc s e f a = by_device (device == dev) refl
    where
      by_device : (b : Bool) → (device == dev) ≡ b → At d (0 + is pid) (record s { getters = less (is_row is_pid is_pid device pid) s.getters })
      by_device true k =
          let there = total_there (getting_of dev q) pid s.procs proc e in
          let gets_is : getting_of dev q (pid, proc) ≡ is pid = ap (λ b. cond b (one_if (pid == q)) 0) (ap (gets_from dev) f ∙ k) in
          let few = row_taken (find (is_row is_pid is_pid device pid) s.getters) device pid s.getters (total (getting_of dev q) s.procs) refl k a.gets (omega arith) in
          let apart_busy = busy_apart q dev s.procs in
          let owed_so = a.owed in
          record { owed = a.owed; gets = omega arith; room = omega arith; moves = a.moves; apart = a.apart; most = a.most; ways = a.ways; turns = a.turns; queues = a.queues; short = a.short; held = a.held; kin = a.kin }
      by_device false k =
          let idle = idle_apart q dev pid s.procs proc e (ap is_busy f) (ap (gets_from dev) f ∙ k) in
          let fewer = total_less (getter_of dev q) (is_row is_pid is_pid device pid) s.getters in
          let owed_so = a.owed in
          let gets_so = a.gets in
          record { owed = a.owed; gets = omega arith; room = omega arith; moves = a.moves; apart = a.apart; most = a.most; ways = a.ways; turns = a.turns; queues = a.queues; short = a.short; held = a.held; kin = a.kin }

  met_in : (state : ProcState) (d pid : ℕ) (proc : Proc) (s : ClientProcs) → proc_at pid s ≡ Some proc → proc.state ≡ state → At d 0 s → At d 0 (kills.meets_as pid (kills.meeting_in state) s)
  met_in states.Ready d pid proc s e f a =
      standing.dies q dev A Q g H B d 0 0 0 0 pid s (less_in d (is pid) d (0 + is pid) s (omega arith) (omega arith) (standing.freed q dev A Q g H B d 0 0 0 pid proc s e (ap is_busy f) (ap (gets_from dev) f) a))
  met_in (states.Getting device max) d pid proc s e f a =
      answered_free d 0 pid (Error errnos.Interrupted) (record s { getters = less (is_row is_pid is_pid device pid) s.getters }) (row_off d pid device max proc s e f a)
  met_in state d pid proc s e f a = a

  met_by : (o : Option Proc) (d pid : ℕ) (s : ClientProcs) → proc_at pid s ≡ o → At d 0 s → At d 0 (kills.meets_as pid (kills.meeting_of o) s)
  met_by (Some proc) d pid s e a = met_in proc.state d pid proc s e refl a
  met_by None d pid s e a = a

  pub met : (d pid : ℕ) (s : ClientProcs) → At d 0 s → At d 0 (kills.meets_kill pid s)
  met d pid s a = met_by (proc_at pid s) d pid s refl a

  gone_after : (about : Option About) (d pid place : ℕ) (s : ClientProcs) → At d 0 s → At d 0 (kills.goes_after about pid place s)
  gone_after about d pid place s a = standing.calls_free q dev A Q g H B d 0 0 0 0 (says.next_tx s) (unfinished.Killed pid) (says.sends place about (requests.Killed pid) s) refl a

  kill_taken : (d target : ℕ) (s : ClientProcs) → At d 0 s → At d 0 (kills.takes_kill target s)
  kill_taken d target s a =
      let known : ClientProcs = procs_of.killed_at target s in
      on_if d 0 (kills.is_here target s) (kills.meets_kill target known) (killing.notes_kill target kill_states.Waits s) (met d target known (flagged d 0 target s a)) a

  woken : (d pid : ℕ) (s : ClientProcs) → At d 0 s → At d 0 (waiting.wakes pid s)
  woken d pid s a = standing.wakes q dev A Q g H B d 0 0 0 0 pid s a

  kill_told : (about : About) (d target : ℕ) (s : ClientProcs) → At d 0 s → At d 0 (kills.tells_kill about target s)
  kill_told about d target s a =
      let here : ClientProcs = kills.takes_kill target s in
      let there : ClientProcs = kills.goes_after (Some about) target (homes.place_in target s) s in
      on_if d 0 (homes.place_in target s == s.home.home) (waiting.wakes target here) (waiting.wakes target there) (woken d target here (kill_taken d target s a)) (woken d target there (gone_after (Some about) d target (homes.place_in target s) s a))

  pub killed : (request : HomeRequest) (d target : ℕ) (s : ClientProcs) → At d 0 s → At d 0 (calling.kills request target s)
  killed request d target s a =
      let pending : ClientProcs = homes.kills_at target s in
      let entered : ClientProcs = waiting.enters_home request (value 0 0) pending in
      let refused : ClientProcs = waiting.enters_home request (Error errnos.NoProcess) pending in
      let so : At d 0 pending = standing.killed_home q dev A Q g H B d 0 0 0 0 target s a in
      on_if d 0 (homes.lives_at target s) (calling.tells_first (homes.is_killed target s) request target entered) refused
      (on_if d 0 (not (homes.is_killed target s)) (kills.tells_kill (waiting.about_of request) target entered) entered (kill_told (waiting.about_of request) d target entered so) so)
      so

  pub kill_heard : (tx : TxNo) (pid : ℕ) (s : ClientProcs) → At 0 0 s → At 0 0 (kills.hears_kill tx pid s)
  kill_heard tx pid s a =
      let told : ClientProcs = says.answers tx Done (procs_of.killed_at pid s) in
      on_if 0 0 (kills.is_here pid s) (kills.meets_kill pid told) _ (met 0 pid told (flagged 0 0 pid s a)) a

  kill_answered : (o : Option KillState) (pid : ℕ) (body : ReplyBody) (s : ClientProcs) → At 0 0 s → At 0 0 (kills.kill_answered_if pid body o s)
  kill_answered None pid body s a = a
  kill_answered (Some kill) pid body s a =
      let after : ClientProcs = kills.goes_after None pid (homes.place_in pid s) s in
      let noted : ClientProcs = killing.notes_kill pid kill_states.Waits s in
      on_if 0 0 (kills.is_done body || homes.has_ended pid s || kills.is_here pid s) s _ a
      (on_if 0 0 (kills.is_placed kill && not (homes.place_in pid s == s.home.home)) after noted (gone_after None 0 pid (homes.place_in pid s) s a) a)

  pub kill_replied : (pid : ℕ) (body : ReplyBody) (s : ClientProcs) → At 0 0 s → At 0 0 (kills.kill_replied pid body s)
  kill_replied pid body s a = kill_answered (killing.kill_at pid s) pid body (killing.forgets_kill pid s) a

  come_if : (o : Option KillState) (pid kernel : ℕ) (s : ClientProcs) → At 0 0 s → At 0 0 (kills.comes_if pid kernel o s)
  come_if None pid kernel s a = a
  come_if (Some (kill_states.Out placed)) pid kernel s a = a
  come_if (Some kill_states.Waits) pid kernel s a = gone_after None 0 pid kernel s a

  pub place_told : (tx : TxNo) (pid kernel : ℕ) (s : ClientProcs) → At 0 0 s → At 0 0 (kills.tells_place tx pid kernel s)
  place_told tx pid kernel s a =
      let moved : ClientProcs = homes.moves_to pid kernel s in
      let told : ClientProcs = says.answers tx Done moved in
      come_if (killing.kill_at pid s) pid kernel (killing.forgets_kill pid told) (standing.moved_home q dev A Q g H B 0 0 0 0 0 pid kernel s a)

  pub waiting_forgotten : (d r pid : ℕ) (s : ClientProcs) → At d r s → At d r (killing.forgets_waiting pid s)
  waiting_forgotten d r pid s a = on_if d r (killing.is_waiting (killing.kill_at pid s)) (killing.forgets_kill pid s) s a a

  -- Calls at homes, but for `fork`

  pub waited_by : (o : Option Reply) (d pid number : ℕ) (s : ClientProcs) → At d 0 s → At d 0 (waiting.enters_if (record { pid = pid; number = number; call = home_calls.Wait }) o (homes.waited_at pid s))
  waited_by o d pid number s a = standing.enters_if q dev A Q g H B o d 0 0 0 0 (record { pid = pid; number = number; call = home_calls.Wait }) (homes.waited_at pid s) (standing.waited q dev A Q g H B d 0 0 0 0 pid s a)

  waited_here : (o : Option Reply) (pid number : ℕ) (s : ClientProcs) → At (0 + is pid) 0 s → At 0 0 (issuing.finishes_or_parks o (record { pid = pid; number = number; call = home_calls.Wait }) s)
  waited_here (Some reply) pid number s a = replied 0 0 pid reply s a
  waited_here None pid number s a =
      standing.parks_kept q dev A Q g H B 0 0 0 0 0 pid (record { number = number; tx = None }) (procs_of.in_state pid states.Waiting s) (turned 0 0 pid states.Waiting s refl refl a)

  pub exited : (request : HomeRequest) (code d : ℕ) (s : ClientProcs) → At d 0 s → At d 0 (calling.exits request code s)
  exited request code d s a =
      standing.wakes_after q dev A Q g H B d 0 0 0 0 request.pid (calling.ends_by_exit request code s) (standing.ended_at q dev A Q g H B d 0 0 0 0 request.pid (calling.ending_of code) (waiting.enters_home request (value 0 0) s) a)

  pub ended : (about : Option About) (pid : ℕ) (s : ClientProcs) → At (0 + is pid) 0 s → At 0 0 (ending.ends pid about s)
  ended about pid s a = standing.ends q dev A Q g H B 0 0 0 0 0 pid about s (standing.loosened q dev A Q g H B 0 0 0 0 0 (is pid) s a)

  -- the call of a process that is here
  pub done_here : (call : HomeCall) (pid number : ℕ) (s : ClientProcs) → issuing.is_fork call ≡ false → At (0 + is pid) 0 s → At 0 0 (issuing.does_here (record { pid = pid; number = number; call = call }) s)
  done_here (home_calls.Print bytes) pid number s other a = replied 0 0 pid (value 0 0) (waiting.enters_home (record { pid = pid; number = number; call = home_calls.Print bytes }) (value 0 0) s) a
  done_here (home_calls.Exit code) pid number s other a =
      let request : HomeRequest = record { pid = pid; number = number; call = home_calls.Exit code } in
      ended (Some (waiting.about_of request)) pid (calling.exits request code s) (exited request code (0 + is pid) s a)
  done_here home_calls.Getppid pid number s other a = replied 0 0 pid (calling.parent_reply pid s) (waiting.enters_home (record { pid = pid; number = number; call = home_calls.Getppid }) (calling.parent_reply pid s) s) a
  done_here (home_calls.Host max) pid number s other a = replied 0 0 pid (calling.host_reply max s) (waiting.enters_home (record { pid = pid; number = number; call = home_calls.Host max }) (calling.host_reply max s) s) a
  done_here home_calls.Tick pid number s other a = replied 0 0 pid (calling.tick_reply s) (calling.ticks_for (record { pid = pid; number = number; call = home_calls.Tick }) s) a
  done_here home_calls.Fork pid number s other a = absurd (cc)
  done_here home_calls.Wait pid number s other a =
      let request : HomeRequest = record { pid = pid; number = number; call = home_calls.Wait } in
      waited_here (waiting.wait_reply pid s) pid number (waiting.waits request s) (waited_by (waiting.wait_reply pid s) (0 + is pid) pid number s a)
  done_here (home_calls.Kill target) pid number s other a =
      let request : HomeRequest = record { pid = pid; number = number; call = home_calls.Kill target } in
      replied 0 0 pid (calling.kill_reply target s) (calling.kills request target s) (killed request (0 + is pid) target s a)

  -- another kernel is asked
  pub asked_home : (kernel : ℕ) (request : HomeRequest) (s : ClientProcs) → At (0 + is request.pid) 0 s → At 0 0 (issuing.asks_home kernel request s)
  asked_home kernel request s a =
      let sent : ClientProcs = says.sends kernel (Some (waiting.about_of request)) (requests.Home request) s in
      let inside : ClientProcs = procs_of.in_state request.pid (states.AtHome (says.next_tx s)) sent in
      let kept = standing.calls q dev A Q g H B 0 0 0 0 0 request.pid (says.next_tx s) (unfinished.Home request.pid) inside (omega arith) (turned 0 0 request.pid (states.AtHome (says.next_tx s)) sent refl refl a) in
      on_if 0 0 (issuing.is_fork request.call) _ (ending.keeps_tx (says.next_tx s) (unfinished.Home request.pid) inside) kept kept

  -- a remote call more, whose answer the process waits for in that state
  called_by : (o : Option Proc) (pid to : ℕ) (about : Option About) (body : Request) (call : Unfinished) (state : ProcState) (s : ClientProcs) → proc_at pid s ≡ o → waits_for q call ≤ is pid → is_busy state ≡ true → gets_from dev state ≡ false → At 0 (0 + is pid) s
      → At 0 0 (procs_of.with_proc pid (option_map {T = Proc} (λ proc. record proc { state = state }) o) (ending.keeps_tx (says.next_tx s) call (says.sends to about body s)))
  called_by None pid to about body call state s e few busy_new gets_new a =
      standing.calls q dev A Q g H B 0 0 0 0 0 pid (says.next_tx s) call (says.sends to about body s) few
      (subst (λ (o : Option Proc). At (0 + is pid) 0 (procs_of.with_proc pid (option_map {T = Proc} (λ proc. record proc { state = state }) o) s)) e (standing.in_state q dev A Q g H B 0 0 0 0 0 pid state s busy_new gets_new a))
  called_by (Some proc) pid to about body call state s e few busy_new gets_new a =
      standing.calls q dev A Q g H B 0 0 0 0 0 pid (says.next_tx s) call (procs_of.with_proc pid (Some (record proc { state = state })) (says.sends to about body s)) few
      (subst (λ (o : Option Proc). At (0 + is pid) 0 (procs_of.with_proc pid (option_map {T = Proc} (λ proc. record proc { state = state }) o) s)) e (standing.in_state q dev A Q g H B 0 0 0 0 0 pid state s busy_new gets_new a))

  pub called : (pid to : ℕ) (about : Option About) (body : Request) (call : Unfinished) (state : ProcState) (s : ClientProcs) → waits_for q call ≤ is pid → is_busy state ≡ true → gets_from dev state ≡ false → At 0 (0 + is pid) s
      → At 0 0 (procs_of.in_state pid state (ending.keeps_tx (says.next_tx s) call (says.sends to about body s)))
  called pid to about body call state s few busy_new gets_new a = called_by (proc_at pid s) pid to about body call state s refl few busy_new gets_new a

  pub fetched : (pid page : ℕ) (state : ProcState) (s : ClientProcs) → is_busy state ≡ true → gets_from dev state ≡ false → At 0 (0 + is pid) s → At 0 0 (procs_of.in_state pid state (pages.fetches pid page s))
  fetched pid page state s busy_new gets_new a = called pid s.swap_server None (requests.PageIn pid page) (unfinished.PageIn pid) state s (omega arith) busy_new gets_new a
