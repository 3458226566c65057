-- Each step of a client's kernel keeps that each process waits for one thing at most, and its rounds are enough.
use Rattle.std.proofs.Common.{arith, ◌≡◌, ℕ, zero, suc, ◌+◌, ◌*◌, ◌≤◌, ◌<◌, ◌==◌, ◌/◌, Bool, true, false, ◌&&◌, ◌||◌, not, cond, List, [], ◌∷◌, length, Option, Some, None, option_map, is_some, refl, sym, ap, subst}
use Rattle.std.proofs.lemmas.Bool.{and_parts, eq-eqb, eqb-true, not-true}
use Rattle.std.specs.List.{find, list_any}
use Rattle.std.specs.Map.{lookup}
use Rattle.sprite_ids.specs.declared.Ending.TheVariants.{Killed}
use Rattle.sprite_ids.specs.declared.TxNo.{TxNo}
use Rattle.sprite_ids.specs.Lists.{less, one_if, total}
use Rattle.sprite_ids.specs.Pid.{home_of}
use Rattle.process_machine.specs.declared.Call.{Call}
use Rattle.process_machine.specs.declared.Reply.{Reply}
use Rattle.process_machine.specs.Machine.{Machine}
use Rattle.home_table.specs.Home.{Table}
use Rattle.packet_bodies.specs.declared.HomeCall.{HomeCall}
use Rattle.packet_bodies.specs.declared.HomeCall.TheVariants as home_calls
use Rattle.packet_bodies.specs.declared.HomeRequest.{HomeRequest}
use Rattle.packet_bodies.specs.declared.ReplyBody.{ReplyBody}
use Rattle.packet_bodies.specs.declared.Request.{Request}
use Rattle.packet_bodies.specs.declared.Request.TheVariants as requests
use Rattle.kernel_steps.specs.declared.Input.{Input}
use Rattle.kernel_steps.specs.declared.Input.TheVariants as inputs
use Rattle.kernel_steps.specs.declared.Out.{Out}
use Rattle.kernel_steps.specs.Outs.{started}
use Rattle.kernel_steps.specs.Rows.{first_under, is_under}
use Rattle.unix_calls.specs.declared.About.{About}
use Rattle.unix_calls.specs.declared.Description.{Description}
use Rattle.client_file_tables.specs.declared.moves.Report.{Report}
use Rattle.client_file_tables.specs.declared.moves.Report.TheVariants as reports
use Rattle.client_file_tables.specs.Says.{about_of}
use Rattle.client_file_tables.specs.Steps.{owns}
use Rattle.client_files.specs.Answered as answering
use Rattle.client_files.specs.Turns as file_turns
use Rattle.client_homes.specs.declared.client.ClientProcs.{ClientProcs}
use Rattle.client_homes.specs.declared.client.Unfinished.{Unfinished}
use Rattle.client_homes.specs.declared.client.Unfinished.TheVariants as unfinished
use Rattle.client_homes.specs.declared.process.Proc.{Proc}
use Rattle.client_homes.specs.declared.process.ProcState.TheVariants as states
use Rattle.client_homes.specs.Calls as calling
use Rattle.client_homes.specs.Ends as ending
use Rattle.client_homes.specs.Homes as homes
use Rattle.client_homes.specs.Issuing as issuing
use Rattle.client_homes.specs.Kills as kills
use Rattle.client_homes.specs.Procs as procs_of
use Rattle.client_homes.specs.Procs.{is_pid, proc_at}
use Rattle.client_homes.specs.Says as says
use Rattle.client_homes.specs.Says.{value}
use Rattle.client_homes.specs.Waits as waiting
use Rattle.client_homes.specs.Words as words
use Rattle.client_moves.specs.Evicting as evicting
use Rattle.client_moves.specs.Freezing as freezing
use Rattle.client_moves.specs.Paging as paging
use Rattle.client_procs.specs.Answered as hearing
use Rattle.client_procs.specs.Arriving as arriving
use Rattle.client_procs.specs.Boot.{boots}
use Rattle.client_procs.specs.Issues as issuing_calls
use Rattle.client_procs.specs.Readers.{with_image}
use Rattle.client_procs.specs.Steps as stepping
use Rattle.client_procs.specs.Turning as turning
use Rattle.client_facts.proofs.TurnLaws.{going_on_keeps}
use Rattle.client_walks.specs.Hands.{Coming, Held, Holding, Nothing, brought, child_heard, coming_if, hand_of, heard}
use Rattle.client_walks.specs.PlacesOnce.{AreBornAt, InHand, IsBornAt, PlacesAreOnce}
use Rattle.client_rounds.specs.OneThing.{OneThingEach, busy_of, call_of, getting_of, waits_for}
use Rattle.client_rounds.specs.Rounds.{MayTurn, end_of, here, leaves, moved_of, of_process}
use Rattle.client_rounds.proofs.BeginLaws.{begins_so}
use Rattle.client_rounds.proofs.CallDeeds as calling_on
use Rattle.client_rounds.proofs.ComeDeeds as coming
use Rattle.client_rounds.proofs.ComeDeeds.{NextBirth}
use Rattle.client_rounds.proofs.EnoughLaws.{may_goes_on, none_of, rounds_are_enough, turns_keep_this}
use Rattle.client_rounds.proofs.FileDeeds as filing
use Rattle.client_rounds.proofs.HomeDeeds as homing
use Rattle.client_rounds.proofs.RunLaws.{turns_bring_no_more}
use Rattle.client_rounds.proofs.Sides.{Any}
use Rattle.client_rounds.proofs.StandLaws as standing
use Rattle.client_rounds.proofs.StandLaws.{ready_lazy}
use Rattle.client_rounds.proofs.Standing.{Bal, Busy, Free, Rest, absent, busy_apart, cond_most, is_at_pid, one_most, total_at, total_gone, whole_of}
use Rattle.client_rounds.proofs.Totals.{removed_none, total_found, total_less}

-- Who is not here

counted_by : (table : Table) (child key n : ℕ) (b : Bool) → (key == child) ≡ b → IsBornAt table key → home_of child ≡ table.home → 1000 * table.home + length table.births < child → n ≤ 0 → one_if b + n ≤ 0
counted_by table child key n true e born home_is far rest = absurd (let near = (subst (IsBornAt table) (eqb-true key child e) born) home_is in omega arith)
counted_by table child key n false e born home_is far rest = omega arith

counted_not : {V : Type 0} (table : Table) (child : ℕ) (rows : List (ℕ × V)) → AreBornAt table rows → home_of child ≡ table.home → 1000 * table.home + length table.births < child → total (of_process child) rows ≤ 0
counted_not table child [] born home_is far = omega arith
counted_not {V} table child ((key, value) ∷ rows) born home_is far = counted_by table child key (total (of_process child) rows) (key == child) refl born.0 home_is far (counted_not table child rows born.1 home_is far)

-- the next birth of a home is neither here nor leaves
none_next : (s : ClientProcs) (child : ℕ) → PlacesAreOnce s → NextBirth child s.home.home (length s.home.births) → here child s + leaves child s ≤ 0
none_next s child places next =
    let few = next.few in
    let is = next.is in
    let home_is : child / 1000 ≡ s.home.home = omega arith in
    let here_none = counted_not s.home child s.procs places.born home_is (omega arith) in
    let leaves_none = counted_not s.home child s.leaving places.leaving_born home_is (omega arith) in
    omega arith

none_at_by : {V : Type 0} (o : Option V) (n : ℕ) → is_some o ≡ false → (o ≡ None → n ≤ 0) → n ≤ 0
none_at_by (Some value) n e later = absurd (cc)
none_at_by None n e later = later refl

not_any_by : (b c : Bool) (n : ℕ) → (b || c) ≡ false → (c ≡ false → n ≤ 0) → one_if b + n ≤ 0
not_any_by true c n e later = absurd (cc)
not_any_by false c n e later = (let rest = later e in omega arith)

not_any : {V : Type 0} (pid : ℕ) (rows : List (ℕ × V)) → list_any (is_under is_pid pid) rows ≡ false → total (of_process pid) rows ≤ 0
not_any pid [] e = omega arith
not_any {V} pid ((key, value) ∷ rows) e = not_any_by (key == pid) (list_any (is_under is_pid pid) rows) (total (of_process pid) rows) e (not_any pid rows)

-- nor is a process that is new
none_new : (s : ClientProcs) (pid : ℕ) → kills.is_here pid s ≡ false → list_any (is_under is_pid pid) s.leaving ≡ false → here pid s + leaves pid s ≤ 0
none_new s pid gone stays =
    let here_none : here pid s ≤ 0 = none_at_by (proc_at pid s) (here pid s) gone (λ e. standing_none pid s.procs e) in
    let leaves_none = not_any pid s.leaving stays in
    omega arith
  where
    standing_none : (pid : ℕ) (rows : List (ℕ × Proc)) → lookup (is_at_pid pid) rows ≡ None → total (of_process pid) rows ≤ 0
    standing_none pid rows e = absent pid pid rows e (eq-eqb pid pid refl)

-- A step begins

abbrev places_of : ClientProcs → ℕ → ℕ
places_of s q = here q s + leaves q s

said_none : (out : Out) (step : ℕ) (s : ClientProcs) → out.replies ≡ [] → OneThingEach s → OneThingEach (record s { files = record s.files { out = out; step = step } })
said_none out step s none one = record {
  owed = λ pid. (let so = one.owed pid in let same = ap (total (of_process pid)) none in omega arith);
  getters = one.getters;
  moves = one.moves;
  apart = one.apart;
  ways = one.ways;
  turns = one.turns;
  queues = one.queues;
  short = one.short;
  told = one.told;
}

starts : (s : ClientProcs) → OneThingEach s → Rest (λ q. here q s + leaves q s) Any true s.home.home (length s.home.births) s
starts s one q dev =
    let owed_so = one.owed q in
    let gets_so = one.getters dev q in
    let moves_so = one.moves q in
    let apart_so = one.apart q in
    let apart_busy = busy_apart q dev s.procs in
    record { owed = omega arith; gets = omega arith; room = omega arith; moves = omega arith; apart = omega arith; most = omega arith; ways = one.ways; turns = one.turns; queues = one.queues; short = one.short; held = tt; kin = λ on. (refl, refl) }

abbrev Then : ClientProcs → Type 0
Then s = Rest (λ (q : ℕ). 1) Any false 0 0 s

then_if : (b : Bool) (s t : ClientProcs) → Then s → Then t → Then (cond b s t)
then_if true s t all more = all
then_if false s t all more = more

-- Another kernel asks a home

module _ (A : ℕ → ℕ) (g : Bool) (H B : ℕ) where
  waited_for : (o : Option Reply) (tx : TxNo) (pid number : ℕ) (s : ClientProcs) → Rest A Any g H B s → Rest A Any g H B (issuing.answers_or_parks tx o (record { pid = pid; number = number; call = home_calls.Wait }) s)
  waited_for (Some reply) tx pid number s all = all
  waited_for None tx pid number s all = λ q dev.
      standing.parks_kept q dev (A q) Any g H B 0 0 0 0 0 pid (record { number = number; tx = Some tx }) s (homing.less_in q dev (A q) Any g H B 0 0 (0 + 0) 0 s (omega arith) (omega arith) (all q dev))

  born_by : (b : Bool) (table : Table) (s : ClientProcs) → Rest A Any g H B s → Then (cond b (record s { home = table }) s)
  born_by true table s all = λ q dev.
      let a = coming.after A g H B s all q dev in
      record { owed = a.owed; gets = a.gets; room = a.room; moves = a.moves; apart = a.apart; most = a.most; ways = a.ways; turns = a.turns; queues = a.queues; short = a.short; held = a.held; kin = λ on. absurd (cc) }
  born_by false table s all = coming.after A g H B s all

  home_served : (call : HomeCall) (tx : TxNo) (pid number : ℕ) (s : ClientProcs) → Rest A Any g H B s → Then (issuing.serves_home tx (record { pid = pid; number = number; call = call }) s)
  home_served (home_calls.Print bytes) tx pid number s all = coming.after A g H B s all
  home_served (home_calls.Exit code) tx pid number s all =
      let request : HomeRequest = record { pid = pid; number = number; call = home_calls.Exit code } in
      let about : About = record { pid = pid; number = number } in
      let ended : ClientProcs = ending.ends_by_death about s in
      then_if (code == 257) (issuing.serves_death tx request s) (says.answers tx (words.packet_of (value 0 0)) (calling.exits request code s))
      (coming.after A g H B (waiting.wakes_after pid ended) (λ q dev. standing.wakes_after q dev (A q) Any g H B 0 0 0 0 0 pid ended (standing.ended_at q dev (A q) Any g H B 0 0 0 0 0 pid Killed (says.enters_death about s) (all q dev))))
      (coming.after A g H B (calling.exits request code s) (λ q dev. homing.exited q dev (A q) Any g H B request code 0 s (all q dev)))
  home_served home_calls.Getppid tx pid number s all = coming.after A g H B s all
  home_served (home_calls.Host max) tx pid number s all = coming.after A g H B s all
  home_served home_calls.Tick tx pid number s all = coming.after A g H B (homes.ticks s) all
  home_served home_calls.Fork tx pid number s all = born_by (homes.is_native pid s) (homes.with_born pid s.home) s all
  home_served home_calls.Wait tx pid number s all =
      let request : HomeRequest = record { pid = pid; number = number; call = home_calls.Wait } in
      coming.after A g H B (issuing.answers_or_parks tx (waiting.wait_reply pid s) request (waiting.waits request s)) (waited_for (waiting.wait_reply pid s) tx pid number (waiting.waits request s) (λ q dev. homing.waited_by q dev (A q) Any g H B (waiting.wait_reply pid s) 0 pid number s (all q dev)))
  home_served (home_calls.Kill target) tx pid number s all =
      let request : HomeRequest = record { pid = pid; number = number; call = home_calls.Kill target } in
      coming.after A g H B (calling.kills request target s) (λ q dev. homing.killed q dev (A q) Any g H B request 0 target s (all q dev))

  served : (body : Request) (tx : TxNo) (s : ClientProcs) → ((pid : ℕ) → arriving.is_new pid s ≡ true → A pid ≤ 0) → Rest A Any g H B s → Then (hearing.serves tx body s)
  served (requests.Callback request) tx s none all = coming.after A g H B (hearing.serves tx (requests.Callback request) s) (filing.called_back A g H B tx request s all)
  served (requests.Home request) tx s none all = home_served request.call tx request.pid request.number s all
  served (requests.Transfer request) tx s none all = coming.arrived A g H B (requests.Transfer request) tx s none all
  served (requests.Launch request) tx s none all = coming.arrived A g H B (requests.Launch request) tx s none all
  served (requests.Place pid kernel) tx s none all = coming.after A g H B (kills.tells_place tx pid kernel s) (λ q dev. homing.place_told q dev (A q) Any g H B tx pid kernel s (all q dev))
  served (requests.Killed pid) tx s none all = coming.after A g H B (kills.hears_kill tx pid s) (λ q dev. homing.kill_heard q dev (A q) Any g H B tx pid s (all q dev))
  served (requests.Ask request) tx s none all = coming.after A g H B (hearing.serves tx (requests.Ask request) s) (calling_on.ask_served A g H B tx request s all)
  served body tx s none all = coming.after A g H B s all

  -- Answers to remote calls

  abbrev NoneNext : ClientProcs → Type 0
  NoneNext s = (child : ℕ) → NextBirth child s.home.home (length s.home.births) → A child ≤ 0

  place_heard : (o : Option Bool) (pid : ℕ) (s : ClientProcs) → Busy A Any g H B pid s → Rest A Any g H B (arriving.thaws_if pid o s)
  place_heard (Some moved) pid s all = coming.thawed A g H B pid moved s (coming.loosened A g H B pid s all)
  place_heard None pid s all = coming.let_go A g H B pid s all

  -- what the process waits for isn't owed to it any more
  heard_for : (call : Unfinished) (tx : TxNo) (body : ReplyBody) (s : ClientProcs) → s.files.results ≡ [] → NoneNext s → ((pid : ℕ) → call ≡ unfinished.Home pid → (child : ℕ) → child_heard (issuing.own_request pid s) (words.reply_of body) ≡ Some child → A child ≤ 0)
      → ((q dev : ℕ) → Bal q dev (A q) Any g H B (0 + waits_for q call) 0 0 0 0 (whole_of s)) → Then (hearing.hears_for tx call body s)
  heard_for (unfinished.PageOut pid) tx body s told next none all =
      coming.after A g H B (hearing.hears_for tx (unfinished.PageOut pid) body s) (λ q dev. standing.page_out q dev (A q) Any g H B 0 0 pid s (ap (total (moved_of q)) told) (homing.less_in q dev (A q) Any g H B (0 + 0) 0 0 0 s (omega arith) (omega arith) (all q dev)))
  heard_for (unfinished.PageIn pid) tx body s told next none all = coming.page_came A g H B pid tx body s next all
  heard_for (unfinished.Home pid) tx body s told next none all = coming.home_heard A g H B tx pid body s (none pid refl) all
  heard_for (unfinished.Ask pid) tx body s told next none all = coming.after A g H B (hearing.hears_for tx (unfinished.Ask pid) body s) (coming.replied A g H B pid (words.reply_of body) s (coming.loosened A g H B pid s all))
  heard_for (unfinished.Death pid) tx body s told next none all = coming.after A g H B (ending.ends pid None s) (λ q dev. homing.ended q dev (A q) Any g H B None pid s (all q dev))
  heard_for (unfinished.Place pid) tx body s told next none all = coming.after A g H B (hearing.hears_for tx (unfinished.Place pid) body s) (place_heard (arriving.arriving pid s) pid s all)
  heard_for (unfinished.Killed pid) tx body s told next none all =
      coming.after A g H B (kills.kill_replied pid body s) (λ q dev. homing.kill_replied q dev (A q) Any g H B pid body s (homing.less_in q dev (A q) Any g H B (0 + 0) 0 0 0 s (omega arith) (omega arith) (all q dev)))
  heard_for (unfinished.Transfer pid) tx body s told next none all = coming.after A g H B s (λ q dev. homing.less_in q dev (A q) Any g H B (0 + 0) 0 0 0 s (omega arith) (omega arith) (all q dev))

  call_off : (o : Option (TxNo × Unfinished)) (tx : TxNo) (body : ReplyBody) (s : ClientProcs) → find (is_under procs_of.is_call tx) s.unfinished ≡ o → s.files.results ≡ [] → NoneNext s
      → ((pid : ℕ) → option_map (λ (row : TxNo × Unfinished). row.1) o ≡ Some (unfinished.Home pid) → (child : ℕ) → child_heard (issuing.own_request pid s) (words.reply_of body) ≡ Some child → A child ≤ 0) → Rest A Any g H B s
      → Then (hearing.hears_if tx (option_map (λ (row : TxNo × Unfinished). row.1) o) body (record s { unfinished = less (is_under procs_of.is_call tx) s.unfinished }))
  call_off None tx body s e told next none all = coming.after A g H B (record s { unfinished = less (is_under procs_of.is_call tx) s.unfinished }) fewer
    where
      fewer : Rest A Any g H B (record s { unfinished = less (is_under procs_of.is_call tx) s.unfinished })
      fewer q dev =
          let a = all q dev in
          let few = total_less (call_of q) (is_under procs_of.is_call tx) s.unfinished in
          let owed_so = a.owed in
          let room_so = a.room in
          record { owed = omega arith; gets = a.gets; room = omega arith; moves = a.moves; apart = a.apart; most = a.most; ways = a.ways; turns = a.turns; queues = a.queues; short = a.short; held = a.held; kin = a.kin }
  call_off (Some row) tx body s e told next none all =
      heard_for row.1 tx body (record s { unfinished = less (is_under procs_of.is_call tx) s.unfinished }) told next (λ pid f. none pid (ap (λ (call : Unfinished). Some call) f)) off
    where
      off : (q dev : ℕ) → Bal q dev (A q) Any g H B (0 + waits_for q row.1) 0 0 0 0 (whole_of (record s { unfinished = less (is_under procs_of.is_call tx) s.unfinished }))
      off q dev =
          let a = all q dev in
          let one : total (call_of q) (less (is_under procs_of.is_call tx) s.unfinished) + waits_for q row.1 ≡ total (call_of q) s.unfinished = total_found (call_of q) (is_under procs_of.is_call tx) s.unfinished row e in
          let owed_so = a.owed in
          let room_so = a.room in
          record { owed = omega arith; gets = a.gets; room = omega arith; moves = a.moves; apart = a.apart; most = a.most; ways = a.ways; turns = a.turns; queues = a.queues; short = a.short; held = a.held; kin = a.kin }

  -- Calls

  come_by : (o : Option Proc) (pid number : ℕ) (call : Call) (s : ClientProcs) → proc_at pid s ≡ o → evicting.is_ready_if o ≡ true → Rest A Any g H B s → Busy A Any g H B pid (procs_of.with_proc pid (option_map {T = Proc} (issuing_calls.inside number call) o) s)
  come_by None pid number call s e ready all = absurd (cc)
  come_by (Some proc) pid number call s e ready all = λ q dev.
      let lazy = ready_lazy dev proc.state ready in
      standing.settled q dev (A q) Any g H B 0 0 0 0 0 pid proc (issuing_calls.inside number call proc) s e refl refl
      (homing.less_in q dev (A q) Any g H B 0 (one_if (pid == q)) 0 (0 + one_if (pid == q)) s (omega arith) (omega arith) (standing.freed q dev (A q) Any g H B 0 0 0 0 pid proc s e lazy.0 lazy.1 (all q dev)))

  needed_by : (o : Option Proc) (pid page : ℕ) (s : ClientProcs) → proc_at pid s ≡ o → paging.lacks_if page o ≡ true → Rest A Any g H B s → Free A Any g H B pid s
  needed_by None pid page s e lacks all = absurd (cc)
  needed_by (Some proc) pid page s e lacks all = λ q dev.
      let parts = and_parts (evicting.is_ready_in proc.state) _ lacks in
      let lazy = ready_lazy dev proc.state parts.0 in
      homing.less_in q dev (A q) Any g H B 0 (one_if (pid == q)) 0 (0 + one_if (pid == q)) s (omega arith) (omega arith) (standing.freed q dev (A q) Any g H B 0 0 0 0 pid proc s e lazy.0 lazy.1 (all q dev))

  page_needed : (b : Bool) (pid page : ℕ) (s : ClientProcs) → paging.lacks pid page s ≡ b → Rest A Any g H B s → Rest A Any g H B (cond (not b) s (paging.waits_for_page pid page s))
  page_needed false pid page s e all = all
  page_needed true pid page s e all = λ q dev. homing.fetched q dev (A q) Any g H B pid page (states.PageWait (says.next_tx s) page) s refl refl (needed_by (proc_at pid s) pid page s refl e all q dev)

-- the next birth is still that of the home at first
still_next : (q dev A H B d r : ℕ) (t : ClientProcs) (child : ℕ) → Bal q dev A Any true H B d r 0 0 0 (whole_of t) → NextBirth child t.home.home (length t.home.births) → NextBirth child H B
still_next q dev A H B d r t child a next =
    let k = a.kin refl in
    let home_is : t.home.home ≡ H = k.0 in
    let births_is : length t.home.births ≡ B = k.1 in
    let few : length t.home.births < 200 = next.few in
    let is : 1000 * t.home.home + length t.home.births + 1 ≡ child = next.is in
    record { few = omega arith; is = omega arith }

issued_by : (b : Bool) (pid number : ℕ) (call : Call) (s : ClientProcs) → issuing_calls.is_next (about_of pid number) s ≡ b → PlacesAreOnce s → OneThingEach s → Then (cond (not b) s (issuing_calls.issues_next (about_of pid number) call s))
issued_by false pid number call s e places one = coming.after (places_of s) true s.home.home (length s.home.births) s (starts s one)
issued_by true pid number call s e places one =
    let H = s.home.home in
    let B = length s.home.births in
    let A = places_of s in
    let about : About = about_of pid number in
    let parts = and_parts (evicting.is_ready pid s) _ e in
    let come : ClientProcs = issuing_calls.notes_issue about call (issuing_calls.comes_to about call s) in
    let inside : Busy A Any true H B pid come = come_by A true H B (proc_at pid s) pid number call s refl parts.0 (starts s one) in
    let counted : Busy A Any true H B pid (evicting.counts_issue come) = coming.counted A true H B pid come inside in
    calling_on.begun A true H B call about (evicting.counts_issue come) (λ child next. none_next s child places (still_next pid 0 (A pid) H B _ 0 (evicting.counts_issue come) child (counted pid 0) next)) counted

replied_by : (b : Bool) (tx : TxNo) (source : ℕ) (body : ReplyBody) (s : ClientProcs) → InHand (cond b Nothing (heard (first_under procs_of.is_call tx s.unfinished) body s)) s → PlacesAreOnce s → OneThingEach s → Then (cond b (says.with_files (answering.answered tx source body s.files) s) (hearing.hears_own tx body s))
replied_by true tx source body s hand places one = coming.after (places_of s) true s.home.home (length s.home.births) (says.with_files (answering.answered tx source body s.files) s) (filing.files_answered (places_of s) true s.home.home (length s.home.births) tx source body s (starts s one))
replied_by false tx source body s hand places one =
    call_off (places_of s) true s.home.home (length s.home.births) (find (is_under procs_of.is_call tx) s.unfinished) tx body s refl one.told (λ child next. none_next s child places next)
    (λ pid e child f. new_child pid child e f) (starts s one)
  where
    new_child : (pid child : ℕ) → first_under procs_of.is_call tx s.unfinished ≡ Some (unfinished.Home pid) → child_heard (issuing.own_request pid s) (words.reply_of body) ≡ Some child → places_of s child ≤ 0
    new_child pid child e f =
        let held : InHand (hand_of (Some child)) s = subst (λ (o : Option ℕ). InHand (hand_of o) s) f (subst (λ (o : Option Unfinished). InHand (heard o body s) s) e hand) in
        none_new s child held.0.gone held.0.stays

taken : (input : Input) (s : ClientProcs) → InHand (brought input s) s → PlacesAreOnce s → OneThingEach s → Then (stepping.takes input s)
taken (inputs.Issued pid number call) s hand places one = issued_by (issuing_calls.is_next (about_of pid number) s) pid number call s refl places one
taken (inputs.Request tx source body) s hand places one =
    served (places_of s) true s.home.home (length s.home.births) body tx s (λ pid e. (let parts = and_parts (not (kills.is_here pid s)) (not (list_any (is_under is_pid pid) s.leaving)) e in none_new s pid (not-true (kills.is_here pid s) parts.0) (not-true (list_any (is_under is_pid pid) s.leaving) parts.1))) (starts s one)
taken (inputs.Replied tx source body) s hand places one = replied_by (owns tx s.files) tx source body s hand places one
taken (inputs.GaveUp tx) s hand places one = coming.after (places_of s) true s.home.home (length s.home.births) (stepping.takes (inputs.GaveUp tx) s) (filing.given_up (places_of s) true s.home.home (length s.home.births) tx s (starts s one))
taken (inputs.Due file block) s hand places one = coming.after (places_of s) true s.home.home (length s.home.births) (stepping.takes (inputs.Due file block) s) (filing.due_goes (places_of s) true s.home.home (length s.home.births) file block s (starts s one))
taken (inputs.PageNeeded pid page) s hand places one =
    coming.after (places_of s) true s.home.home (length s.home.births) (paging.needs_page pid page s) (page_needed (places_of s) true s.home.home (length s.home.births) (paging.lacks pid page s) pid page s refl (starts s one))

-- Rounds

report_off : (report : Report) (rest : List Report) (q dev : ℕ) (s : ClientProcs) → s.files.results ≡ report ∷ rest → Bal q dev 1 Any false 0 0 0 0 0 0 0 (whole_of s)
    → Bal q dev 1 Any false 0 0 (end_of q report) 0 0 (moved_of q report) 0 (whole_of (record s { files = record s.files { results = rest } }))
report_off report rest q dev s e a =
    let ends = ap (total (end_of q)) e in
    let moves = ap (total (moved_of q)) e in
    let owed_so = a.owed in
    let room_so = a.room in
    let moves_so = a.moves in
    record { owed = omega arith; gets = a.gets; room = omega arith; moves = omega arith; apart = a.apart; most = a.most; ways = a.ways; turns = a.turns; queues = a.queues; short = a.short; held = tt; kin = a.kin }

-- a process whose descriptors are closed isn't here any more
ended_by : (o : Option Proc) (q dev pid : ℕ) (s : ClientProcs) → proc_at pid s ≡ o → Bal q dev 1 Any false 0 0 (one_if (pid == q)) 0 0 0 0 (whole_of s) → Bal q dev 1 Any false 0 0 0 0 0 0 0 (whole_of (freezing.takes_proc pid s))
ended_by None q dev pid s e a =
    subst (λ (rows : List (ℕ × Proc)). Bal q dev 1 Any false 0 0 0 0 0 0 0 (record (whole_of s) { procs = rows })) (sym (removed_none (is_at_pid pid) s.procs e)) (homing.less_in q dev 1 Any false 0 0 (one_if (pid == q)) 0 0 0 s (omega arith) (omega arith) a)
ended_by (Some proc) q dev pid s e a =
    let busy = total_gone (busy_of q) pid s.procs proc e in
    let gets_less = total_gone (getting_of dev q) pid s.procs proc e in
    let here_so = total_gone (of_process q) pid s.procs proc e in
    let first : busy_of q (pid, proc) ≤ one_if (pid == q) = cond_most _ (one_if (pid == q)) in
    let second : getting_of dev q (pid, proc) ≤ one_if (pid == q) = cond_most _ (one_if (pid == q)) in
    let unit = one_most (pid == q) in
    let apart_busy = busy_apart q dev s.procs in
    let owed_so = a.owed in
    let gets_so = a.gets in
    let room_so = a.room in
    let apart_so = a.apart in
    record { owed = omega arith; gets = omega arith; room = omega arith; moves = a.moves; apart = omega arith; most = a.most; ways = a.ways; turns = a.turns; queues = a.queues; short = a.short; held = a.held; kin = a.kin }

report_taken : (report : Report) (s : ClientProcs) → ((q dev : ℕ) → Bal q dev 1 Any false 0 0 (end_of q report) 0 0 (moved_of q report) 0 (whole_of s)) → Then (turning.takes_report report s)
report_taken (reports.Moved pid place grant many) s all q dev = standing.has_moved q dev 1 Any false 0 0 0 0 pid place grant many s (let so = (all pid 0).apart in omega arith) (all q dev)
report_taken (reports.MasterClosed device) s all q dev = standing.master_closed q dev 1 Any false 0 0 0 0 device.number s (all q dev)
report_taken (reports.AllClosed pid) s all q dev = ended_by (proc_at pid s) q dev pid s refl (all q dev)

first_taken : (list : List Report) (s : ClientProcs) → s.files.results ≡ list → Then s → Then (turning.takes_of list s)
first_taken [] s e all = all
first_taken (report ∷ rest) s e all = report_taken report (record s { files = record s.files { results = rest } }) (λ q dev. report_off report rest q dev s e (all q dev))

reports_taken : (count : ℕ) (s : ClientProcs) → Then s → Then (turning.takes_turns count s)
reports_taken zero s all = all
reports_taken (suc count) s all = (let before : ClientProcs = turning.takes_turns count s in first_taken before.files.results before refl (reports_taken count s all))

reply_off : (row : ℕ × Reply) (rest : List (ℕ × Reply)) (q dev : ℕ) (s : ClientProcs) → s.files.out.replies ≡ row ∷ rest → Bal q dev 1 Any false 0 0 0 0 0 0 0 (whole_of s)
    → Bal q dev 1 Any false 0 0 (0 + one_if (row.0 == q)) 0 0 0 0 (whole_of (record s { files = record s.files { out = record s.files.out { replies = rest } } }))
reply_off row rest q dev s e a =
    let replies = ap (total (of_process q)) e in
    let owed_so = a.owed in
    let room_so = a.room in
    record { owed = omega arith; gets = a.gets; room = omega arith; moves = a.moves; apart = a.apart; most = a.most; ways = a.ways; turns = a.turns; queues = a.queues; short = a.short; held = tt; kin = a.kin }

first_given : (rows : List (ℕ × Reply)) (s : ClientProcs) → s.files.out.replies ≡ rows → Then s → Then (turning.gives_of rows s)
first_given [] s e all = all
first_given (row ∷ rest) s e all = λ q dev.
    let left : ClientProcs = record s { files = record s.files { out = record s.files.out { replies = rest } } } in
    standing.finished q dev 1 Any false 0 0 0 0 row.0 row.1 left (let so = (reply_off row rest row.0 0 s e (all row.0 0)).apart in omega arith) (reply_off row rest q dev s e (all q dev))

replies_given : (count : ℕ) (s : ClientProcs) → Then s → Then (turning.gives_turns count s)
replies_given zero s all = all
replies_given (suc count) s all = (let before : ClientProcs = turning.gives_turns count s in first_given before.files.out.replies before refl (replies_given count s all))

run_on : (s : ClientProcs) → Then s → Then (record s { files = file_turns.goes_on s.files })
run_on s all = filing.brought_none (λ (q : ℕ). 1) false 0 0 (file_turns.goes_on s.files) s (going_on_keeps s.files (may_goes_on s (filing.rest_may (λ (q : ℕ). 1) false 0 0 s all))) (λ q. turns_bring_no_more q s.files) all

turned : (s : ClientProcs) → Then s → Then (turning.turned s)
turned s all =
    let ran : ClientProcs = record s { files = file_turns.goes_on s.files } in
    let given : ClientProcs = turning.gives_all ran in
    then_if (turning.is_quiet s) s (turning.takes_all given) all (reports_taken (length given.files.results) given (replies_given (length ran.procs) ran (run_on s all)))

rounds : (count : ℕ) (s : ClientProcs) → Then s → Then (turning.turns count s)
rounds zero s all = all
rounds (suc count) s all = turned (turning.turns count s) (rounds count s all)

-- Steps

same_hand : (held : Held) (s : ClientProcs) (next : TxNo) (step : ℕ) → InHand held s → InHand held (stepping.begins_step next step s)
same_hand Nothing s next step hand = hand
same_hand (Coming pid) s next step hand = hand
same_hand (Holding pid) s next step hand = (record { gone = hand.0.gone; stays = hand.0.stays }, hand.1)

heard_begun : (o : Option Unfinished) (body : ReplyBody) (s : ClientProcs) (next : TxNo) (step : ℕ) → InHand (heard o body s) s → InHand (heard o body (stepping.begins_step next step s)) (stepping.begins_step next step s)
heard_begun None body s next step hand = hand
heard_begun (Some (unfinished.Home pid)) body s next step hand = same_hand (hand_of (child_heard (issuing.own_request pid s) (words.reply_of body))) s next step hand
heard_begun (Some call) body s next step hand = hand

hand_by : (b : Bool) (o : Option Unfinished) (body : ReplyBody) (s : ClientProcs) (next : TxNo) (step : ℕ) → InHand (cond b Nothing (heard o body s)) s → InHand (cond b Nothing (heard o body (stepping.begins_step next step s))) (stepping.begins_step next step s)
hand_by true o body s next step hand = hand
hand_by false o body s next step hand = heard_begun o body s next step hand

pub hand_begun : (input : Input) (s : ClientProcs) (next : TxNo) (step : ℕ) → InHand (brought input s) s → InHand (brought input (stepping.begins_step next step s)) (stepping.begins_step next step s)
hand_begun (inputs.Issued pid number call) s next step hand = hand
hand_begun (inputs.Request tx source body) s next step hand = same_hand (coming_if (arriving.brought body)) s next step hand
hand_begun (inputs.Replied tx source body) s next step hand = hand_by (owns tx s.files) (first_under procs_of.is_call tx s.unfinished) body s next step hand
hand_begun (inputs.GaveUp tx) s next step hand = hand
hand_begun (inputs.Due file block) s next step hand = hand
hand_begun (inputs.PageNeeded pid page) s next step hand = hand

places_begun : (s : ClientProcs) (next : TxNo) (step : ℕ) → PlacesAreOnce s → PlacesAreOnce (stepping.begins_step next step s)
places_begun s next step places = record { once = places.once; leaving_once = places.leaving_once; apart = places.apart; born = places.born; leaving_born = places.leaving_born }

come : (s : ClientProcs) (input : Input) (next : TxNo) (step : ℕ) → InHand (brought input s) s → PlacesAreOnce s → OneThingEach s → Then (stepping.takes input (stepping.begins_step next step s))
come s input next step hand places one =
    let begun : ClientProcs = stepping.begins_step next step s in
    taken input begun (hand_begun input s next step hand) (places_begun s next step places) (said_none (started next) step s refl one)

-- where one thing is on its way to each before a step, each of its rounds has what it needs
pub may_turn_on : (count : ℕ) (s : ClientProcs) (input : Input) (next : TxNo) (step : ℕ) → InHand (brought input s) s → PlacesAreOnce s → OneThingEach s → MayTurn (turning.turns count (stepping.takes input (stepping.begins_step next step s)))
may_turn_on count s input next step hand places one =
    let taken_in : ClientProcs = stepping.takes input (stepping.begins_step next step s) in
    turns_keep_this count taken_in (filing.rest_may (λ (q : ℕ). 1) false 0 0 taken_in (come s input next step hand places one))

pub steps_are_enough : (s : ClientProcs) (input : Input) (next : TxNo) (step : ℕ) → InHand (brought input s) s → PlacesAreOnce s → OneThingEach s → turning.is_quiet (turning.goes_on (stepping.takes input (stepping.begins_step next step s))) ≡ true
steps_are_enough s input next step hand places one =
    let taken_in : ClientProcs = stepping.takes input (stepping.begins_step next step s) in
    rounds_are_enough taken_in (filing.rest_may (λ (q : ℕ). 1) false 0 0 taken_in (come s input next step hand places one))

ended_so : (s : ClientProcs) → turning.is_quiet s ≡ true → Then s → OneThingEach (stepping.ends_step s)
ended_so s quiet all =
    let parts = and_parts ((length s.files.ready == 0) && (length s.files.out.replies == 0)) (length s.files.results == 0) quiet in
    let none : length s.files.results ≡ 0 = eqb-true (length s.files.results) 0 parts.1 in
    record {
      owed = λ pid. (let owed_so = (all pid 0).owed in omega arith);
      getters = λ device pid. (all pid device).gets;
      moves = λ pid. (let moves_so = (all pid 0).moves in omega arith);
      apart = λ pid. (let apart_so = (all pid 0).apart in omega arith);
      ways = (all 0 0).ways;
      turns = (all 0 0).turns;
      queues = (all 0 0).queues;
      short = (all 0 0).short;
      told = none_of s.files.results (omega arith);
    }

pub steps_keep_one_thing : (s : ClientProcs) (input : Input) (next : TxNo) (step : ℕ) → InHand (brought input s) s → PlacesAreOnce s → OneThingEach s → OneThingEach (stepping.client_step s input next step).0
steps_keep_one_thing s input next step hand places one =
    let taken_in : ClientProcs = stepping.takes input (stepping.begins_step next step s) in
    ended_so (turning.goes_on taken_in) (steps_are_enough s input next step hand places one) (rounds (turning.rounds_for taken_in) taken_in (come s input next step hand places one))

-- What the rounds need

pub one_thing_is_enough : (s : ClientProcs) → OneThingEach s → MayTurn s
one_thing_is_enough s one = filing.rest_may (places_of s) true s.home.home (length s.home.births) s (starts s one)

-- Between two calls

image_by : (o : Option Proc) (s : ClientProcs) (pid : ℕ) (image : Machine) → proc_at pid s ≡ o → OneThingEach s → OneThingEach (procs_of.with_proc pid (option_map {T = Proc} (λ proc. record proc { image = image }) o) s)
image_by None s pid image e one = one
image_by (Some proc) s pid image e one = record {
  owed = λ q. (let so = one.owed q in let same = total_at (busy_of q) pid s.procs proc (record proc { image = image }) e in omega arith);
  getters = λ device q. (let so = one.getters device q in let same = total_at (getting_of device q) pid s.procs proc (record proc { image = image }) e in omega arith);
  moves = one.moves;
  apart = λ q. (let so = one.apart q in let same = total_at (of_process q) pid s.procs proc (record proc { image = image }) e in omega arith);
  ways = one.ways;
  turns = one.turns;
  queues = one.queues;
  short = one.short;
  told = one.told;
}

pub images_keep_one_thing : (s : ClientProcs) (pid : ℕ) (image : Machine) → OneThingEach s → OneThingEach (with_image pid image s)
images_keep_one_thing s pid image one = image_by (proc_at pid s) s pid image refl one

-- So it begins

pub begins_with_one_thing : (d : Description) (kernel : ℕ) → OneThingEach (boots d kernel)
begins_with_one_thing d kernel =
    let so = begins_so d kernel in
    record {
      owed = λ pid. omega arith;
      getters = λ device pid. omega arith;
      moves = λ pid. omega arith;
      apart = so.apart;
      ways = tt;
      turns = tt;
      queues = tt;
      short = refl;
      told = refl;
    }
