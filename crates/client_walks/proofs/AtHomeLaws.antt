-- What is done at homes and with kills, each function of a client's kernel as a whole, for any predicate that its deeds keep.
use Rattle.std.proofs.Common.{◌≡◌, refl, ℕ, ◌==◌, Bool, true, false, ◌&&◌, ◌||◌, not, cond, Option, Some, None}
use Rattle.std.specs.List.{list_any}
use Rattle.sprite_ids.specs.declared.Errno.TheVariants as errnos
use Rattle.sprite_ids.specs.declared.TxNo.{TxNo}
use Rattle.sprite_ids.specs.Lists.{less, without}
use Rattle.kernel_steps.specs.declared.Input.{Input}
use Rattle.kernel_steps.specs.Rows.{first_under, is_under}
use Rattle.process_machine.specs.declared.Reply.{Reply}
use Rattle.process_machine.specs.declared.Reply.TheVariants.{Error}
use Rattle.process_machine.specs.Machine.{Machine}
use Rattle.packet_bodies.specs.declared.HomeCall.{HomeCall}
use Rattle.packet_bodies.specs.declared.HomeCall.TheVariants as home_calls
use Rattle.packet_bodies.specs.declared.HomeRequest.{HomeRequest}
use Rattle.packet_bodies.specs.declared.ReplyBody.{ReplyBody}
use Rattle.packet_bodies.specs.declared.ReplyBody.TheVariants.{Done}
use Rattle.unix_calls.specs.declared.About.{About}
use Rattle.client_homes.specs.declared.client.ClientProcs.{ClientProcs}
use Rattle.client_homes.specs.declared.client.KillState.{KillState}
use Rattle.client_homes.specs.declared.client.KillState.TheVariants as kill_states
use Rattle.client_homes.specs.declared.client.Parked.{Parked}
use Rattle.client_homes.specs.declared.client.Unfinished.TheVariants as unfinished
use Rattle.client_homes.specs.declared.process.Proc.{Proc}
use Rattle.client_homes.specs.declared.process.ProcState.{ProcState}
use Rattle.client_homes.specs.declared.process.ProcState.TheVariants as states
use Rattle.client_homes.specs.Births as births
use Rattle.client_homes.specs.Calls as calling
use Rattle.client_homes.specs.Clusters.{is_client}
use Rattle.client_homes.specs.Ends as ending
use Rattle.client_homes.specs.Homes as homes
use Rattle.client_homes.specs.Issuing as issuing
use Rattle.client_homes.specs.Killing as killing
use Rattle.client_homes.specs.Kills as kills
use Rattle.client_homes.specs.Procs as procs_of
use Rattle.client_homes.specs.Says as says
use Rattle.client_homes.specs.Says.{value}
use Rattle.client_homes.specs.Waits as waiting
use Rattle.client_homes.specs.Words as words
use Rattle.client_walks.specs.Hands.{Nothing, Holding, child_heard, forked, hand_of, heard}
use Rattle.client_walks.proofs.Deeds.{Always, Hand, KeepsApart, KeepsAtHome, KeepsHomeDeeds, KeepsWithin, WalkApart, WalkWithin, holds}
use Rattle.client_walks.proofs.ReplyLaws.{NotSo}

module _ (P : ClientProcs → Hand → Type 0) (came : Input) (keeps : KeepsHomeDeeds came P) (h : Hand) where
  -- no process is in hand
  abbrev At : ClientProcs → Type 0
  At s = P s (holds Nothing h)

  on_if : (hand : Hand) (b : Bool) (s t : ClientProcs) → (b ≡ true → P s hand) → (b ≡ false → P t hand) → P (cond b s t) hand
  on_if hand true s t f g = f refl
  on_if hand false s t f g = g refl

  -- Waits

  ended_or_parked : (o : Option Reply) (pid : ℕ) (parked : Parked) (s : ClientProcs) → At s → At (waiting.ends_or_parks pid parked o s)
  ended_or_parked (Some reply) pid parked s p = keeps.homes.ends_wait s h pid parked.tx reply tt p
  ended_or_parked None pid parked s p = keeps.homes.parks s h pid parked tt p

  woken_if : (o : Option Parked) (pid : ℕ) (s : ClientProcs) → At s → At (waiting.wakes_if pid o s)
  woken_if (Some parked) pid s p =
      let request : HomeRequest = waiting.parked_call pid parked in
      ended_or_parked (waiting.wait_reply pid s) pid parked (waiting.waits request s) (keeps.homes.waits s h request tt p)
  woken_if None pid s p = p

  woken : (pid : ℕ) (s : ClientProcs) → At s → At (waiting.wakes pid s)
  woken pid s p = woken_if (first_under procs_of.is_pid pid s.waits) pid (record s { waits = less (is_under procs_of.is_pid pid) s.waits }) (keeps.homes.takes_waiter s h pid tt p)

  parent_woken : (o : Option ℕ) (s : ClientProcs) → At s → At (waiting.wakes_parent o s)
  parent_woken (Some parent) s p = woken parent s p
  parent_woken None s p = p

  waiting_forgotten : (pid : ℕ) (s : ClientProcs) → At s → At (killing.forgets_waiting pid s)
  waiting_forgotten pid s p = on_if (holds Nothing h) (killing.is_waiting (killing.kill_at pid s)) (killing.forgets_kill pid s) s (λ e. keeps.kills.forgets_kill s h pid tt p) (λ e. p)

  woken_after : (pid : ℕ) (s : ClientProcs) → At s → At (waiting.wakes_after pid s)
  woken_after pid s p = parent_woken (homes.parent_in pid (killing.forgets_waiting pid s)) (killing.forgets_waiting pid s) (waiting_forgotten pid s p)

  -- Deaths

  died_here : (about : About) (s : ClientProcs) → At s → At (ending.dies_here about s)
  died_here about s p =
      let ended : ClientProcs = ending.ends_by_death about s in
      keeps.homes.ends (waiting.wakes_after about.pid ended) h about.pid None tt (woken_after about.pid ended (keeps.homes.ends_by_death s h about tt p))

  died_as : (about : About) (s : ClientProcs) → At s → At (ending.dies_as about s)
  died_as about s p = on_if (holds Nothing h) (homes.is_native about.pid s) (ending.dies_here about s) (ending.dies_elsewhere about s) (λ e. died_here about s p) (λ e. keeps.homes.dies_elsewhere s h about e tt p)

  died_by : (o : Option ℕ) (pid : ℕ) (s : ClientProcs) → At s → At (ending.dies_by pid o s)
  died_by (Some number) pid s p = died_as (record { pid = pid; number = number }) s p
  died_by None pid s p = p

  died : (pid : ℕ) (s : ClientProcs) → At s → At (ending.dies pid s)
  died pid s p = died_by (ending.next_call pid s) pid s p

  -- Kills

  met_in : (state : ProcState) (pid : ℕ) (proc : Proc) (s : ClientProcs) → procs_of.proc_at pid s ≡ Some proc → proc.state ≡ state → At s → At (kills.meets_as pid (kills.meeting_in state) s)
  met_in states.Ready pid proc s e f p = died pid s p
  met_in (states.Getting device max) pid proc s e f p = keeps.kills.breaks_off s h pid device max proc e f tt p
  met_in state pid proc s e f p = p

  met_by : (o : Option Proc) (pid : ℕ) (s : ClientProcs) → procs_of.proc_at pid s ≡ o → At s → At (kills.meets_as pid (kills.meeting_of o) s)
  met_by (Some proc) pid s e p = met_in proc.state pid proc s e refl p
  met_by None pid s e p = p

  met : (pid : ℕ) (s : ClientProcs) → At s → At (kills.meets_kill pid s)
  met pid s p = met_by (procs_of.proc_at pid s) pid s refl p

  kill_taken : (target : ℕ) (s : ClientProcs) → At s → At (kills.takes_kill target s)
  kill_taken target s p =
      let flagged : ClientProcs = procs_of.killed_at target s in
      on_if (holds Nothing h) (kills.is_here target s) (kills.meets_kill target flagged) (killing.notes_kill target kill_states.Waits s) (λ e. met target flagged (keeps.kills.flags s h target tt p)) (λ e. keeps.kills.notes_kill s h target kill_states.Waits tt p)

  kill_told : (about : About) (target : ℕ) (s : ClientProcs) → At s → At (kills.tells_kill about target s)
  kill_told about target s p =
      let here : ClientProcs = kills.takes_kill target s in
      let there : ClientProcs = kills.goes_after (Some about) target (homes.place_in target s) s in
      on_if (holds Nothing h) (homes.place_in target s == s.home.home) (waiting.wakes target here) (waiting.wakes target there) (λ e. woken target here (kill_taken target s p)) (λ e. woken target there (keeps.kills.goes_after s h (Some about) target (homes.place_in target s) tt p))

  killed : (request : HomeRequest) (target : ℕ) (s : ClientProcs) → At s → At (calling.kills request target s)
  killed request target s p =
      let entered : ClientProcs = waiting.enters_home request (value 0 0) (homes.kills_at target s) in
      let refused : ClientProcs = waiting.enters_home request (Error errnos.NoProcess) (homes.kills_at target s) in
      on_if (holds Nothing h) (homes.lives_at target s) (calling.tells_first (homes.is_killed target s) request target entered) refused
      (λ e. on_if (holds Nothing h) (not (homes.is_killed target s)) (kills.tells_kill (waiting.about_of request) target entered) entered (λ f. kill_told (waiting.about_of request) target entered (keeps.homes.kills_living s h request target e tt p)) (λ f. keeps.homes.kills_living s h request target e tt p))
      (λ e. keeps.homes.kills_none s h request target e tt p)

  kill_heard : (tx : TxNo) (pid : ℕ) (s : ClientProcs) → At s → At (kills.hears_kill tx pid s)
  kill_heard tx pid s p =
      let told : ClientProcs = says.answers tx Done (procs_of.killed_at pid s) in
      on_if (holds Nothing h) (kills.is_here pid s) (kills.meets_kill pid told) _ (λ e. met pid told (keeps.kills.hears_here s h tx pid e tt p)) (λ e. keeps.kills.hears_gone s h tx pid e tt p)

  kill_answered : (o : Option KillState) (pid : ℕ) (body : ReplyBody) (s : ClientProcs) → At s → At (kills.kill_answered_if pid body o s)
  kill_answered None pid body s p = p
  kill_answered (Some kill) pid body s p =
      let after : ClientProcs = kills.goes_after None pid (homes.place_in pid s) s in
      let noted : ClientProcs = killing.notes_kill pid kill_states.Waits s in
      on_if (holds Nothing h) (kills.is_done body || homes.has_ended pid s || kills.is_here pid s) s _ (λ e. p)
      (λ e. on_if (holds Nothing h) (kills.is_placed kill && not (homes.place_in pid s == s.home.home)) after noted (λ f. keeps.kills.goes_after s h None pid (homes.place_in pid s) tt p) (λ f. keeps.kills.notes_kill s h pid kill_states.Waits tt p))

  kill_replied : (pid : ℕ) (body : ReplyBody) (s : ClientProcs) → At s → At (kills.kill_replied pid body s)
  kill_replied pid body s p = kill_answered (killing.kill_at pid s) pid body (killing.forgets_kill pid s) (keeps.kills.forgets_kill s h pid tt p)

  come_if : (o : Option KillState) (pid kernel : ℕ) (s : ClientProcs) → At s → At (kills.comes_if pid kernel o s)
  come_if None pid kernel s p = p
  come_if (Some (kill_states.Out placed)) pid kernel s p = keeps.kills.notes_kill s h pid (kill_states.Out true) tt p
  come_if (Some kill_states.Waits) pid kernel s p = keeps.kills.goes_after s h None pid kernel tt p

  place_told : (tx : TxNo) (pid kernel : ℕ) (s : ClientProcs) → At s → At (kills.tells_place tx pid kernel s)
  place_told tx pid kernel s p =
      let told : ClientProcs = says.answers tx Done (homes.moves_to pid kernel s) in
      come_if (killing.kill_at pid s) pid kernel (killing.forgets_kill pid told) (keeps.kills.forgets_kill told h pid tt (keeps.kills.tells_place s h tx pid kernel tt p))

  -- Births

  early_met : (child : ℕ) (s : ClientProcs) → At s → At (births.meets_early child s)
  early_met child s p =
      let known : ClientProcs = record s { early = without (is_under procs_of.is_pid child) s.early } in
      let flagged : ClientProcs = procs_of.killed_at child known in
      on_if (holds Nothing h) (not (list_any (is_under procs_of.is_pid child) s.early)) s (ending.dies child flagged) (λ e. p) (λ e. died child flagged (keeps.homes.meets_early s h child tt p))

  placed_if : (o : Option Machine) (parent child : ℕ) (s : ClientProcs) → births.child_image parent s ≡ o → P s (holds (Holding child) h) → At (births.places_if parent child o s)
  placed_if None parent child s e p = keeps.homes.lets_go s h child tt p
  placed_if (Some image) parent child s e p =
      early_met child (births.puts_proc child (births.child_of image) (births.copies_cwd parent child (births.forks_streams parent child s))) (keeps.homes.places_child s h parent child image e tt p)

  made_if : (o : Option ℕ) (pid : ℕ) (s : ClientProcs) → P s (holds (hand_of o) h) → At (issuing.makes_if pid o s)
  made_if None pid s p = p
  made_if (Some child) pid s p = placed_if (births.child_image pid s) pid child s refl p

  child_brought : (pid : ℕ) (reply : Reply) (s : ClientProcs) → P s (holds (hand_of (issuing.child_in reply)) h) → At (issuing.brings_child pid reply s)
  child_brought pid reply s p = keeps.calls.replies (issuing.makes_if pid (issuing.child_in reply) s) h pid reply tt (made_if (issuing.child_in reply) pid s p)

  -- the child of a `fork` that was done here
  born_numbered : (b : Bool) (child : ℕ) (s : ClientProcs) → P s (holds (Holding child) h) → P s (holds (hand_of (cond b (Some child) None)) h)
  born_numbered true child s p = p
  born_numbered false child s p = keeps.homes.lets_go s h child tt p

  born_brought : (o : Option ℕ) (pid : ℕ) (s : ClientProcs) → P s (holds (hand_of o) h) → At (issuing.brings_child pid (calling.born_reply o) s)
  born_brought None pid s p = child_brought pid (Error errnos.TooMany) s p
  born_brought (Some child) pid s p = child_brought pid (value child 0) s (born_numbered _ child s p)

  -- Calls at homes

  waited_here : (o : Option Reply) (pid number : ℕ) (s : ClientProcs) → At s → At (issuing.finishes_or_parks o (record { pid = pid; number = number; call = home_calls.Wait }) s)
  waited_here (Some reply) pid number s p = keeps.calls.replies s h pid reply tt p
  waited_here None pid number s p = keeps.homes.parks_here s h (record { pid = pid; number = number; call = home_calls.Wait }) tt p

  exited : (request : HomeRequest) (code : ℕ) (s : ClientProcs) → At s → At (calling.exits request code s)
  exited request code s p = woken_after request.pid (calling.ends_by_exit request code s) (keeps.homes.ends_by_exit s h request code tt p)

  done_here : (call : HomeCall) (pid number : ℕ) (s : ClientProcs) → At s → At (issuing.does_here (record { pid = pid; number = number; call = call }) s)
  done_here (home_calls.Print bytes) pid number s p =
      let request : HomeRequest = record { pid = pid; number = number; call = home_calls.Print bytes } in
      keeps.calls.replies (waiting.enters_home request (value 0 0) s) h pid (value 0 0) tt (keeps.homes.enters_home s h request (value 0 0) refl tt p)
  done_here (home_calls.Exit code) pid number s p =
      let request : HomeRequest = record { pid = pid; number = number; call = home_calls.Exit code } in
      keeps.homes.ends (calling.exits request code s) h pid (Some (waiting.about_of request)) tt (exited request code s p)
  done_here home_calls.Getppid pid number s p =
      let request : HomeRequest = record { pid = pid; number = number; call = home_calls.Getppid } in
      keeps.calls.replies (waiting.enters_home request (calling.parent_reply pid s) s) h pid (calling.parent_reply pid s) tt (keeps.homes.enters_home s h request (calling.parent_reply pid s) refl tt p)
  done_here (home_calls.Host max) pid number s p =
      let request : HomeRequest = record { pid = pid; number = number; call = home_calls.Host max } in
      keeps.calls.replies (waiting.enters_home request (calling.host_reply max s) s) h pid (calling.host_reply max s) tt (keeps.homes.enters_home s h request (calling.host_reply max s) refl tt p)
  done_here home_calls.Tick pid number s p =
      let request : HomeRequest = record { pid = pid; number = number; call = home_calls.Tick } in
      keeps.calls.replies (calling.ticks_for request s) h pid (calling.tick_reply s) tt (keeps.homes.ticks_for s h request tt p)
  done_here home_calls.Fork pid number s p =
      let request : HomeRequest = record { pid = pid; number = number; call = home_calls.Fork } in
      born_brought (homes.born_pid pid s) pid (calling.forks request s) (keeps.homes.forks s h request tt p)
  done_here home_calls.Wait pid number s p =
      let request : HomeRequest = record { pid = pid; number = number; call = home_calls.Wait } in
      waited_here (waiting.wait_reply pid s) pid number (waiting.waits request s) (keeps.homes.waits s h request tt p)
  done_here (home_calls.Kill target) pid number s p =
      let request : HomeRequest = record { pid = pid; number = number; call = home_calls.Kill target } in
      keeps.calls.replies (calling.kills request target s) h pid (calling.kill_reply target s) tt (killed request target s p)

  gone_home : (kernel : ℕ) (request : HomeRequest) (s : ClientProcs) → At s → At (issuing.goes_home kernel request s)
  gone_home kernel request s p =
      on_if (holds Nothing h) (kernel == s.home.home) (issuing.does_here request s) (issuing.asks_home kernel request s) (λ e. done_here request.call request.pid request.number s p) (λ e. keeps.homes.asks_home s h kernel request e tt p)

  fetched_or_gone : (o : Option ℕ) (request : HomeRequest) (s : ClientProcs) → At s → At (issuing.fetches_or_goes o request s)
  fetched_or_gone (Some page) request s p = keeps.homes.fetches_for_fork s h request.pid page tt p
  fetched_or_gone None request s p = gone_home (issuing.home_for request) request s p

  begun_if : (o : Option HomeRequest) (pid : ℕ) (s : ClientProcs) → At s → At (issuing.begins_if pid o s)
  begun_if None pid s p = keeps.calls.answers_here s h pid (Error errnos.NoProcess) (NotSo refl) tt p
  begun_if (Some request) pid s p =
      on_if (holds Nothing h) (not (is_client s.kernels (issuing.home_for request))) (procs_of.answers_here request.pid (Error errnos.NoProcess) s) (issuing.fetches_or_goes (issuing.page_for request s) request s)
      (λ e. keeps.calls.answers_here s h request.pid (Error errnos.NoProcess) (NotSo refl) tt p) (λ e. fetched_or_gone (issuing.page_for request s) request s p)

  issued_home : (pid : ℕ) (s : ClientProcs) → At s → At (issuing.issues_home pid s)
  issued_home pid s p = begun_if (issuing.own_request pid s) pid s p

  -- a home has answered
  finished_by : (call : HomeCall) (pid number : ℕ) (reply : Reply) (s : ClientProcs) → P s (holds (hand_of (forked call reply)) h) → At (issuing.finishes reply (record { pid = pid; number = number; call = call }) s)
  finished_by (home_calls.Print bytes) pid number reply s p = keeps.calls.replies s h pid reply tt p
  finished_by (home_calls.Exit code) pid number reply s p = keeps.homes.ends s h pid (Some (record { pid = pid; number = number })) tt p
  finished_by home_calls.Getppid pid number reply s p = keeps.calls.replies s h pid reply tt p
  finished_by (home_calls.Host max) pid number reply s p = keeps.calls.replies s h pid reply tt p
  finished_by home_calls.Tick pid number reply s p = keeps.calls.replies s h pid reply tt p
  finished_by home_calls.Fork pid number reply s p = child_brought pid reply s p
  finished_by home_calls.Wait pid number reply s p = keeps.calls.replies s h pid reply tt p
  finished_by (home_calls.Kill target) pid number reply s p = keeps.calls.replies s h pid reply tt p

  finished_if : (o : Option HomeRequest) (reply : Reply) (s : ClientProcs) → P s (holds (hand_of (child_heard o reply)) h) → At (issuing.finishes_if o reply s)
  finished_if (Some request) reply s p = finished_by request.call request.pid request.number reply s p
  finished_if None reply s p = p

  home_heard : (tx : TxNo) (pid : ℕ) (body : ReplyBody) (s : ClientProcs) → P s (holds (heard (Some (unfinished.Home pid)) body s) h) → At (issuing.hears_home tx pid body s)
  home_heard tx pid body s p =
      let left : ClientProcs = issuing.forgets_fork tx s in
      let reply : Reply = words.reply_of body in
      keeps.homes.forgets_early (issuing.finishes_own pid reply left) h tx tt (finished_if (issuing.own_request pid left) reply left (keeps.homes.forgets_fork s (holds (heard (Some (unfinished.Home pid)) body s) h) tx tt p))

  -- another kernel asks
  waited_for : (o : Option Reply) (tx : TxNo) (pid number : ℕ) (s : ClientProcs) → At s → At (issuing.answers_or_parks tx o (record { pid = pid; number = number; call = home_calls.Wait }) s)
  waited_for (Some reply) tx pid number s p = keeps.homes.answers s h tx reply tt p
  waited_for None tx pid number s p = keeps.homes.parks s h pid (record { number = number; tx = Some tx }) tt p

  pub home_served : (call : HomeCall) (tx : TxNo) (pid number : ℕ) (s : ClientProcs) → At s → At (issuing.serves_home tx (record { pid = pid; number = number; call = call }) s)
  home_served (home_calls.Print bytes) tx pid number s p =
      let request : HomeRequest = record { pid = pid; number = number; call = home_calls.Print bytes } in
      keeps.homes.answers (waiting.enters_home request (value 0 0) s) h tx (value 0 0) tt (keeps.homes.enters_home s h request (value 0 0) refl tt p)
  home_served (home_calls.Exit code) tx pid number s p =
      let request : HomeRequest = record { pid = pid; number = number; call = home_calls.Exit code } in
      let about : About = record { pid = pid; number = number } in
      let ended : ClientProcs = ending.ends_by_death about s in
      on_if (holds Nothing h) (code == 257) (issuing.serves_death tx request s) (says.answers tx (words.packet_of (value 0 0)) (calling.exits request code s))
      (λ e. keeps.homes.answers (waiting.wakes_after pid ended) h tx (value 0 0) tt (woken_after pid ended (keeps.homes.ends_by_death s h about tt p)))
      (λ e. keeps.homes.answers (calling.exits request code s) h tx (value 0 0) tt (exited request code s p))
  home_served home_calls.Getppid tx pid number s p =
      let request : HomeRequest = record { pid = pid; number = number; call = home_calls.Getppid } in
      keeps.homes.answers (waiting.enters_home request (calling.parent_reply pid s) s) h tx (calling.parent_reply pid s) tt (keeps.homes.enters_home s h request (calling.parent_reply pid s) refl tt p)
  home_served (home_calls.Host max) tx pid number s p =
      let request : HomeRequest = record { pid = pid; number = number; call = home_calls.Host max } in
      keeps.homes.answers (waiting.enters_home request (calling.host_reply max s) s) h tx (calling.host_reply max s) tt (keeps.homes.enters_home s h request (calling.host_reply max s) refl tt p)
  home_served home_calls.Tick tx pid number s p =
      let request : HomeRequest = record { pid = pid; number = number; call = home_calls.Tick } in
      keeps.homes.answers (calling.ticks_for request s) h tx (calling.tick_reply s) tt (keeps.homes.ticks_for s h request tt p)
  home_served home_calls.Fork tx pid number s p =
      let request : HomeRequest = record { pid = pid; number = number; call = home_calls.Fork } in
      keeps.homes.hands_on (calling.forks request s) h tx (homes.born_pid pid s) tt (keeps.homes.forks s h request tt p)
  home_served home_calls.Wait tx pid number s p =
      let request : HomeRequest = record { pid = pid; number = number; call = home_calls.Wait } in
      waited_for (waiting.wait_reply pid s) tx pid number (waiting.waits request s) (keeps.homes.waits s h request tt p)
  home_served (home_calls.Kill target) tx pid number s p =
      let request : HomeRequest = record { pid = pid; number = number; call = home_calls.Kill target } in
      keeps.homes.answers (calling.kills request target s) h tx (calling.kill_reply target s) tt (killed request target s p)

-- each of these functions keeps what its deeds keep
pub at_home : (P : ClientProcs → Hand → Type 0) (came : Input) → KeepsHomeDeeds came P → KeepsAtHome P came
at_home P came keeps = record {
  dies = λ s h pid p. died P came keeps h pid s p;
  issues = λ s h pid p. issued_home P came keeps h pid s p;
  serves = λ s h tx source request e p. home_served P came keeps h request.call tx request.pid request.number s p;
  hears = λ s h tx pid body p. home_heard P came keeps h tx pid body s p;
  hears_kill = λ s h tx pid p. kill_heard P came keeps h tx pid s p;
  kill_replied = λ s h pid body p. kill_replied P came keeps h pid body s p;
  tells_place = λ s h tx pid kernel p. place_told P came keeps h tx pid kernel s p;
  ends = λ s h pid about p. keeps.homes.ends s h pid about tt p;
  forgets_waiting = λ s h pid p. waiting_forgotten P came keeps h pid s p;
  flags = λ s h pid p. keeps.kills.flags s h pid tt p;
  lets_go = λ s h pid p. keeps.homes.lets_go s h pid tt p;
}

-- and so the walk may go by its deeds
pub apart_by_deeds : (P : ClientProcs → Hand → Type 0) (came : Input) → KeepsApart came Always P → WalkApart P came
apart_by_deeds P came keeps = record { files = keeps.files; calls = keeps.calls; home = at_home P came (record { calls = keeps.calls; homes = keeps.homes; kills = keeps.kills }); devices = keeps.devices; moves = keeps.moves; comings = keeps.comings }

pub by_deeds : (P : ClientProcs → Hand → Type 0) (came : Input) → KeepsWithin came Always P → WalkWithin P came
by_deeds P came keeps = record { apart = apart_by_deeds P came keeps.apart; turns = keeps.turns }
