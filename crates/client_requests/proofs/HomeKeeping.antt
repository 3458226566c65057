-- What is done at homes and with kills: who waits there goes on waiting, or is answered.
use Rattle.std.proofs.Common.{◌≡◌, refl, sym, ap, subst, ◌∙◌, ℕ, ◌+◌, ◌==◌, Bool, ◌&&◌, ◌||◌, not, cond, Option, Some, None}
use Rattle.std.specs.List.{list_any}
use Rattle.sprite_ids.specs.declared.Errno.TheVariants as errnos
use Rattle.sprite_ids.specs.declared.TxNo.{TxNo}
use Rattle.sprite_ids.specs.Lists.{less, total, without}
use Rattle.kernel_steps.specs.declared.Input.{Input}
use Rattle.kernel_steps.specs.declared.Input.TheVariants as inputs
use Rattle.kernel_steps.specs.Rows.{first_under, is_row, is_under}
use Rattle.process_machine.specs.declared.Reply.{Reply}
use Rattle.process_machine.specs.declared.Reply.TheVariants.{Error}
use Rattle.process_machine.specs.Machine.{Machine}
use Rattle.packet_bodies.specs.declared.HomeCall.{HomeCall}
use Rattle.packet_bodies.specs.declared.HomeCall.TheVariants as home_calls
use Rattle.packet_bodies.specs.declared.HomeRequest.{HomeRequest}
use Rattle.packet_bodies.specs.declared.ReplyBody.{ReplyBody}
use Rattle.packet_bodies.specs.declared.ReplyBody.TheVariants as bodies
use Rattle.packet_bodies.specs.declared.Request.TheVariants as requests
use Rattle.unix_calls.specs.declared.About.{About}
use Rattle.client_homes.specs.declared.client.ClientProcs.{ClientProcs}
use Rattle.client_homes.specs.declared.client.KillState.{KillState}
use Rattle.client_homes.specs.declared.client.KillState.TheVariants as kill_states
use Rattle.client_homes.specs.declared.client.Parked.{Parked}
use Rattle.client_homes.specs.declared.client.Unfinished.TheVariants as unfinished
use Rattle.client_homes.specs.declared.process.Proc.{Proc}
use Rattle.client_homes.specs.declared.process.ProcState.{ProcState}
use Rattle.client_homes.specs.declared.process.ProcState.TheVariants as states
use Rattle.client_homes.specs.Births as births
use Rattle.client_homes.specs.Calls as calling
use Rattle.client_homes.specs.Clusters.{is_client}
use Rattle.client_homes.specs.Ends as ending
use Rattle.client_homes.specs.Homes as homes
use Rattle.client_homes.specs.Issuing as issuing
use Rattle.client_homes.specs.Killing as killing
use Rattle.client_homes.specs.Kills as kills
use Rattle.client_homes.specs.Pages as pages
use Rattle.client_homes.specs.Procs as procs_of
use Rattle.client_homes.specs.Procs.{is_pid}
use Rattle.client_homes.specs.Says as says
use Rattle.client_homes.specs.Says.{next_tx, value}
use Rattle.client_homes.specs.Waits as waiting
use Rattle.client_homes.specs.Words as words
use Rattle.client_walks.proofs.Deeds.{KeepsAtHome}
use Rattle.client_requests.specs.Kept.{answer_of, ask_of, one_for, wait_of}
use Rattle.client_requests.proofs.CountLaws as numbers
use Rattle.client_requests.proofs.CountLaws.{Counts, Follows, View, counts, total_first, total_push, view}
use Rattle.client_requests.proofs.ViewLaws as frames

module _ (tx : TxNo) (first : Counts) where
  abbrev pub Since : View → Type 0
  Since v = Follows first (counts tx v)

  abbrev pub At : ClientProcs → Type 0
  At s = Since (view s)

  -- with a parked `wait` in hand
  abbrev Holding : Option TxNo → View → Type 0
  Holding asker v = numbers.At first (one_for tx asker + total (wait_of tx) v.waits) (total (ask_of tx) v.asked) (total (answer_of tx) v.answers)

  on_if : (b : Bool) (s t : ClientProcs) → At s → At t → At (cond b s t)
  on_if b s t p q = frames.on_if Since b s t p q

  -- a request is answered
  pub answered : (asker : TxNo) (body : ReplyBody) (s : ClientProcs) → At s → At (says.answers asker body s)
  answered asker body s p =
      subst (λ (n : ℕ). numbers.At first (total (wait_of tx) s.waits) (total (ask_of tx) s.asked) n) (sym (total_push (answer_of tx) s.files.out.answers (asker, body)))
      (numbers.answered first (total (wait_of tx) s.waits) (total (ask_of tx) s.asked) (total (answer_of tx) s.files.out.answers) (answer_of tx (asker, body)) p)

  -- Waits

  wait_ended : (o : Option TxNo) (pid : ℕ) (reply : Reply) (s : ClientProcs) → Holding o (view s) → At (waiting.ends_wait pid o reply s)
  wait_ended (Some asker) pid reply s p =
      subst (λ (n : ℕ). numbers.At first (total (wait_of tx) s.waits) (total (ask_of tx) s.asked) n) (sym (total_push (answer_of tx) s.files.out.answers (asker, words.packet_of reply)))
      (numbers.wait_answered first (total (wait_of tx) s.waits) (total (ask_of tx) s.asked) (total (answer_of tx) s.files.out.answers) (one_for tx (Some asker)) p)
  wait_ended None pid reply s p =
      frames.replied Since pid reply s (numbers.own_wait first (total (wait_of tx) s.waits) (total (ask_of tx) s.asked) (total (answer_of tx) s.files.out.answers) p)

  pub parked_again : (pid : ℕ) (row : Parked) (s : ClientProcs) → Holding row.tx (view s) → At (waiting.parks pid row s)
  parked_again pid row s p =
      subst (λ (n : ℕ). numbers.At first n (total (ask_of tx) s.asked) (total (answer_of tx) s.files.out.answers)) (sym (total_push (wait_of tx) s.waits (pid, row)))
      (numbers.wait_parked first (total (wait_of tx) s.waits) (total (ask_of tx) s.asked) (total (answer_of tx) s.files.out.answers) (one_for tx row.tx) p)

  ended_or_parked : (o : Option Reply) (pid : ℕ) (row : Parked) (s : ClientProcs) → Holding row.tx (view s) → At (waiting.ends_or_parks pid row o s)
  ended_or_parked (Some reply) pid row s p = wait_ended row.tx pid reply s p
  ended_or_parked None pid row s p = parked_again pid row s p

  waited : (R : View → Type 0) (request : HomeRequest) (s : ClientProcs) → R (view s) → R (view (waiting.waits request s))
  waited R request s p =
      frames.entered_home R (waiting.wait_reply request.pid s) request (homes.waited_at request.pid s) (frames.table_kept R (homes.is_native request.pid s) _ s p)

  looked_again : (pid : ℕ) (row : Parked) (s : ClientProcs) → Holding row.tx (view s) → At (waiting.looks_again pid row s)
  looked_again pid row s p = ended_or_parked (waiting.wait_reply pid s) pid row (waiting.waits (waiting.parked_call pid row) s) (waited (Holding row.tx) (waiting.parked_call pid row) s p)

  -- the row that is found is taken out
  woken_by : (o : Option Parked) (pid : ℕ) (s : ClientProcs) → first_under is_pid pid s.waits ≡ o → At s → At (waiting.wakes_if pid o (record s { waits = less (is_under is_pid pid) s.waits }))
  woken_by o pid s e p = by o taken
    where
      rest : ClientProcs
      rest = record s { waits = less (is_under is_pid pid) s.waits }

      taken : numbers.At first (numbers.found (λ (row : Parked). one_for tx row.tx) o + total (wait_of tx) rest.waits) (total (ask_of tx) s.asked) (total (answer_of tx) s.files.out.answers)
      taken =
          subst (λ (n : ℕ). numbers.At first n (total (ask_of tx) s.asked) (total (answer_of tx) s.files.out.answers))
          (total_first is_pid pid (λ (row : Parked). one_for tx row.tx) s.waits ∙ ap (λ (found : Option Parked). numbers.found (λ (row : Parked). one_for tx row.tx) found + total (wait_of tx) rest.waits) e) p

      by : (q : Option Parked) → numbers.At first (numbers.found (λ (row : Parked). one_for tx row.tx) q + total (wait_of tx) rest.waits) (total (ask_of tx) s.asked) (total (answer_of tx) s.files.out.answers) → At (waiting.wakes_if pid q rest)
      by (Some row) k = looked_again pid row rest k
      by None k = numbers.own_wait first (total (wait_of tx) rest.waits) (total (ask_of tx) s.asked) (total (answer_of tx) s.files.out.answers) k

  woken : (pid : ℕ) (s : ClientProcs) → At s → At (waiting.wakes pid s)
  woken pid s p = woken_by (first_under is_pid pid s.waits) pid s refl p

  parent_woken : (o : Option ℕ) (s : ClientProcs) → At s → At (waiting.wakes_parent o s)
  parent_woken (Some parent) s p = woken parent s p
  parent_woken None s p = p

  pub woken_after : (pid : ℕ) (s : ClientProcs) → At s → At (waiting.wakes_after pid s)
  woken_after pid s p = parent_woken (homes.parent_in pid (killing.forgets_waiting pid s)) (killing.forgets_waiting pid s) (frames.waiting_forgotten Since pid s p)

  -- Deaths

  pub died_at_home : (about : About) (s : ClientProcs) → At s → At (ending.ends_by_death about s)
  died_at_home about s p = frames.table_kept Since (homes.is_native about.pid s) _ (says.enters_death about s) p

  died_here : (about : About) (s : ClientProcs) → At s → At (ending.dies_here about s)
  died_here about s p =
      let dead : ClientProcs = ending.ends_by_death about s in
      frames.ended Since about.pid None (waiting.wakes_after about.pid dead) (woken_after about.pid dead (died_at_home about s p))

  died_elsewhere : (about : About) (s : ClientProcs) → At s → At (ending.dies_elsewhere about s)
  died_elsewhere about s p = frames.state_kept Since about.pid (states.Dying (next_tx s)) (says.sends _ None (requests.Home (ending.death_call about)) s) p

  died_by : (o : Option ℕ) (pid : ℕ) (s : ClientProcs) → At s → At (ending.dies_by pid o s)
  died_by (Some number) pid s p =
      let about : About = record { pid = pid; number = number } in
      on_if (homes.is_native pid s) (ending.dies_here about s) (ending.dies_elsewhere about s) (died_here about s p) (died_elsewhere about s p)
  died_by None pid s p = p

  died : (pid : ℕ) (s : ClientProcs) → At s → At (ending.dies pid s)
  died pid s p = died_by (ending.next_call pid s) pid s p

  -- Kills

  met_in : (state : ProcState) (pid : ℕ) (s : ClientProcs) → At s → At (kills.meets_as pid (kills.meeting_in state) s)
  met_in states.Ready pid s p = died pid s p
  met_in (states.Getting device max) pid s p = frames.answered_here Since pid (Error errnos.Interrupted) (record s { getters = less (is_row is_pid is_pid device pid) s.getters }) p
  met_in state pid s p = p

  met_by : (o : Option Proc) (pid : ℕ) (s : ClientProcs) → At s → At (kills.meets_as pid (kills.meeting_of o) s)
  met_by (Some proc) pid s p = met_in proc.state pid s p
  met_by None pid s p = p

  pub met : (pid : ℕ) (s : ClientProcs) → At s → At (kills.meets_kill pid s)
  met pid s p = met_by (procs_of.proc_at pid s) pid s p

  kill_taken : (target : ℕ) (s : ClientProcs) → At s → At (kills.takes_kill target s)
  kill_taken target s p =
      let known : ClientProcs = procs_of.killed_at target s in
      on_if (kills.is_here target s) (kills.meets_kill target known) (killing.notes_kill target kill_states.Waits s) (met target known (frames.flagged Since target s p)) p

  kill_told : (about : About) (target : ℕ) (s : ClientProcs) → At s → At (kills.tells_kill about target s)
  kill_told about target s p =
      let here : ClientProcs = kills.takes_kill target s in
      let there : ClientProcs = kills.goes_after (Some about) target (homes.place_in target s) s in
      on_if (homes.place_in target s == s.home.home) (waiting.wakes target here) (waiting.wakes target there) (woken target here (kill_taken target s p)) (woken target there p)

  pub killed : (request : HomeRequest) (target : ℕ) (s : ClientProcs) → At s → At (calling.kills request target s)
  killed request target s p =
      let so : At (homes.kills_at target s) = frames.table_kept Since (homes.is_native target s) _ s p in
      let entered : ClientProcs = waiting.enters_home request (value 0 0) (homes.kills_at target s) in
      on_if (homes.lives_at target s) (calling.tells_first (homes.is_killed target s) request target entered) (waiting.enters_home request (Error errnos.NoProcess) (homes.kills_at target s))
      (on_if (not (homes.is_killed target s)) (kills.tells_kill (waiting.about_of request) target entered) entered (kill_told (waiting.about_of request) target entered so) so) so

  kill_heard : (asker : TxNo) (pid : ℕ) (s : ClientProcs) → At s → At (kills.hears_kill asker pid s)
  kill_heard asker pid s p =
      let known : ClientProcs = procs_of.killed_at pid s in
      let told : ClientProcs = says.answers asker bodies.Done known in
      on_if (kills.is_here pid s) (kills.meets_kill pid told) (says.answers asker bodies.Gone (kills.notes_early pid s))
      (met pid told (answered asker bodies.Done known (frames.flagged Since pid s p))) (answered asker bodies.Gone (kills.notes_early pid s) p)

  kill_answered : (o : Option KillState) (pid : ℕ) (body : ReplyBody) (s : ClientProcs) → At s → At (kills.kill_answered_if pid body o s)
  kill_answered None pid body s p = p
  kill_answered (Some kill) pid body s p =
      let after : ClientProcs = kills.goes_after None pid (homes.place_in pid s) s in
      let noted : ClientProcs = killing.notes_kill pid kill_states.Waits s in
      on_if (kills.is_done body || homes.has_ended pid s || kills.is_here pid s) s (cond (kills.is_placed kill && not (homes.place_in pid s == s.home.home)) after noted) p
      (on_if (kills.is_placed kill && not (homes.place_in pid s == s.home.home)) after noted p p)

  pub come_if : (o : Option KillState) (pid kernel : ℕ) (s : ClientProcs) → At s → At (kills.comes_if pid kernel o s)
  come_if None pid kernel s p = p
  come_if (Some (kill_states.Out placed)) pid kernel s p = p
  come_if (Some kill_states.Waits) pid kernel s p = p

  place_told : (asker : TxNo) (pid kernel : ℕ) (s : ClientProcs) → At s → At (kills.tells_place asker pid kernel s)
  place_told asker pid kernel s p =
      let there : ClientProcs = homes.moves_to pid kernel s in
      let told : ClientProcs = says.answers asker bodies.Done there in
      come_if (killing.kill_at pid s) pid kernel (killing.forgets_kill pid told) (answered asker bodies.Done there (frames.table_kept Since (homes.is_native pid s) _ s p))

  -- Births

  early_met : (child : ℕ) (s : ClientProcs) → At s → At (births.meets_early child s)
  early_met child s p =
      let known : ClientProcs = record s { early = without (is_under is_pid child) s.early } in
      on_if (not (list_any (is_under is_pid child) s.early)) s (ending.dies child (procs_of.killed_at child known)) p (died child (procs_of.killed_at child known) (frames.flagged Since child known p))

  placed_if : (o : Option Machine) (parent child : ℕ) (s : ClientProcs) → At s → At (births.places_if parent child o s)
  placed_if None parent child s p = p
  placed_if (Some image) parent child s p =
      let forked : ClientProcs = births.forks_streams parent child s in
      early_met child (births.puts_proc child (births.child_of image) (births.copies_cwd parent child forked)) (frames.cwd_kept Since _ child forked p)

  made_if : (o : Option ℕ) (pid : ℕ) (s : ClientProcs) → At s → At (issuing.makes_if pid o s)
  made_if None pid s p = p
  made_if (Some child) pid s p = placed_if (births.child_image pid s) pid child s p

  child_brought : (pid : ℕ) (reply : Reply) (s : ClientProcs) → At s → At (issuing.brings_child pid reply s)
  child_brought pid reply s p = frames.replied Since pid reply (issuing.makes_if pid (issuing.child_in reply) s) (made_if (issuing.child_in reply) pid s p)

  -- Calls

  pub exited : (request : HomeRequest) (code : ℕ) (s : ClientProcs) → At s → At (calling.exits request code s)
  exited request code s p = woken_after request.pid (calling.ends_by_exit request code s) (frames.table_kept Since (homes.is_native request.pid s) _ (waiting.enters_home request (value 0 0) s) p)

  pub done : (call : HomeCall) (request : HomeRequest) (s : ClientProcs) → At s → At (calling.does_by call request s)
  done (home_calls.Print bytes) request s p = p
  done (home_calls.Exit code) request s p = exited request code s p
  done home_calls.Getppid request s p = p
  done (home_calls.Host max) request s p = p
  done home_calls.Tick request s p = p
  done home_calls.Fork request s p = frames.table_kept Since (homes.is_native request.pid s) _ s p
  done home_calls.Wait request s p = waited Since request s p
  done (home_calls.Kill target) request s p = killed request target s p

  -- a process of this kernel waits
  own_parked : (request : HomeRequest) (s : ClientProcs) → At s → At (issuing.parks_here request s)
  own_parked request s p =
      let inside : ClientProcs = procs_of.in_state request.pid states.Waiting s in
      let row : Parked = record { number = request.number; tx = None } in
      subst (λ (n : ℕ). numbers.At first n (total (ask_of tx) inside.asked) (total (answer_of tx) inside.files.out.answers)) (sym (total_push (wait_of tx) inside.waits (request.pid, row)))
      (numbers.wait_more first (total (wait_of tx) inside.waits) (total (ask_of tx) inside.asked) (total (answer_of tx) inside.files.out.answers) (frames.state_kept Since request.pid states.Waiting s p))

  finished : (call : HomeCall) (reply : Reply) (request : HomeRequest) (s : ClientProcs) → At s → At (issuing.finishes_by call request reply s)
  finished (home_calls.Print bytes) reply request s p = frames.replied Since request.pid reply s p
  finished (home_calls.Exit code) reply request s p = frames.ended Since request.pid (Some (waiting.about_of request)) s p
  finished home_calls.Getppid reply request s p = frames.replied Since request.pid reply s p
  finished (home_calls.Host max) reply request s p = frames.replied Since request.pid reply s p
  finished home_calls.Tick reply request s p = frames.replied Since request.pid reply s p
  finished home_calls.Fork reply request s p = child_brought request.pid reply s p
  finished home_calls.Wait reply request s p = frames.replied Since request.pid reply s p
  finished (home_calls.Kill target) reply request s p = frames.replied Since request.pid reply s p

  finished_or_parked : (o : Option Reply) (request : HomeRequest) (s : ClientProcs) → At s → At (issuing.finishes_or_parks o request s)
  finished_or_parked (Some reply) request s p = finished request.call reply request s p
  finished_or_parked None request s p = own_parked request s p

  asked_home : (kernel : ℕ) (request : HomeRequest) (s : ClientProcs) → At s → At (issuing.asks_home kernel request s)
  asked_home kernel request s p =
      let sent : ClientProcs = says.sends kernel (Some (waiting.about_of request)) (requests.Home request) s in
      let so = frames.state_kept Since request.pid (states.AtHome (next_tx s)) sent p in
      on_if (issuing.is_fork request.call) _ (ending.keeps_tx (next_tx s) (unfinished.Home request.pid) (procs_of.in_state request.pid (states.AtHome (next_tx s)) sent)) so so

  fetched_or_gone : (o : Option ℕ) (request : HomeRequest) (s : ClientProcs) → At s → At (issuing.fetches_or_goes o request s)
  fetched_or_gone (Some page) request s p = frames.state_kept Since request.pid (states.ForkPages (next_tx s) page) (pages.fetches request.pid page s) p
  fetched_or_gone None request s p =
      on_if (issuing.home_for request == s.home.home) (issuing.does_here request s) (issuing.asks_home (issuing.home_for request) request s)
      (finished_or_parked (calling.home_reply request s) request (calling.does_at_home request s) (done request.call request s p)) (asked_home (issuing.home_for request) request s p)

  begun_if : (o : Option HomeRequest) (pid : ℕ) (s : ClientProcs) → At s → At (issuing.begins_if pid o s)
  begun_if None pid s p = frames.answered_here Since pid (Error errnos.NoProcess) s p
  begun_if (Some request) pid s p =
      on_if (not (is_client s.kernels (issuing.home_for request))) (procs_of.answers_here request.pid (Error errnos.NoProcess) s) (issuing.fetches_or_goes (issuing.page_for request s) request s)
      (frames.answered_here Since request.pid (Error errnos.NoProcess) s p) (fetched_or_gone (issuing.page_for request s) request s p)

  issued : (pid : ℕ) (s : ClientProcs) → At s → At (issuing.issues_home pid s)
  issued pid s p = begun_if (issuing.own_request pid s) pid s p

  finished_if : (o : Option HomeRequest) (reply : Reply) (s : ClientProcs) → At s → At (issuing.finishes_if o reply s)
  finished_if (Some request) reply s p = finished request.call reply request s p
  finished_if None reply s p = p

  heard : (asker : TxNo) (pid : ℕ) (body : ReplyBody) (s : ClientProcs) → At s → At (issuing.hears_home asker pid body s)
  heard asker pid body s p =
      let left : ClientProcs = issuing.forgets_fork asker s in
      finished_if (issuing.own_request pid left) (words.reply_of body) left p

  -- where no request for a home came
  pub at_home : (came : Input) → ((asker : TxNo) (source : ℕ) (request : HomeRequest) → came ≡ inputs.Request asker source (requests.Home request) → ⊥) → KeepsAtHome (λ s h. At s) came
  at_home came none = record {
    dies = λ s h pid p. died pid s p;
    issues = λ s h pid p. issued pid s p;
    serves = λ s h asker source request e p. absurd (none asker source request e);
    hears = λ s h asker pid body p. heard asker pid body s p;
    hears_kill = λ s h asker pid p. kill_heard asker pid s p;
    kill_replied = λ s h pid body p. kill_answered (killing.kill_at pid s) pid body (killing.forgets_kill pid s) p;
    tells_place = λ s h asker pid kernel p. place_told asker pid kernel s p;
    ends = λ s h pid about p. frames.ended Since pid about s p;
    forgets_waiting = λ s h pid p. frames.waiting_forgotten Since pid s p;
    flags = λ s h pid p. frames.flagged Since pid s p;
    lets_go = λ s h pid p. p;
  }
