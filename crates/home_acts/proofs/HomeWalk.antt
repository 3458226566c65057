-- What each function of a client's kernel that does something at its home leads to.
use Rattle.std.proofs.Common.{◌≡◌, refl, sym, subst, ◌∙◌, ℕ, ◌==◌, Bool, true, false, ◌&&◌, ◌||◌, cond, not, List, [], ◌∷◌, ◌++◌, Option, Some, None, option_map}
use Rattle.std.proofs.lemmas.Bool.{eqb-true}
use Rattle.std.specs.List.{list_any}
use Rattle.sprite_ids.specs.declared.Errno.TheVariants as errnos
use Rattle.sprite_ids.specs.declared.TxNo.{TxNo}
use Rattle.sprite_ids.specs.Lists.{less, without}
use Rattle.sprite_ids.specs.Pid.{home_of}
use Rattle.sprite_ids.proofs.ListLaws.{each_push}
use Rattle.kernel_steps.specs.Outs.{send_event}
use Rattle.kernel_steps.specs.Rows.{first_under, is_row, is_under}
use Rattle.process_machine.specs.declared.Reply.{Reply}
use Rattle.process_machine.specs.declared.Reply.TheVariants.{Error}
use Rattle.process_machine.specs.Machine.{Machine}
use Rattle.packet_bodies.specs.declared.HomeCall.{HomeCall}
use Rattle.packet_bodies.specs.declared.HomeCall.TheVariants as home_calls
use Rattle.packet_bodies.specs.declared.HomeRequest.{HomeRequest}
use Rattle.packet_bodies.specs.declared.ReplyBody.{ReplyBody}
use Rattle.packet_bodies.specs.declared.ReplyBody.TheVariants as bodies
use Rattle.packet_bodies.specs.declared.Request.{Request}
use Rattle.packet_bodies.specs.declared.Request.TheVariants as requests
use Rattle.unix_calls.specs.declared.About.{About}
use Rattle.unix_calls.specs.declared.Description.{Description}
use Rattle.unix_calls.specs.declared.Entry.{Entry}
use Rattle.unix_calls.specs.declared.Event.TheVariants.{Enter}
use Rattle.unix_calls.specs.declared.SendKind.TheVariants.{Other}
use Rattle.home_table.specs.Home.{Table, moved, waited as waited_table}
use Rattle.home_laws.specs.Runs.{Buries, Enters}
use Rattle.client_file_tables.specs.Streams as file_streams
use Rattle.client_homes.specs.declared.client.ClientProcs.{ClientProcs}
use Rattle.client_homes.specs.declared.client.KillState.{KillState}
use Rattle.client_homes.specs.declared.client.KillState.TheVariants as kill_states
use Rattle.client_homes.specs.declared.client.Parked.{Parked}
use Rattle.client_homes.specs.declared.client.Unfinished.TheVariants as unfinished
use Rattle.client_homes.specs.declared.process.Proc.{Proc}
use Rattle.client_homes.specs.declared.process.ProcState.{ProcState}
use Rattle.client_homes.specs.declared.process.ProcState.TheVariants as states
use Rattle.client_homes.specs.Births as births
use Rattle.client_homes.specs.Calls as calling
use Rattle.client_homes.specs.Clusters.{is_client}
use Rattle.client_homes.specs.Ends as ending
use Rattle.client_homes.specs.Homes as homes
use Rattle.client_homes.specs.Issuing as issuing
use Rattle.client_homes.specs.Issuing.{home_for}
use Rattle.client_homes.specs.Killing as killing
use Rattle.client_homes.specs.Kills as kills
use Rattle.client_homes.specs.Pages as pages
use Rattle.client_homes.specs.Procs as procs_of
use Rattle.client_homes.specs.Procs.{is_pid}
use Rattle.client_homes.specs.Says as says
use Rattle.client_homes.specs.Says.{next_tx, value}
use Rattle.client_homes.specs.Waits as waiting
use Rattle.client_homes.specs.Words as words
use Rattle.home_acts.specs.Deeds.{Deed, Did, Does, DoesSo, IsHome, Seen, acts_of, seen}
use Rattle.home_acts.specs.Laws.{Begins, LeaveHomes, death_if, place_if, served_first}
use Rattle.home_acts.proofs.ActLaws.{Leads, died_at_home, first_acted, first_by, waited_for}
use Rattle.home_acts.proofs.FrameLaws as frames
use Rattle.home_acts.proofs.DeedLaws.{begins_with, did_act, did_more, did_none, did_note, did_park, each_less, found_key, so_none, so_note, so_place}

led : (c : Description) (v w x : Seen) (first : List Deed) → Did c v w → Leads c w x first → Did c v x
led c v w x first d l = did_more c v w x first l.home l.so d

module _ (c : Description) (v : Seen) where
  abbrev At : ClientProcs → Type 0
  At s = Did c v (seen s)

  on_if : (b : Bool) (s t : ClientProcs) → (b ≡ true → At s) → (b ≡ false → At t) → At (cond b s t)
  on_if true s t f g = f refl
  on_if false s t f g = g refl

  -- the home of the kernel that the deeds lead to
  at_home : (s : ClientProcs) (pid : ℕ) → At s → home_of pid ≡ s.kernel → home_of pid ≡ s.home.home
  at_home s pid d mine = mine ∙ sym d.home.own

  -- Processes

  proc_kept : (o : Option Proc) (pid : ℕ) (s : ClientProcs) → At s → At (procs_of.with_proc pid o s)
  proc_kept o pid s d = frames.proc_kept (Did c v) o pid s d

  state_kept : (pid : ℕ) (state : ProcState) (s : ClientProcs) → At s → At (procs_of.in_state pid state s)
  state_kept pid state s d = frames.state_kept (Did c v) pid state s d

  flagged : (pid : ℕ) (s : ClientProcs) → At s → At (procs_of.killed_at pid s)
  flagged pid s d = frames.flagged (Did c v) pid s d

  replied : (pid : ℕ) (reply : Reply) (s : ClientProcs) → At s → At (procs_of.replies pid reply s)
  replied pid reply s d = frames.replied (Did c v) pid reply s d

  answered_by : (o : Option Entry) (pid : ℕ) (reply : Reply) (s : ClientProcs) → At s → At (procs_of.answers_by pid reply o s)
  answered_by (Some entry) pid reply s d = replied pid reply (says.notes (Enter entry) s) (did_act c v (seen s) (Enters entry) tt d)
  answered_by None pid reply s d = d

  answered_here : (pid : ℕ) (reply : Reply) (s : ClientProcs) → At s → At (procs_of.answers_here pid reply s)
  answered_here pid reply s d = answered_by (procs_of.entry_at pid reply s) pid reply s d

  ended : (pid : ℕ) (about : Option About) (s : ClientProcs) → At s → At (ending.ends pid about s)
  ended pid about s d = frames.ended (Did c v) pid about s d

  -- a remote call goes out
  sent_out : (to : ℕ) (about : Option About) (body : Request) (s : ClientProcs) → At s → At (says.sends to about body s)
  sent_out to about body s d = did_note c v (seen s) (send_event (next_tx s) about Other to) refl d

  -- Waits

  wait_ended : (o : Option TxNo) (pid : ℕ) (reply : Reply) (s : ClientProcs) → At s → At (waiting.ends_wait pid o reply s)
  wait_ended (Some tx) pid reply s d = d
  wait_ended None pid reply s d = replied pid reply s d

  parked : (pid : ℕ) (row : Parked) (s : ClientProcs) → home_of pid ≡ s.kernel → At s → At (waiting.parks pid row s)
  parked pid row s mine d = did_park c v (seen s) (s.waits ++ (pid, row) ∷ []) (each_push (λ (r : ℕ × Parked). home_of r.0 ≡ s.kernel) s.waits (pid, row) d.home.waiters mine) d

  ended_or_parked : (o : Option Reply) (pid : ℕ) (row : Parked) (s : ClientProcs) → home_of pid ≡ s.kernel → At s → At (waiting.ends_or_parks pid row o s)
  ended_or_parked (Some reply) pid row s mine d = wait_ended row.tx pid reply s d
  ended_or_parked None pid row s mine d = parked pid row s mine d

  waited_kernel : (o : Option Reply) (b : Bool) (request : HomeRequest) (table : Table) (s : ClientProcs) → (waiting.enters_if request o (cond b (record s { home = table }) s)).kernel ≡ s.kernel
  waited_kernel (Some reply) true request table s = refl
  waited_kernel (Some reply) false request table s = refl
  waited_kernel None true request table s = refl
  waited_kernel None false request table s = refl

  looked_again : (pid : ℕ) (row : Parked) (s : ClientProcs) → home_of pid ≡ s.kernel → At s → At (waiting.looks_again pid row s)
  looked_again pid row s mine d =
      let request : HomeRequest = waiting.parked_call pid row in
      let asked : ClientProcs = waiting.waits request s in
      ended_or_parked (waiting.wait_reply pid s) pid row asked
      (mine ∙ sym (waited_kernel (waiting.wait_reply pid s) (homes.is_native pid s) request (waited_table s.home pid) s))
      (led c v (seen s) (seen asked) (acts_of request (waiting.wait_reply pid s)) d (waited_for c s d.home pid row.number (at_home s pid d mine)))

  -- the row that is taken out is one of this home
  row_taken : (pid : ℕ) (s : ClientProcs) → At s → At (record s { waits = less (is_under is_pid pid) s.waits })
  row_taken pid s d = did_park c v (seen s) (less (is_under is_pid pid) s.waits) (each_less (λ (r : ℕ × Parked). home_of r.0 ≡ s.kernel) (is_under is_pid pid) s.waits d.home.waiters) d

  woken_by : (o : Option Parked) (pid : ℕ) (s : ClientProcs) → first_under is_pid pid s.waits ≡ o → At s → At (waiting.wakes_if pid o (record s { waits = less (is_under is_pid pid) s.waits }))
  woken_by (Some row) pid s e d =
      looked_again pid row (record s { waits = less (is_under is_pid pid) s.waits }) (found_key (λ (n : ℕ). home_of n ≡ s.kernel) pid s.waits row d.home.waiters e) (row_taken pid s d)
  woken_by None pid s e d = row_taken pid s d

  woken : (pid : ℕ) (s : ClientProcs) → At s → At (waiting.wakes pid s)
  woken pid s d = woken_by (first_under is_pid pid s.waits) pid s refl d

  parent_woken : (o : Option ℕ) (s : ClientProcs) → At s → At (waiting.wakes_parent o s)
  parent_woken (Some parent) s d = woken parent s d
  parent_woken None s d = d

  waiting_forgotten : (pid : ℕ) (s : ClientProcs) → At s → At (killing.forgets_waiting pid s)
  waiting_forgotten pid s d = frames.waiting_forgotten (Did c v) pid s d

  woken_after : (pid : ℕ) (s : ClientProcs) → At s → At (waiting.wakes_after pid s)
  woken_after pid s d = parent_woken (homes.parent_in pid (killing.forgets_waiting pid s)) (killing.forgets_waiting pid s) (waiting_forgotten pid s d)

  -- Deaths

  died_here : (about : About) (s : ClientProcs) → homes.is_native about.pid s ≡ true → At s → At (ending.dies_here about s)
  died_here about s mine d =
      let dead : ClientProcs = ending.ends_by_death about s in
      ended about.pid None (waiting.wakes_after about.pid dead)
      (woken_after about.pid dead (led c v (seen s) (seen dead) (Does (Buries about.pid about.number) ∷ []) d (died_at_home c s d.home about (eqb-true (home_of about.pid) s.home.home mine))))

  died_elsewhere : (about : About) (s : ClientProcs) → At s → At (ending.dies_elsewhere about s)
  died_elsewhere about s d =
      let body : Request = requests.Home (ending.death_call about) in
      state_kept about.pid (states.Dying (next_tx s)) (says.sends (home_of about.pid) None body s) (sent_out (home_of about.pid) None body s d)

  died_as : (about : About) (s : ClientProcs) → At s → At (ending.dies_as about s)
  died_as about s d = on_if (homes.is_native about.pid s) (ending.dies_here about s) (ending.dies_elsewhere about s) (λ e. died_here about s e d) (λ e. died_elsewhere about s d)

  died_by : (o : Option ℕ) (pid : ℕ) (s : ClientProcs) → At s → At (ending.dies_by pid o s)
  died_by (Some number) pid s d = died_as (record { pid = pid; number = number }) s d
  died_by None pid s d = d

  pub died : (pid : ℕ) (s : ClientProcs) → At s → At (ending.dies pid s)
  died pid s d = died_by (ending.next_call pid s) pid s d

  -- Kills

  met_in : (state : ProcState) (pid : ℕ) (s : ClientProcs) → At s → At (kills.meets_as pid (kills.meeting_in state) s)
  met_in states.Ready pid s d = died pid s d
  met_in (states.Getting device max) pid s d = answered_here pid (Error errnos.Interrupted) (record s { getters = less (is_row is_pid is_pid device pid) s.getters }) d
  met_in state pid s d = d

  met_by : (o : Option Proc) (pid : ℕ) (s : ClientProcs) → At s → At (kills.meets_as pid (kills.meeting_of o) s)
  met_by (Some proc) pid s d = met_in proc.state pid s d
  met_by None pid s d = d

  met : (pid : ℕ) (s : ClientProcs) → At s → At (kills.meets_kill pid s)
  met pid s d = met_by (procs_of.proc_at pid s) pid s d

  gone_after : (about : Option About) (pid place : ℕ) (s : ClientProcs) → At s → At (kills.goes_after about pid place s)
  gone_after about pid place s d = sent_out place about (requests.Killed pid) s d

  kill_taken : (target : ℕ) (s : ClientProcs) → At s → At (kills.takes_kill target s)
  kill_taken target s d =
      let known : ClientProcs = procs_of.killed_at target s in
      on_if (kills.is_here target s) (kills.meets_kill target known) (killing.notes_kill target kill_states.Waits s) (λ e. met target known (flagged target s d)) (λ e. d)

  kill_told : (about : About) (target : ℕ) (s : ClientProcs) → At s → At (kills.tells_kill about target s)
  kill_told about target s d =
      let here : ClientProcs = kills.takes_kill target s in
      let there : ClientProcs = kills.goes_after (Some about) target (homes.place_in target s) s in
      on_if (homes.place_in target s == s.home.home) (waiting.wakes target here) (waiting.wakes target there) (λ e. woken target here (kill_taken target s d)) (λ e. woken target there (gone_after (Some about) target (homes.place_in target s) s d))

  pub kill_heard : (tx : TxNo) (pid : ℕ) (s : ClientProcs) → At s → At (kills.hears_kill tx pid s)
  kill_heard tx pid s d =
      let told : ClientProcs = says.answers tx bodies.Done (procs_of.killed_at pid s) in
      on_if (kills.is_here pid s) (kills.meets_kill pid told) (says.answers tx bodies.Gone (kills.notes_early pid s)) (λ e. met pid told (flagged pid s d)) (λ e. d)

  kill_answered : (o : Option KillState) (pid : ℕ) (body : ReplyBody) (s : ClientProcs) → At s → At (kills.kill_answered_if pid body o s)
  kill_answered None pid body s d = d
  kill_answered (Some kill) pid body s d =
      let after : ClientProcs = kills.goes_after None pid (homes.place_in pid s) s in
      let noted : ClientProcs = killing.notes_kill pid kill_states.Waits s in
      on_if (kills.is_done body || homes.has_ended pid s || kills.is_here pid s) s (cond (kills.is_placed kill && not (homes.place_in pid s == s.home.home)) after noted) (λ e. d)
      (λ e. on_if (kills.is_placed kill && not (homes.place_in pid s == s.home.home)) after noted (λ f. gone_after None pid (homes.place_in pid s) s d) (λ f. d))

  come_if : (o : Option KillState) (pid kernel : ℕ) (s : ClientProcs) → At s → At (kills.comes_if pid kernel o s)
  come_if None pid kernel s d = d
  come_if (Some (kill_states.Out placed)) pid kernel s d = d
  come_if (Some kill_states.Waits) pid kernel s d = gone_after None pid kernel s d

  -- Calls

  call_gone_on : (called : HomeCall) (pid number : ℕ) (s : ClientProcs) (home : IsHome c (seen s)) → At (first_by c s home called pid number) → At (calling.does_by called (record { pid = pid; number = number; call = called }) s)
  call_gone_on (home_calls.Print bytes) pid number s home d = d
  call_gone_on (home_calls.Exit code) pid number s home d = woken_after pid (calling.ends_by_exit (record { pid = pid; number = number; call = home_calls.Exit code }) code s) d
  call_gone_on home_calls.Getppid pid number s home d = d
  call_gone_on (home_calls.Host max) pid number s home d = d
  call_gone_on home_calls.Tick pid number s home d = d
  call_gone_on home_calls.Fork pid number s home d = d
  call_gone_on home_calls.Wait pid number s home d = d
  call_gone_on (home_calls.Kill target) pid number s home d = by (homes.lives_at target s) (not (homes.is_killed target s)) d
    where
      by : (lives first : Bool)
          → At (cond lives (waiting.enters_home (record { pid = pid; number = number; call = home_calls.Kill target }) (value 0 0) (homes.kills_at target s)) (waiting.enters_home (record { pid = pid; number = number; call = home_calls.Kill target }) (Error errnos.NoProcess) (homes.kills_at target s)))
          → At (cond lives (cond first (kills.tells_kill (record { pid = pid; number = number }) target (waiting.enters_home (record { pid = pid; number = number; call = home_calls.Kill target }) (value 0 0) (homes.kills_at target s))) (waiting.enters_home (record { pid = pid; number = number; call = home_calls.Kill target }) (value 0 0) (homes.kills_at target s)))
          (waiting.enters_home (record { pid = pid; number = number; call = home_calls.Kill target }) (Error errnos.NoProcess) (homes.kills_at target s)))
      by true true d = kill_told (record { pid = pid; number = number }) target (waiting.enters_home (record { pid = pid; number = number; call = home_calls.Kill target }) (value 0 0) (homes.kills_at target s)) d
      by true false d = d
      by false first d = d

  -- Births

  early_met : (child : ℕ) (s : ClientProcs) → At s → At (births.meets_early child s)
  early_met child s d =
      let known : ClientProcs = procs_of.killed_at child (record s { early = without (is_under is_pid child) s.early }) in
      on_if (not (list_any (is_under is_pid child) s.early)) s (ending.dies child known) (λ e. d) (λ e. died child known (flagged child (record s { early = without (is_under is_pid child) s.early }) d))

  placed_if : (o : Option Machine) (parent child : ℕ) (s : ClientProcs) → At s → At (births.places_if parent child o s)
  placed_if None parent child s d = d
  placed_if (Some image) parent child s d =
      let forked : ClientProcs = births.forks_streams parent child s in
      early_met child (births.puts_proc child (births.child_of image) (births.copies_cwd parent child forked)) (frames.cwd_kept (Did c v) (file_streams.cwd_of parent forked.files) child forked d)

  made_if : (o : Option ℕ) (pid : ℕ) (s : ClientProcs) → At s → At (issuing.makes_if pid o s)
  made_if None pid s d = d
  made_if (Some child) pid s d = placed_if (births.child_image pid s) pid child s d

  child_brought : (pid : ℕ) (reply : Reply) (s : ClientProcs) → At s → At (issuing.brings_child pid reply s)
  child_brought pid reply s d = replied pid reply (issuing.makes_if pid (issuing.child_in reply) s) (made_if (issuing.child_in reply) pid s d)

  finished_by : (call : HomeCall) (pid number : ℕ) (reply : Reply) (s : ClientProcs) → At s → At (issuing.finishes reply (record { pid = pid; number = number; call = call }) s)
  finished_by (home_calls.Print bytes) pid number reply s d = replied pid reply s d
  finished_by (home_calls.Exit code) pid number reply s d = ended pid (Some (record { pid = pid; number = number })) s d
  finished_by home_calls.Getppid pid number reply s d = replied pid reply s d
  finished_by (home_calls.Host max) pid number reply s d = replied pid reply s d
  finished_by home_calls.Tick pid number reply s d = replied pid reply s d
  finished_by home_calls.Fork pid number reply s d = child_brought pid reply s d
  finished_by home_calls.Wait pid number reply s d = replied pid reply s d
  finished_by (home_calls.Kill target) pid number reply s d = replied pid reply s d

  finished_if : (o : Option HomeRequest) (reply : Reply) (s : ClientProcs) → At s → At (issuing.finishes_if o reply s)
  finished_if (Some request) reply s d = finished_by request.call request.pid request.number reply s d
  finished_if None reply s d = d

  pub home_heard : (tx : TxNo) (pid : ℕ) (body : ReplyBody) (s : ClientProcs) → At s → At (issuing.hears_home tx pid body s)
  home_heard tx pid body s d =
      let left : ClientProcs = issuing.forgets_fork tx s in
      finished_if (issuing.own_request pid left) (words.reply_of body) left d

  -- Calls of processes that are here

  answered_or_parked : (o : Option Reply) (pid number : ℕ) (s : ClientProcs) → home_of pid ≡ s.kernel → At s → At (issuing.finishes_or_parks o (record { pid = pid; number = number; call = home_calls.Wait }) s)
  answered_or_parked (Some reply) pid number s mine d = replied pid reply s d
  answered_or_parked None pid number s mine d =
      state_parked (option_map {T = Proc} (λ proc. record proc { state = states.Waiting }) (procs_of.proc_at pid s))
    where
      state_parked : (o : Option Proc) → At (waiting.parks pid (record { number = number; tx = None }) (procs_of.with_proc pid o s))
      state_parked (Some proc) = parked pid (record { number = number; tx = None }) (procs_of.with_proc pid (Some proc) s) mine d
      state_parked None = parked pid (record { number = number; tx = None }) s mine d

  done : (called : HomeCall) (pid number : ℕ) (s : ClientProcs) → home_for (record { pid = pid; number = number; call = called }) ≡ s.home.home → At s → At (calling.does_by called (record { pid = pid; number = number; call = called }) s)
  done called pid number s mine d =
      call_gone_on called pid number s d.home (led c v (seen s) (seen (first_by c s d.home called pid number)) (acts_of (record { pid = pid; number = number; call = called }) (calling.home_reply (record { pid = pid; number = number; call = called }) s)) d (first_acted c s d.home called pid number mine))

  done_here : (called : HomeCall) (pid number : ℕ) (s : ClientProcs) → home_for (record { pid = pid; number = number; call = called }) ≡ s.home.home → At s → At (issuing.does_here (record { pid = pid; number = number; call = called }) s)
  done_here (home_calls.Print bytes) pid number s mine d = replied pid (value 0 0) (calling.does_by (home_calls.Print bytes) (record { pid = pid; number = number; call = home_calls.Print bytes }) s) (done (home_calls.Print bytes) pid number s mine d)
  done_here (home_calls.Exit code) pid number s mine d =
      ended pid (Some (record { pid = pid; number = number })) (calling.does_by (home_calls.Exit code) (record { pid = pid; number = number; call = home_calls.Exit code }) s) (done (home_calls.Exit code) pid number s mine d)
  done_here home_calls.Getppid pid number s mine d = replied pid (calling.parent_reply pid s) (calling.does_by home_calls.Getppid (record { pid = pid; number = number; call = home_calls.Getppid }) s) (done home_calls.Getppid pid number s mine d)
  done_here (home_calls.Host max) pid number s mine d =
      replied pid (calling.host_reply max s) (calling.does_by (home_calls.Host max) (record { pid = pid; number = number; call = home_calls.Host max }) s) (done (home_calls.Host max) pid number s mine d)
  done_here home_calls.Tick pid number s mine d = replied pid (calling.tick_reply s) (calling.does_by home_calls.Tick (record { pid = pid; number = number; call = home_calls.Tick }) s) (done home_calls.Tick pid number s mine d)
  done_here home_calls.Fork pid number s mine d =
      child_brought pid (calling.born_reply (homes.born_pid pid s)) (calling.does_by home_calls.Fork (record { pid = pid; number = number; call = home_calls.Fork }) s) (done home_calls.Fork pid number s mine d)
  done_here home_calls.Wait pid number s mine d =
      answered_or_parked (waiting.wait_reply pid s) pid number (waiting.waits (record { pid = pid; number = number; call = home_calls.Wait }) s)
      (mine ∙ d.home.own ∙ sym (waited_kernel (waiting.wait_reply pid s) (homes.is_native pid s) (record { pid = pid; number = number; call = home_calls.Wait }) (waited_table s.home pid) s)) (done home_calls.Wait pid number s mine d)
  done_here (home_calls.Kill target) pid number s mine d =
      replied pid (calling.kill_reply target s) (calling.does_by (home_calls.Kill target) (record { pid = pid; number = number; call = home_calls.Kill target }) s) (done (home_calls.Kill target) pid number s mine d)

  asked_home : (kernel : ℕ) (request : HomeRequest) (s : ClientProcs) → At s → At (issuing.asks_home kernel request s)
  asked_home kernel request s d = by (issuing.is_fork request.call)
    where
      sent : ClientProcs
      sent = says.sends kernel (Some (waiting.about_of request)) (requests.Home request) s

      waits : ClientProcs
      waits = procs_of.in_state request.pid (states.AtHome (next_tx s)) sent

      so : At waits
      so = state_kept request.pid (states.AtHome (next_tx s)) sent (sent_out kernel (Some (waiting.about_of request)) (requests.Home request) s d)

      kept : ClientProcs
      kept = ending.keeps_tx (next_tx s) (unfinished.Home request.pid) waits

      by : (b : Bool) → At (cond b (record kept { forks = kept.forks ++ (next_tx s, kernel) ∷ [] }) kept)
      by true = so
      by false = so

  fetched : (pid page : ℕ) (s : ClientProcs) → At s → At (pages.fetches_for_fork pid page s)
  fetched pid page s d = state_kept pid (states.ForkPages (next_tx s) page) (pages.fetches pid page s) (sent_out s.swap_server None (requests.PageIn pid page) s d)

  fetched_or_gone : (o : Option ℕ) (request : HomeRequest) (s : ClientProcs) → At s → At (issuing.fetches_or_goes o request s)
  fetched_or_gone (Some page) request s d = fetched request.pid page s d
  fetched_or_gone None request s d =
      on_if (home_for request == s.home.home) (issuing.does_here request s) (issuing.asks_home (home_for request) request s)
      (λ e. done_here request.call request.pid request.number s (eqb-true (home_for request) s.home.home e) d) (λ e. asked_home (home_for request) request s d)

  begun_if : (o : Option HomeRequest) (pid : ℕ) (s : ClientProcs) → At s → At (issuing.begins_if pid o s)
  begun_if None pid s d = answered_here pid (Error errnos.NoProcess) s d
  begun_if (Some request) pid s d =
      on_if (not (is_client s.kernels (home_for request))) (procs_of.answers_here request.pid (Error errnos.NoProcess) s) (issuing.fetches_or_goes (issuing.page_for request s) request s)
      (λ e. answered_here request.pid (Error errnos.NoProcess) s d) (λ e. fetched_or_gone (issuing.page_for request s) request s d)

  pub issued_home : (pid : ℕ) (s : ClientProcs) → At s → At (issuing.issues_home pid s)
  issued_home pid s d = begun_if (issuing.own_request pid s) pid s d

-- ---- the laws

pub calls_are_acts : (c : Description) (s : ClientProcs) (request : HomeRequest) → IsHome c (seen s) → home_for request ≡ s.home.home
    → Begins c (seen s) (seen (calling.does_at_home request s)) (acts_of request (calling.home_reply request s))
calls_are_acts c s request home mine =
    let first : ClientProcs = first_by c s home request.call request.pid request.number in
    let led_so = first_acted c s home request.call request.pid request.number mine in
    begins_with c (seen s) (seen first) (seen (calling.does_at_home request s)) (acts_of request (calling.home_reply request s)) led_so.so
    (call_gone_on c (seen first) request.call request.pid request.number s home (did_none c (seen first) led_so.home))

parked_begun : (c : Description) (v : Seen) (first : List Deed) (o : Option Reply) (tx : TxNo) (pid number : ℕ) (s : ClientProcs) → home_of pid ≡ s.kernel → Begins c v (seen s) first
    → Begins c v (seen (issuing.answers_or_parks tx o (record { pid = pid; number = number; call = home_calls.Wait }) s)) first
parked_begun c v first (Some reply) tx pid number s mine b = b
parked_begun c v first None tx pid number s mine b = record {
  home = record { kernels = b.home.kernels; own = b.home.own; numbered = b.home.numbered; waiters = each_push (λ (r : ℕ × Parked). home_of r.0 ≡ s.kernel) s.waits (pid, record { number = number; tx = Some tx }) b.home.waiters mine };
  rest = b.rest;
  so = record { table = b.so.table; right = b.so.right; told = b.so.told };
}

served_exit : (c : Description) (s : ClientProcs) (tx : TxNo) (pid number code : ℕ) (b : Bool) → (code == 257) ≡ b → IsHome c (seen s) → home_of pid ≡ s.home.home
    → Begins c (seen s) (seen (cond b (issuing.serves_death tx (record { pid = pid; number = number; call = home_calls.Exit code }) s) (says.answers tx (words.packet_of (value 0 0)) (calling.exits (record { pid = pid; number = number; call = home_calls.Exit code }) code s))))
    (served_first b (record { pid = pid; number = number; call = home_calls.Exit code }) s)
served_exit c s tx pid number code true e home mine =
    let dead : ClientProcs = ending.ends_by_death (record { pid = pid; number = number }) s in
    let led_so = died_at_home c s home (record { pid = pid; number = number }) mine in
    begins_with c (seen s) (seen dead) (seen (waiting.wakes_after pid dead)) (Does (Buries pid number) ∷ []) led_so.so (woken_after c (seen dead) pid dead (did_none c (seen dead) led_so.home))
served_exit c s tx pid number code false e home mine = calls_are_acts c s (record { pid = pid; number = number; call = home_calls.Exit code }) home mine

served : (c : Description) (s : ClientProcs) (tx : TxNo) (called : HomeCall) (pid number : ℕ) → IsHome c (seen s) → home_for (record { pid = pid; number = number; call = called }) ≡ s.home.home
    → Begins c (seen s) (seen (issuing.serves_home tx (record { pid = pid; number = number; call = called }) s)) (served_first (issuing.is_death called) (record { pid = pid; number = number; call = called }) s)
served c s tx (home_calls.Print bytes) pid number home mine = calls_are_acts c s (record { pid = pid; number = number; call = home_calls.Print bytes }) home mine
served c s tx (home_calls.Exit code) pid number home mine = served_exit c s tx pid number code (code == 257) refl home mine
served c s tx home_calls.Getppid pid number home mine = calls_are_acts c s (record { pid = pid; number = number; call = home_calls.Getppid }) home mine
served c s tx (home_calls.Host max) pid number home mine = calls_are_acts c s (record { pid = pid; number = number; call = home_calls.Host max }) home mine
served c s tx home_calls.Tick pid number home mine = calls_are_acts c s (record { pid = pid; number = number; call = home_calls.Tick }) home mine
served c s tx home_calls.Fork pid number home mine = calls_are_acts c s (record { pid = pid; number = number; call = home_calls.Fork }) home mine
served c s tx home_calls.Wait pid number home mine =
    let request : HomeRequest = record { pid = pid; number = number; call = home_calls.Wait } in
    parked_begun c (seen s) (acts_of request (waiting.wait_reply pid s)) (waiting.wait_reply pid s) tx pid number (waiting.waits request s)
    (mine ∙ home.own ∙ sym (waited_kernel c (seen s) (waiting.wait_reply pid s) (homes.is_native pid s) request (waited_table s.home pid) s)) (calls_are_acts c s request home mine)
served c s tx (home_calls.Kill target) pid number home mine = calls_are_acts c s (record { pid = pid; number = number; call = home_calls.Kill target }) home mine

pub served_are_acts : (c : Description) (s : ClientProcs) (tx : TxNo) (request : HomeRequest) → IsHome c (seen s) → home_for request ≡ s.home.home
    → Begins c (seen s) (seen (issuing.serves_home tx request s)) (served_first (issuing.is_death request.call) request s)
served_are_acts c s tx request home mine = served c s tx request.call request.pid request.number home mine

pub issued_are_acts : (c : Description) (s : ClientProcs) (pid : ℕ) → IsHome c (seen s) → Did c (seen s) (seen (issuing.issues_home pid s))
issued_are_acts c s pid home = issued_home c (seen s) pid s (did_none c (seen s) home)

pub heard_are_acts : (c : Description) (s : ClientProcs) (tx : TxNo) (pid : ℕ) (body : ReplyBody) → IsHome c (seen s) → Did c (seen s) (seen (issuing.hears_home tx pid body s))
heard_are_acts c s tx pid body home = home_heard c (seen s) tx pid body s (did_none c (seen s) home)

deaths_by : (c : Description) (s : ClientProcs) (pid : ℕ) (o : Option ℕ) (b : Bool) → homes.is_native pid s ≡ b → IsHome c (seen s) → Begins c (seen s) (seen (ending.dies_by pid o s)) (death_if b pid o)
deaths_by c s pid None true e home = record { home = home; rest = []; so = so_none c (seen s) }
deaths_by c s pid None false e home = record { home = home; rest = []; so = so_none c (seen s) }
deaths_by c s pid (Some number) true e home =
    let about : About = record { pid = pid; number = number } in
    let dead : ClientProcs = ending.ends_by_death about s in
    let woken : ClientProcs = waiting.wakes_after pid dead in
    let led_so = died_at_home c s home about (eqb-true (home_of pid) s.home.home e) in
    subst (λ (b : Bool). Begins c (seen s) (seen (cond b (ending.dies_here about s) (ending.dies_elsewhere about s))) (Does (Buries pid number) ∷ [])) (sym e)
    (begins_with c (seen s) (seen dead) (seen (ending.ends pid None woken)) (Does (Buries pid number) ∷ []) led_so.so (ended c (seen dead) pid None woken (woken_after c (seen dead) pid dead (did_none c (seen dead) led_so.home))))
deaths_by c s pid (Some number) false e home =
    let about : About = record { pid = pid; number = number } in
    let gone = died_elsewhere c (seen s) about s (did_none c (seen s) home) in
    subst (λ (b : Bool). Begins c (seen s) (seen (cond b (ending.dies_here about s) (ending.dies_elsewhere about s))) []) (sym e)
    (record { home = gone.home; rest = gone.deeds; so = gone.so })

pub deaths_are_acts : (c : Description) (s : ClientProcs) (pid : ℕ) → IsHome c (seen s) → Begins c (seen s) (seen (ending.dies pid s)) (death_if (homes.is_native pid s) pid (ending.next_call pid s))
deaths_are_acts c s pid home = deaths_by c s pid (ending.next_call pid s) (homes.is_native pid s) refl home

pub kills_heard_are_acts : (c : Description) (s : ClientProcs) (tx : TxNo) (pid : ℕ) → IsHome c (seen s) → Did c (seen s) (seen (kills.hears_kill tx pid s))
kills_heard_are_acts c s tx pid home = kill_heard c (seen s) tx pid s (did_none c (seen s) home)

moved_by : (c : Description) (s : ClientProcs) (pid kernel : ℕ) (b : Bool) → homes.is_native pid s ≡ b → IsHome c (seen s) → Leads c (seen s) (seen (cond b (record s { home = moved s.home pid kernel }) s)) (place_if b pid kernel)
moved_by c s pid kernel true e home = record {
  home = record { kernels = home.kernels; own = home.own; numbered = home.numbered; waiters = home.waiters };
  so = so_place c (seen s) pid kernel (eqb-true (home_of pid) s.home.home e);
}
moved_by c s pid kernel false e home = record { home = home; so = so_none c (seen s) }

pub places_are_noted : (c : Description) (s : ClientProcs) (pid kernel : ℕ) → IsHome c (seen s) → DoesSo c (seen s) (seen (homes.moves_to pid kernel s)) (place_if (homes.is_native pid s) pid kernel)
places_are_noted c s pid kernel home = (moved_by c s pid kernel (homes.is_native pid s) refl home).so

pub places_heard_are_noted : (c : Description) (s : ClientProcs) (tx : TxNo) (pid kernel : ℕ) → IsHome c (seen s) → Begins c (seen s) (seen (kills.tells_place tx pid kernel s)) (place_if (homes.is_native pid s) pid kernel)
places_heard_are_noted c s tx pid kernel home =
    let moved_so = moved_by c s pid kernel (homes.is_native pid s) refl home in
    let there : ClientProcs = killing.forgets_kill pid (says.answers tx bodies.Done (homes.moves_to pid kernel s)) in
    begins_with c (seen s) (seen there) (seen (kills.comes_if pid kernel (killing.kill_at pid s) there)) (place_if (homes.is_native pid s) pid kernel) moved_so.so
    (come_if c (seen there) (killing.kill_at pid s) pid kernel there (did_none c (seen there) moved_so.home))

left_after : (c : Description) (about : Option About) (pid place : ℕ) (s : ClientProcs) → DoesSo c (seen s) (seen (kills.goes_after about pid place s)) []
left_after c about pid place s = so_note c (seen s) (send_event (next_tx s) about Other place) refl

left_by : (c : Description) (o : Option KillState) (pid : ℕ) (body : ReplyBody) (s : ClientProcs) → DoesSo c (seen s) (seen (kills.kill_answered_if pid body o s)) []
left_by c None pid body s = so_none c (seen s)
left_by c (Some kill) pid body s = by (kills.is_done body || homes.has_ended pid s || kills.is_here pid s) (kills.is_placed kill && not (homes.place_in pid s == s.home.home))
  where
    by : (done placed : Bool) → DoesSo c (seen s) (seen (cond done s (cond placed (kills.goes_after None pid (homes.place_in pid s) s) (killing.notes_kill pid kill_states.Waits s)))) []
    by true placed = so_none c (seen s)
    by false true = left_after c None pid (homes.place_in pid s) s
    by false false = so_none c (seen s)

pub homes_are_left : LeaveHomes
homes_are_left = record {
  kill_replied = λ c s pid body home. left_by c (killing.kill_at pid s) pid body (killing.forgets_kill pid s);
  ends = λ c s pid about home. frames.ended (λ w. DoesSo c (seen s) w []) pid about s (so_none c (seen s));
  forgets_waiting = λ c s pid home. frames.waiting_forgotten (λ w. DoesSo c (seen s) w []) pid s (so_none c (seen s));
  fetches = λ c s pid page home. so_note c (seen s) (send_event (next_tx s) None Other s.swap_server) refl;
}

-- what leaves the home, and a place, as deeds

pub kill_replied_still : (c : Description) (s : ClientProcs) (pid : ℕ) (body : ReplyBody) → IsHome c (seen s) → Did c (seen s) (seen (kills.kill_replied pid body s))
kill_replied_still c s pid body home = kill_answered c (seen s) (killing.kill_at pid s) pid body (killing.forgets_kill pid s) (did_none c (seen s) home)

pub ended_still : (c : Description) (s : ClientProcs) (pid : ℕ) (about : Option About) → IsHome c (seen s) → Did c (seen s) (seen (ending.ends pid about s))
ended_still c s pid about home = frames.ended (Did c (seen s)) pid about s (did_none c (seen s) home)

pub forgotten_still : (c : Description) (s : ClientProcs) (pid : ℕ) → IsHome c (seen s) → Did c (seen s) (seen (killing.forgets_waiting pid s))
forgotten_still c s pid home = frames.waiting_forgotten (Did c (seen s)) pid s (did_none c (seen s) home)

pub flagged_still : (c : Description) (s : ClientProcs) (pid : ℕ) → IsHome c (seen s) → Did c (seen s) (seen (procs_of.killed_at pid s))
flagged_still c s pid home = frames.flagged (Did c (seen s)) pid s (did_none c (seen s) home)

pub moved_still : (c : Description) (s : ClientProcs) (pid kernel : ℕ) → IsHome c (seen s) → Did c (seen s) (seen (homes.moves_to pid kernel s))
moved_still c s pid kernel home =
    let so = moved_by c s pid kernel (homes.is_native pid s) refl home in
    record { home = so.home; deeds = place_if (homes.is_native pid s) pid kernel; so = so.so }
