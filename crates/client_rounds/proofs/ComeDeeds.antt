-- What births, arrivals and pages that come do to what is on its way to processes, and the calls of processes that are done at homes.
use Rattle.std.proofs.Common.{arith, ◌≡◌, ℕ, ◌+◌, ◌*◌, ◌≤◌, ◌<◌, ◌==◌, Bool, true, false, ◌&&◌, not, cond, List, [], ◌∷◌, length, nat_lt, Option, Some, None, option_map, refl, sym, ap, ◌∙◌}
use Rattle.std.proofs.lemmas.Bool.{eqb-true, ltb-true}
use Rattle.std.specs.List.{list_any}
use Rattle.std.specs.Map.{keys_of, lookup}
use Rattle.sprite_ids.specs.declared.Errno.TheVariants as errnos
use Rattle.sprite_ids.specs.declared.TxNo.{TxNo}
use Rattle.sprite_ids.specs.Lists.{one_if, total, without}
use Rattle.sprite_ids.specs.Pid.{home_of}
use Rattle.sprite_ids.proofs.ListLaws.{some_is}
use Rattle.process_machine.specs.declared.Call.{Call}
use Rattle.process_machine.specs.declared.Reply.{Reply}
use Rattle.process_machine.specs.declared.Reply.TheVariants.{Error}
use Rattle.process_machine.specs.Machine.{Machine}
use Rattle.home_table.specs.Home.{Table}
use Rattle.migrate_freeze.specs.declared.arrival.Arrival.{Arrival}
use Rattle.migrate_freeze.specs.declared.process.Process.{Process}
use Rattle.migrate_freeze.specs.Arriving.{launch_arrival, process_with, transfer_arrival}
use Rattle.packet_bodies.specs.declared.CarriedStream.{CarriedStream}
use Rattle.packet_bodies.specs.declared.HomeCall.{HomeCall}
use Rattle.packet_bodies.specs.declared.HomeCall.TheVariants as home_calls
use Rattle.packet_bodies.specs.declared.HomeRequest.{HomeRequest}
use Rattle.packet_bodies.specs.declared.ReplyBody.{ReplyBody}
use Rattle.packet_bodies.specs.declared.ReplyBody.TheVariants as bodies
use Rattle.packet_bodies.specs.declared.Request.{Request}
use Rattle.packet_bodies.specs.declared.Request.TheVariants as requests
use Rattle.kernel_steps.specs.Rows.{is_under}
use Rattle.unix_calls.specs.declared.Event.TheVariants as events
use Rattle.client_file_tables.specs.Rows.{same_pid}
use Rattle.client_file_tables.specs.Streams as file_tables
use Rattle.client_homes.specs.declared.client.ClientProcs.{ClientProcs}
use Rattle.client_homes.specs.declared.client.Unfinished.TheVariants as unfinished
use Rattle.client_homes.specs.declared.process.Proc.{Proc}
use Rattle.client_homes.specs.declared.process.ProcState.{ProcState}
use Rattle.client_homes.specs.declared.process.ProcState.TheVariants as states
use Rattle.client_homes.specs.Births as births
use Rattle.client_homes.specs.Calls as calling
use Rattle.client_homes.specs.Clusters.{is_client}
use Rattle.client_homes.specs.Ends as ending
use Rattle.client_homes.specs.Homes as homes
use Rattle.client_homes.specs.Issuing as issuing
use Rattle.client_homes.specs.Killing as killing
use Rattle.client_homes.specs.Pages as pages
use Rattle.client_homes.specs.Procs as procs_of
use Rattle.client_homes.specs.Procs.{is_pid, proc_at}
use Rattle.client_homes.specs.Says as says
use Rattle.client_homes.specs.Says.{value}
use Rattle.client_homes.specs.Waits as waiting
use Rattle.client_homes.specs.Words as words
use Rattle.client_moves.specs.Evicting as evicting
use Rattle.client_moves.specs.Paging as paging
use Rattle.client_moves.specs.Returning as returning
use Rattle.client_procs.specs.Arriving as arriving
use Rattle.client_procs.specs.Launching.{fresh_image}
use Rattle.client_facts.specs.ProcFacts.{gets_from}
use Rattle.client_facts.proofs.PlaceLaws.{at_is, by_bool}
use Rattle.client_walks.specs.Hands.{child_heard, forked}
use Rattle.client_rounds.specs.OneThing.{busy_of, getting_of, is_busy}
use Rattle.client_rounds.specs.Rounds.{of_process}
use Rattle.client_rounds.proofs.FileDeeds as filing
use Rattle.client_rounds.proofs.HomeDeeds as homing
use Rattle.client_rounds.proofs.Sides.{Any}
use Rattle.client_rounds.proofs.StandLaws as standing
use Rattle.client_rounds.proofs.Standing.{Bal, Busy, Free, Rest, is_at_pid, total_put, whole_of}

-- a process that isn't counted isn't found
none_at_by : {V : Type 0} (pid key : ℕ) (value : V) (o : Option V) (n : ℕ) (b : Bool) → is_at_pid pid key ≡ b → one_if (key == pid) + n ≤ 0 → (n ≤ 0 → o ≡ None) → cond b (Some value) o ≡ None
none_at_by pid key value o n true e h later = absurd (let one = ap one_if (sym (at_is pid key) ∙ e) in omega arith)
none_at_by pid key value o n false e h later = later (omega arith)

none_at : {V : Type 0} (pid : ℕ) (rows : List (ℕ × V)) → total (of_process pid) rows ≤ 0 → lookup (is_at_pid pid) rows ≡ None
none_at pid [] h = refl
none_at {V} pid ((key, value) ∷ rows) h = none_at_by pid key value (lookup (is_at_pid pid) rows) (total (of_process pid) rows) (is_at_pid pid key) refl h (none_at pid rows)

-- whatever is born, and whoever comes
widened : (q dev A : ℕ) (g : Bool) (H B d r : ℕ) (s : ClientProcs) → Bal q dev A Any g H B d r 0 0 0 (whole_of s) → Bal q dev 1 Any false 0 0 d r 0 0 0 (whole_of s)
widened q dev A g H B d r s a =
    let apart_so = a.apart in
    let most_so = a.most in
    record { owed = a.owed; gets = a.gets; room = a.room; moves = a.moves; apart = omega arith; most = omega arith; ways = a.ways; turns = a.turns; queues = a.queues; short = a.short; held = a.held; kin = λ on. absurd (cc) }

-- one more is here, which is ready
put : (q dev A : ℕ) (g : Bool) (H B d r child : ℕ) (proc : Proc) (s : ClientProcs) → proc.state ≡ states.Ready → lookup (is_at_pid child) s.procs ≡ None → A + one_if (child == q) ≤ 1 → Bal q dev A Any g H B d r 0 0 0 (whole_of s)
    → Bal q dev 1 Any false 0 0 d (r + one_if (child == q)) 0 0 0 (whole_of (births.puts_proc child proc s))
put q dev A g H B d r child proc s e none few a =
    let busy = total_put (busy_of q) child s.procs proc none in
    let getting = total_put (getting_of dev q) child s.procs proc none in
    let here_so = total_put (of_process q) child s.procs proc none in
    let first : busy_of q (child, proc) ≡ 0 = ap (λ (state : ProcState). cond (is_busy state) (one_if (child == q)) 0) e in
    let second : getting_of dev q (child, proc) ≡ 0 = ap (λ (state : ProcState). cond (gets_from dev state) (one_if (child == q)) 0) e in
    let owed_so = a.owed in
    let gets_so = a.gets in
    let room_so = a.room in
    let apart_so = a.apart in
    record { owed = omega arith; gets = omega arith; room = omega arith; moves = a.moves; apart = omega arith; most = omega arith; ways = a.ways; turns = a.turns; queues = a.queues; short = a.short; held = a.held; kin = λ on. absurd (cc) }

-- the next birth of a home
pub record NextBirth (child home births : ℕ) : Type 0 where
  pub few : births < 200
  pub is : 1000 * home + births + 1 ≡ child

next_if : (b : Bool) (n child births home : ℕ) → nat_lt births 200 ≡ b → 1000 * home + births + 1 ≡ n → cond b (Some n) None ≡ Some child → NextBirth child home births
next_if true n child births home e f g = record { few = ltb-true births 200 e; is = f ∙ some_is n child g }
next_if false n child births home e f g = absurd (cc)

next_birth : (b : Bool) (s : ClientProcs) (child : ℕ) → cond b (homes.next_born s.home) None ≡ Some child → NextBirth child s.home.home (length s.home.births)
next_birth true s child e = next_if (nat_lt (length s.home.births) 200) (1000 * s.home.home + length s.home.births + 1) child (length s.home.births) s.home.home refl refl e
next_birth false s child e = absurd (cc)

module _ (A : ℕ → ℕ) (g : Bool) (H B : ℕ) where
  -- where something may have been born or come
  abbrev After : ClientProcs → Type 0
  After s = Rest (λ (q : ℕ). 1) Any false 0 0 s

  abbrev BusyAfter : ℕ → ClientProcs → Type 0
  BusyAfter pid s = Busy (λ (q : ℕ). 1) Any false 0 0 pid s

  pub after : (s : ClientProcs) → Rest A Any g H B s → After s
  after s all q dev = widened q dev (A q) g H B 0 0 s (all q dev)

  busy_after : (pid : ℕ) (s : ClientProcs) → Busy A Any g H B pid s → BusyAfter pid s
  busy_after pid s all q dev = widened q dev (A q) g H B (0 + one_if (pid == q)) 0 s (all q dev)

  -- what was owed isn't any more
  pub let_go : (pid : ℕ) (s : ClientProcs) → Busy A Any g H B pid s → Rest A Any g H B s
  let_go pid s all q dev = homing.less_in q dev (A q) Any g H B (0 + one_if (pid == q)) 0 0 0 s (omega arith) (omega arith) (all q dev)

  pub loosened : (pid : ℕ) (s : ClientProcs) → Busy A Any g H B pid s → Free A Any g H B pid s
  loosened pid s all q dev = standing.loosened q dev (A q) Any g H B 0 0 0 0 0 (one_if (pid == q)) s (all q dev)

  pub replied : (pid : ℕ) (reply : Reply) (s : ClientProcs) → Free A Any g H B pid s → Rest A Any g H B (procs_of.replies pid reply s)
  replied pid reply s all q dev = standing.replied q dev (A q) Any g H B 0 0 0 0 0 pid reply s (all q dev)

  pub answered : (pid : ℕ) (reply : Reply) (s : ClientProcs) → Busy A Any g H B pid s → Rest A Any g H B (procs_of.answers_here pid reply s)
  answered pid reply s all q dev = homing.answered q dev (A q) Any g H B 0 0 pid reply s (all q dev)

  pub on_if : (b : Bool) (s t : ClientProcs) → Rest A Any g H B s → Rest A Any g H B t → Rest A Any g H B (cond b s t)
  on_if true s t all more = all
  on_if false s t all more = more

  pub alone : (d r pid : ℕ) (s : ClientProcs) → Bal pid 0 (A pid) Any g H B d r 0 0 0 (whole_of s) → total (of_process pid) s.procs + total (of_process pid) s.leaving ≤ 1
  alone d r pid s a = (let apart_so = a.apart in let most_so = a.most in omega arith)

  -- Processes between two calls

  pub between : (pid : ℕ) (s : ClientProcs) → Free A Any g H B pid s → Rest A Any g H B (returning.goes_between pid s)
  between pid s all q dev = standing.between q dev (A q) Any g H B 0 0 pid s (alone 0 (0 + one_if (pid == pid)) pid s (all pid 0)) (all q dev)

  evict_each : (pids : List ℕ) (about : ℕ) (s : ClientProcs) → Busy A Any g H B about s → Busy A Any g H B about (evicting.evicts_all pids s)
  evict_each [] about s all = all
  evict_each (pid ∷ pids) about s all =
      evict_each pids about (evicting.evicts pid s) (λ q dev. standing.evicts q dev (A q) Any g H B (0 + one_if (about == q)) pid s (alone (0 + one_if (about == pid)) 0 pid s (all pid 0)) (all q dev))

  counted_by : (b : Bool) (about : ℕ) (s : ClientProcs) → Busy A Any g H B about s → Busy A Any g H B about (cond (not b) s (evicting.evicts_all (keys_of s.procs) s))
  counted_by true about s all = evict_each (keys_of s.procs) about s all
  counted_by false about s all = all

  -- a call more begins
  pub counted : (about : ℕ) (s : ClientProcs) → Busy A Any g H B about s → Busy A Any g H B about (evicting.counts_issue s)
  counted about s all = counted_by (evicting.is_due (record s { issues = s.issues + 1 })) about (record s { issues = s.issues + 1 }) all

  -- Births

  cwd_kept : (o : Option (List (List ℕ))) (child pid : ℕ) (s : ClientProcs) → Busy A Any g H B pid s → Busy A Any g H B pid (births.with_cwd child o s)
  cwd_kept (Some cwd) child pid s all = set_by (list_any (is_under same_pid child) s.files.cwds) _ _
    where
      set_by : (b : Bool) (x y : List (ℕ × List (List ℕ))) → Busy A Any g H B pid (record s { files = cond b (record s.files { cwds = x }) (record s.files { cwds = y }) })
      set_by true x y = all
      set_by false x y = all
  cwd_kept None child pid s all = all

  -- the child is here, and dies at once where its kill came before it
  met_early : (pid child : ℕ) (s : ClientProcs) → ((q dev : ℕ) → Bal q dev 1 Any false 0 0 (0 + one_if (pid == q)) (0 + one_if (child == q)) 0 0 0 (whole_of s)) → BusyAfter pid (births.meets_early child s)
  met_early pid child s all q dev =
      let known : ClientProcs = record s { early = without (is_under is_pid child) s.early } in
      homing.on_if q dev 1 Any false 0 0 (0 + one_if (pid == q)) 0 (not (list_any (is_under is_pid child) s.early)) s (ending.dies child (procs_of.killed_at child known))
      (homing.less_in q dev 1 Any false 0 0 (0 + one_if (pid == q)) (0 + one_if (child == q)) (0 + one_if (pid == q)) 0 s (omega arith) (omega arith) (all q dev))
      (standing.dies q dev 1 Any false 0 0 (0 + one_if (pid == q)) 0 0 0 0 child (procs_of.killed_at child known) (homing.flagged q dev 1 Any false 0 0 (0 + one_if (pid == q)) (0 + one_if (child == q)) child known (all q dev)))

  few_by : (child q : ℕ) (b : Bool) → (child == q) ≡ b → A child ≤ 0 → A q ≤ 1 → A q + one_if b ≤ 1
  few_by child q true e none most = (let same = ap A (eqb-true child q e) in omega arith)
  few_by child q false e none most = omega arith

  -- a process that stands nowhere is put in, while something is owed to that one
  put_in : (d : ℕ → ℕ) (child : ℕ) (proc : Proc) (s : ClientProcs) → proc.state ≡ states.Ready → A child ≤ 0 → ((q dev : ℕ) → Bal q dev (A q) Any g H B (d q) 0 0 0 0 (whole_of s))
      → (q dev : ℕ) → Bal q dev 1 Any false 0 0 (d q) (0 + one_if (child == q)) 0 0 0 (whole_of (births.puts_proc child proc s))
  put_in d child proc s e none all q dev =
      let there = all child 0 in
      let apart_so = there.apart in
      put q dev (A q) g H B (d q) 0 child proc s e (none_at child s.procs (omega arith)) (few_by child q (child == q) refl none (all q dev).most) (all q dev)

  placed : (o : Option Machine) (pid child : ℕ) (s : ClientProcs) → A child ≤ 0 → Busy A Any g H B pid s → BusyAfter pid (births.places_if pid child o s)
  placed None pid child s none all = busy_after pid s all
  placed (Some image) pid child s none all =
      let forked : ClientProcs = births.forks_streams pid child s in
      let copied : ClientProcs = births.copies_cwd pid child forked in
      met_early pid child (births.puts_proc child (births.child_of image) copied)
      (put_in (λ q. 0 + one_if (pid == q)) child (births.child_of image) copied refl none (cwd_kept (file_tables.cwd_of pid forked.files) child pid forked all))

  made : (o : Option ℕ) (pid : ℕ) (s : ClientProcs) → ((child : ℕ) → o ≡ Some child → A child ≤ 0) → Busy A Any g H B pid s → BusyAfter pid (issuing.makes_if pid o s)
  made None pid s none all = busy_after pid s all
  made (Some child) pid s none all = placed (births.child_image pid s) pid child s (none child refl) all

  pub child_brought : (pid : ℕ) (reply : Reply) (s : ClientProcs) → ((child : ℕ) → issuing.child_in reply ≡ Some child → A child ≤ 0) → Busy A Any g H B pid s → After (issuing.brings_child pid reply s)
  child_brought pid reply s none all q dev = homing.replied q dev 1 Any false 0 0 0 0 pid reply (issuing.makes_if pid (issuing.child_in reply) s) (made (issuing.child_in reply) pid s none all q dev)

  -- a home has answered the call
  pub finished_by : (call : HomeCall) (pid number : ℕ) (reply : Reply) (s : ClientProcs) → ((child : ℕ) → forked call reply ≡ Some child → A child ≤ 0) → Busy A Any g H B pid s → After (issuing.finishes reply (record { pid = pid; number = number; call = call }) s)
  finished_by (home_calls.Print bytes) pid number reply s none all = after (procs_of.replies pid reply s) (replied pid reply s (loosened pid s all))
  finished_by (home_calls.Exit code) pid number reply s none all =
      after (ending.ends pid (Some (record { pid = pid; number = number })) s) (λ q dev. homing.ended q dev (A q) Any g H B (Some (record { pid = pid; number = number })) pid s (all q dev))
  finished_by home_calls.Getppid pid number reply s none all = after (procs_of.replies pid reply s) (replied pid reply s (loosened pid s all))
  finished_by (home_calls.Host max) pid number reply s none all = after (procs_of.replies pid reply s) (replied pid reply s (loosened pid s all))
  finished_by home_calls.Tick pid number reply s none all = after (procs_of.replies pid reply s) (replied pid reply s (loosened pid s all))
  finished_by home_calls.Fork pid number reply s none all = child_brought pid reply s none all
  finished_by home_calls.Wait pid number reply s none all = after (procs_of.replies pid reply s) (replied pid reply s (loosened pid s all))
  finished_by (home_calls.Kill target) pid number reply s none all = after (procs_of.replies pid reply s) (replied pid reply s (loosened pid s all))

  -- Arrivals

  readied : (pid : ℕ) (s : ClientProcs) → Free A Any g H B pid s → Free A Any g H B pid (procs_of.in_state pid states.Ready s)
  readied pid s all q dev = standing.readied_free q dev (A q) Any g H B 0 0 0 0 0 pid s (all q dev)

  pub answered_if : (o : Option ℕ) (pid : ℕ) (reply : Reply) (s : ClientProcs) → Free A Any g H B pid s → Rest A Any g H B (paging.answers_if pid reply o s)
  answered_if (Some page) pid reply s all = λ q dev. homing.fetched q dev (A q) Any g H B pid page (states.AnswerPages (says.next_tx s) page reply) s refl refl (all q dev)
  answered_if None pid reply s all = replied pid reply s all

  went_on : (moved : Bool) (pid : ℕ) (s : ClientProcs) → Free A Any g H B pid s → Rest A Any g H B (arriving.goes_on_by pid moved s)
  went_on false pid s all = between pid s all
  went_on true pid s all =
      on_if (arriving.is_fresh pid s) (procs_of.replies pid (value 0 0) s) (paging.answers_with_pages pid (value 0 0) s) (replied pid (value 0 0) s all) (answered_if (paging.page_named pid s) pid (value 0 0) s all)

  pub thawed : (pid : ℕ) (moved : Bool) (s : ClientProcs) → Free A Any g H B pid s → Rest A Any g H B (arriving.thaws pid moved s)
  thawed pid moved s all = let noted : ClientProcs = says.notes (events.Thaw pid) s in went_on moved pid (procs_of.in_state pid states.Ready noted) (readied pid noted all)

  known_by : (b : Bool) (pid : ℕ) (s : ClientProcs) → Free A Any g H B pid s → Free A Any g H B pid (cond b (procs_of.killed_at pid s) s)
  known_by true pid s all = λ q dev. homing.flagged q dev (A q) Any g H B 0 (0 + one_if (pid == q)) pid s (all q dev)
  known_by false pid s all = all

  came_home : (pid : ℕ) (moved : Bool) (s : ClientProcs) → Free A Any g H B pid s → Rest A Any g H B (arriving.comes_home pid moved s)
  came_home pid moved s all =
      let there : ClientProcs = homes.moves_to pid s.kernel s in
      let forgot : ClientProcs = killing.forgets_waiting pid there in
      let so : Free A Any g H B pid forgot = λ q dev. homing.waiting_forgotten q dev (A q) Any g H B 0 (0 + one_if (pid == q)) pid there (standing.moved_home q dev (A q) Any g H B 0 (0 + one_if (pid == q)) 0 0 0 pid s.kernel s (all q dev)) in
      thawed pid moved (arriving.knows_kill pid forgot) (known_by (homes.is_killed pid forgot) pid forgot so)

  home_told : (pid : ℕ) (moved : Bool) (s : ClientProcs) → Free A Any g H B pid s → Rest A Any g H B (arriving.tells_home pid moved s)
  home_told pid moved s all q dev = homing.called q dev (A q) Any g H B pid (home_of pid) None (requests.Place pid s.kernel) (unfinished.Place pid) (states.Arriving (says.next_tx s) moved) s (omega arith) refl refl (all q dev)

  pub settled : (pid : ℕ) (moved : Bool) (s : ClientProcs) → Free A Any g H B pid s → Rest A Any g H B (arriving.is_settled pid moved s)
  unfolding arriving.is_settled
  settled pid moved s all = on_if (homes.is_native pid s) (arriving.comes_home pid moved s) (arriving.tells_home pid moved s) (came_home pid moved s all) (home_told pid moved s all)

module _ (A : ℕ → ℕ) (g : Bool) (H B : ℕ) where
  abbrev Then : ClientProcs → Type 0
  Then s = Rest (λ (q : ℕ). 1) Any false 0 0 s

  installed : (process : Process) (fresh : Bool) (streams : List CarriedStream) (s : ClientProcs) → A process.pid ≤ 0 → Rest A Any g H B s → Then (arriving.installs (record { process = process; fresh = fresh }) streams s)
  installed process fresh streams s none all =
      let opened : ClientProcs = arriving.has_streams process streams s in
      settled (λ (q : ℕ). 1) false 0 0 process.pid process.moving (births.puts_proc process.pid (arriving.arrived_proc process fresh) opened)
      (put_in A g H B (λ q. 0) process.pid (arriving.arrived_proc process fresh) opened refl none (filing.streams_come A g H B process.pid process.cwd streams process.streams s all))

  launched : (o : Option Machine) (arrival : Arrival) (program : ℕ) (streams : List CarriedStream) (s : ClientProcs) → A arrival.pid ≤ 0 → Rest A Any g H B s → Then (arriving.installs_if (arriving.launched_with arrival program o) streams s)
  launched None arrival program streams s none all = after A g H B s all
  launched (Some image) arrival program streams s none all =
      by_bool (λ come. arriving.installs_if come streams s) Then (not (image.number == program)) _ _ (λ _. after A g H B s all) (λ _. installed (process_with arrival image) true streams s none all)

  -- where the kernel doesn't know it
  taken_as : (b : Bool) (s t : ClientProcs) → Rest A Any g H B s → (b ≡ true → Then t) → Then (cond (not b) s t)
  taken_as true s t all goes = goes refl
  taken_as false s t all goes = after A g H B s all

  pub arrived : (body : Request) (tx : TxNo) (s : ClientProcs) → ((pid : ℕ) → arriving.is_new pid s ≡ true → A pid ≤ 0) → Rest A Any g H B s → Then (arriving.arrives tx body s)
  arrived (requests.Transfer request) tx s none all =
      let told : ClientProcs = says.answers tx bodies.Done s in
      taken_as (arriving.is_new request.pid s) s _ all (λ new. installed (process_with (transfer_arrival request) request.image) false request.streams told (none request.pid new) all)
  arrived (requests.Launch request) tx s none all =
      let told : ClientProcs = says.answers tx bodies.Done s in
      taken_as (arriving.is_new request.pid s) s _ all (λ new. launched (fresh_image s.programs request.program 0) (launch_arrival request) request.program request.streams told (none request.pid new) all)
  arrived body tx s none all = after A g H B s all

  -- Calls that are done at homes

  home_any : (table : Table) (pid : ℕ) (s : ClientProcs) → Busy A Any false 0 0 pid s → Busy A Any false 0 0 pid (record s { home = table })
  home_any table pid s all q dev =
      let a = all q dev in
      record { owed = a.owed; gets = a.gets; room = a.room; moves = a.moves; apart = a.apart; most = a.most; ways = a.ways; turns = a.turns; queues = a.queues; short = a.short; held = a.held; kin = λ on. absurd (cc) }

  born_by : (b : Bool) (table : Table) (pid : ℕ) (s : ClientProcs) → Busy A Any g H B pid s → Busy A Any false 0 0 pid (cond b (record s { home = table }) s)
  born_by true table pid s all = home_any table pid s (λ q dev. homing.unkept q dev (A q) Any g H B (0 + one_if (pid == q)) 0 0 0 0 (whole_of s) (all q dev))
  born_by false table pid s all = λ q dev. homing.unkept q dev (A q) Any g H B (0 + one_if (pid == q)) 0 0 0 0 (whole_of s) (all q dev)

  numbered_by : (b : Bool) (n child : ℕ) → cond b (Some n) None ≡ Some child → n ≡ child
  numbered_by true n child e = some_is n child e
  numbered_by false n child e = absurd (cc)

  fork_done : (pid number : ℕ) (s : ClientProcs) → ((child : ℕ) → NextBirth child s.home.home (length s.home.births) → A child ≤ 0) → Busy A Any g H B pid s → Then (issuing.does_here (record { pid = pid; number = number; call = home_calls.Fork }) s)
  fork_done pid number s none all = by_born (homes.born_pid pid s) refl
    where
      by_born : (o : Option ℕ) → homes.born_pid pid s ≡ o → Then (issuing.brings_child pid (calling.born_reply o) (waiting.enters_home (record { pid = pid; number = number; call = home_calls.Fork }) (calling.born_reply (homes.born_pid pid s)) (homes.bears pid s)))
      by_born o e =
          child_brought A false 0 0 pid (calling.born_reply o) (waiting.enters_home (record { pid = pid; number = number; call = home_calls.Fork }) (calling.born_reply (homes.born_pid pid s)) (homes.bears pid s))
          (λ child f. none child (next_birth (homes.is_native pid s) s child (e ∙ child_is o child f))) (born_by (homes.is_native pid s) (homes.with_born pid s.home) pid s all)
        where
          child_is : (o : Option ℕ) (child : ℕ) → issuing.child_in (calling.born_reply o) ≡ Some child → o ≡ Some child
          child_is None child f = absurd (cc)
          child_is (Some other) child f = ap (λ (pid : ℕ). Some pid) (numbered_by _ other child f)

  did : (call : HomeCall) (pid number : ℕ) (s : ClientProcs) → ((child : ℕ) → NextBirth child s.home.home (length s.home.births) → A child ≤ 0) → Busy A Any g H B pid s → Then (issuing.does_here (record { pid = pid; number = number; call = call }) s)
  did home_calls.Fork pid number s none all = fork_done pid number s none all
  did call pid number s none all = after A g H B (issuing.does_here (record { pid = pid; number = number; call = call }) s) (λ q dev. homing.done_here q dev (A q) Any g H B call pid number s refl (all q dev))

  then_if : (b : Bool) (s t : ClientProcs) → Then s → Then t → Then (cond b s t)
  then_if true s t all more = all
  then_if false s t all more = more

  gone_home : (kernel : ℕ) (call : HomeCall) (pid number : ℕ) (s : ClientProcs) → ((child : ℕ) → NextBirth child s.home.home (length s.home.births) → A child ≤ 0) → Busy A Any g H B pid s → Then (issuing.goes_home kernel (record { pid = pid; number = number; call = call }) s)
  gone_home kernel call pid number s none all =
      let request : HomeRequest = record { pid = pid; number = number; call = call } in
      then_if (kernel == s.home.home) (issuing.does_here request s) (issuing.asks_home kernel request s) (did call pid number s none all)
      (after A g H B (issuing.asks_home kernel request s) (λ q dev. homing.asked_home q dev (A q) Any g H B kernel request s (all q dev)))

  fetched_or_gone : (o : Option ℕ) (call : HomeCall) (pid number : ℕ) (s : ClientProcs) → ((child : ℕ) → NextBirth child s.home.home (length s.home.births) → A child ≤ 0) → Busy A Any g H B pid s → Then (issuing.fetches_or_goes o (record { pid = pid; number = number; call = call }) s)
  fetched_or_gone (Some page) call pid number s none all =
      after A g H B (procs_of.in_state pid (states.ForkPages (says.next_tx s) page) (pages.fetches pid page s)) (λ q dev. homing.fetched q dev (A q) Any g H B pid page (states.ForkPages (says.next_tx s) page) s refl refl (standing.loosened q dev (A q) Any g H B 0 0 0 0 0 (one_if (pid == q)) s (all q dev)))
  fetched_or_gone None call pid number s none all = gone_home (issuing.home_for (record { pid = pid; number = number; call = call })) call pid number s none all

  begun_if : (o : Option HomeCall) (pid number : ℕ) (s : ClientProcs) → ((child : ℕ) → NextBirth child s.home.home (length s.home.births) → A child ≤ 0) → Busy A Any g H B pid s → Then (issuing.begins_if pid (option_map (issuing.request_as pid number) o) s)
  begun_if None pid number s none all = after A g H B (procs_of.answers_here pid (Error errnos.NoProcess) s) (answered A g H B pid (Error errnos.NoProcess) s all)
  begun_if (Some call) pid number s none all =
      let request : HomeRequest = record { pid = pid; number = number; call = call } in
      then_if (not (is_client s.kernels (issuing.home_for request))) (procs_of.answers_here pid (Error errnos.NoProcess) s) (issuing.fetches_or_goes (issuing.page_for request s) request s)
      (after A g H B (procs_of.answers_here pid (Error errnos.NoProcess) s) (answered A g H B pid (Error errnos.NoProcess) s all)) (fetched_or_gone (issuing.page_for request s) call pid number s none all)

  issued_by : (o : Option Call) (pid number : ℕ) (s : ClientProcs) → ((child : ℕ) → NextBirth child s.home.home (length s.home.births) → A child ≤ 0) → Busy A Any g H B pid s → Then (issuing.begins_if pid (issuing.request_if pid number o) s)
  issued_by (Some call) pid number s none all = begun_if (words.home_call_of call) pid number s none all
  issued_by None pid number s none all = after A g H B (procs_of.answers_here pid (Error errnos.NoProcess) s) (answered A g H B pid (Error errnos.NoProcess) s all)

  issued_at : (o : Option Proc) (pid : ℕ) (s : ClientProcs) → ((child : ℕ) → NextBirth child s.home.home (length s.home.births) → A child ≤ 0) → Busy A Any g H B pid s → Then (issuing.begins_if pid (issuing.request_at pid o) s)
  issued_at (Some proc) pid s none all = issued_by proc.call pid proc.number s none all
  issued_at None pid s none all = after A g H B (procs_of.answers_here pid (Error errnos.NoProcess) s) (answered A g H B pid (Error errnos.NoProcess) s all)

  -- the call that a process is in begins at its home
  pub home_issued : (pid : ℕ) (s : ClientProcs) → ((child : ℕ) → NextBirth child s.home.home (length s.home.births) → A child ≤ 0) → Busy A Any g H B pid s → Then (issuing.issues_home pid s)
  home_issued pid s none all = issued_at (proc_at pid s) pid s none all

  finished_call : (o : Option HomeCall) (pid number : ℕ) (reply : Reply) (s : ClientProcs) → ((child : ℕ) → child_heard (option_map (issuing.request_as pid number) o) reply ≡ Some child → A child ≤ 0) → Busy A Any g H B pid s → Then (issuing.finishes_if (option_map (issuing.request_as pid number) o) reply s)
  finished_call None pid number reply s none all = after A g H B s (let_go A g H B pid s all)
  finished_call (Some call) pid number reply s none all = finished_by A g H B call pid number reply s none all

  finished_at : (o : Option Proc) (pid : ℕ) (reply : Reply) (s : ClientProcs) → ((child : ℕ) → child_heard (issuing.request_at pid o) reply ≡ Some child → A child ≤ 0) → Busy A Any g H B pid s → Then (issuing.finishes_if (issuing.request_at pid o) reply s)
  finished_at None pid reply s none all = after A g H B s (let_go A g H B pid s all)
  finished_at (Some proc) pid reply s none all = by_call proc.call none
    where
      by_call : (o : Option Call) → ((child : ℕ) → child_heard (issuing.request_if pid proc.number o) reply ≡ Some child → A child ≤ 0) → Then (issuing.finishes_if (issuing.request_if pid proc.number o) reply s)
      by_call None none = after A g H B s (let_go A g H B pid s all)
      by_call (Some call) none = finished_call (words.home_call_of call) pid proc.number reply s none all

  -- another kernel has done it
  pub home_heard : (tx : TxNo) (pid : ℕ) (body : ReplyBody) (s : ClientProcs) → ((child : ℕ) → child_heard (issuing.own_request pid s) (words.reply_of body) ≡ Some child → A child ≤ 0) → Busy A Any g H B pid s → Then (issuing.hears_home tx pid body s)
  home_heard tx pid body s none all = finished_at (proc_at pid s) pid (words.reply_of body) (issuing.forgets_fork tx s) none all

  -- Pages

  same_state : (b : Bool) (proc : Proc) (image : Machine) → (cond b (record proc { image = image }) proc).state ≡ proc.state
  same_state true proc image = refl
  same_state false proc image = refl

  paged : (body : ReplyBody) (pid page : ℕ) (s : ClientProcs) → Busy A Any g H B pid s → Busy A Any g H B pid (paging.has_page pid page body s)
  paged (bodies.Page bytes) pid page s all = λ q dev.
      standing.with_same q dev (A q) Any g H B (proc_at pid s) (0 + one_if (pid == q)) 0 0 0 0 pid (paging.with_page_in page bytes) s refl
      (λ proc. same_state ((length bytes == 4096) && nat_lt page (length proc.image.pages)) proc (paging.image_with page bytes proc.image)) (all q dev)
  paged body pid page s all = all

  answered_kept : (o : Option Reply) (pid : ℕ) (s : ClientProcs) → Busy A Any g H B pid s → Rest A Any g H B (paging.answers_kept pid o s)
  answered_kept (Some reply) pid s all = answered_if A g H B (paging.page_named pid s) pid reply s (loosened A g H B pid s all)
  answered_kept None pid s all = let_go A g H B pid s all

  came_in : (state : ProcState) (pid : ℕ) (tx : TxNo) (body : ReplyBody) (s : ClientProcs) → ((page : ℕ) → (child : ℕ) → NextBirth child (paging.has_page pid page body s).home.home (length (paging.has_page pid page body s).home.births) → A child ≤ 0) → Busy A Any g H B pid s
      → Then (paging.page_comes_for pid body (paging.page_in tx state) s)
  came_in (states.PageWait known page) pid tx body s none all =
      let had : ClientProcs = paging.has_page pid page body s in
      let so = paged body pid page s all in
      by_bool (λ what. paging.page_comes_for pid body what s) Then (known.0 == tx.0) _ _
      (λ _. after A g H B (returning.goes_between pid (procs_of.in_state pid states.Ready had)) (between A g H B pid (procs_of.in_state pid states.Ready had) (λ q dev. standing.readied_free q dev (A q) Any g H B 0 0 0 0 0 pid had (loosened A g H B pid had so q dev))))
      (λ _. after A g H B s (let_go A g H B pid s all))
  came_in (states.ForkPages known page) pid tx body s none all =
      let had : ClientProcs = paging.has_page pid page body s in
      by_bool (λ what. paging.page_comes_for pid body what s) Then (known.0 == tx.0) _ _ (λ _. home_issued pid had (none page) (paged body pid page s all)) (λ _. after A g H B s (let_go A g H B pid s all))
  came_in (states.AnswerPages known page reply) pid tx body s none all =
      let had : ClientProcs = paging.has_page pid page body s in
      by_bool (λ what. paging.page_comes_for pid body what s) Then (known.0 == tx.0) _ _
      (λ _. after A g H B (paging.answers_kept pid (paging.kept_reply pid had) had) (answered_kept (paging.kept_reply pid had) pid had (paged body pid page s all))) (λ _. after A g H B s (let_go A g H B pid s all))
  came_in state pid tx body s none all = after A g H B s (let_go A g H B pid s all)

  came_by : (o : Option Proc) (pid : ℕ) (tx : TxNo) (body : ReplyBody) (s : ClientProcs) → ((page : ℕ) → (child : ℕ) → NextBirth child (paging.has_page pid page body s).home.home (length (paging.has_page pid page body s).home.births) → A child ≤ 0) → Busy A Any g H B pid s
      → Then (paging.page_comes_for pid body (paging.page_of_proc tx o) s)
  came_by (Some proc) pid tx body s none all = came_in proc.state pid tx body s none all
  came_by None pid tx body s none all = after A g H B s (let_go A g H B pid s all)

  -- a page of a process has come
  pub page_came : (pid : ℕ) (tx : TxNo) (body : ReplyBody) (s : ClientProcs) → ((child : ℕ) → NextBirth child s.home.home (length s.home.births) → A child ≤ 0) → Busy A Any g H B pid s → Then (paging.page_comes pid tx body s)
  page_came pid tx body s none all = came_by (proc_at pid s) pid tx body s (λ page child next. none child (home_same body page child next)) all
    where
      kept_by : (o : Option Proc) (child : ℕ) → NextBirth child (procs_of.with_proc pid o s).home.home (length (procs_of.with_proc pid o s).home.births) → NextBirth child s.home.home (length s.home.births)
      kept_by None child next = next
      kept_by (Some proc) child next = next

      home_same : (body : ReplyBody) (page child : ℕ) → NextBirth child (paging.has_page pid page body s).home.home (length (paging.has_page pid page body s).home.births) → NextBirth child s.home.home (length s.home.births)
      home_same (bodies.Page bytes) page child next = kept_by _ child next
      home_same body page child next = next
