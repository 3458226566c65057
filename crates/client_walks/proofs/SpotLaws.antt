-- Facts of where processes are: what they bear, each deed keeps.
use Rattle.std.proofs.Common.{◌≡◌, refl, sym, subst, ℕ, ◌+◌, ◌*◌, ◌==◌, nat_lt, Bool, true, false, not, cond, List, [], ◌∷◌, length, Option, Some, None, option_map}
use Rattle.std.proofs.lemmas.Bool.{and_parts, not-true}
use Rattle.std.specs.BTreeMap.{is_at}
use Rattle.std.specs.List.{list_any, position}
use Rattle.std.specs.Ordering.{nat_cmp}
use Rattle.sprite_ids.specs.declared.Ending.{Ending}
use Rattle.sprite_ids.specs.declared.Errno.{Errno}
use Rattle.sprite_ids.specs.declared.Errno.TheVariants as errnos
use Rattle.sprite_ids.specs.declared.TxNo.{TxNo}
use Rattle.sprite_ids.specs.Lists.{less, without}
use Rattle.sprite_ids.specs.Pid.{home_of}
use Rattle.kernel_steps.specs.declared.Input.{Input}
use Rattle.kernel_steps.specs.Rows.{first_under, is_under}
use Rattle.process_machine.specs.declared.Reply.{Reply}
use Rattle.process_machine.specs.declared.Reply.TheVariants.{Value, Error}
use Rattle.process_machine.specs.Machine.{Machine}
use Rattle.packet_bodies.specs.declared.HomeRequest.{HomeRequest}
use Rattle.packet_bodies.specs.declared.ReplyBody.{ReplyBody}
use Rattle.packet_bodies.specs.declared.ReplyBody.TheVariants as bodies
use Rattle.pseudo_device.specs.declared.Answer.{Answer}
use Rattle.pseudo_device.specs.declared.ask.Ask.{Ask}
use Rattle.pseudo_device.specs.declared.TakeEnd.{TakeEnd}
use Rattle.pseudo_device.specs.declared.TakeEnd.TheVariants as takes
use Rattle.pseudo_device.specs.Device.{Asks, take_refusal, told}
use Rattle.home_table.specs.Home as home_tables
use Rattle.home_table.specs.Home.{Table}
use Rattle.unix_calls.specs.declared.About.{About}
use Rattle.unix_calls.specs.declared.Entry.{Entry}
use Rattle.unix_calls.specs.declared.Event.TheVariants.{Enter, Freeze, Thaw}
use Rattle.client_file_tables.specs.Streams.{cwd_of}
use Rattle.client_homes.specs.declared.client.ClientProcs.{ClientProcs}
use Rattle.client_homes.specs.declared.client.Leaving.{Leaving}
use Rattle.client_homes.specs.declared.process.Proc.{Proc}
use Rattle.client_homes.specs.declared.process.ProcState.{ProcState}
use Rattle.client_homes.specs.declared.process.ProcState.TheVariants as states
use Rattle.client_homes.specs.Births as births
use Rattle.client_homes.specs.Calls as calling
use Rattle.client_homes.specs.Ends as ending
use Rattle.client_homes.specs.Homes as homes
use Rattle.client_homes.specs.Issuing as issuing
use Rattle.client_homes.specs.Kills as kills
use Rattle.client_homes.specs.Pages as pages
use Rattle.client_homes.specs.Procs as procs_of
use Rattle.client_homes.specs.Says as says
use Rattle.client_homes.specs.Says.{next_tx, value}
use Rattle.client_homes.specs.Waits as waiting
use Rattle.client_devices.specs.Asking as asking
use Rattle.client_devices.specs.Getting as getting
use Rattle.client_devices.specs.Making as making
use Rattle.client_devices.specs.Masters as masters
use Rattle.client_devices.specs.Tables as tables
use Rattle.client_moves.specs.Freezing as freezing
use Rattle.client_moves.specs.Paging as paging
use Rattle.client_moves.specs.Returning as returning
use Rattle.client_procs.specs.Arriving as arriving
use Rattle.client_procs.specs.Issues as issuing_calls
use Rattle.client_procs.specs.Launching as launching
use Rattle.client_facts.proofs.BirthLaws.{length_ending, length_killing, length_put, length_waiting}
use Rattle.client_walks.specs.Hands.{Held, Nothing, Holding, hand_of}
use Rattle.client_walks.proofs.Deeds.{Hand, Keeps, KeepsCalls, KeepsComings, KeepsDevices, KeepsFiles, KeepsTurns, KeepsHomes, KeepsKills, KeepsMoves, KeepsSteps}
use Rattle.client_walks.proofs.RowLaws.{less_same, removed_same}
use Rattle.client_walks.proofs.Spots.{KeepsSpots, Spots, spots_of}

module _ (F : ClientProcs → Hand → Type 0) (Q : Spots → Held → Type 0) (bears : KeepsSpots Q) where
  abbrev P : ClientProcs → Held → Type 0
  P s held = Q (spots_of s) held

  abbrev Holds : ClientProcs → Hand → Type 0
  Holds s h = P s h.process

  -- Processes that are changed

  with_kept : (hand : Held) (pid : ℕ) (o : Option Proc) (f : Proc → Proc) (s : ClientProcs) → procs_of.proc_at pid s ≡ o → P s hand → P (procs_of.with_proc pid (option_map f o) s) hand
  with_kept hand pid None f s e p = p
  with_kept hand pid (Some proc) f s e p = bears.sets (spots_of s) hand pid proc (f proc) e p

  state_kept : (hand : Held) (pid : ℕ) (state : ProcState) (s : ClientProcs) → P s hand → P (procs_of.in_state pid state s) hand
  state_kept hand pid state s p = with_kept hand pid (procs_of.proc_at pid s) (λ proc. record proc { state = state }) s refl p

  flagged_kept : (hand : Held) (pid : ℕ) (s : ClientProcs) → P s hand → P (procs_of.killed_at pid s) hand
  flagged_kept hand pid s p = with_kept hand pid (procs_of.proc_at pid s) (λ proc. record proc { killed = true }) s refl p

  replies_kept : (hand : Held) (pid : ℕ) (reply : Reply) (s : ClientProcs) → P s hand → P (procs_of.replies pid reply s) hand
  replies_kept hand pid reply s p = state_kept hand pid states.Returning s p

  answers_kept : (hand : Held) (o : Option Entry) (pid : ℕ) (reply : Reply) (s : ClientProcs) → P s hand → P (procs_of.answers_by pid reply o s) hand
  answers_kept hand (Some entry) pid reply s p = replies_kept hand pid reply (says.notes (Enter entry) s) p
  answers_kept hand None pid reply s p = p

  here_kept : (hand : Held) (pid : ℕ) (reply : Reply) (s : ClientProcs) → P s hand → P (procs_of.answers_here pid reply s) hand
  here_kept hand pid reply s p = answers_kept hand (procs_of.entry_at pid reply s) pid reply s p

  enters_kept : (hand : Held) (o : Option Entry) (s : ClientProcs) → P s hand → P (procs_of.enters_if o s) hand
  enters_kept hand (Some entry) s p = p
  enters_kept hand None s p = p

  own_kept : (hand : Held) (pid : ℕ) (reply : Reply) (s : ClientProcs) → P s hand → P (procs_of.enters_own pid reply s) hand
  own_kept hand pid reply s p = enters_kept hand (procs_of.entry_at pid reply s) s p

  -- The home

  home_kept : (hand : Held) (b : Bool) (table : Table) (s : ClientProcs) → table.home ≡ s.home.home → length table.births ≡ length s.home.births → P s hand → P (cond b (record s { home = table }) s) hand
  home_kept hand true table s e f p = bears.knows (spots_of s) hand table e f p
  home_kept hand false table s e f p = p

  waited_kept : (o : Option Reply) (request : HomeRequest) (s : ClientProcs) → P s Nothing → P (waiting.enters_if request o s) Nothing
  waited_kept (Some reply) request s p = p
  waited_kept None request s p = p

  wait_kept : (hand : Held) (pid : ℕ) (s : ClientProcs) → P s hand → P (homes.waited_at pid s) hand
  wait_kept hand pid s p = home_kept hand (homes.is_native pid s) (home_tables.waited s.home pid) s refl (length_waiting (position (home_tables.is_ended_child pid) s.home.births) s.home.births) p

  ended_kept : (hand : Held) (pid : ℕ) (how : Ending) (s : ClientProcs) → P s hand → P (homes.ends_at pid how s) hand
  ended_kept hand pid how s p = home_kept hand (homes.is_native pid s) (home_tables.ended s.home pid how) s refl (length_ending (home_tables.life_at s.home.births pid) s.home.births (home_tables.index_of pid) how) p

  kill_kept : (hand : Held) (pid : ℕ) (s : ClientProcs) → P s hand → P (homes.kills_at pid s) hand
  kill_kept hand pid s p = home_kept hand (homes.is_native pid s) (home_tables.killed s.home pid) s refl (length_killing (home_tables.life_at s.home.births pid) s.home.births (home_tables.index_of pid)) p

  moves_kept : (hand : Held) (pid kernel : ℕ) (s : ClientProcs) → P s hand → P (homes.moves_to pid kernel s) hand
  moves_kept hand pid kernel s p = home_kept hand (homes.is_native pid s) (home_tables.moved s.home pid kernel) s refl (length_put _ s.home.births _) p

  births_kept : (b c : Bool) (parent : ℕ) (s : ClientProcs) → (home_of parent == s.home.home) ≡ b → nat_lt (length s.home.births) 200 ≡ c → P s Nothing → P (cond b (record s { home = cond c (home_tables.born s.home (Some parent)) s.home }) s) (hand_of (cond b (cond c (Some (1000 * s.home.home + length s.home.births + 1)) None) None))
  births_kept true true parent s e f p = bears.bears (spots_of s) parent e f p
  births_kept true false parent s e f p = p
  births_kept false c parent s e f p = p

  ends_kept : (pid : ℕ) (about : Option About) (s : ClientProcs) → P s Nothing → P (ending.ends pid about s) Nothing
  unfolding ending.closes_all
  ends_kept pid about s p = state_kept Nothing pid states.Ending s p

  ends_wait_kept : (o : Option TxNo) (pid : ℕ) (reply : Reply) (s : ClientProcs) → P s Nothing → P (waiting.ends_wait pid o reply s) Nothing
  ends_wait_kept (Some tx) pid reply s p = p
  ends_wait_kept None pid reply s p = replies_kept Nothing pid reply s p

  fork_kept : (b : Bool) (rows : List (TxNo × ℕ)) (s : ClientProcs) → P s Nothing → P (cond b (record s { forks = rows }) s) Nothing
  fork_kept true rows s p = p
  fork_kept false rows s p = p

  let_go : (o : Option ℕ) (s : ClientProcs) → P s (hand_of o) → P s Nothing
  let_go (Some pid) s p = bears.lets_go (spots_of s) pid p
  let_go None s p = p

  cwd_kept : (hand : Held) (o : Option (List (List ℕ))) (child : ℕ) (s : ClientProcs) → P s hand → P (births.with_cwd child o s) hand
  cwd_kept hand (Some cwd) child s p = p
  cwd_kept hand None child s p = p

  -- Pseudo-devices

  device_kept : (o : Option Asks) (device : ℕ) (s : ClientProcs) → P s Nothing → P (tables.with_device device o s) Nothing
  device_kept (Some asks) device s p = p
  device_kept None device s p = p

  gives_kept : (o : Option (Option TxNo)) (pid : ℕ) (reply : Reply) (s : ClientProcs) → P s Nothing → P (asking.gives_to pid o reply s) Nothing
  gives_kept (Some (Some tx)) pid reply s p = p
  gives_kept (Some None) pid reply s p = replies_kept Nothing pid reply s p
  gives_kept None pid reply s p = p

  ask_kept : (ask : Ask) (reply : Reply) (s : ClientProcs) → P s Nothing → P (asking.ends_ask ask reply s) Nothing
  ask_kept ask reply s p =
      let noted : ClientProcs = asking.notes_end ask reply s in
      gives_kept (first_under asking.is_about (asking.about_ask ask) noted.asked) ask.pid reply (record noted { asked = less (is_under asking.is_about (asking.about_ask ask)) noted.asked }) p

  puts_kept : (o : Option Answer) (pid device : ℕ) (bytes : List ℕ) (errno : Option Errno) (s : ClientProcs) → P s Nothing → P (masters.puts_if pid device bytes errno o s) Nothing
  puts_kept (Some answer) pid device bytes errno s p =
      let put : ClientProcs = tables.puts_at device bytes errno s in
      let so : P put Nothing = device_kept _ device s p in
      let entered : ClientProcs = procs_of.enters_own pid (value 0 0) put in
      replies_kept Nothing pid (value 0 0) (asking.ends_ask answer.ask answer.reply entered) (ask_kept answer.ask answer.reply entered (own_kept Nothing pid (value 0 0) put so))
  puts_kept None pid device bytes errno s p =
      let put : ClientProcs = tables.puts_at device bytes errno s in
      here_kept Nothing pid (Error errnos.Invalid) put (device_kept _ device s p)

  served_kept : (o : Option TakeEnd) (asks : List Ask) (device pid : ℕ) (s : ClientProcs) → P s Nothing → P (getting.serves_by device pid (tables.taken_by asks o) s) Nothing
  served_kept None [] device pid s p = p
  served_kept None (ask ∷ asks) device pid s p = here_kept Nothing pid (told ask) _ p
  served_kept (Some takes.Busy) asks device pid s p = here_kept Nothing pid (Error errnos.Busy) _ p
  served_kept (Some takes.Empty) asks device pid s p = p
  served_kept (Some takes.Long) asks device pid s p = here_kept Nothing pid (Error errnos.Invalid) _ p
  served_kept (Some takes.NoMemory) asks device pid s p = p

  getter_kept : (o : Option Asks) (device pid max : ℕ) (s : ClientProcs) → P s Nothing → P (getting.serves_by device pid (tables.taken_at_in max o) s) Nothing
  getter_kept (Some asks) device pid max s p = served_kept (take_refusal asks max) asks.waiting device pid s p
  getter_kept None device pid max s p = p

  unmade_kept : (o : Option ℕ) (reply : Reply) (s : ClientProcs) → P s Nothing → P (making.unmakes_if reply o s) Nothing
  unmade_kept (Some device) (Error errno) s p = p
  unmade_kept (Some device) (Value first second bytes) s p = p
  unmade_kept None reply s p = p

  -- Programs, replies and pages

  fresh_kept : (o : Option Machine) (pid : ℕ) (s : ClientProcs) → P s Nothing → P (launching.has_fresh_if pid o s) Nothing
  fresh_kept (Some image) pid s p = with_kept Nothing pid (procs_of.proc_at pid s) (launching.freshened image) s refl p
  fresh_kept None pid s p = p

  returned_kept : (o : Option Proc) (pid : ℕ) (reply : Reply) (s : ClientProcs) → procs_of.proc_at pid s ≡ o → P s Nothing → P (record s { procs = returning.returned_with pid (option_map {T = Proc} (returning.returned s.programs reply) o) s.procs }) Nothing
  returned_kept (Some proc) pid reply s e p = bears.sets (spots_of s) Nothing pid proc (returning.returned s.programs reply proc) e p
  returned_kept None pid reply s e p = p

  noted_kept : (o : Option ℕ) (pid : ℕ) (reply : Reply) (s : ClientProcs) → P s Nothing → P (returning.notes_return_as pid reply o s) Nothing
  noted_kept (Some number) pid reply s p = p
  noted_kept None pid reply s p = p

  page_kept : (body : ReplyBody) (pid page : ℕ) (s : ClientProcs) → P s Nothing → P (paging.has_page pid page body s) Nothing
  page_kept (bodies.Page bytes) pid page s p = with_kept Nothing pid (procs_of.proc_at pid s) (paging.with_page_in page bytes) s refl p
  page_kept body pid page s p = p

  moved_kept : (o : Option About) (pid : ℕ) (s : ClientProcs) → P s Nothing → P (freezing.enters_move pid o s) Nothing
  moved_kept (Some about) pid s p = own_kept Nothing pid (value 0 0) s p
  moved_kept None pid s p = p

  taken_kept : (o : Option Proc) (pid : ℕ) (s : ClientProcs) → procs_of.proc_at pid s ≡ o → P s Nothing → P (freezing.takes_proc pid s) Nothing
  taken_kept (Some proc) pid s e p = bears.lets_go (spots_of (freezing.takes_proc pid s)) pid (bears.takes (spots_of s) pid proc e p)
  taken_kept None pid s e p = subst (λ (rows : List (ℕ × Proc)). Q (record (spots_of s) { procs = rows }) Nothing) (sym (removed_same (is_at (nat_cmp pid)) s.procs e)) p

  -- The deeds

  steps : KeepsSteps F Holds
  steps = record { begins = λ s h next step f p. p; ends_step = λ s h f p. p }

  turns : (came : Input) → KeepsTurns came F Holds
  turns came = record {
    answered = λ s h tx source body e g f p. p;
    gives_up = λ s h tx e f p. p;
    goes_on = λ s h e f p. p;
  }

  files : (came : Input) → KeepsFiles came F Holds
  files came = record {
    uses_files = λ s h about call device e f p. state_kept Nothing about.pid states.InFiles s p;
    called_back = λ s h tx request f p. p;
    due_goes = λ s h file block f p. p;
    takes_report = λ s h report rest e f p. p;
    takes_reply = λ s h row rest e f p. p;
  }

  calls : (came : Input) → KeepsCalls came F Holds
  calls came = record {
    comes_to = λ s h about call e f p. with_kept Nothing about.pid (procs_of.proc_at about.pid s) (issuing_calls.inside about.number call) s refl p;
    counts = λ s h f p. p;
    answers_here = λ s h pid reply e f p. here_kept Nothing pid reply s p;
    replies = λ s h pid reply f p. replies_kept Nothing pid reply s p;
    begins_here = λ s h about program arg f p.
        let entered : ClientProcs = procs_of.enters_own about.pid (value 0 0) s in
        let begun : ClientProcs = launching.begins_program about.pid program arg entered in
        replies_kept Nothing about.pid (value 0 0) begun (fresh_kept (launching.fresh_image entered.programs program arg) about.pid entered (own_kept Nothing about.pid (value 0 0) s p));
    returns = λ s h pid reply f p.
        let back : ClientProcs = returning.has_returned pid reply s in
        noted_kept (returning.number_at pid back) pid reply back (returned_kept (procs_of.proc_at pid s) pid reply s refl p);
    flags_evict = λ s h pid evict f p. with_kept Nothing pid (procs_of.proc_at pid s) (λ proc. record proc { evict = evict }) s refl p;
    takes_call = λ s h tx f p. p;
  }

  homes_kept : KeepsHomes F Holds
  homes_kept = record {
    enters_home = λ s h request reply e f p. p;
    ticks_for = λ s h request f p. bears.knows (spots_of s) Nothing (record s.home { ticks = s.home.ticks + 1 }) refl refl p;
    forks = λ s h request f p. births_kept (homes.is_native request.pid s) (nat_lt (length s.home.births) 200) request.pid s refl refl p;
    waits = λ s h request f p. waited_kept (waiting.wait_reply request.pid s) request (homes.waited_at request.pid s) (wait_kept Nothing request.pid s p);
    kills_living = λ s h request target e f p. kill_kept Nothing target s p;
    kills_none = λ s h request target e f p. kill_kept Nothing target s p;
    ends_by_exit = λ s h request code f p. ended_kept Nothing request.pid (calling.ending_of code) (waiting.enters_home request (value 0 0) s) p;
    ends_by_death = λ s h about f p. ended_kept Nothing about.pid _ (says.enters_death about s) p;
    dies_elsewhere = λ s h about e f p. state_kept Nothing about.pid (states.Dying (next_tx s)) _ p;
    ends = λ s h pid about f p. ends_kept pid about s p;
    takes_waiter = λ s h pid f p. p;
    ends_wait = λ s h pid tx reply f p. ends_wait_kept tx pid reply s p;
    parks = λ s h pid parked f p. p;
    parks_here = λ s h request f p. state_kept Nothing request.pid states.Waiting s p;
    fetches_for_fork = λ s h pid page f p. state_kept Nothing pid (states.ForkPages (next_tx s) page) (pages.fetches pid page s) p;
    asks_home = λ s h kernel request e f p. fork_kept (issuing.is_fork request.call) _ _ (state_kept Nothing request.pid (states.AtHome (next_tx s)) _ p);
    answers = λ s h tx body f p. p;
    hands_on = λ s h tx o f p. let_go o s p;
    forgets_fork = λ s h tx f p. p;
    forgets_early = λ s h tx f p. p;
    places_child = λ s h parent child image e f p.
        let forked : ClientProcs = births.forks_streams parent child s in
        bears.puts (spots_of (births.copies_cwd parent child forked)) child (births.child_of image) (cwd_kept (Holding child) (cwd_of parent forked.files) child forked p);
    meets_early = λ s h child f p. flagged_kept Nothing child (record s { early = without (is_under procs_of.is_pid child) s.early }) p;
    lets_go = λ s h pid f p. bears.lets_go (spots_of s) pid p;
  }

  kills_kept : KeepsKills F Holds
  kills_kept = record {
    flags = λ s h pid f p. flagged_kept Nothing pid s p;
    breaks_off = λ s h pid device max proc e g f p. here_kept Nothing pid (Error errnos.Interrupted) _ p;
    notes_kill = λ s h pid kill f p. p;
    forgets_kill = λ s h pid f p. p;
    goes_after = λ s h about pid place f p. p;
    hears_here = λ s h tx pid e f p. flagged_kept Nothing pid s p;
    hears_gone = λ s h tx pid e f p. p;
    tells_place = λ s h tx pid kernel f p. moves_kept Nothing pid kernel s p;
  }

  devices : (came : Input) → KeepsDevices came F Holds
  devices came = record {
    asks_here = λ s h pid ask f p. state_kept Nothing pid (states.InAsk None) s p;
    asks_for = λ s h tx source request e f p. p;
    waits_at = λ s h device ask e f p. device_kept _ device s p;
    ends_ask = λ s h ask reply f p. ask_kept ask reply s p;
    serves_getter = λ s h device pid e f p. getter_kept (tables.asks_in device s) device pid (getting.max_of pid s) (tables.takes_at device (getting.max_of pid s) s) (device_kept _ device s p);
    sends_ask = λ s h pid request f p. state_kept Nothing pid (states.InAsk (Some (next_tx s))) _ p;
    waits_for_ask = λ s h pid device max f p. state_kept Nothing pid (states.Getting device max) s p;
    puts_with = λ s h pid device bytes errno f p. puts_kept (tables.answer_at device bytes errno s) pid device bytes errno s p;
    left_at = λ s h device f p. device_kept _ device s p;
    makes_device = λ s h pid f p. p;
    ends_making = λ s h pid reply f p. unmade_kept (first_under procs_of.is_pid pid s.making) reply (record s { making = less (is_under procs_of.is_pid pid) s.making }) p;
  }

  moves : KeepsMoves F Holds
  moves = record {
    freezes = λ s h pid route e f p. moved_kept route.about pid (says.notes (Freeze pid) s) p;
    takes_proc = λ s h pid proc e f p. bears.takes (spots_of s) pid proc e p;
    takes_none = λ s h pid e f p. taken_kept None pid s e p;
    takes_ended = λ s h pid f p. taken_kept (procs_of.proc_at pid s) pid s refl p;
    puts_page = λ s h pid page bytes f p. p;
    drops_cwd = λ s h pid f p. p;
    keeps_leaving = λ s h pid step about f p. bears.stays (spots_of s) pid (record { step = step; about = about }) p;
    takes_leaving = λ s h pid found e f p. bears.leaves (spots_of s) pid found e p;
    leaves_none = λ s h pid e f p. subst (λ (rows : List (ℕ × Leaving)). Q (record (spots_of s) { leaving = rows }) Nothing) (sym (less_same pid s.leaving e)) p;
    begins_move = λ s h pid one about f p. p;
    sends_process = λ s h pid sent about e f p. bears.lets_go (spots_of s) pid p;
  }

  comings : KeepsComings F Holds
  comings = record {
    brings = λ s h pid e f p.
        let parts = and_parts (not (kills.is_here pid s)) (not (list_any (is_under procs_of.is_pid pid) s.leaving)) e in
        bears.brings (spots_of s) pid (not-true (kills.is_here pid s) parts.0) (not-true (list_any (is_under procs_of.is_pid pid) s.leaving) parts.1) p;
    refuses = λ s h pid e f p. bears.refuses (spots_of s) pid p;
    answers_done = λ s h tx pid f p. p;
    has_streams = λ s h process streams f p. p;
    puts_in = λ s h process fresh f p. bears.puts (spots_of s) process.pid (arriving.arrived_proc process fresh) p;
    comes_home = λ s h pid e f p. moves_kept Nothing pid s.kernel s p;
    thaws = λ s h pid f p. state_kept Nothing pid states.Ready (says.notes (Thaw pid) s) p;
    tells_home = λ s h pid moved e f p. state_kept Nothing pid (states.Arriving (next_tx s) moved) _ p;
    waits_for_page = λ s h pid page e f p. state_kept Nothing pid (states.PageWait (next_tx s) page) (pages.fetches pid page s) p;
    has_page = λ s h pid page body f p. page_kept body pid page s p;
    is_ready = λ s h pid f p. state_kept Nothing pid states.Ready s p;
    fetches_for_answer = λ s h pid page reply f p. state_kept Nothing pid (states.AnswerPages (next_tx s) page reply) (pages.fetches pid page s) p;
  }

  pub by_spots : Keeps F Holds
  by_spots = record {
    steps = steps;
    within = λ came. record {
      apart = record { files = files came; calls = calls came; homes = homes_kept; kills = kills_kept; devices = devices came; moves = moves; comings = comings };
      turns = turns came;
    };
  }
