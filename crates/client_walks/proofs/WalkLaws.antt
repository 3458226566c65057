-- The walk through the functions of a client's kernel, for any predicate that its parts keep: what is done at homes as a whole, else its
-- deeds.
use Rattle.std.proofs.Common.{◌≡◌, refl, ℕ, zero, suc, ◌+◌, ◌==◌, Bool, true, false, ◌||◌, not, cond, List, [], ◌∷◌, ◌++◌, length, Option, Some, None}
use Rattle.std.specs.List.{list_any}
use Rattle.std.specs.Map.{keys_of}
use Rattle.sprite_ids.specs.declared.DeviceId.{DeviceId}
use Rattle.sprite_ids.specs.declared.Errno.{Errno}
use Rattle.sprite_ids.specs.declared.Errno.TheVariants as errnos
use Rattle.sprite_ids.specs.declared.Grant.{Grant}
use Rattle.sprite_ids.specs.declared.Object.{Object}
use Rattle.sprite_ids.specs.declared.Object.TheVariants as objects
use Rattle.sprite_ids.specs.declared.TxNo.{TxNo}
use Rattle.sprite_ids.specs.Lists.{less}
use Rattle.sprite_ids.specs.Pid.{home_of}
use Rattle.kernel_steps.specs.declared.Input.{Input}
use Rattle.kernel_steps.specs.declared.Input.TheVariants as inputs
use Rattle.kernel_steps.specs.Rows.{first_under, is_under}
use Rattle.process_machine.specs.declared.Call.{Call}
use Rattle.process_machine.specs.declared.Call.TheVariants as calls
use Rattle.process_machine.specs.declared.Reply.{Reply}
use Rattle.process_machine.specs.declared.Reply.TheVariants.{Error}
use Rattle.process_machine.specs.Machine.{Machine}
use Rattle.packet_bodies.specs.declared.AskRequest.{AskRequest}
use Rattle.packet_bodies.specs.declared.CarriedStream.{CarriedStream}
use Rattle.packet_bodies.specs.declared.ReplyBody.{ReplyBody}
use Rattle.packet_bodies.specs.declared.ReplyBody.TheVariants.{Done}
use Rattle.packet_bodies.specs.declared.Request.{Request}
use Rattle.packet_bodies.specs.declared.Request.TheVariants as requests
use Rattle.pseudo_device.specs.declared.ask.Ask.{Ask}
use Rattle.stream_table.specs.declared.Carried.{Carried}
use Rattle.stream_table.specs.declared.Place.{Place}
use Rattle.stream_table.specs.declared.Stream.{Stream}
use Rattle.unix_calls.specs.declared.About.{About}
use Rattle.unix_calls.specs.declared.Event.TheVariants.{Freeze, Thaw}
use Rattle.unix_calls.specs.DeviceCalls.{errno_of}
use Rattle.unix_calls.specs.Opening.{reads, writes}
use Rattle.migrate_freeze.specs.declared.arrival.Arrival.{Arrival}
use Rattle.migrate_freeze.specs.declared.frozen.MoveStep.{MoveStep}
use Rattle.migrate_freeze.specs.declared.frozen.MoveStep.TheVariants as steps
use Rattle.migrate_freeze.specs.declared.process.Process.{Process}
use Rattle.migrate_freeze.specs.Arriving.{launch_arrival, process_with, transfer_arrival}
use Rattle.migrate_freeze.specs.Moves.{frozen_for, step_of}
use Rattle.migrate_freeze.specs.OneMove.{OneMove}
use Rattle.migrate_freeze.specs.Packing.{can_move}
use Rattle.client_file_tables.specs.declared.moves.Report.{Report}
use Rattle.client_file_tables.specs.declared.moves.Report.TheVariants as reports
use Rattle.client_file_tables.specs.Says.{about_of}
use Rattle.client_file_tables.specs.Steps.{owns}
use Rattle.client_files.specs.Answered as file_answers
use Rattle.client_files.specs.Turns as file_turns
use Rattle.client_homes.specs.declared.client.ClientProcs.{ClientProcs}
use Rattle.client_homes.specs.declared.client.Leaving.{Leaving}
use Rattle.client_homes.specs.declared.client.Unfinished.{Unfinished}
use Rattle.client_homes.specs.declared.client.Unfinished.TheVariants as unfinished
use Rattle.client_homes.specs.declared.process.Proc.{Proc}
use Rattle.client_homes.specs.declared.process.ProcState.{ProcState}
use Rattle.client_homes.specs.declared.process.ProcState.TheVariants as states
use Rattle.client_homes.specs.Births as births
use Rattle.client_homes.specs.Homes as homes
use Rattle.client_homes.specs.Issuing as issuing
use Rattle.client_homes.specs.Killing as killing
use Rattle.client_homes.specs.Procs as procs_of
use Rattle.client_homes.specs.Says as says
use Rattle.client_homes.specs.Says.{value}
use Rattle.client_homes.specs.Words as words
use Rattle.client_devices.specs.Asking as asking
use Rattle.client_devices.specs.Asks.{carried_ask, packed_ask}
use Rattle.client_devices.specs.Getting as getting
use Rattle.client_devices.specs.Making as making
use Rattle.client_devices.specs.Masters as masters
use Rattle.client_devices.specs.Opened as opened
use Rattle.client_devices.specs.Tables as tables
use Rattle.client_moves.specs.declared.Route.{Route}
use Rattle.client_moves.specs.Carrying.{all_carried, holds_master}
use Rattle.client_moves.specs.Evicting as evicting
use Rattle.client_moves.specs.Freezing as freezing
use Rattle.client_moves.specs.Leaving as leaving_of
use Rattle.client_moves.specs.Paging as paging
use Rattle.client_moves.specs.Returning as returning
use Rattle.client_procs.specs.Answered as hearing
use Rattle.client_procs.specs.Arriving as arriving
use Rattle.client_procs.specs.Issues as issuing_calls
use Rattle.client_procs.specs.Launching.{fresh_image, program_named}
use Rattle.client_procs.specs.Moving as moving
use Rattle.client_procs.specs.Steps as stepping
use Rattle.client_procs.specs.Steps.{client_step}
use Rattle.client_procs.specs.Turning as turning
use Rattle.client_facts.proofs.PlaceLaws.{by_bool}
use Rattle.client_walks.specs.Hands.{Nothing, Coming, Holding, brought, coming_if, heard}
use Rattle.client_walks.proofs.AtHomeLaws.{apart_by_deeds, by_deeds}
use Rattle.client_walks.proofs.Deeds.{Always, Hand, Keeps, KeepsSteps, KeepsWithin, Walk, WalkApart, WalkParts, WalkWithin, holds}
use Rattle.client_walks.proofs.LeavingLaws.{parts_of}
use Rattle.client_walks.proofs.ReplyLaws.{NotSo, Refused, Safe}

-- whether what comes is neither an answer to a remote call nor the end of one
abbrev pub IsOther : Input → Type 0
IsOther (inputs.Replied tx source body) = ⊥
IsOther (inputs.GaveUp tx) = ⊥
IsOther _ = Unit {0}

module _ (Put : Type 0) (P : ClientProcs → Hand → Type 0) (came : Input) (walk : WalkParts Put P came) (h : Hand) where
  -- no process is in hand
  abbrev At : ClientProcs → Type 0
  At s = P s (holds Nothing h)

  on_if : (hand : Hand) (b : Bool) (s t : ClientProcs) → (b ≡ true → P s hand) → (b ≡ false → P t hand) → P (cond b s t) hand
  on_if hand true s t f g = f refl
  on_if hand false s t f g = g refl

  -- Pseudo-devices

  getters_turned : (o : Option ℕ) (device : ℕ) (s : ClientProcs) → getting.first_getter device s ≡ o → At s → At (getting.turned_by device o s)
  getters_turned (Some pid) device s e p = walk.devices.serves_getter s h device pid e tt p
  getters_turned None device s e p = p

  getters_turns : (count device : ℕ) (s : ClientProcs) → At s → At (getting.turns count device s)
  getters_turns zero device s p = p
  getters_turns (suc count) device s p =
      let before : ClientProcs = getting.turns count device s in
      getters_turned (getting.first_getter device before) device before refl (getters_turns count device s p)

  getters_served : (device : ℕ) (s : ClientProcs) → At s → At (getting.serves_getters device s)
  getters_served device s p = getters_turns (length s.getters) device s p

  pub entered_in : (device : ℕ) (ask : Ask) (s : ClientProcs) → At s → At (asking.enters_by device ask s)
  entered_in device ask s p = by_alive (tables.is_alive_at device s) refl
    where
      by_alive : (b : Bool) → tables.is_alive_at device s ≡ b → At (cond (not b) (asking.ends_ask ask (Error errnos.NoServer) s) (getting.serves_getters device (tables.waits_at device ask s)))
      by_alive true e = getters_served device (tables.waits_at device ask s) (walk.devices.waits_at s h device ask e tt p)
      by_alive false e = walk.devices.ends_ask s h ask (Error errnos.NoServer) tt p

  ask_served : (tx : TxNo) (source : ℕ) (request : AskRequest) (s : ClientProcs) → came ≡ inputs.Request tx source (requests.Ask request) → At s → At (asking.serves_ask tx request s)
  ask_served tx source request s e p = entered_in request.device.number (carried_ask request) (asking.notes_ask (carried_ask request) (Some tx) s) (walk.devices.asks_for s h tx source request e tt p)

  sent_if : (o : Option AskRequest) (pid : ℕ) (s : ClientProcs) → At s → At (asking.sends_if pid o s)
  sent_if (Some request) pid s p = walk.devices.sends_ask s h pid request tt p
  sent_if None pid s p = walk.calls.answers_here s h pid (Error errnos.Invalid) (NotSo refl) tt p

  asked_by : (o : Option Ask) (pid : ℕ) (device : DeviceId) (s : ClientProcs) → At s → At (asking.asks_by pid device o s)
  asked_by None pid device s p = walk.calls.answers_here s h pid (Error errnos.Invalid) (NotSo refl) tt p
  asked_by (Some ask) pid device s p =
      let inside : ClientProcs = procs_of.in_state pid (states.InAsk None) s in
      on_if (holds Nothing h) (device.kernel == s.kernel) (asking.enters_ask device.number ask None inside) (asking.sends_if pid (packed_ask ask device) s)
      (λ e. entered_in device.number ask (asking.notes_ask ask None inside) (walk.devices.asks_here s h pid ask tt p)) (λ e. sent_if (packed_ask ask device) pid s p)

  got_by : (pid device max : ℕ) (s : ClientProcs) → At s → At (masters.waits_for_ask pid device max s)
  got_by pid device max s p = getters_served device (record (procs_of.in_state pid (states.Getting device max) s) { getters = s.getters ++ (device, pid) ∷ [] }) (walk.devices.waits_for_ask s h pid device max tt p)

  error_put : (o : Option Errno) (pid device : ℕ) (bytes : List ℕ) (s : ClientProcs) → At s → At (masters.puts_error pid device bytes o s)
  error_put (Some errno) pid device bytes s p = walk.devices.puts_with s h pid device bytes (Some errno) tt p
  error_put None pid device bytes s p = walk.calls.answers_here s h pid (Error errnos.Invalid) (NotSo refl) tt p

  put_to : (pid device : ℕ) (bytes : List ℕ) (number : ℕ) (s : ClientProcs) → At s → At (masters.puts_to pid device bytes number s)
  put_to pid device bytes number s p =
      on_if (holds Nothing h) (number == 0) (masters.puts_with pid device bytes None s) (masters.puts_error pid device bytes (errno_of number) s) (λ e. walk.devices.puts_with s h pid device bytes None tt p) (λ e. error_put (errno_of number) pid device bytes s p)

  asks_ended : (asks : List Ask) (s : ClientProcs) → At s → At (making.ends_all asks s)
  asks_ended [] s p = p
  asks_ended (ask ∷ asks) s p = asks_ended asks (asking.ends_ask ask (Error errnos.NoServer) s) (walk.devices.ends_ask s h ask (Error errnos.NoServer) tt p)

  master_closed : (device : ℕ) (s : ClientProcs) → At s → At (making.closes_master device s)
  master_closed device s p = asks_ended (tables.asks_at device s) (tables.left_at device s) (walk.devices.left_at s h device tt p)

  -- Calls that return

  evicted : (pid : ℕ) (s : ClientProcs) → At s → At (returning.is_evicted pid s)
  evicted pid s p =
      let stays : ClientProcs = returning.with_evict false pid s in
      let route : Route = record { to = home_of pid; about = None; program = None } in
      on_if (holds Nothing h) (holds_master pid stays) stays (freezing.freezes pid route stays) (λ e. walk.calls.flags_evict s h pid false tt p) (λ e. walk.leaving.freezes stays h pid route (walk.calls.flags_evict s h pid false tt p))

  between_by : (o : Option Proc) (pid : ℕ) (s : ClientProcs) → At s → At (returning.goes_between_as pid (returning.standing_if o) s)
  between_by None pid s p = p
  between_by (Some proc) pid s p =
      by_bool (λ standing. returning.goes_between_as pid standing s) At proc.killed _ _
      (λ _. walk.home.dies s h pid p)
      (λ _. by_bool (λ standing. returning.goes_between_as pid standing s) At proc.evict _ _ (λ _. evicted pid s p) (λ _. p))

  gone_between : (pid : ℕ) (s : ClientProcs) → At s → At (returning.goes_between pid s)
  gone_between pid s p = between_by (procs_of.proc_at pid s) pid s p

  finished : (pid : ℕ) (reply : Reply) (s : ClientProcs) → At s → At (returning.finishes_call pid reply s)
  finished pid reply s p =
      let made : ClientProcs = making.ends_making pid reply s in
      gone_between pid (returning.notes_return pid reply (returning.has_returned pid reply made)) (walk.calls.returns made h pid reply tt (walk.devices.ends_making s h pid reply tt p))

  -- Evictions

  evicts_one : (pid : ℕ) (s : ClientProcs) → At s → At (evicting.evicts pid s)
  evicts_one pid s p =
      let flagged : ClientProcs = returning.with_evict true pid s in
      let so : At flagged = walk.calls.flags_evict s h pid true tt p in
      on_if (holds Nothing h) ((home_of pid == s.kernel) || not (evicting.runs_here pid s)) s (evicting.leaves_if_ready pid flagged) (λ e. p)
      (λ e. on_if (holds Nothing h) (not (evicting.is_ready pid flagged)) flagged (returning.goes_between pid flagged) (λ f. so) (λ f. gone_between pid flagged so))

  evicts_each : (pids : List ℕ) (s : ClientProcs) → At s → At (evicting.evicts_all pids s)
  evicts_each [] s p = p
  evicts_each (pid ∷ pids) s p = evicts_each pids (evicting.evicts pid s) (evicts_one pid s p)

  counted : (s : ClientProcs) → At s → At (evicting.counts_issue s)
  counted s p =
      let more : ClientProcs = record s { issues = s.issues + 1 } in
      let so : At more = walk.calls.counts s h tt p in
      on_if (holds Nothing h) (not (evicting.is_due more)) more (evicting.evicts_all (keys_of more.procs) more) (λ e. so) (λ e. evicts_each (keys_of more.procs) more so)

  -- Pages

  answered_if : (o : Option ℕ) (pid : ℕ) (reply : Reply) (s : ClientProcs) → At s → At (paging.answers_if pid reply o s)
  answered_if (Some page) pid reply s p = walk.comings.fetches_for_answer s h pid page reply tt p
  answered_if None pid reply s p = walk.calls.replies s h pid reply tt p

  answered_kept : (o : Option Reply) (pid : ℕ) (s : ClientProcs) → At s → At (paging.answers_kept pid o s)
  answered_kept (Some reply) pid s p = answered_if (paging.page_named pid s) pid reply s p
  answered_kept None pid s p = p

  page_needed : (pid page : ℕ) (s : ClientProcs) → At s → At (paging.needs_page pid page s)
  page_needed pid page s p = by_test (paging.lacks pid page s) refl
    where
      by_test : (b : Bool) → paging.lacks pid page s ≡ b → At (cond (not b) s (paging.waits_for_page pid page s))
      by_test true e = walk.comings.waits_for_page s h pid page e tt p
      by_test false e = p

  came_in : (state : ProcState) (pid : ℕ) (tx : TxNo) (body : ReplyBody) (s : ClientProcs) → At s → At (paging.page_comes_for pid body (paging.page_in tx state) s)
  came_in (states.PageWait known page) pid tx body s p =
      let put : ClientProcs = paging.has_page pid page body s in
      by_bool (λ what. paging.page_comes_for pid body what s) At (known.0 == tx.0) _ _
      (λ _. gone_between pid (procs_of.in_state pid states.Ready put) (walk.comings.is_ready put h pid tt (walk.comings.has_page s h pid page body tt p))) (λ _. p)
  came_in (states.ForkPages known page) pid tx body s p =
      let put : ClientProcs = paging.has_page pid page body s in
      by_bool (λ what. paging.page_comes_for pid body what s) At (known.0 == tx.0) _ _ (λ _. walk.home.issues put h pid (walk.comings.has_page s h pid page body tt p)) (λ _. p)
  came_in (states.AnswerPages known page reply) pid tx body s p =
      let put : ClientProcs = paging.has_page pid page body s in
      by_bool (λ what. paging.page_comes_for pid body what s) At (known.0 == tx.0) _ _ (λ _. answered_kept (paging.kept_reply pid put) pid put (walk.comings.has_page s h pid page body tt p)) (λ _. p)
  came_in state pid tx body s p = p

  came_by : (o : Option Proc) (pid : ℕ) (tx : TxNo) (body : ReplyBody) (s : ClientProcs) → At s → At (paging.page_comes_for pid body (paging.page_of_proc tx o) s)
  came_by (Some proc) pid tx body s p = came_in proc.state pid tx body s p
  came_by None pid tx body s p = p

  -- Processes that come

  went_on : (moved : Bool) (pid : ℕ) (s : ClientProcs) → At s → At (arriving.goes_on_by pid moved s)
  went_on false pid s p = gone_between pid s p
  went_on true pid s p =
      on_if (holds Nothing h) (arriving.is_fresh pid s) (procs_of.replies pid (value 0 0) s) (paging.answers_with_pages pid (value 0 0) s)
      (λ e. walk.calls.replies s h pid (value 0 0) tt p) (λ e. answered_if (paging.page_named pid s) pid (value 0 0) s p)

  thawed : (pid : ℕ) (moved : Bool) (s : ClientProcs) → At s → At (arriving.thaws pid moved s)
  thawed pid moved s p = went_on moved pid (procs_of.in_state pid states.Ready (says.notes (Thaw pid) s)) (walk.comings.thaws s h pid tt p)

  came_home : (pid : ℕ) (moved : Bool) (s : ClientProcs) → homes.is_native pid s ≡ true → At s → At (arriving.comes_home pid moved s)
  came_home pid moved s e p =
      let there : ClientProcs = homes.moves_to pid s.kernel s in
      let forgot : ClientProcs = killing.forgets_waiting pid there in
      let so : At forgot = walk.home.forgets_waiting there h pid (walk.comings.comes_home s h pid e tt p) in
      thawed pid moved (arriving.knows_kill pid forgot) (on_if (holds Nothing h) (homes.is_killed pid forgot) (procs_of.killed_at pid forgot) forgot (λ f. walk.home.flags forgot h pid so) (λ f. so))

  was_settled : (pid : ℕ) (moved : Bool) (s : ClientProcs) → At s → At (arriving.is_settled pid moved s)
  unfolding arriving.is_settled
  was_settled pid moved s p =
      on_if (holds Nothing h) (homes.is_native pid s) (arriving.comes_home pid moved s) (arriving.tells_home pid moved s) (λ e. came_home pid moved s e p) (λ e. walk.comings.tells_home s h pid moved e tt p)

  pub installed_in : (process : Process) (fresh : Bool) (streams : List CarriedStream) (s : ClientProcs) → P s (holds (Holding process.pid) h) → At (arriving.installs (record { process = process; fresh = fresh }) streams s)
  installed_in process fresh streams s p =
      let opened : ClientProcs = arriving.has_streams process streams s in
      was_settled process.pid process.moving (births.puts_proc process.pid (arriving.arrived_proc process fresh) opened) (walk.comings.puts_in opened h process fresh tt (walk.comings.has_streams s h process streams tt p))

  pub launched_in : (o : Option Machine) (arrival : Arrival) (program : ℕ) (streams : List CarriedStream) (s : ClientProcs) → P s (holds (Holding arrival.pid) h) → At (arriving.installs_if (arriving.launched_with arrival program o) streams s)
  launched_in None arrival program streams s p = walk.home.lets_go s h arrival.pid p
  launched_in (Some image) arrival program streams s p =
      by_bool (λ come. arriving.installs_if come streams s) At (not (image.number == program)) _ _ (λ _. walk.home.lets_go s h arrival.pid p) (λ _. installed_in (process_with arrival image) true streams s p)

  -- where the kernel doesn't know it
  taken_as : (b : Bool) (pid : ℕ) (s t : ClientProcs) → arriving.is_new pid s ≡ b → (P s (holds (Holding pid) h) → At t) → P s (holds (Coming pid) h) → At (cond (not b) s t)
  taken_as true pid s t e goes p = goes (walk.comings.brings s h pid e tt p)
  taken_as false pid s t e goes p = walk.comings.refuses s h pid e tt p

  arrived : (body : Request) (tx : TxNo) (s : ClientProcs) → P s (holds (coming_if (arriving.brought body)) h) → At (arriving.arrives tx body s)
  arrived (requests.Transfer request) tx s p =
      let told : ClientProcs = says.answers tx Done s in
      taken_as (arriving.is_new request.pid s) request.pid s _ refl
      (λ held. installed_in (process_with (transfer_arrival request) request.image) false request.streams told (walk.comings.answers_done s h tx request.pid tt held)) p
  arrived (requests.Launch request) tx s p =
      let told : ClientProcs = says.answers tx Done s in
      taken_as (arriving.is_new request.pid s) request.pid s _ refl
      (λ held. launched_in (fresh_image s.programs request.program 0) (launch_arrival request) request.program request.streams told (walk.comings.answers_done s h tx request.pid tt held)) p
  arrived body tx s p = p

  place_heard : (o : Option Bool) (pid : ℕ) (s : ClientProcs) → At s → At (arriving.thaws_if pid o s)
  place_heard (Some moved) pid s p = thawed pid moved s p
  place_heard None pid s p = p

  -- Calls that processes come to

  answers : (about : About) (reply : Reply) (s : ClientProcs) → Safe reply → At s → At (procs_of.answers_here about.pid reply s)
  answers about reply s safe p = walk.calls.answers_here s h about.pid reply (NotSo safe) tt p

  executed : (o : Option ℕ) (about : About) (arg : ℕ) (s : ClientProcs) → At s → At (moving.execs_as about arg o s)
  executed (Some program) about arg s p = walk.calls.begins_here s h about program arg tt p
  executed None about arg s p = answers about (Error errnos.NoEntry) s refl p

  stayed : (o : Option ℕ) (about : About) (s : ClientProcs) → At s → At (moving.stays about o s)
  stayed (Some program) about s p = walk.calls.begins_here s h about program 0 tt p
  stayed None about s p = answers about (value 0 0) s refl p

  gone_if : (o : Option ℕ) (about : About) (program : Option ℕ) (s : ClientProcs) → At s → At (moving.goes_if about program o s)
  gone_if None about program s p = answers about (Error errnos.BadHost) s refl p
  gone_if (Some to) about program s p =
      let route : Route = record { to = to; about = Some about; program = program } in
      on_if (holds Nothing h) (holds_master about.pid s) (procs_of.answers_here about.pid (Error errnos.Busy) s) _ (λ e. answers about (Error errnos.Busy) s refl p)
      (λ e. on_if (holds Nothing h) (to == s.kernel) (moving.stays about program s) (freezing.freezes about.pid route s) (λ f. stayed program about s p) (λ f. walk.leaving.freezes s h about.pid route p))

  migrated : (about : About) (host : List ℕ) (program : Option ℕ) (s : ClientProcs) → At s → At (moving.moves_to_host about host program s)
  migrated about host program s p = gone_if (moving.client_named s.kernels host) about program s p

  sent_to_run : (o : Option ℕ) (about : About) (host : List ℕ) (s : ClientProcs) → At s → At (moving.rexecs_as about host o s)
  sent_to_run (Some program) about host s p = migrated about host (Some program) s p
  sent_to_run None about host s p = answers about (Error errnos.NoEntry) s refl p

  -- a read, write or command: of a pseudo-device, else of a file
  used_device : (allowed : Bool) (device : DeviceId) (about : About) (call : Call) (s : ClientProcs) → At s → At (issuing_calls.uses_by (asking.is_used_by (asking.device_aim device allowed)) about call (asking.uses_by about.pid (asking.device_aim device allowed) s))
  used_device true device about call s p = asked_by (asking.own_ask about.pid s) about.pid device s p
  used_device false device about call s p = answers about (Error errnos.BadMode) s refl p

  used_object : (object : Object) (allowed : Bool) (about : About) (call : Call) (s : ClientProcs) → came ≡ inputs.Issued about.pid about.number call → At s → At (issuing_calls.uses_by (asking.is_used_by (asking.data_aim object allowed)) about call (asking.uses_by about.pid (asking.data_aim object allowed) s))
  used_object (objects.Device device) allowed about call s e p = used_device allowed device about call s p
  used_object (objects.File file) allowed about call s e p = walk.files.uses_files s h about call None e tt p
  used_object (objects.Master device) allowed about call s e p = walk.files.uses_files s h about call None e tt p

  used_read : (o : Option Stream) (about : About) (call : Call) (s : ClientProcs) → came ≡ inputs.Issued about.pid about.number call → At s → At (issuing_calls.uses_by (asking.is_used_by (asking.read_aim o)) about call (asking.uses_by about.pid (asking.read_aim o) s))
  used_read (Some stream) about call s e p = used_object stream.object (reads stream.mode) about call s e p
  used_read None about call s e p = walk.files.uses_files s h about call None e tt p

  used_write : (o : Option Stream) (about : About) (call : Call) (s : ClientProcs) → came ≡ inputs.Issued about.pid about.number call → At s → At (issuing_calls.uses_by (asking.is_used_by (asking.write_aim o)) about call (asking.uses_by about.pid (asking.write_aim o) s))
  used_write (Some stream) about call s e p = used_object stream.object (writes stream.mode) about call s e p
  used_write None about call s e p = walk.files.uses_files s h about call None e tt p

  commanded : (object : Object) (about : About) (call : Call) (s : ClientProcs) → At s → At (issuing_calls.uses_by (asking.is_used_by (asking.command_on object)) about call (asking.uses_by about.pid (asking.command_on object) s))
  commanded (objects.Device device) about call s p = asked_by (asking.own_ask about.pid s) about.pid device s p
  commanded (objects.File file) about call s p = answers about (Error errnos.Invalid) s refl p
  commanded (objects.Master device) about call s p = answers about (Error errnos.BadMode) s refl p

  used_command : (o : Option Stream) (about : About) (call : Call) (s : ClientProcs) → At s → At (issuing_calls.uses_by (asking.is_used_by (asking.command_aim o)) about call (asking.uses_by about.pid (asking.command_aim o) s))
  used_command (Some stream) about call s p = commanded stream.object about call s p
  used_command None about call s p = answers about (Error errnos.BadFd) s refl p

  -- what masters do
  got_object : (object : Object) (pid max : ℕ) (s : ClientProcs) → At s → At (masters.gets_by pid max (masters.master_in object) s)
  got_object (objects.Master device) pid max s p = got_by pid device.number (masters.most max) s p
  got_object (objects.File file) pid max s p = walk.calls.answers_here s h pid (Error errnos.BadMode) (NotSo refl) tt p
  got_object (objects.Device device) pid max s p = walk.calls.answers_here s h pid (Error errnos.BadMode) (NotSo refl) tt p

  got_if : (o : Option Object) (pid max : ℕ) (s : ClientProcs) → At s → At (masters.gets_by pid max (masters.master_by o) s)
  got_if (Some object) pid max s p = got_object object pid max s p
  got_if None pid max s p = walk.calls.answers_here s h pid (Error errnos.BadFd) (NotSo refl) tt p

  put_object : (object : Object) (pid : ℕ) (bytes : List ℕ) (number : ℕ) (s : ClientProcs) → At s → At (masters.puts_by pid bytes number (masters.master_in object) s)
  put_object (objects.Master device) pid bytes number s p = put_to pid device.number bytes number s p
  put_object (objects.File file) pid bytes number s p = walk.calls.answers_here s h pid (Error errnos.BadMode) (NotSo refl) tt p
  put_object (objects.Device device) pid bytes number s p = walk.calls.answers_here s h pid (Error errnos.BadMode) (NotSo refl) tt p

  put_if : (o : Option Object) (pid : ℕ) (bytes : List ℕ) (number : ℕ) (s : ClientProcs) → At s → At (masters.puts_by pid bytes number (masters.master_by o) s)
  put_if (Some object) pid bytes number s p = put_object object pid bytes number s p
  put_if None pid bytes number s p = walk.calls.answers_here s h pid (Error errnos.BadFd) (NotSo refl) tt p

  -- the call's first step
  begun_other : (call : Call) (about : About) (s : ClientProcs) → came ≡ inputs.Issued about.pid about.number call → At s → At (issuing_calls.begins_other about call s)
  begun_other call about s is p =
      on_if (holds Nothing h) (issuing_calls.is_of_home call) (issuing.issues_home about.pid s) (issuing_calls.uses_files about call None s) (λ e. walk.home.issues s h about.pid p) (λ e. walk.files.uses_files s h about call None is tt p)

  begun : (call : Call) (about : About) (s : ClientProcs) → came ≡ inputs.Issued about.pid about.number call → At s → At (issuing_calls.begins about call s)
  begun (calls.Read fd many) about s e p = used_read (opened.stream_at about.pid fd s) about (calls.Read fd many) s e p
  begun (calls.Write fd bytes) about s e p = used_write (opened.stream_at about.pid fd s) about (calls.Write fd bytes) s e p
  begun (calls.Ioctl fd command bytes) about s e p = used_command (opened.stream_at about.pid fd s) about (calls.Ioctl fd command bytes) s p
  begun (calls.PdMake path) about s e p = walk.files.uses_files (making.makes_device about.pid s) h about (calls.PdMake path) (Some (making.next_device s)) e tt (walk.devices.makes_device s h about.pid tt p)
  begun (calls.PdGet fd max) about s e p = got_if (opened.object_at about.pid fd s) about.pid max s p
  begun (calls.PdPut fd bytes errno) about s e p = put_if (opened.object_at about.pid fd s) about.pid bytes errno s p
  begun (calls.Exec name arg) about s e p = executed (program_named s.programs name) about arg s p
  begun (calls.Migrate name) about s e p = migrated about name None s p
  begun (calls.Rexec name host) about s e p = sent_to_run (program_named s.programs name) about host s p
  begun calls.Getpid about s e p = answers about (value about.pid 0) s refl p
  begun (calls.Refused errno) about s e p = walk.calls.answers_here s h about.pid (Error errno) (Refused about.pid about.number errno e refl) tt p
  begun call about s e p = begun_other call about s e p

  issued : (about : About) (call : Call) (s : ClientProcs) → came ≡ inputs.Issued about.pid about.number call → At s → At (issuing_calls.issues about call s)
  issued about call s is p = by_test (issuing_calls.is_next about s) refl
    where
      by_test : (b : Bool) → issuing_calls.is_next about s ≡ b → At (cond (not b) s (issuing_calls.issues_next about call s))
      by_test false e = p
      by_test true e =
          let come : ClientProcs = issuing_calls.notes_issue about call (issuing_calls.comes_to about call s) in
          begun call about (evicting.counts_issue come) is (counted come (walk.calls.comes_to s h about call e tt p))

  -- What comes

  served : (body : Request) (tx : TxNo) (source : ℕ) (s : ClientProcs) → came ≡ inputs.Request tx source body → P s (holds (coming_if (arriving.brought body)) h) → At (hearing.serves tx body s)
  served (requests.Callback request) tx source s e p = walk.files.called_back s h tx request tt p
  served (requests.Home request) tx source s e p = walk.home.serves s h tx source request e p
  served (requests.Transfer request) tx source s e p = arrived (requests.Transfer request) tx s p
  served (requests.Launch request) tx source s e p = arrived (requests.Launch request) tx s p
  served (requests.Place pid kernel) tx source s e p = walk.home.tells_place s h tx pid kernel p
  served (requests.Killed pid) tx source s e p = walk.home.hears_kill s h tx pid p
  served (requests.Ask request) tx source s e p = ask_served tx source request s e p
  served body tx source s e p = p

  heard_for : (call : Unfinished) (tx : TxNo) (body : ReplyBody) (s : ClientProcs) → Put → P s (holds (heard (Some call) body s) h) → At (hearing.hears_for tx call body s)
  heard_for (unfinished.PageOut pid) tx body s put p = walk.leaving.leaves_on s h pid put p
  heard_for (unfinished.PageIn pid) tx body s put p = came_by (procs_of.proc_at pid s) pid tx body s p
  heard_for (unfinished.Home pid) tx body s put p = walk.home.hears s h tx pid body p
  heard_for (unfinished.Ask pid) tx body s put p = walk.calls.replies s h pid (words.reply_of body) tt p
  heard_for (unfinished.Death pid) tx body s put p = walk.home.ends s h pid None p
  heard_for (unfinished.Place pid) tx body s put p = place_heard (arriving.arriving pid s) pid s p
  heard_for (unfinished.Killed pid) tx body s put p = walk.home.kill_replied s h pid body p
  heard_for (unfinished.Transfer pid) tx body s put p = p

  heard_if : (o : Option Unfinished) (tx : TxNo) (body : ReplyBody) (s : ClientProcs) → Put → P s (holds (heard o body s) h) → At (hearing.hears_if tx o body s)
  heard_if (Some call) tx body s put p = heard_for call tx body s put p
  heard_if None tx body s put p = p

  -- the call is heard; what is in hand doesn't depend on it
  call_taken : (o : Option Unfinished) (tx : TxNo) (body : ReplyBody) (s : ClientProcs) → P s (holds (heard o body s) h) → P (record s { unfinished = less (is_under procs_of.is_call tx) s.unfinished }) (holds (heard o body (record s { unfinished = less (is_under procs_of.is_call tx) s.unfinished })) h)
  call_taken None tx body s p = walk.calls.takes_call s (holds Nothing h) tx tt p
  call_taken (Some (unfinished.Home pid)) tx body s p = walk.calls.takes_call s (holds (heard (Some (unfinished.Home pid)) body s) h) tx tt p
  call_taken (Some call) tx body s p = walk.calls.takes_call s (holds Nothing h) tx tt p

  -- an answer to a remote call of the processes' side
  pub heard_in : (tx : TxNo) (body : ReplyBody) (s : ClientProcs) → Put → P s (holds (heard (first_under procs_of.is_call tx s.unfinished) body s) h) → At (hearing.hears_own tx body s)
  heard_in tx body s put p =
      let call = first_under procs_of.is_call tx s.unfinished in
      heard_if call tx body (record s { unfinished = less (is_under procs_of.is_call tx) s.unfinished }) put (call_taken call tx body s p)

  -- what comes but an answer to a remote call, or the end of one
  pub taken_in : (input : Input) (s : ClientProcs) → came ≡ input → IsOther input → P s (holds (brought input s) h) → At (stepping.takes input s)
  taken_in (inputs.Issued pid number call) s e other p = issued (about_of pid number) call s e p
  taken_in (inputs.Request tx source body) s e other p = served body tx source s e p
  taken_in (inputs.Replied tx source body) s e other p = absurd other
  taken_in (inputs.GaveUp tx) s e other p = absurd other
  taken_in (inputs.Due file block) s e other p = walk.files.due_goes s h file block tt p
  taken_in (inputs.PageNeeded pid page) s e other p = page_needed pid page s p

  -- Rounds

  reports_first : (list : List Report) (s : ClientProcs) → s.files.results ≡ list → At s → At (turning.takes_of list s)
  reports_first [] s e p = p
  reports_first (reports.Moved pid place grant many ∷ rest) s e p = walk.leaving.has_moved s h pid place grant many rest e p
  reports_first (reports.MasterClosed device ∷ rest) s e p = master_closed device.number (record s { files = record s.files { results = rest } }) (walk.leaving.takes_report s h (reports.MasterClosed device) rest e refl p)
  reports_first (reports.AllClosed pid ∷ rest) s e p = walk.leaving.takes_ended (record s { files = record s.files { results = rest } }) h pid (walk.leaving.takes_report s h (reports.AllClosed pid) rest e refl p)

  reports_taken : (count : ℕ) (s : ClientProcs) → At s → At (turning.takes_turns count s)
  reports_taken zero s p = p
  reports_taken (suc count) s p = let before : ClientProcs = turning.takes_turns count s in reports_first before.files.results before refl (reports_taken count s p)

  replies_first : (rows : List (ℕ × Reply)) (s : ClientProcs) → s.files.out.replies ≡ rows → At s → At (turning.gives_of rows s)
  replies_first [] s e p = p
  replies_first (row ∷ rest) s e p =
      finished row.0 row.1 (record s { files = record s.files { out = record s.files.out { replies = rest } } }) (walk.files.takes_reply s h row rest e tt p)

  replies_given : (count : ℕ) (s : ClientProcs) → At s → At (turning.gives_turns count s)
  replies_given zero s p = p
  replies_given (suc count) s p = let before : ClientProcs = turning.gives_turns count s in replies_first before.files.out.replies before refl (replies_given count s p)

  -- the rest of a round, behind the turns of the files' side
  pub ends_in : (s : ClientProcs) → At s → At (turning.takes_all (turning.gives_all s))
  ends_in s p = let given : ClientProcs = turning.gives_all s in reports_taken (length given.files.results) given (replies_given (length s.procs) s p)

-- the same by the deeds of processes that leave

module _ (P : ClientProcs → Hand → Type 0) (came : Input) (walk : WalkApart P came) (h : Hand) where
  abbrev parts : WalkParts (Unit {0}) P came
  parts = parts_of P came walk

  pub entered_by : (device : ℕ) (ask : Ask) (s : ClientProcs) → P s (holds Nothing h) → P (asking.enters_by device ask s) (holds Nothing h)
  entered_by device ask s p = entered_in (Unit {0}) P came parts h device ask s p

  pub installed : (process : Process) (fresh : Bool) (streams : List CarriedStream) (s : ClientProcs) → P s (holds (Holding process.pid) h) → P (arriving.installs (record { process = process; fresh = fresh }) streams s) (holds Nothing h)
  installed process fresh streams s p = installed_in (Unit {0}) P came parts h process fresh streams s p

  pub launched : (o : Option Machine) (arrival : Arrival) (program : ℕ) (streams : List CarriedStream) (s : ClientProcs) → P s (holds (Holding arrival.pid) h) → P (arriving.installs_if (arriving.launched_with arrival program o) streams s) (holds Nothing h)
  launched o arrival program streams s p = launched_in (Unit {0}) P came parts h o arrival program streams s p

  pub walk_heard : (tx : TxNo) (body : ReplyBody) (s : ClientProcs) → P s (holds (heard (first_under procs_of.is_call tx s.unfinished) body s) h) → P (hearing.hears_own tx body s) (holds Nothing h)
  walk_heard tx body s p = heard_in (Unit {0}) P came parts h tx body s tt p

  pub other_taken : (input : Input) (s : ClientProcs) → came ≡ input → IsOther input → P s (holds (brought input s) h) → P (stepping.takes input s) (holds Nothing h)
  other_taken input s e other p = taken_in (Unit {0}) P came parts h input s e other p

  pub round_ends : (s : ClientProcs) → P s (holds Nothing h) → P (turning.takes_all (turning.gives_all s)) (holds Nothing h)
  round_ends s p = ends_in (Unit {0}) P came parts h s p

module _ (P : ClientProcs → Hand → Type 0) (came : Input) (walk : WalkWithin P came) (h : Hand) where
  abbrev AtRest : ClientProcs → Type 0
  AtRest s = P s (holds Nothing h)

  replied : (b : Bool) (tx : TxNo) (source : ℕ) (body : ReplyBody) (s : ClientProcs) → came ≡ inputs.Replied tx source body → owns tx s.files ≡ b → P s (holds (cond b Nothing (heard (first_under procs_of.is_call tx s.unfinished) body s)) h) → AtRest (cond b (says.with_files (file_answers.answered tx source body s.files) s) (hearing.hears_own tx body s))
  replied true tx source body s is e p = walk.turns.answered s h tx source body is e tt p
  replied false tx source body s is e p = walk_heard P came walk.apart h tx body s p

  taken : (input : Input) (s : ClientProcs) → came ≡ input → P s (holds (brought input s) h) → AtRest (stepping.takes input s)
  taken (inputs.Replied tx source body) s e p = replied (owns tx s.files) tx source body s e refl p
  taken (inputs.GaveUp tx) s e p = walk.turns.gives_up s h tx e tt p
  taken (inputs.Issued pid number call) s e p = other_taken P came walk.apart h (inputs.Issued pid number call) s e tt p
  taken (inputs.Request tx source body) s e p = other_taken P came walk.apart h (inputs.Request tx source body) s e tt p
  taken (inputs.Due file block) s e p = other_taken P came walk.apart h (inputs.Due file block) s e tt p
  taken (inputs.PageNeeded pid page) s e p = other_taken P came walk.apart h (inputs.PageNeeded pid page) s e tt p

  turned_if : (b : Bool) (s : ClientProcs) → turning.is_quiet s ≡ b → AtRest s → AtRest (cond b s (turning.takes_all (turning.gives_all (record s { files = file_turns.goes_on s.files }))))
  turned_if true s e p = p
  turned_if false s e p = round_ends P came walk.apart h (record s { files = file_turns.goes_on s.files }) (walk.turns.goes_on s h e tt p)

  rounds : (count : ℕ) (s : ClientProcs) → AtRest s → AtRest (turning.turns count s)
  rounds zero s p = p
  rounds (suc count) s p = let before : ClientProcs = turning.turns count s in turned_if (turning.is_quiet before) before refl (rounds count s p)

  -- what each part of the walk keeps, all rounds keep
  pub walk_rounds : (s : ClientProcs) → AtRest s → AtRest (turning.goes_on s)
  walk_rounds s p = rounds (turning.rounds_for s) s p

  -- and all that is done within a step, with what came in hand at first
  pub walk_within : (s : ClientProcs) → P s (holds (brought came s) h) → AtRest (turning.goes_on (stepping.takes came s))
  walk_within s p = walk_rounds (stepping.takes came s) (taken came s refl p)

-- what each deed keeps, an answer to a remote call of the processes' side keeps
pub heard_own : (P : ClientProcs → Hand → Type 0) (came : Input) → KeepsWithin came Always P → (h : Hand) (tx : TxNo) (body : ReplyBody) (s : ClientProcs) → P s (holds (heard (first_under procs_of.is_call tx s.unfinished) body s) h) → P (hearing.hears_own tx body s) (holds Nothing h)
heard_own P came keeps h tx body s p = walk_heard P came (apart_by_deeds P came keeps.apart) h tx body s p

-- and all rounds of a step
pub rounds_keep : (P : ClientProcs → Hand → Type 0) (came : Input) → KeepsWithin came Always P → (h : Hand) (s : ClientProcs) → P s (holds Nothing h) → P (turning.goes_on s) (holds Nothing h)
rounds_keep P came keeps h s p = walk_rounds P came (by_deeds P came keeps) h s p

-- and all that it does, from its beginning to its end, with what its input brings in hand at first
pub within_keeps : (P : ClientProcs → Hand → Type 0) (came : Input) → KeepsWithin came Always P → (h : Hand) (s : ClientProcs) → P s (holds (brought came s) h) → P (turning.goes_on (stepping.takes came s)) (holds Nothing h)
within_keeps P came keeps h s p = walk_within P came (by_deeds P came keeps) h s p

module _ (P : ClientProcs → Hand → Type 0) (steps : KeepsSteps Always P) (h : Hand) where
  -- A step

  begun_heard : (b : Bool) (o : Option Unfinished) (body : ReplyBody) (s : ClientProcs) (next : TxNo) (step : ℕ) → P s (holds (cond b Nothing (heard o body s)) h) → P (stepping.begins_step next step s) (holds (cond b Nothing (heard o body (stepping.begins_step next step s))) h)
  begun_heard true o body s next step p = steps.begins s (holds Nothing h) next step tt p
  begun_heard false (Some (unfinished.Home pid)) body s next step p = steps.begins s (holds (heard (Some (unfinished.Home pid)) body s) h) next step tt p
  begun_heard false (Some call) body s next step p = steps.begins s (holds Nothing h) next step tt p
  begun_heard false None body s next step p = steps.begins s (holds Nothing h) next step tt p

  begun_step : (input : Input) (s : ClientProcs) (next : TxNo) (step : ℕ) → P s (holds (brought input s) h) → P (stepping.begins_step next step s) (holds (brought input (stepping.begins_step next step s)) h)
  begun_step (inputs.Issued pid number call) s next step p = steps.begins s (holds Nothing h) next step tt p
  begun_step (inputs.Request tx source body) s next step p = steps.begins s (holds (coming_if (arriving.brought body)) h) next step tt p
  begun_step (inputs.Replied tx source body) s next step p = begun_heard (owns tx s.files) (first_under procs_of.is_call tx s.unfinished) body s next step p
  begun_step (inputs.GaveUp tx) s next step p = steps.begins s (holds Nothing h) next step tt p
  begun_step (inputs.Due file block) s next step p = steps.begins s (holds Nothing h) next step tt p
  begun_step (inputs.PageNeeded pid page) s next step p = steps.begins s (holds Nothing h) next step tt p

-- what each part of the walk keeps, a step has kept before it ends, with what came in hand at first
pub step_comes : (P : ClientProcs → Hand → Type 0) (came : Input) → Walk P came → (h : Hand) (s : ClientProcs) (next : TxNo) (step : ℕ) → P s (holds (brought came s) h) → P (turning.goes_on (stepping.takes came (stepping.begins_step next step s))) (holds Nothing h)
step_comes P came walk h s next step p = walk_within P came walk.within h (stepping.begins_step next step s) (begun_step P walk.steps h came s next step p)

-- and behind its end
pub step_walks : (P : ClientProcs → Hand → Type 0) (came : Input) → Walk P came → (h : Hand) (s : ClientProcs) (next : TxNo) (step : ℕ) → P s (holds (brought came s) h) → P (client_step s came next step).0 (holds Nothing h)
step_walks P came walk h s next step p = walk.steps.ends_step (turning.goes_on (stepping.takes came (stepping.begins_step next step s))) h tt (step_comes P came walk h s next step p)

-- what each deed keeps, each step does, with what its input brings in hand at first
pub step_keeps : (P : ClientProcs → Hand → Type 0) → Keeps Always P → (h : Hand) (s : ClientProcs) (input : Input) (next : TxNo) (step : ℕ) → P s (holds (brought input s) h) → P (client_step s input next step).0 (holds Nothing h)
step_keeps P keeps h s input next step p = step_walks P input (record { steps = keeps.steps; within = by_deeds P input (keeps.within input) }) h s next step p
