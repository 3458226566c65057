-- The deeds of a client's kernel, each with the tests that lead to it: what each of them keeps, every step keeps. A predicate is one of
-- the kernel's state and of what is in hand; another fact that is kept already may be leant on.
use Rattle.std.proofs.Common.{◌≡◌, ℕ, ◌+◌, ◌==◌, Bool, true, false, List, [], ◌∷◌, ◌++◌, Option, Some, None}
use Rattle.std.specs.List.{list_any}
use Rattle.sprite_ids.specs.declared.BlockNo.{BlockNo}
use Rattle.sprite_ids.specs.declared.DeviceId.{DeviceId}
use Rattle.sprite_ids.specs.declared.Errno.{Errno}
use Rattle.sprite_ids.specs.declared.Errno.TheVariants.{NoProcess}
use Rattle.sprite_ids.specs.declared.FileId.{FileId}
use Rattle.sprite_ids.specs.declared.Grant.{Grant}
use Rattle.sprite_ids.specs.declared.TxNo.{TxNo}
use Rattle.sprite_ids.specs.Lists.{less, without}
use Rattle.kernel_steps.specs.declared.Input.{Input}
use Rattle.kernel_steps.specs.declared.Input.TheVariants as inputs
use Rattle.kernel_steps.specs.Rows.{is_under}
use Rattle.process_machine.specs.declared.Call.{Call}
use Rattle.process_machine.specs.declared.Reply.{Reply}
use Rattle.process_machine.specs.declared.Reply.TheVariants.{Error}
use Rattle.process_machine.specs.Machine.{Machine}
use Rattle.packet_bodies.specs.declared.AskRequest.{AskRequest}
use Rattle.packet_bodies.specs.declared.CallbackRequest.{CallbackRequest}
use Rattle.packet_bodies.specs.declared.CarriedStream.{CarriedStream}
use Rattle.packet_bodies.specs.declared.HomeRequest.{HomeRequest}
use Rattle.packet_bodies.specs.declared.ReplyBody.{ReplyBody}
use Rattle.packet_bodies.specs.declared.ReplyBody.TheVariants.{Done, Gone}
use Rattle.packet_bodies.specs.declared.Request.TheVariants as requests
use Rattle.pseudo_device.specs.declared.ask.Ask.{Ask}
use Rattle.stream_table.specs.declared.Place.{Place}
use Rattle.unix_calls.specs.declared.About.{About}
use Rattle.unix_calls.specs.declared.Event.TheVariants.{Freeze, Thaw}
use Rattle.migrate_freeze.specs.declared.freeze.Freeze as frozen_type
use Rattle.migrate_freeze.specs.declared.frozen.MoveStep.{MoveStep}
use Rattle.migrate_freeze.specs.declared.process.Process.{Process}
use Rattle.migrate_freeze.specs.OneMove.{OneMove}
use Rattle.migrate_freeze.specs.Packing.{can_move}
use Rattle.client_file_tables.specs.declared.moves.Report.{Report}
use Rattle.client_file_tables.specs.declared.moves.Report.TheVariants as reports
use Rattle.client_file_tables.specs.Steps as tables_of_files
use Rattle.client_data.specs.Grants as file_grants
use Rattle.client_data.specs.WriteBacks as write_backs
use Rattle.client_names.specs.Answers as name_answers
use Rattle.client_files.specs.Answered as file_answers
use Rattle.client_files.specs.Turns as file_turns
use Rattle.client_homes.specs.declared.client.ClientProcs.{ClientProcs}
use Rattle.client_homes.specs.declared.client.KillState.{KillState}
use Rattle.client_homes.specs.declared.client.Leaving.{Leaving}
use Rattle.client_homes.specs.declared.client.Parked.{Parked}
use Rattle.client_homes.specs.declared.client.Unfinished.TheVariants as unfinished
use Rattle.client_homes.specs.declared.process.Proc.{Proc}
use Rattle.client_homes.specs.declared.process.ProcState.TheVariants as states
use Rattle.client_homes.specs.Births as births
use Rattle.client_homes.specs.Calls as calling
use Rattle.client_homes.specs.Ends as ending
use Rattle.client_homes.specs.Homes as homes
use Rattle.client_homes.specs.Issuing as issuing
use Rattle.client_homes.specs.Killing as killing
use Rattle.client_homes.specs.Kills as kills
use Rattle.client_homes.specs.Pages as pages
use Rattle.client_homes.specs.Procs as procs_of
use Rattle.client_homes.specs.Says as says
use Rattle.client_homes.specs.Says.{value}
use Rattle.client_homes.specs.Waits as waiting
use Rattle.client_homes.specs.Words as words
use Rattle.client_devices.specs.Asking as asking
use Rattle.client_devices.specs.Asks.{carried_ask}
use Rattle.client_devices.specs.Getting as getting
use Rattle.client_devices.specs.Making as making
use Rattle.client_devices.specs.Masters as masters
use Rattle.client_devices.specs.Tables as tables
use Rattle.client_moves.specs.declared.Route.{Route}
use Rattle.client_moves.specs.Carrying.{all_carried}
use Rattle.client_moves.specs.Freezing as freezing
use Rattle.client_moves.specs.Leaving as leaving_of
use Rattle.client_moves.specs.Paging as paging
use Rattle.client_moves.specs.Returning as returning
use Rattle.client_procs.specs.Arriving as arriving
use Rattle.client_procs.specs.Issues as issuing_calls
use Rattle.client_procs.specs.Moving as moving
use Rattle.client_procs.specs.Steps as stepping
use Rattle.client_procs.specs.Turning as turning
use Rattle.client_walks.specs.Hands.{Held, Nothing, Coming, Holding, hand_of, heard}
use Rattle.client_walks.proofs.ReplyLaws.{Caused, calls_unreachable}

-- what a step took in hand and hasn't put anywhere; between two steps it is nothing
pub record Hand : Type 0 where
  pub process : Held

abbrev pub nothing : Hand
nothing = record { process = Nothing }

-- with that process in hand, and what else is there
abbrev pub holds : Held → Hand → Hand
holds held h = record h { process = held }

-- steps as a whole
pub record KeepsSteps (F P : ClientProcs → Hand → Type 0) : Type 0 where
  pub begins : (s : ClientProcs) (h : Hand) (next : TxNo) (step : ℕ) → F s h → P s h → P (stepping.begins_step next step s) h
  pub ends_step : (s : ClientProcs) (h : Hand) → F s (holds Nothing h) → P s (holds Nothing h) → P (stepping.ends_step s) (holds Nothing h)

-- what the files' side does but with its own operations, where that input came
pub record KeepsFiles (came : Input) (F P : ClientProcs → Hand → Type 0) : Type 0 where
  pub uses_files : (s : ClientProcs) (h : Hand) (about : About) (call : Call) (device : Option DeviceId) → came ≡ inputs.Issued about.pid about.number call → F s (holds Nothing h) → P s (holds Nothing h) → P (issuing_calls.uses_files about call device s) (holds Nothing h)
  pub called_back : (s : ClientProcs) (h : Hand) (tx : TxNo) (request : CallbackRequest) → F s (holds Nothing h) → P s (holds Nothing h) → P (record s { files = file_grants.called_back tx request s.files }) (holds Nothing h)
  pub due_goes : (s : ClientProcs) (h : Hand) (file : FileId) (block : BlockNo) → F s (holds Nothing h) → P s (holds Nothing h) → P (record s { files = write_backs.due_goes file block s.files }) (holds Nothing h)
  pub takes_report : (s : ClientProcs) (h : Hand) (report : Report) (rest : List Report) → s.files.results ≡ report ∷ rest → F s (holds Nothing h) → P s (holds Nothing h) → P (record s { files = record s.files { results = rest } }) (holds Nothing h)
  pub takes_reply : (s : ClientProcs) (h : Hand) (row : ℕ × Reply) (rest : List (ℕ × Reply)) → s.files.out.replies ≡ row ∷ rest → F s (holds Nothing h) → P s (holds Nothing h) → P (record s { files = record s.files { out = record s.files.out { replies = rest } } }) (holds Nothing h)

-- what it does with its operations: an answer to a remote call or the end of one comes, where that input came, and who is woken goes on
pub record KeepsTurns (came : Input) (F P : ClientProcs → Hand → Type 0) : Type 0 where
  pub answered : (s : ClientProcs) (h : Hand) (tx : TxNo) (source : ℕ) (body : ReplyBody) → came ≡ inputs.Replied tx source body → tables_of_files.owns tx s.files ≡ true → F s (holds Nothing h) → P s (holds Nothing h) → P (record s { files = file_answers.answered tx source body s.files }) (holds Nothing h)
  pub gives_up : (s : ClientProcs) (h : Hand) (tx : TxNo) → came ≡ inputs.GaveUp tx → F s (holds Nothing h) → P s (holds Nothing h) → P (record s { files = name_answers.gives_up tx s.files }) (holds Nothing h)
  pub goes_on : (s : ClientProcs) (h : Hand) → turning.is_quiet s ≡ false → F s (holds Nothing h) → P s (holds Nothing h) → P (record s { files = file_turns.goes_on s.files }) (holds Nothing h)

-- calls that processes come to, and their replies, where that input came
pub record KeepsCalls (came : Input) (F P : ClientProcs → Hand → Type 0) : Type 0 where
  pub comes_to : (s : ClientProcs) (h : Hand) (about : About) (call : Call) → issuing_calls.is_next about s ≡ true → F s (holds Nothing h) → P s (holds Nothing h) → P (issuing_calls.notes_issue about call (issuing_calls.comes_to about call s)) (holds Nothing h)
  pub counts : (s : ClientProcs) (h : Hand) → F s (holds Nothing h) → P s (holds Nothing h) → P (record s { issues = s.issues + 1 }) (holds Nothing h)
  pub answers_here : (s : ClientProcs) (h : Hand) (pid : ℕ) (reply : Reply) → Caused came (calls_unreachable reply) → F s (holds Nothing h) → P s (holds Nothing h) → P (procs_of.answers_here pid reply s) (holds Nothing h)
  pub replies : (s : ClientProcs) (h : Hand) (pid : ℕ) (reply : Reply) → F s (holds Nothing h) → P s (holds Nothing h) → P (procs_of.replies pid reply s) (holds Nothing h)
  pub begins_here : (s : ClientProcs) (h : Hand) (about : About) (program arg : ℕ) → F s (holds Nothing h) → P s (holds Nothing h) → P (moving.begins_here about program arg s) (holds Nothing h)
  pub returns : (s : ClientProcs) (h : Hand) (pid : ℕ) (reply : Reply) → F s (holds Nothing h) → P s (holds Nothing h) → P (returning.notes_return pid reply (returning.has_returned pid reply s)) (holds Nothing h)
  pub flags_evict : (s : ClientProcs) (h : Hand) (pid : ℕ) (evict : Bool) → F s (holds Nothing h) → P s (holds Nothing h) → P (returning.with_evict evict pid s) (holds Nothing h)
  -- the answer to a remote call is heard
  pub takes_call : (s : ClientProcs) (h : Hand) (tx : TxNo) → F s h → P s h → P (record s { unfinished = less (is_under procs_of.is_call tx) s.unfinished }) h

-- calls at homes, births, waits and ends
pub record KeepsHomes (F P : ClientProcs → Hand → Type 0) : Type 0 where
  pub enters_home : (s : ClientProcs) (h : Hand) (request : HomeRequest) (reply : Reply) → calling.home_reply request s ≡ Some reply → F s (holds Nothing h) → P s (holds Nothing h) → P (waiting.enters_home request reply s) (holds Nothing h)
  pub ticks_for : (s : ClientProcs) (h : Hand) (request : HomeRequest) → F s (holds Nothing h) → P s (holds Nothing h) → P (calling.ticks_for request s) (holds Nothing h)
  pub forks : (s : ClientProcs) (h : Hand) (request : HomeRequest) → F s (holds Nothing h) → P s (holds Nothing h) → P (calling.forks request s) (holds (hand_of (homes.born_pid request.pid s)) h)
  pub waits : (s : ClientProcs) (h : Hand) (request : HomeRequest) → F s (holds Nothing h) → P s (holds Nothing h) → P (waiting.waits request s) (holds Nothing h)
  pub kills_living : (s : ClientProcs) (h : Hand) (request : HomeRequest) (target : ℕ) → homes.lives_at target s ≡ true → F s (holds Nothing h) → P s (holds Nothing h) → P (waiting.enters_home request (value 0 0) (homes.kills_at target s)) (holds Nothing h)
  pub kills_none : (s : ClientProcs) (h : Hand) (request : HomeRequest) (target : ℕ) → homes.lives_at target s ≡ false → F s (holds Nothing h) → P s (holds Nothing h) → P (waiting.enters_home request (Error NoProcess) (homes.kills_at target s)) (holds Nothing h)
  pub ends_by_exit : (s : ClientProcs) (h : Hand) (request : HomeRequest) (code : ℕ) → F s (holds Nothing h) → P s (holds Nothing h) → P (calling.ends_by_exit request code s) (holds Nothing h)
  pub ends_by_death : (s : ClientProcs) (h : Hand) (about : About) → F s (holds Nothing h) → P s (holds Nothing h) → P (ending.ends_by_death about s) (holds Nothing h)
  pub dies_elsewhere : (s : ClientProcs) (h : Hand) (about : About) → homes.is_native about.pid s ≡ false → F s (holds Nothing h) → P s (holds Nothing h) → P (ending.dies_elsewhere about s) (holds Nothing h)
  pub ends : (s : ClientProcs) (h : Hand) (pid : ℕ) (about : Option About) → F s (holds Nothing h) → P s (holds Nothing h) → P (ending.ends pid about s) (holds Nothing h)
  pub takes_waiter : (s : ClientProcs) (h : Hand) (pid : ℕ) → F s (holds Nothing h) → P s (holds Nothing h) → P (record s { waits = less (is_under procs_of.is_pid pid) s.waits }) (holds Nothing h)
  pub ends_wait : (s : ClientProcs) (h : Hand) (pid : ℕ) (tx : Option TxNo) (reply : Reply) → F s (holds Nothing h) → P s (holds Nothing h) → P (waiting.ends_wait pid tx reply s) (holds Nothing h)
  pub parks : (s : ClientProcs) (h : Hand) (pid : ℕ) (parked : Parked) → F s (holds Nothing h) → P s (holds Nothing h) → P (waiting.parks pid parked s) (holds Nothing h)
  pub parks_here : (s : ClientProcs) (h : Hand) (request : HomeRequest) → F s (holds Nothing h) → P s (holds Nothing h) → P (issuing.parks_here request s) (holds Nothing h)
  pub fetches_for_fork : (s : ClientProcs) (h : Hand) (pid page : ℕ) → F s (holds Nothing h) → P s (holds Nothing h) → P (pages.fetches_for_fork pid page s) (holds Nothing h)
  pub asks_home : (s : ClientProcs) (h : Hand) (kernel : ℕ) (request : HomeRequest) → (kernel == s.home.home) ≡ false → F s (holds Nothing h) → P s (holds Nothing h) → P (issuing.asks_home kernel request s) (holds Nothing h)
  pub answers : (s : ClientProcs) (h : Hand) (tx : TxNo) (reply : Reply) → F s (holds Nothing h) → P s (holds Nothing h) → P (says.answers tx (words.packet_of reply) s) (holds Nothing h)
  -- the home's answer to a `fork` takes the child to another kernel
  pub hands_on : (s : ClientProcs) (h : Hand) (tx : TxNo) (o : Option ℕ) → F s (holds (hand_of o) h) → P s (holds (hand_of o) h) → P (says.answers tx (words.packet_of (calling.born_reply o)) s) (holds Nothing h)
  pub forgets_fork : (s : ClientProcs) (h : Hand) (tx : TxNo) → F s h → P s h → P (issuing.forgets_fork tx s) h
  pub forgets_early : (s : ClientProcs) (h : Hand) (tx : TxNo) → F s (holds Nothing h) → P s (holds Nothing h) → P (births.forgets_early tx s) (holds Nothing h)
  pub places_child : (s : ClientProcs) (h : Hand) (parent child : ℕ) (image : Machine) → births.child_image parent s ≡ Some image → F s (holds (Holding child) h) → P s (holds (Holding child) h) → P (births.puts_proc child (births.child_of image) (births.copies_cwd parent child (births.forks_streams parent child s))) (holds Nothing h)
  pub meets_early : (s : ClientProcs) (h : Hand) (child : ℕ) → F s (holds Nothing h) → P s (holds Nothing h) → P (procs_of.killed_at child (record s { early = without (is_under procs_of.is_pid child) s.early })) (holds Nothing h)
  -- a process that can't be put anywhere
  pub lets_go : (s : ClientProcs) (h : Hand) (pid : ℕ) → F s (holds (Holding pid) h) → P s (holds (Holding pid) h) → P s (holds Nothing h)

-- kills
pub record KeepsKills (F P : ClientProcs → Hand → Type 0) : Type 0 where
  pub flags : (s : ClientProcs) (h : Hand) (pid : ℕ) → F s (holds Nothing h) → P s (holds Nothing h) → P (procs_of.killed_at pid s) (holds Nothing h)
  pub breaks_off : (s : ClientProcs) (h : Hand) (pid device max : ℕ) (proc : Proc) → procs_of.proc_at pid s ≡ Some proc → proc.state ≡ states.Getting device max → F s (holds Nothing h) → P s (holds Nothing h) → P (kills.breaks_off pid device s) (holds Nothing h)
  pub notes_kill : (s : ClientProcs) (h : Hand) (pid : ℕ) (kill : KillState) → F s (holds Nothing h) → P s (holds Nothing h) → P (killing.notes_kill pid kill s) (holds Nothing h)
  pub forgets_kill : (s : ClientProcs) (h : Hand) (pid : ℕ) → F s (holds Nothing h) → P s (holds Nothing h) → P (killing.forgets_kill pid s) (holds Nothing h)
  pub goes_after : (s : ClientProcs) (h : Hand) (about : Option About) (pid place : ℕ) → F s (holds Nothing h) → P s (holds Nothing h) → P (kills.goes_after about pid place s) (holds Nothing h)
  pub hears_here : (s : ClientProcs) (h : Hand) (tx : TxNo) (pid : ℕ) → kills.is_here pid s ≡ true → F s (holds Nothing h) → P s (holds Nothing h) → P (says.answers tx Done (procs_of.killed_at pid s)) (holds Nothing h)
  pub hears_gone : (s : ClientProcs) (h : Hand) (tx : TxNo) (pid : ℕ) → kills.is_here pid s ≡ false → F s (holds Nothing h) → P s (holds Nothing h) → P (says.answers tx Gone (kills.notes_early pid s)) (holds Nothing h)
  pub tells_place : (s : ClientProcs) (h : Hand) (tx : TxNo) (pid kernel : ℕ) → F s (holds Nothing h) → P s (holds Nothing h) → P (says.answers tx Done (homes.moves_to pid kernel s)) (holds Nothing h)

-- pseudo-devices, where that input came
pub record KeepsDevices (came : Input) (F P : ClientProcs → Hand → Type 0) : Type 0 where
  pub asks_here : (s : ClientProcs) (h : Hand) (pid : ℕ) (ask : Ask) → F s (holds Nothing h) → P s (holds Nothing h) → P (asking.notes_ask ask None (procs_of.in_state pid (states.InAsk None) s)) (holds Nothing h)
  pub asks_for : (s : ClientProcs) (h : Hand) (tx : TxNo) (source : ℕ) (request : AskRequest) → came ≡ inputs.Request tx source (requests.Ask request) → F s (holds Nothing h) → P s (holds Nothing h) → P (asking.notes_ask (carried_ask request) (Some tx) s) (holds Nothing h)
  pub waits_at : (s : ClientProcs) (h : Hand) (device : ℕ) (ask : Ask) → tables.is_alive_at device s ≡ true → F s (holds Nothing h) → P s (holds Nothing h) → P (tables.waits_at device ask s) (holds Nothing h)
  pub ends_ask : (s : ClientProcs) (h : Hand) (ask : Ask) (reply : Reply) → F s (holds Nothing h) → P s (holds Nothing h) → P (asking.ends_ask ask reply s) (holds Nothing h)
  pub serves_getter : (s : ClientProcs) (h : Hand) (device pid : ℕ) → getting.first_getter device s ≡ Some pid → F s (holds Nothing h) → P s (holds Nothing h) → P (getting.serves_getter device pid s) (holds Nothing h)
  pub sends_ask : (s : ClientProcs) (h : Hand) (pid : ℕ) (request : AskRequest) → F s (holds Nothing h) → P s (holds Nothing h) → P (asking.sends_ask pid request s) (holds Nothing h)
  pub waits_for_ask : (s : ClientProcs) (h : Hand) (pid device max : ℕ) → F s (holds Nothing h) → P s (holds Nothing h) → P (record (procs_of.in_state pid (states.Getting device max) s) { getters = s.getters ++ (device, pid) ∷ [] }) (holds Nothing h)
  pub puts_with : (s : ClientProcs) (h : Hand) (pid device : ℕ) (bytes : List ℕ) (errno : Option Errno) → F s (holds Nothing h) → P s (holds Nothing h) → P (masters.puts_with pid device bytes errno s) (holds Nothing h)
  pub left_at : (s : ClientProcs) (h : Hand) (device : ℕ) → F s (holds Nothing h) → P s (holds Nothing h) → P (tables.left_at device s) (holds Nothing h)
  pub makes_device : (s : ClientProcs) (h : Hand) (pid : ℕ) → F s (holds Nothing h) → P s (holds Nothing h) → P (making.makes_device pid s) (holds Nothing h)
  pub ends_making : (s : ClientProcs) (h : Hand) (pid : ℕ) (reply : Reply) → F s (holds Nothing h) → P s (holds Nothing h) → P (making.ends_making pid reply s) (holds Nothing h)

-- processes that leave
pub record KeepsMoves (F P : ClientProcs → Hand → Type 0) : Type 0 where
  pub freezes : (s : ClientProcs) (h : Hand) (pid : ℕ) (route : Route) → can_move (all_carried pid s) ≡ true → F s (holds Nothing h) → P s (holds Nothing h) → P (freezing.enters_move pid route.about (says.notes (Freeze pid) s)) (holds Nothing h)
  pub takes_proc : (s : ClientProcs) (h : Hand) (pid : ℕ) (proc : Proc) → procs_of.proc_at pid s ≡ Some proc → F s (holds Nothing h) → P s (holds Nothing h) → P (freezing.takes_proc pid s) (holds (Holding pid) h)
  pub takes_none : (s : ClientProcs) (h : Hand) (pid : ℕ) → procs_of.proc_at pid s ≡ None → F s (holds Nothing h) → P s (holds Nothing h) → P (freezing.takes_proc pid s) (holds Nothing h)
  -- all descriptors of a process that has ended are closed
  pub takes_ended : (s : ClientProcs) (h : Hand) (pid : ℕ) → F s (holds Nothing h) → P s (holds Nothing h) → P (freezing.takes_proc pid s) (holds Nothing h)
  pub puts_page : (s : ClientProcs) (h : Hand) (pid page : ℕ) (bytes : List ℕ) → F s (holds (Holding pid) h) → P s (holds (Holding pid) h) → P (freezing.puts_page pid page bytes s) (holds (Holding pid) h)
  pub drops_cwd : (s : ClientProcs) (h : Hand) (pid : ℕ) → F s (holds (Holding pid) h) → P s (holds (Holding pid) h) → P (freezing.drops_cwd pid s) (holds (Holding pid) h)
  pub keeps_leaving : (s : ClientProcs) (h : Hand) (pid : ℕ) (step : MoveStep) (about : Option About) → F s (holds (Holding pid) h) → P s (holds (Holding pid) h) → P (leaving_of.keeps_leaving pid step about s) (holds Nothing h)
  pub takes_leaving : (s : ClientProcs) (h : Hand) (pid : ℕ) (found : Leaving) → leaving_of.leaving_at pid s ≡ Some found → F s (holds Nothing h) → P s (holds Nothing h) → P (leaving_of.takes_leaving pid s) (holds (Holding pid) h)
  pub leaves_none : (s : ClientProcs) (h : Hand) (pid : ℕ) → leaving_of.leaving_at pid s ≡ None → F s (holds Nothing h) → P s (holds Nothing h) → P (leaving_of.takes_leaving pid s) (holds Nothing h)
  pub begins_move : (s : ClientProcs) (h : Hand) (pid : ℕ) (one : OneMove) (about : Option About) → F s (holds (Holding pid) h) → P s (holds (Holding pid) h) → P (leaving_of.begins_move pid one about s) (holds (Holding pid) h)
  pub sends_process : (s : ClientProcs) (h : Hand) (pid : ℕ) (sent : frozen_type.Freeze) (about : Option About) → list_any (leaving_of.is_page_out pid) s.unfinished ≡ false → F s (holds (Holding pid) h) → P s (holds (Holding pid) h) → P (leaving_of.sends_process sent about s) (holds Nothing h)

-- processes that come, and pages
pub record KeepsComings (F P : ClientProcs → Hand → Type 0) : Type 0 where
  -- a process that isn't known here is taken in
  pub brings : (s : ClientProcs) (h : Hand) (pid : ℕ) → arriving.is_new pid s ≡ true → F s (holds (Coming pid) h) → P s (holds (Coming pid) h) → P s (holds (Holding pid) h)
  pub refuses : (s : ClientProcs) (h : Hand) (pid : ℕ) → arriving.is_new pid s ≡ false → F s (holds (Coming pid) h) → P s (holds (Coming pid) h) → P s (holds Nothing h)
  pub answers_done : (s : ClientProcs) (h : Hand) (tx : TxNo) (pid : ℕ) → F s (holds (Holding pid) h) → P s (holds (Holding pid) h) → P (says.answers tx Done s) (holds (Holding pid) h)
  pub has_streams : (s : ClientProcs) (h : Hand) (process : Process) (streams : List CarriedStream) → F s (holds (Holding process.pid) h) → P s (holds (Holding process.pid) h) → P (arriving.has_streams process streams s) (holds (Holding process.pid) h)
  pub puts_in : (s : ClientProcs) (h : Hand) (process : Process) (fresh : Bool) → F s (holds (Holding process.pid) h) → P s (holds (Holding process.pid) h) → P (births.puts_proc process.pid (arriving.arrived_proc process fresh) s) (holds Nothing h)
  pub comes_home : (s : ClientProcs) (h : Hand) (pid : ℕ) → homes.is_native pid s ≡ true → F s (holds Nothing h) → P s (holds Nothing h) → P (homes.moves_to pid s.kernel s) (holds Nothing h)
  pub thaws : (s : ClientProcs) (h : Hand) (pid : ℕ) → F s (holds Nothing h) → P s (holds Nothing h) → P (procs_of.in_state pid states.Ready (says.notes (Thaw pid) s)) (holds Nothing h)
  pub tells_home : (s : ClientProcs) (h : Hand) (pid : ℕ) (moved : Bool) → homes.is_native pid s ≡ false → F s (holds Nothing h) → P s (holds Nothing h) → P (arriving.tells_home pid moved s) (holds Nothing h)
  pub waits_for_page : (s : ClientProcs) (h : Hand) (pid page : ℕ) → paging.lacks pid page s ≡ true → F s (holds Nothing h) → P s (holds Nothing h) → P (paging.waits_for_page pid page s) (holds Nothing h)
  pub has_page : (s : ClientProcs) (h : Hand) (pid page : ℕ) (body : ReplyBody) → F s (holds Nothing h) → P s (holds Nothing h) → P (paging.has_page pid page body s) (holds Nothing h)
  pub is_ready : (s : ClientProcs) (h : Hand) (pid : ℕ) → F s (holds Nothing h) → P s (holds Nothing h) → P (procs_of.in_state pid states.Ready s) (holds Nothing h)
  pub fetches_for_answer : (s : ClientProcs) (h : Hand) (pid page : ℕ) (reply : Reply) → F s (holds Nothing h) → P s (holds Nothing h) → P (paging.fetches_for_answer pid page reply s) (holds Nothing h)

-- all that is done within a step but with the operations of the files' side, where that input came
pub record KeepsApart (came : Input) (F P : ClientProcs → Hand → Type 0) : Type 0 where
  pub files : KeepsFiles came F P
  pub calls : KeepsCalls came F P
  pub homes : KeepsHomes F P
  pub kills : KeepsKills F P
  pub devices : KeepsDevices came F P
  pub moves : KeepsMoves F P
  pub comings : KeepsComings F P

-- and with these operations
pub record KeepsWithin (came : Input) (F P : ClientProcs → Hand → Type 0) : Type 0 where
  pub apart : KeepsApart came F P
  pub turns : KeepsTurns came F P

-- all of these
pub record Keeps (F P : ClientProcs → Hand → Type 0) : Type 0 where
  pub steps : KeepsSteps F P
  pub within : (came : Input) → KeepsWithin came F P

-- what is always so
abbrev pub Always : ClientProcs → Hand → Type 0
Always s hand = Unit {0}

-- what is done at homes and with kills, each function as a whole; `came` is what the step was given
pub record KeepsAtHome (P : ClientProcs → Hand → Type 0) (came : Input) : Type 0 where
  pub dies : (s : ClientProcs) (h : Hand) (pid : ℕ) → P s (holds Nothing h) → P (ending.dies pid s) (holds Nothing h)
  pub issues : (s : ClientProcs) (h : Hand) (pid : ℕ) → P s (holds Nothing h) → P (issuing.issues_home pid s) (holds Nothing h)
  pub serves : (s : ClientProcs) (h : Hand) (tx : TxNo) (source : ℕ) (request : HomeRequest) → came ≡ inputs.Request tx source (requests.Home request) → P s (holds Nothing h) → P (issuing.serves_home tx request s) (holds Nothing h)
  pub hears : (s : ClientProcs) (h : Hand) (tx : TxNo) (pid : ℕ) (body : ReplyBody) → P s (holds (heard (Some (unfinished.Home pid)) body s) h) → P (issuing.hears_home tx pid body s) (holds Nothing h)
  pub hears_kill : (s : ClientProcs) (h : Hand) (tx : TxNo) (pid : ℕ) → P s (holds Nothing h) → P (kills.hears_kill tx pid s) (holds Nothing h)
  pub kill_replied : (s : ClientProcs) (h : Hand) (pid : ℕ) (body : ReplyBody) → P s (holds Nothing h) → P (kills.kill_replied pid body s) (holds Nothing h)
  pub tells_place : (s : ClientProcs) (h : Hand) (tx : TxNo) (pid kernel : ℕ) → P s (holds Nothing h) → P (kills.tells_place tx pid kernel s) (holds Nothing h)
  pub ends : (s : ClientProcs) (h : Hand) (pid : ℕ) (about : Option About) → P s (holds Nothing h) → P (ending.ends pid about s) (holds Nothing h)
  pub forgets_waiting : (s : ClientProcs) (h : Hand) (pid : ℕ) → P s (holds Nothing h) → P (killing.forgets_waiting pid s) (holds Nothing h)
  pub flags : (s : ClientProcs) (h : Hand) (pid : ℕ) → P s (holds Nothing h) → P (procs_of.killed_at pid s) (holds Nothing h)
  pub lets_go : (s : ClientProcs) (h : Hand) (pid : ℕ) → P s (holds (Holding pid) h) → P s (holds Nothing h)

-- what a walk through what is done within a step, but with the operations of the files' side, must keep that was given that: what is done at
-- homes as a whole, and the deeds of the rest
pub record WalkApart (P : ClientProcs → Hand → Type 0) (came : Input) : Type 0 where
  pub files : KeepsFiles came Always P
  pub calls : KeepsCalls came Always P
  pub home : KeepsAtHome P came
  pub devices : KeepsDevices came Always P
  pub moves : KeepsMoves Always P
  pub comings : KeepsComings Always P

-- what is done at homes and with kills goes by these
pub record KeepsHomeDeeds (came : Input) (P : ClientProcs → Hand → Type 0) : Type 0 where
  pub calls : KeepsCalls came Always P
  pub homes : KeepsHomes Always P
  pub kills : KeepsKills Always P

-- what the files' side does but with its own operations and its reports, where that input came
pub record KeepsUses (came : Input) (P : ClientProcs → Hand → Type 0) : Type 0 where
  pub uses_files : (s : ClientProcs) (h : Hand) (about : About) (call : Call) (device : Option DeviceId) → came ≡ inputs.Issued about.pid about.number call → Always s (holds Nothing h) → P s (holds Nothing h) → P (issuing_calls.uses_files about call device s) (holds Nothing h)
  pub called_back : (s : ClientProcs) (h : Hand) (tx : TxNo) (request : CallbackRequest) → Always s (holds Nothing h) → P s (holds Nothing h) → P (record s { files = file_grants.called_back tx request s.files }) (holds Nothing h)
  pub due_goes : (s : ClientProcs) (h : Hand) (file : FileId) (block : BlockNo) → Always s (holds Nothing h) → P s (holds Nothing h) → P (record s { files = write_backs.due_goes file block s.files }) (holds Nothing h)
  pub takes_reply : (s : ClientProcs) (h : Hand) (row : ℕ × Reply) (rest : List (ℕ × Reply)) → s.files.out.replies ≡ row ∷ rest → Always s (holds Nothing h) → P s (holds Nothing h) → P (record s { files = record s.files { out = record s.files.out { replies = rest } } }) (holds Nothing h)

-- whether it is reported that a stream has moved
abbrev pub tells_move : Report → Bool
tells_move (reports.Moved pid place grant many) = true
tells_move (reports.MasterClosed device) = false
tells_move (reports.AllClosed pid) = false

-- processes that are frozen and leave, each function as a whole; where it may be that a page of one was put
pub record KeepsLeaving (Put : Type 0) (P : ClientProcs → Hand → Type 0) : Type 0 where
  pub leaves_on : (s : ClientProcs) (h : Hand) (pid : ℕ) → Put → P s (holds Nothing h) → P (leaving_of.leaves_on pid s) (holds Nothing h)
  pub has_moved : (s : ClientProcs) (h : Hand) (pid : ℕ) (place : Place) (grant : Option Grant) (many : ℕ) (rest : List Report) → s.files.results ≡ reports.Moved pid place grant many ∷ rest → P s (holds Nothing h)
      → P (leaving_of.has_moved pid place grant many (record s { files = record s.files { results = rest } })) (holds Nothing h)
  pub freezes : (s : ClientProcs) (h : Hand) (pid : ℕ) (route : Route) → P s (holds Nothing h) → P (freezing.freezes pid route s) (holds Nothing h)
  pub takes_report : (s : ClientProcs) (h : Hand) (report : Report) (rest : List Report) → s.files.results ≡ report ∷ rest → tells_move report ≡ false → P s (holds Nothing h) → P (record s { files = record s.files { results = rest } }) (holds Nothing h)
  pub takes_ended : (s : ClientProcs) (h : Hand) (pid : ℕ) → P s (holds Nothing h) → P (freezing.takes_proc pid s) (holds Nothing h)

-- the walk with what is done at homes and with processes that leave as a whole
pub record WalkParts (Put : Type 0) (P : ClientProcs → Hand → Type 0) (came : Input) : Type 0 where
  pub files : KeepsUses came P
  pub calls : KeepsCalls came Always P
  pub home : KeepsAtHome P came
  pub devices : KeepsDevices came Always P
  pub leaving : KeepsLeaving Put P
  pub comings : KeepsComings Always P

-- and with these operations
pub record WalkWithin (P : ClientProcs → Hand → Type 0) (came : Input) : Type 0 where
  pub apart : WalkApart P came
  pub turns : KeepsTurns came Always P

-- and with its beginning and end
pub record Walk (P : ClientProcs → Hand → Type 0) (came : Input) : Type 0 where
  pub steps : KeepsSteps Always P
  pub within : WalkWithin P came

-- both
abbrev pub Both : (ClientProcs → Hand → Type 0) → (ClientProcs → Hand → Type 0) → ClientProcs → Hand → Type 0
Both F P s hand = F s hand × P s hand
