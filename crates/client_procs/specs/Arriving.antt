-- Processes that arrive.
use Rattle.std.specs.Prelude.{ℕ, ◌==◌, Bool, true, false, ◌&&◌, not, if◌then◌else◌, List, Option, Some, None, option_map}
use Rattle.std.specs.List.{list_any}
use Rattle.sprite_ids.specs.Pid.{home_of}
use Rattle.sprite_ids.specs.declared.TxNo.{TxNo}
use Rattle.kernel_steps.specs.Rows.{is_under}
use Rattle.process_machine.specs.Machine.{Machine}
use Rattle.packet_bodies.specs.declared.CarriedStream.{CarriedStream}
use Rattle.packet_bodies.specs.declared.ReplyBody.TheVariants.{Done}
use Rattle.packet_bodies.specs.declared.Request.{Request}
use Rattle.packet_bodies.specs.declared.Request.TheVariants.{Launch, Place, Transfer}
use Rattle.unix_calls.specs.declared.Event.TheVariants.{Thaw}
use Rattle.unix_calls.specs.declared.ProgramLine.{ProgramLine}
use Rattle.migrate_freeze.specs.declared.Arrival.{Arrival}
use Rattle.migrate_freeze.specs.declared.Process.{Process}
use Rattle.migrate_freeze.specs.Arriving.{arrived_of, launched_of, process_with, thawed}
use Rattle.client_homes.specs.declared.Proc.{Proc}
use Rattle.client_homes.specs.declared.ProcState.{ProcState}
use Rattle.client_homes.specs.declared.ProcState.TheVariants as states
use Rattle.client_homes.specs.declared.Unfinished.TheVariants as unfinished
use Rattle.client_homes.specs.declared.ClientProcs.{ClientProcs}
use Rattle.client_homes.specs.Says.{answers, next_tx, notes, sends, value, with_files}
use Rattle.client_homes.specs.Procs.{in_state, is_pid, killed_at, proc_at, replies}
use Rattle.client_homes.specs.Homes.{is_killed, is_native, moves_to}
use Rattle.client_homes.specs.Killing.{forgets_waiting}
use Rattle.client_homes.specs.Kills.{is_here}
use Rattle.client_homes.specs.Ends.{keeps_tx}
use Rattle.client_homes.specs.Births.{puts_proc}
use Rattle.client_files.specs.Arrivals as files
use Rattle.client_moves.specs.Paging.{answers_with_pages}
use Rattle.client_moves.specs.Returning.{goes_between}
use Rattle.client_procs.specs.declared.arriving.Coming.{Coming}
use Rattle.client_procs.specs.Launching.{fresh_image}

-- a process that starts its next program
abbrev pub launched : Arrival → ℕ → Machine → Option Coming
launched arrival program image = if not (image.number == program) then None else Some (record { process = process_with arrival image; fresh = true })

abbrev pub launched_with : Arrival → ℕ → Option Machine → Option Coming
launched_with arrival program (Some image) = launched arrival program image
launched_with arrival program None = None

-- a process as it was frozen
abbrev pub as_it_was : Process → Coming
as_it_was process = record { process = process; fresh = false }

abbrev pub coming_by : List ProgramLine → Arrival → Option ℕ → Option Coming
coming_by programs arrival (Some program) = launched_with arrival program (fresh_image programs program 0)
coming_by programs arrival None = option_map as_it_was (thawed arrival)

abbrev pub coming : List ProgramLine → Arrival → Option Coming
coming programs arrival = coming_by programs arrival (launched_of arrival.load)

-- the process as it is kept here
abbrev pub arrived_proc : Process → Bool → Proc
arrived_proc process fresh = record { number = process.number; image = process.image; fresh = fresh; killed = process.killed; evict = false; call = None; state = states.Ready }

-- whether its image was made anew
abbrev pub is_fresh_in : Option Proc → Bool
is_fresh_in (Some proc) = proc.fresh
is_fresh_in None = false

abbrev pub is_fresh : ℕ → ClientProcs → Bool
is_fresh pid s = is_fresh_in (proc_at pid s)

-- the process goes on
abbrev pub goes_on_by : ℕ → Bool → ClientProcs → ClientProcs
goes_on_by pid moving s =
    if not moving then goes_between pid s
    else if is_fresh pid s then replies pid (value 0 0) s
    else answers_with_pages pid (value 0 0) s

abbrev pub thaws : ℕ → Bool → ClientProcs → ClientProcs
thaws pid moving s = goes_on_by pid moving (in_state pid states.Ready (notes (Thaw pid) s))

-- the process is back at its home
abbrev pub knows_kill : ℕ → ClientProcs → ClientProcs
knows_kill pid s = if is_killed pid s then killed_at pid s else s

abbrev pub comes_home : ℕ → Bool → ClientProcs → ClientProcs
comes_home pid moving s = thaws pid moving (knows_kill pid (forgets_waiting pid (moves_to pid s.kernel s)))

-- its home is told where it is
abbrev pub tells_home : ℕ → Bool → ClientProcs → ClientProcs
tells_home pid moving s =
    in_state pid (states.Arriving (next_tx s) moving) (keeps_tx (next_tx s) (unfinished.Place pid) (sends (home_of pid) None (Place pid s.kernel) s))

-- it has its streams and its working directory here
abbrev pub has_streams : Process → List CarriedStream → ClientProcs → ClientProcs
has_streams process streams s = with_files (files.arrives process.pid process.cwd streams process.streams s.files) s

-- it goes on, here or at its home's word
unfoldable pub is_settled : ℕ → Bool → ClientProcs → ClientProcs
is_settled pid moving s = if is_native pid s then comes_home pid moving s else tells_home pid moving s

-- it is here from now on
abbrev pub puts_in : Coming → ClientProcs → ClientProcs
puts_in coming s =
    is_settled coming.process.pid coming.process.moving (puts_proc coming.process.pid (arrived_proc coming.process coming.fresh) s)

abbrev pub installs : Coming → List CarriedStream → ClientProcs → ClientProcs
installs coming streams s = puts_in coming (has_streams coming.process streams s)

abbrev pub installs_if : Option Coming → List CarriedStream → ClientProcs → ClientProcs
installs_if (Some coming) streams s = installs coming streams s
installs_if None streams s = s

abbrev pub takes_arrived : Arrival → ClientProcs → ClientProcs
takes_arrived arrival s = installs_if (coming s.programs arrival) arrival.streams s

-- another kernel sends it
abbrev pub takes_in : TxNo → Arrival → ClientProcs → ClientProcs
takes_in tx arrival s = takes_arrived arrival (answers tx Done s)

abbrev pub takes_if : TxNo → Option Arrival → ClientProcs → ClientProcs
takes_if tx (Some arrival) s = takes_in tx arrival s
takes_if tx None s = s

-- the process that a request brings
abbrev pub brought : Request → Option ℕ
brought (Transfer request) = Some request.pid
brought (Launch request) = Some request.pid
brought _ = None

-- whether the process is neither here nor on its way from here
abbrev pub is_new : ℕ → ClientProcs → Bool
is_new pid s = not (is_here pid s) && not (list_any (is_under is_pid pid) s.leaving)

-- it arrives, where it is so
abbrev pub arrives_as : TxNo → ℕ → Request → ClientProcs → ClientProcs
arrives_as tx pid body s = if not (is_new pid s) then s else takes_if tx (arrived_of body) s

abbrev pub arrives_if : TxNo → Option ℕ → Request → ClientProcs → ClientProcs
arrives_if tx (Some pid) body s = arrives_as tx pid body s
arrives_if tx None body s = s

abbrev pub arrives : TxNo → Request → ClientProcs → ClientProcs
arrives tx body s = arrives_if tx (brought body) body s

-- the home of a process that arrived has answered
abbrev pub moving_in : ProcState → Option Bool
moving_in (states.Arriving tx moving) = Some moving
moving_in _ = None

abbrev pub arriving_in : Option Proc → Option Bool
arriving_in (Some proc) = moving_in proc.state
arriving_in None = None

abbrev pub arriving : ℕ → ClientProcs → Option Bool
arriving pid s = arriving_in (proc_at pid s)

abbrev pub thaws_if : ℕ → Option Bool → ClientProcs → ClientProcs
thaws_if pid (Some moving) s = thaws pid moving s
thaws_if pid None s = s

abbrev pub hears_place : ℕ → ClientProcs → ClientProcs
hears_place pid s = thaws_if pid (arriving pid s) s
