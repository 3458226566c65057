-- Calls that processes come to.
use Rattle.std.specs.Prelude.{ℕ, ◌+◌, ◌==◌, Bool, true, false, ◌&&◌, not, if◌then◌else◌, Option, Some, None, option_map}
use Rattle.sprite_ids.specs.declared.DeviceId.{DeviceId}
use Rattle.process_machine.specs.declared.Call.{Call}
use Rattle.process_machine.specs.declared.Call.TheVariants as calls
use Rattle.process_machine.specs.declared.Reply.TheVariants.{Error}
use Rattle.unix_calls.specs.declared.About.{About}
use Rattle.unix_calls.specs.declared.Event.TheVariants.{Issue}
use Rattle.client_homes.specs.declared.Proc.{Proc}
use Rattle.client_homes.specs.declared.ProcState.TheVariants as states
use Rattle.client_homes.specs.declared.ClientProcs.{ClientProcs}
use Rattle.client_homes.specs.Says.{notes, value, with_files}
use Rattle.client_homes.specs.Procs.{answers_here, in_state, proc_at, with_proc}
use Rattle.client_homes.specs.Issuing.{issues_home}
use Rattle.client_devices.specs.Asking.{aim_of, is_used_by, uses_device}
use Rattle.client_devices.specs.Making.{makes_device, next_device}
use Rattle.client_devices.specs.Masters.{gets, puts}
use Rattle.client_files.specs.CallIssues as files
use Rattle.client_moves.specs.Evicting.{counts_issue, is_ready}
use Rattle.client_moves.specs.Returning.{number_at}
use Rattle.client_procs.specs.Moving.{execs, migrates, rexecs}

-- whether the number is the next one behind a looked-up one
abbrev pub is_behind : ℕ → Option ℕ → Bool
is_behind number (Some last) = number == last + 1
is_behind number None = false

-- whether the process is between two calls, and that one is its next
abbrev pub is_next : About → ClientProcs → Bool
is_next about s = is_ready about.pid s && is_behind about.number (number_at about.pid s)

-- the process is inside the call
abbrev pub inside : ℕ → Call → Proc → Proc
inside number call proc = record proc { number = number; call = Some call; state = states.Returning }

abbrev pub comes_to : About → Call → ClientProcs → ClientProcs
comes_to about call s = with_proc about.pid (option_map {T = Proc} (inside about.number call) (proc_at about.pid s)) s

abbrev pub notes_issue : About → Call → ClientProcs → ClientProcs
notes_issue about call s = notes (Issue about.pid about.number call) s

-- the files' side does the call
abbrev pub does_files : About → Call → Option DeviceId → ClientProcs → ClientProcs
does_files about call device s = with_files (files.issues about call device s.files) s

-- the call is one on files
abbrev pub uses_files : About → Call → Option DeviceId → ClientProcs → ClientProcs
uses_files about call device s = does_files about call device (in_state about.pid states.InFiles s)

-- a read, write or ioctl: of a pseudo-device, else of a file
abbrev pub uses_by : Bool → About → Call → ClientProcs → ClientProcs
uses_by true about call s = s
uses_by false about call s = uses_files about call None s

abbrev pub uses_stream : About → Call → ClientProcs → ClientProcs
uses_stream about call s = uses_by (is_used_by (aim_of about.pid call s)) about call (uses_device about.pid call s)

-- pd_make
abbrev pub makes : About → Call → ClientProcs → ClientProcs
makes about call s = uses_files about call (Some (next_device s)) (makes_device about.pid s)

-- whether the call is done at a home
abbrev pub is_of_home : Call → Bool
is_of_home (calls.Print bytes) = true
is_of_home (calls.Exit code) = true
is_of_home calls.BadStep = true
is_of_home calls.Getppid = true
is_of_home (calls.Host max) = true
is_of_home calls.Tick = true
is_of_home calls.Fork = true
is_of_home calls.Wait = true
is_of_home (calls.Kill pid) = true
is_of_home _ = false

abbrev pub begins_other : About → Call → ClientProcs → ClientProcs
begins_other about call s = if is_of_home call then issues_home about.pid s else uses_files about call None s

-- the call's first step
abbrev pub begins : About → Call → ClientProcs → ClientProcs
begins about (calls.Read fd many) s = uses_stream about (calls.Read fd many) s
begins about (calls.Write fd bytes) s = uses_stream about (calls.Write fd bytes) s
begins about (calls.Ioctl fd command bytes) s = uses_stream about (calls.Ioctl fd command bytes) s
begins about (calls.PdMake path) s = makes about (calls.PdMake path) s
begins about (calls.PdGet fd max) s = gets about.pid fd max s
begins about (calls.PdPut fd bytes errno) s = puts about.pid fd bytes errno s
begins about (calls.Exec name arg) s = execs about name arg s
begins about (calls.Migrate name) s = migrates about name s
begins about (calls.Rexec name host) s = rexecs about name host s
begins about calls.Getpid s = answers_here about.pid (value about.pid 0) s
begins about (calls.Refused errno) s = answers_here about.pid (Error errno) s
begins about call s = begins_other about call s

-- the process comes to that call
abbrev pub issues_next : About → Call → ClientProcs → ClientProcs
issues_next about call s = begins about call (counts_issue (notes_issue about call (comes_to about call s)))

-- where it may
abbrev pub issues : About → Call → ClientProcs → ClientProcs
issues about call s = if not (is_next about s) then s else issues_next about call s
