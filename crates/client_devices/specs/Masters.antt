-- What masters do with their pseudo-devices.
use Rattle.std.specs.Prelude.{ℕ, ◌==◌, nat_lt, if◌then◌else◌, List, [], ◌∷◌, ◌++◌, Option, Some, None}
use Rattle.sprite_ids.specs.declared.Errno.{Errno}
use Rattle.sprite_ids.specs.declared.Errno.TheVariants as errnos
use Rattle.sprite_ids.specs.declared.Object.{Object}
use Rattle.sprite_ids.specs.declared.Object.TheVariants as objects
use Rattle.process_machine.specs.declared.Reply.TheVariants.{Error}
use Rattle.pseudo_device.specs.declared.Answer.{Answer}
use Rattle.unix_calls.specs.DeviceCalls.{errno_of}
use Rattle.client_homes.specs.declared.ProcState.TheVariants as states
use Rattle.client_homes.specs.declared.ClientProcs.{ClientProcs}
use Rattle.client_homes.specs.Says.{value}
use Rattle.client_homes.specs.Procs.{answers_here, enters_own, in_state, replies}
use Rattle.client_devices.specs.declared.masters.Master.{Master}
use Rattle.client_devices.specs.declared.masters.Master.TheVariants.{Of, Refused}
use Rattle.client_devices.specs.Tables.{answer_at, puts_at}
use Rattle.client_devices.specs.Opened.{object_at}
use Rattle.client_devices.specs.Getting.{serves_getters}
use Rattle.client_devices.specs.Asking.{ends_ask}

-- what a call on a master's descriptor finds
abbrev pub master_in : Object → Master
master_in (objects.Master device) = Of device.number
master_in (objects.File file) = Refused errnos.BadMode
master_in (objects.Device device) = Refused errnos.BadMode

abbrev pub master_by : Option Object → Master
master_by (Some object) = master_in object
master_by None = Refused errnos.BadFd

abbrev pub master_of : ℕ → ℕ → ClientProcs → Master
master_of pid fd s = master_by (object_at pid fd s)

-- as many bytes as an ask may have there
abbrev pub most : ℕ → ℕ
most max = if nat_lt 65535 max then 65535 else max

-- a master waits for an ask, behind those that wait already
abbrev pub waits_for_ask : ℕ → ℕ → ℕ → ClientProcs → ClientProcs
waits_for_ask pid device max s = serves_getters device (record (in_state pid (states.Getting device max) s) { getters = s.getters ++ (device, pid) ∷ [] })

abbrev pub gets_by : ℕ → ℕ → Master → ClientProcs → ClientProcs
gets_by pid max (Of device) s = waits_for_ask pid device (most max) s
gets_by pid max (Refused errno) s = answers_here pid (Error errno) s

abbrev pub gets : ℕ → ℕ → ℕ → ClientProcs → ClientProcs
gets pid fd max s = gets_by pid max (master_of pid fd s) s

-- the master's call takes effect, and the ask ends with its answer
abbrev pub enters_put : ℕ → Answer → ClientProcs → ClientProcs
enters_put pid answer s = ends_ask answer.ask answer.reply (enters_own pid (value 0 0) s)

-- with that the ask isn't in hand any more
abbrev pub puts_and_ends : ℕ → ℕ → List ℕ → Option Errno → Answer → ClientProcs → ClientProcs
puts_and_ends pid device bytes errno answer s = enters_put pid answer (puts_at device bytes errno s)

-- where the ask in hand can have that answer
abbrev pub puts_if : ℕ → ℕ → List ℕ → Option Errno → Option Answer → ClientProcs → ClientProcs
puts_if pid device bytes errno (Some answer) s = replies pid (value 0 0) (puts_and_ends pid device bytes errno answer s)
puts_if pid device bytes errno None s = answers_here pid (Error errnos.Invalid) (puts_at device bytes errno s)

abbrev pub puts_with : ℕ → ℕ → List ℕ → Option Errno → ClientProcs → ClientProcs
puts_with pid device bytes errno s = puts_if pid device bytes errno (answer_at device bytes errno s) s

abbrev pub puts_error : ℕ → ℕ → List ℕ → Option Errno → ClientProcs → ClientProcs
puts_error pid device bytes (Some errno) s = puts_with pid device bytes (Some errno) s
puts_error pid device bytes None s = answers_here pid (Error errnos.Invalid) s

abbrev pub puts_to : ℕ → ℕ → List ℕ → ℕ → ClientProcs → ClientProcs
puts_to pid device bytes number s = if number == 0 then puts_with pid device bytes None s else puts_error pid device bytes (errno_of number) s

abbrev pub puts_by : ℕ → List ℕ → ℕ → Master → ClientProcs → ClientProcs
puts_by pid bytes number (Of device) s = puts_to pid device bytes number s
puts_by pid bytes number (Refused errno) s = answers_here pid (Error errno) s

abbrev pub puts : ℕ → ℕ → List ℕ → ℕ → ClientProcs → ClientProcs
puts pid fd bytes number s = puts_by pid bytes number (master_of pid fd s) s
