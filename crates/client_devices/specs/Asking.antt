-- Asks of pseudo-devices, from the call to its reply.
use Rattle.std.specs.Prelude.{ℕ, ◌==◌, Bool, true, false, not, if◌then◌else◌, ◌&&◌, [], ◌∷◌, ◌++◌, Option, Some, None}
use Rattle.sprite_ids.specs.declared.DeviceId.{DeviceId}
use Rattle.sprite_ids.specs.declared.Errno.TheVariants as errnos
use Rattle.sprite_ids.specs.declared.Object.{Object}
use Rattle.sprite_ids.specs.declared.Object.TheVariants as objects
use Rattle.sprite_ids.specs.declared.TxNo.{TxNo}
use Rattle.sprite_ids.specs.Lists.{less}
use Rattle.kernel_steps.specs.Rows.{first_under, is_under}
use Rattle.process_machine.specs.declared.Call.{Call}
use Rattle.process_machine.specs.declared.Call.TheVariants as calls
use Rattle.process_machine.specs.declared.Reply.{Reply}
use Rattle.process_machine.specs.declared.Reply.TheVariants.{Error}
use Rattle.packet_bodies.specs.declared.AskRequest.{AskRequest}
use Rattle.packet_bodies.specs.declared.Request.TheVariants as requests
use Rattle.pseudo_device.specs.declared.Ask.{Ask}
use Rattle.stream_table.specs.declared.Stream.{Stream}
use Rattle.unix_calls.specs.declared.About.{About}
use Rattle.unix_calls.specs.declared.Event.TheVariants.{Enter}
use Rattle.unix_calls.specs.declared.Part.TheVariants as parts
use Rattle.unix_calls.specs.Opening.{reads, writes}
use Rattle.client_homes.specs.declared.Proc.{Proc}
use Rattle.client_homes.specs.declared.ProcState.TheVariants as states
use Rattle.client_homes.specs.declared.Unfinished.TheVariants as unfinished
use Rattle.client_homes.specs.declared.ClientProcs.{ClientProcs}
use Rattle.client_homes.specs.Says.{answers, next_tx, notes, sends}
use Rattle.client_homes.specs.Words.{packet_of}
use Rattle.client_homes.specs.Procs.{answers_here, in_state, proc_at, replies}
use Rattle.client_homes.specs.Ends.{keeps_tx}
use Rattle.client_devices.specs.declared.asking.Aim.{Aim}
use Rattle.client_devices.specs.declared.asking.Aim.TheVariants.{Files, Refused, Device}
use Rattle.client_devices.specs.Asks.{ask_of, asked_call, carried_ask, packed_ask}
use Rattle.client_devices.specs.Tables.{is_alive_at, waits_at}
use Rattle.client_devices.specs.Opened.{stream_at}
use Rattle.client_devices.specs.Getting.{serves_getters}

-- the process and the call that the ask is of
abbrev pub about_ask : Ask → About
about_ask ask = record { pid = ask.pid; number = ask.number }

-- whether the two are one call
abbrev pub is_about : About → About → Bool
is_about other about = (other.pid == about.pid) && (other.number == about.number)

-- the ask takes effect at the device, for whoever asks
abbrev pub notes_ask : Ask → Option TxNo → ClientProcs → ClientProcs
notes_ask ask asker s =
    record (notes (Enter (record { pid = ask.pid; number = ask.number; part = parts.Ask; call = Some (asked_call ask); reply = None })) s) { asked = s.asked ++ (about_ask ask, asker) ∷ [] }

-- the ask ends with that reply
abbrev pub notes_end : Ask → Reply → ClientProcs → ClientProcs
notes_end ask reply s = notes (Enter (record { pid = ask.pid; number = ask.number; part = parts.Done; call = Some (asked_call ask); reply = Some reply })) s

-- whoever asked is answered
abbrev pub gives_to : ℕ → Option (Option TxNo) → Reply → ClientProcs → ClientProcs
gives_to pid (Some (Some tx)) reply s = answers tx (packet_of reply) s
gives_to pid (Some None) reply s = replies pid reply s
gives_to pid None reply s = s

abbrev pub gives_first : Ask → Reply → ClientProcs → ClientProcs
gives_first ask reply s = gives_to ask.pid (first_under is_about (about_ask ask) s.asked) reply (record s { asked = less (is_under is_about (about_ask ask)) s.asked })

abbrev pub ends_ask : Ask → Reply → ClientProcs → ClientProcs
ends_ask ask reply s = gives_first ask reply (notes_end ask reply s)

-- the ask ends at once where the device has no master, else it waits, and masters that wait are served
abbrev pub enters_by : ℕ → Ask → ClientProcs → ClientProcs
enters_by device ask s = if not (is_alive_at device s) then ends_ask ask (Error errnos.NoServer) s else serves_getters device (waits_at device ask s)

abbrev pub enters_ask : ℕ → Ask → Option TxNo → ClientProcs → ClientProcs
enters_ask device ask asker s = enters_by device ask (notes_ask ask asker s)

-- another kernel brings an ask
abbrev pub serves_ask : TxNo → AskRequest → ClientProcs → ClientProcs
serves_ask tx r s = enters_ask r.device.number (carried_ask r) (Some tx) s

-- the ask goes to another kernel
abbrev pub request_about : ℕ → AskRequest → Option About
request_about pid r = Some (record { pid = pid; number = r.number })

abbrev pub sends_ask : ℕ → AskRequest → ClientProcs → ClientProcs
sends_ask pid r s = keeps_tx (next_tx s) (unfinished.Ask pid) (in_state pid (states.InAsk (Some (next_tx s))) (sends r.device.kernel (request_about pid r) (requests.Ask r) s))

abbrev pub sends_if : ℕ → Option AskRequest → ClientProcs → ClientProcs
sends_if pid (Some r) s = sends_ask pid r s
sends_if pid None s = answers_here pid (Error errnos.Invalid) s

-- the ask goes to the device
abbrev pub goes_to : ℕ → DeviceId → Ask → ClientProcs → ClientProcs
goes_to pid device ask s =
    if device.kernel == s.kernel then enters_ask device.number ask None (in_state pid (states.InAsk None) s) else sends_if pid (packed_ask ask device) s

-- what the call that the process is in asks
abbrev pub ask_if : About → Option Call → Option Ask
ask_if about (Some call) = ask_of about call
ask_if about None = None

abbrev pub ask_in : ℕ → Proc → Option Ask
ask_in pid proc = ask_if (record { pid = pid; number = proc.number }) proc.call

abbrev pub ask_at : ℕ → Option Proc → Option Ask
ask_at pid (Some proc) = ask_in pid proc
ask_at pid None = None

abbrev pub own_ask : ℕ → ClientProcs → Option Ask
own_ask pid s = ask_at pid (proc_at pid s)

abbrev pub asks_by : ℕ → DeviceId → Option Ask → ClientProcs → ClientProcs
asks_by pid device (Some ask) s = goes_to pid device ask s
asks_by pid device None s = answers_here pid (Error errnos.Invalid) s

abbrev pub asks_device : ℕ → DeviceId → ClientProcs → ClientProcs
asks_device pid device s = asks_by pid device (own_ask pid s) s

-- what a call is for
abbrev pub device_aim : DeviceId → Bool → Aim
device_aim device allowed = if allowed then Device device else Refused errnos.BadMode

abbrev pub data_aim : Object → Bool → Aim
data_aim (objects.Device device) allowed = device_aim device allowed
data_aim (objects.File file) allowed = Files
data_aim (objects.Master device) allowed = Files

abbrev pub read_aim : Option Stream → Aim
read_aim (Some stream) = data_aim stream.object (reads stream.mode)
read_aim None = Files

abbrev pub write_aim : Option Stream → Aim
write_aim (Some stream) = data_aim stream.object (writes stream.mode)
write_aim None = Files

abbrev pub command_on : Object → Aim
command_on (objects.Device device) = Device device
command_on (objects.File file) = Refused errnos.Invalid
command_on (objects.Master device) = Refused errnos.BadMode

abbrev pub command_aim : Option Stream → Aim
command_aim (Some stream) = command_on stream.object
command_aim None = Refused errnos.BadFd

abbrev pub aim_of : ℕ → Call → ClientProcs → Aim
aim_of pid (calls.Read fd many) s = read_aim (stream_at pid fd s)
aim_of pid (calls.Write fd bytes) s = write_aim (stream_at pid fd s)
aim_of pid (calls.Ioctl fd command bytes) s = command_aim (stream_at pid fd s)
aim_of pid _ s = Files

-- whether it is an operation on a pseudo-device
abbrev pub is_used_by : Aim → Bool
is_used_by Files = false
is_used_by (Refused errno) = true
is_used_by (Device device) = true

abbrev pub uses_by : ℕ → Aim → ClientProcs → ClientProcs
uses_by pid Files s = s
uses_by pid (Refused errno) s = answers_here pid (Error errno) s
uses_by pid (Device device) s = asks_device pid device s

abbrev pub uses_device : ℕ → Call → ClientProcs → ClientProcs
uses_device pid call s = uses_by pid (aim_of pid call s) s
