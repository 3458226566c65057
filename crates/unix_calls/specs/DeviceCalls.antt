-- Pseudo-devices: what goes to their masters, and what these answer.
use Rattle.std.specs.Prelude.{ℕ, zero, suc, ◌==◌, not, if◌then◌else◌, List, [], ◌∷◌, ◌++◌, length, nat_le, nat_lt, filter, Option, Some, None}
use Rattle.std.specs.List.{find}
use Rattle.std.specs.Option.{option_map, is_some}
use Rattle.sprite_ids.specs.Errno.{errno_number}
use Rattle.sprite_ids.specs.declared.errno.Errno.{Errno}
use Rattle.sprite_ids.specs.declared.errno.Errno.TheVariants as errno
use Rattle.process_machine.specs.declared.call.Call.{Call}
use Rattle.process_machine.specs.declared.call.Call.TheVariants.{Read, Write, Ioctl}
use Rattle.process_machine.specs.declared.call.Reply.{Reply}
use Rattle.process_machine.specs.declared.call.Reply.TheVariants.{Value, Error}
use Rattle.byteorder.specs.Endian.{little_bytes}
use Rattle.unix_calls.specs.declared.description.Description.{Description}
use Rattle.unix_calls.specs.State.{Object, OfFile, OfDevice, OfMaster, Ask, Answer, Device, Process, Unix, device_at, with_device}
use Rattle.unix_calls.specs.Answers.{Outcome, GoesTo, Waits, replies, value, is_done, refuses}
use Rattle.unix_calls.specs.StreamCalls.{at_stream}

-- ioctl fd command addr len: a device's master answers. BadFd; Invalid: a file; BadMode: a master's stream
abbrev pub ioctl_object : Description → Unix → Process → Object → Outcome
ioctl_object c u p (OfFile name) = refuses c u p errno.Invalid
ioctl_object c u p (OfDevice place) = GoesTo place
ioctl_object c u p (OfMaster place) = refuses c u p errno.BadMode

abbrev pub ioctl : Description → Unix → Process → ℕ → Outcome
ioctl c u p fd = at_stream c u p fd (λ stream. ioctl_object c u p stream.object)

-- the kind of an asked call: 1 read, 2 write, 3 ioctl
abbrev pub kind_of : Call → ℕ
kind_of (Read fd many) = 1
kind_of (Write fd bytes) = 2
kind_of (Ioctl fd command bytes) = 3
kind_of _ = 0

-- what its master gets: of a read the length, and of an ioctl the command, in 8 bytes, the lowest first; then the bytes
abbrev pub asked_bytes : Call → List ℕ
asked_bytes (Read fd many) = little_bytes 8 many
asked_bytes (Write fd bytes) = bytes
asked_bytes (Ioctl fd command bytes) = little_bytes 8 command ++ bytes
asked_bytes _ = []

-- how many bytes its answer may have
abbrev pub most_of : Call → ℕ
most_of (Read fd many) = many
most_of (Ioctl fd command bytes) = length bytes
most_of _ = 0

-- its value: a write's own length, else how many bytes the answer has
abbrev pub reply_of : Call → List ℕ → Reply
reply_of (Write fd written) bytes = value (length written)
reply_of _ bytes = Value (length bytes) 0 bytes

-- the call goes on with the device of a master stream. BadMode: another stream
abbrev pub with_device_of : Description → Unix → Process → Option Device → (Device → Outcome) → Outcome
with_device_of c u p None rest = refuses c u p errno.BadMode
with_device_of c u p (Some device) rest = rest device

abbrev pub device_of : Unix → Object → Option Device
device_of u (OfMaster place) = device_at u.devices place
device_of u _ = None

abbrev pub at_master : Description → Unix → Process → ℕ → (Device → Outcome) → Outcome
at_master c u p fd rest = at_stream c u p fd (λ stream. with_device_of c u p (device_of u stream.object) rest)

-- the first ask is in hand
abbrev pub taken : Device → Ask → List Ask → Device
taken device ask asks = record device { asks = asks; in_hand = Some ask }

-- the master takes the first ask: its kind, and its bytes with their number. Invalid: they are more than max
abbrev pub takes : Description → Unix → Process → ℕ → Device → Ask → List Ask → Outcome
takes c u p max device ask asks =
    if nat_lt max (length (asked_bytes ask.call))
    then refuses c u p errno.Invalid
    else replies c (record u { devices = with_device (taken device ask asks) u.devices }) p
    (Value (kind_of ask.call) (length (asked_bytes ask.call)) (asked_bytes ask.call))

-- it waits where no ask does
abbrev pub takes_first : Description → Unix → Process → ℕ → Device → List Ask → Outcome
takes_first c u p max device [] = Waits
takes_first c u p max device (ask ∷ asks) = takes c u p max device ask asks

-- pd_get fd addr max: the first ask. BadFd; BadMode: no master's stream; Busy: one is in hand; Invalid
abbrev pub get_from : Description → Unix → Process → ℕ → Device → Outcome
get_from c u p max device =
    if is_some device.in_hand then refuses c u p errno.Busy else takes_first c u p max device device.asks

abbrev pub pd_get : Description → Unix → Process → ℕ → ℕ → Outcome
pd_get c u p fd max = at_master c u p fd (get_from c u p max)

-- all errors
abbrev pub errors : List Errno
errors =
    errno.NoEntry ∷ errno.Exists ∷ errno.NotDir ∷ errno.IsDir ∷ errno.NotEmpty ∷ errno.BadFd ∷ errno.BadMode ∷
    errno.TooBig ∷ errno.TooMany ∷ errno.Invalid ∷ errno.XDev ∷ errno.Busy ∷ errno.NoChild ∷ errno.NoProcess ∷
    errno.Interrupted ∷ errno.NoServer ∷ errno.Unreachable ∷ errno.BadHost ∷ errno.BadName ∷ errno.BadAddress ∷ []

-- the error of a number from 1 to 20
abbrev pub errno_of : ℕ → Option Errno
errno_of number = find (λ e. errno_number e == number) errors

-- the answer of a master: an error's number and no bytes, or at most as many bytes as the ask wants
abbrev pub answer_of : Call → List ℕ → ℕ → Option Reply
answer_of call bytes zero = if nat_le (length bytes) (most_of call) then Some (reply_of call bytes) else None
answer_of call bytes (suc n) = if length bytes == 0 then option_map Error (errno_of (suc n)) else None

-- the device with that answer left, and none in hand
abbrev pub left : Device → Ask → Reply → Device
left device ask reply =
    record device { in_hand = None; answers = device.answers ++ record { pid = ask.pid; reply = reply } ∷ [] }

abbrev pub puts : Description → Unix → Process → Device → Ask → Option Reply → Outcome
puts c u p device ask None = refuses c u p errno.Invalid
puts c u p device ask (Some reply) = is_done c (record u { devices = with_device (left device ask reply) u.devices }) p

-- pd_put fd addr len errno: the answer of the ask in hand. BadFd; BadMode: no master's stream; Invalid: none in hand, no
-- error of that number, an error with bytes, more bytes than the ask wants
abbrev pub put_to : Description → Unix → Process → List ℕ → ℕ → Device → Option Ask → Outcome
put_to c u p bytes number device None = refuses c u p errno.Invalid
put_to c u p bytes number device (Some ask) = puts c u p device ask (answer_of ask.call bytes number)

abbrev pub pd_put : Description → Unix → Process → ℕ → List ℕ → ℕ → Outcome
pd_put c u p fd bytes number = at_master c u p fd (λ device. put_to c u p bytes number device device.in_hand)

-- the answer that was left for a process
abbrev pub answer_for : ℕ → List Answer → Option Reply
answer_for pid [] = None
answer_for pid (a ∷ more) = if a.pid == pid then Some a.reply else answer_for pid more

-- the answers without it
abbrev pub without_answer : ℕ → List Answer → List Answer
without_answer pid answers = filter (λ (a : Answer). not (a.pid == pid)) answers
