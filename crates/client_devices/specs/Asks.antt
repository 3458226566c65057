-- Operations on pseudo-devices, as calls, as asks and as requests.
use Rattle.std.specs.Prelude.{ℕ, nat_le, nat_lt, ◌||◌, if◌then◌else◌, List, [], ◌++◌, drop, length, Option, Some, None}
use Rattle.byteorder.specs.Endian.{little_bytes, little_number}
use Rattle.sprite_ids.specs.declared.AskKind.{AskKind}
use Rattle.sprite_ids.specs.declared.AskKind.TheVariants as kinds
use Rattle.sprite_ids.specs.declared.DeviceId.{DeviceId}
use Rattle.process_machine.specs.declared.Call.{Call}
use Rattle.process_machine.specs.declared.Call.TheVariants as calls
use Rattle.packet_bodies.specs.declared.AskRequest.{AskRequest}
use Rattle.pseudo_device.specs.declared.Ask.{Ask}
use Rattle.unix_calls.specs.declared.About.{About}

-- an ask of a process's call, unless its descriptor is over 15 or its length over what a call moves
abbrev pub ask_with : About → ℕ → AskKind → ℕ → List ℕ → Option Ask
ask_with about fd kind many bytes =
    if nat_le 16 fd || nat_lt 16384 many then None
    else Some (record { pid = about.pid; number = about.number; fd = fd; kind = kind; length = many; bytes = bytes })

-- what a call asks of a device's master: of a read its length, of a write its bytes, of a command its number and its bytes
abbrev pub ask_of : About → Call → Option Ask
ask_of about (calls.Read fd many) = ask_with about fd kinds.Read many (little_bytes 8 many)
ask_of about (calls.Write fd bytes) = ask_with about fd kinds.Write 0 bytes
ask_of about (calls.Ioctl fd command bytes) = ask_with about fd kinds.Ioctl (length bytes) (little_bytes 8 command ++ bytes)
ask_of about _ = None

-- the command in an ask's bytes, and the bytes behind it
abbrev pub command_of : List ℕ → ℕ
command_of bytes = if nat_lt (length bytes) 8 then 0 else little_number 8 bytes

abbrev pub rest_of : List ℕ → List ℕ
rest_of bytes = if nat_lt (length bytes) 8 then [] else drop 8 bytes

-- the call that an ask is of
abbrev pub call_by : AskKind → Ask → Call
call_by kinds.Read ask = calls.Read ask.fd ask.length
call_by kinds.Write ask = calls.Write ask.fd ask.bytes
call_by kinds.Ioctl ask = calls.Ioctl ask.fd (command_of ask.bytes) (rest_of ask.bytes)

abbrev pub asked_call : Ask → Call
asked_call ask = call_by ask.kind ask

-- the ask as a request to the device's kernel
abbrev pub packed_ask : Ask → DeviceId → Option AskRequest
packed_ask ask device =
    if nat_lt ask.fd 16
    then Some (record { pid = ask.pid; number = ask.number; device = device; kind = ask.kind; length = ask.length; bytes = ask.bytes; fd = ask.fd })
    else None

-- the ask that a request brings
abbrev pub carried_ask : AskRequest → Ask
carried_ask r = record { pid = r.pid; number = r.number; fd = r.fd; kind = r.kind; length = r.length; bytes = r.bytes }
