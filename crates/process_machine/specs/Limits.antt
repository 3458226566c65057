-- The limits of the system call at which an image stands.
use Rattle.std.specs.Prelude.{ℕ, ◌≤◌, ◌<◌, length, IfSome}
use Rattle.sprite_ids.specs.declared.errno.Errno.{Errno}
use Rattle.sprite_ids.specs.declared.errno.Errno.TheVariants.{Invalid, BadName, BadAddress}
use Rattle.process_machine.specs.declared.call.Call.{Call}
use Rattle.process_machine.specs.declared.call.Call.TheVariants.{Print, Exit, Host, Exec, OpenFile, Read, Write, Stat, Mkdir, Rmdir, Unlink, Rename, List as ListCall, Chdir, Migrate, PdMake, PdGet, PdPut, Ioctl, Rexec, Refused}
use Rattle.process_machine.specs.declared.program.Program.{Program}
use Rattle.process_machine.specs.Machine.{Machine}
use Rattle.process_machine.specs.Calls.{call_at}
use Rattle.process_machine.specs.Runs.{next_call}

-- data, or room for an answer: at most 16,384 bytes
abbrev pub IsData : ℕ → Type 0
IsData count = count ≤ 16384

-- room for an ask of a pseudo-device: at most 16,392 bytes
abbrev pub IsAsk : ℕ → Type 0
IsAsk count = count ≤ 16392

-- a text: 1 to 255 bytes
abbrev pub IsText : ℕ → Type 0
IsText count = (1 ≤ count) × (count ≤ 255)

-- why a call is refused before it begins: for a length, a text or an address
abbrev pub IsRefusal : Errno → Type 0
IsRefusal Invalid = Unit {0}
IsRefusal BadName = Unit {0}
IsRefusal BadAddress = Unit {0}
IsRefusal other = ⊥

-- a call's data, rooms and texts have as many bytes as they may, an exit's code is under 256, and a refusal is one of three
abbrev pub IsWithinLimits : Call → Type 0
IsWithinLimits (Print bytes) = IsData (length bytes)
IsWithinLimits (Exit code) = code < 256
IsWithinLimits (Host max) = IsData max
IsWithinLimits (Exec text arg) = IsText (length text)
IsWithinLimits (OpenFile path flags) = IsText (length path)
IsWithinLimits (Read fd count) = IsData count
IsWithinLimits (Write fd bytes) = IsData (length bytes)
IsWithinLimits (Stat path) = IsText (length path)
IsWithinLimits (Mkdir path) = IsText (length path)
IsWithinLimits (Rmdir path) = IsText (length path)
IsWithinLimits (Unlink path) = IsText (length path)
IsWithinLimits (Rename old new) = IsText (length old) × IsText (length new)
IsWithinLimits (ListCall path max) = IsText (length path) × IsData max
IsWithinLimits (Chdir path) = IsText (length path)
IsWithinLimits (Migrate text) = IsText (length text)
IsWithinLimits (PdMake path) = IsText (length path)
IsWithinLimits (PdGet fd max) = IsAsk max
IsWithinLimits (PdPut fd bytes errno) = IsData (length bytes)
IsWithinLimits (Ioctl fd command bytes) = IsData (length bytes)
IsWithinLimits (Rexec text host) = IsText (length text) × IsText (length host)
IsWithinLimits (Refused errno) = IsRefusal errno
IsWithinLimits other = Unit {0}

-- the call at which an image stands is within the limits, whatever the program and the image
abbrev pub CallsAreWithinLimits : Type 0
CallsAreWithinLimits = (p : Program) (m : Machine) → IsWithinLimits (call_at p m)

-- and so is the first call of a run
abbrev pub NextCallsAreWithinLimits : Type 0
NextCallsAreWithinLimits = (p : Program) (m : Machine) → IfSome (next_call p m) IsWithinLimits
