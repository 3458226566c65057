-- Which replies fit a call.
use Rattle.std.specs.Prelude.{◌≡◌, ◌≤◌, ◌==◌, ℕ, Bool, true, List, [], ◌∷◌, length, Some}
use Rattle.std.specs.List.{list_any}
use Rattle.sprite_ids.specs.Errno.{errno_number}
use Rattle.sprite_ids.specs.declared.Errno.{Errno}
use Rattle.sprite_ids.specs.declared.Errno.TheVariants as errno
use Rattle.process_machine.specs.declared.call.Call.{Call}
use Rattle.process_machine.specs.declared.call.Call.TheVariants as call
use Rattle.process_machine.specs.declared.call.Reply.{Reply}
use Rattle.process_machine.specs.declared.call.Reply.TheVariants.{Value, Error}
use Rattle.unix_calls.specs.declared.Description.{Description}
use Rattle.unix_calls.specs.declared.Entry.{Entry}
use Rattle.unix_calls.specs.declared.entry.Part.TheVariants as part
use Rattle.unix_calls.specs.State.{Unix}
use Rattle.unix_calls.specs.After.{after}

-- the errors that a call may have
abbrev pub refusals : Call → List Errno
refusals (call.Print bytes) = []
refusals (call.Exit code) = []
refusals call.BadStep = []
refusals call.Getpid = []
refusals call.Getppid = []
refusals (call.Host max) = errno.Invalid ∷ []
refusals call.Tick = []
refusals call.Fork = errno.TooMany ∷ []
refusals (call.Exec name arg) = errno.NoEntry ∷ []
refusals call.Wait = errno.NoChild ∷ errno.Interrupted ∷ []
refusals (call.Kill pid) = errno.NoProcess ∷ []
refusals (call.OpenFile path flags) = errno.Invalid ∷ errno.TooMany ∷ errno.BadName ∷ errno.NoEntry ∷ errno.NotDir ∷ errno.IsDir ∷ errno.Unreachable ∷ []
refusals (call.Close fd) = errno.BadFd ∷ []
refusals (call.Dup fd) = errno.BadFd ∷ errno.TooMany ∷ []
refusals (call.Read fd many) = errno.BadFd ∷ errno.BadMode ∷ []
refusals (call.Write fd bytes) = errno.BadFd ∷ errno.BadMode ∷ errno.TooBig ∷ []
refusals (call.Seek fd offset) = errno.BadFd ∷ errno.Invalid ∷ []
refusals (call.Size fd) = errno.BadFd ∷ errno.Invalid ∷ []
refusals (call.Sync fd) = errno.BadFd ∷ errno.Invalid ∷ []
refusals (call.Stat path) = errno.BadName ∷ errno.NoEntry ∷ errno.NotDir ∷ errno.Unreachable ∷ []
refusals (call.Mkdir path) = errno.BadName ∷ errno.NoEntry ∷ errno.NotDir ∷ errno.Exists ∷ errno.TooMany ∷ errno.Unreachable ∷ []
refusals (call.Rmdir path) = errno.BadName ∷ errno.Busy ∷ errno.NoEntry ∷ errno.NotDir ∷ errno.NotEmpty ∷ errno.Unreachable ∷ []
refusals (call.Unlink path) = errno.BadName ∷ errno.NoEntry ∷ errno.NotDir ∷ errno.IsDir ∷ errno.Unreachable ∷ []
refusals (call.Rename old new) = errno.BadName ∷ errno.XDev ∷ errno.NoEntry ∷ errno.NotDir ∷ errno.IsDir ∷ errno.Exists ∷ errno.TooMany ∷ errno.Unreachable ∷ []
refusals (call.List path max) = errno.BadName ∷ errno.NoEntry ∷ errno.NotDir ∷ errno.Invalid ∷ errno.Unreachable ∷ []
refusals (call.Chdir path) = errno.BadName ∷ errno.NoEntry ∷ errno.NotDir ∷ errno.Unreachable ∷ []
refusals (call.Migrate name) = errno.BadHost ∷ errno.Busy ∷ []
refusals (call.PdMake path) = errno.TooMany ∷ errno.BadName ∷ errno.NoEntry ∷ errno.NotDir ∷ errno.Exists ∷ errno.Unreachable ∷ []
refusals (call.PdGet fd max) = errno.BadFd ∷ errno.BadMode ∷ errno.Busy ∷ errno.Invalid ∷ errno.Interrupted ∷ []
refusals (call.PdPut fd bytes number) = errno.BadFd ∷ errno.BadMode ∷ errno.Invalid ∷ []
refusals (call.Ioctl fd command bytes) = errno.BadFd ∷ errno.Invalid ∷ errno.BadMode ∷ []
refusals (call.Rexec name host) = errno.NoEntry ∷ errno.BadHost ∷ errno.Busy ∷ []
refusals (call.Refused e) = e ∷ []

abbrev pub is_error : Errno → Errno → Bool
is_error e known = errno_number known == errno_number e

abbrev pub may_refuse : Call → Errno → Bool
may_refuse called e = list_any (is_error e) (refusals called)

-- nothing; one number; bytes of at most that many, with their count
abbrev pub IsNothing : ℕ → ℕ → List ℕ → Type 0
IsNothing first second bytes = (first ≡ 0) × ((second ≡ 0) × (bytes ≡ []))

abbrev pub IsNumber : ℕ → List ℕ → Type 0
IsNumber second bytes = (second ≡ 0) × (bytes ≡ [])

abbrev pub IsBytes : ℕ → ℕ → ℕ → List ℕ → Type 0
IsBytes max first second bytes = (first ≡ length bytes) × ((second ≡ 0) × (length bytes ≤ max))

-- the values that a call may have, with its bytes
abbrev pub Gives : Call → ℕ → ℕ → List ℕ → Type 0
Gives (call.Print own) first second bytes = IsNothing first second bytes
Gives (call.Exit code) first second bytes = IsNothing first second bytes
Gives call.BadStep first second bytes = IsNothing first second bytes
Gives call.Getpid first second bytes = IsNumber second bytes
Gives call.Getppid first second bytes = IsNumber second bytes
Gives (call.Host max) first second bytes = IsBytes max first second bytes
Gives call.Tick first second bytes = IsNumber second bytes
Gives call.Fork first second bytes = IsNumber second bytes
Gives (call.Exec name arg) first second bytes = IsNothing first second bytes
Gives call.Wait first second bytes = bytes ≡ []
Gives (call.Kill pid) first second bytes = IsNothing first second bytes
Gives (call.OpenFile path flags) first second bytes = IsNumber second bytes
Gives (call.Close fd) first second bytes = IsNothing first second bytes
Gives (call.Dup fd) first second bytes = IsNumber second bytes
Gives (call.Read fd many) first second bytes = IsBytes many first second bytes
Gives (call.Write fd own) first second bytes = (first ≡ length own) × IsNumber second bytes
Gives (call.Seek fd offset) first second bytes = (first ≡ offset) × IsNumber second bytes
Gives (call.Size fd) first second bytes = IsNumber second bytes
Gives (call.Sync fd) first second bytes = IsNothing first second bytes
Gives (call.Stat path) first second bytes = (1 ≤ first) × ((first ≤ 3) × (bytes ≡ []))
Gives (call.Mkdir path) first second bytes = IsNothing first second bytes
Gives (call.Rmdir path) first second bytes = IsNothing first second bytes
Gives (call.Unlink path) first second bytes = IsNothing first second bytes
Gives (call.Rename old new) first second bytes = IsNothing first second bytes
Gives (call.List path max) first second bytes = IsBytes max first second bytes
Gives (call.Chdir path) first second bytes = IsNothing first second bytes
Gives (call.Migrate name) first second bytes = IsNothing first second bytes
Gives (call.PdMake path) first second bytes = IsNumber second bytes
Gives (call.PdGet fd max) first second bytes = (second ≡ length bytes) × (length bytes ≤ max)
Gives (call.PdPut fd own number) first second bytes = IsNothing first second bytes
Gives (call.Ioctl fd command own) first second bytes = IsBytes (length own) first second bytes
Gives (call.Rexec name host) first second bytes = IsNothing first second bytes
Gives (call.Refused e) first second bytes = ⊥

-- a reply fits a whole call
abbrev pub Fits : Call → Reply → Type 0
Fits called (Value first second bytes) = Gives called first second bytes
Fits called (Error e) = may_refuse called e ≡ true

-- so does that of each whole call of the one-kernel Unix
abbrev pub RepliesFit : Type 0
RepliesFit = (c : Description) (u v : Unix) (e : Entry) (called : Call) (reply : Reply) → after c u e ≡ Some v → e.part ≡ part.Whole → e.call ≡ Some called → e.reply ≡ Some reply → Fits called reply
