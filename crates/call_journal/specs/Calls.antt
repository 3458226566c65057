-- What a call goes by: a path, or a descriptor.
use Rattle.std.specs.Prelude.{ℕ, ◌==◌, Bool, true, false, ◌&&◌, if◌then◌else◌, List, [], ◌∷◌, Option, Some, None}
use Rattle.std.specs.Option.{is_some}
use Rattle.sprite_ids.specs.declared.errno.Errno.{Errno}
use Rattle.sprite_ids.specs.declared.errno.Errno.TheVariants as errno
use Rattle.process_machine.specs.declared.call.Call.{Call}
use Rattle.process_machine.specs.declared.call.Call.TheVariants as call
use Rattle.process_machine.specs.declared.call.Reply.{Reply}
use Rattle.process_machine.specs.declared.call.Reply.TheVariants.{Value, Error}
use Rattle.unix_calls.specs.declared.description.Description.{Description}
use Rattle.unix_calls.specs.declared.entry.Entry.{Entry}
use Rattle.unix_calls.specs.declared.entry.Part.{Part}
use Rattle.unix_calls.specs.declared.entry.Part.TheVariants as part
use Rattle.unix_calls.specs.declared.event.Event.{Event}
use Rattle.unix_calls.specs.declared.event.Event.TheVariants as event
use Rattle.unix_calls.specs.declared.event.Rec.{Rec}
use Rattle.unix_calls.specs.Domains.{roots_of, begins_domain, domain_of, server_of as server_of_domain}
use Rattle.unix_calls.specs.Opening.{has_bit}

-- the first path of a call that goes by names
abbrev pub path_text : Call → Option (List ℕ)
path_text (call.OpenFile path flags) = Some path
path_text (call.Stat path) = Some path
path_text (call.Mkdir path) = Some path
path_text (call.Rmdir path) = Some path
path_text (call.Unlink path) = Some path
path_text (call.Rename old new) = Some old
path_text (call.List path max) = Some path
path_text (call.Chdir path) = Some path
path_text (call.PdMake path) = Some path
path_text _ = None

-- whether a call goes by names
abbrev pub is_name_call : Call → Bool
is_name_call call = is_some (path_text call)

-- the descriptor of a call that goes by one
abbrev pub descriptor_of : Call → Option ℕ
descriptor_of (call.Close fd) = Some fd
descriptor_of (call.Dup fd) = Some fd
descriptor_of (call.Read fd many) = Some fd
descriptor_of (call.Write fd bytes) = Some fd
descriptor_of (call.Seek fd offset) = Some fd
descriptor_of (call.Size fd) = Some fd
descriptor_of (call.Sync fd) = Some fd
descriptor_of (call.Ioctl fd command bytes) = Some fd
descriptor_of (call.PdGet fd max) = Some fd
descriptor_of (call.PdPut fd bytes number) = Some fd
descriptor_of _ = None

-- whether an entry is a whole call with a value, or an error
abbrev pub is_whole : Part → Bool
is_whole part.Whole = true
is_whole _ = false

abbrev pub is_value : Option Reply → Bool
is_value (Some (Value first second bytes)) = true
is_value _ = false

-- the error of a reply
abbrev pub error_in : Option Reply → Option Errno
error_in (Some (Error errno)) = Some errno
error_in _ = None

-- whether the error is that it was unreachable
abbrev pub is_unreachable_error : Option Errno → Bool
is_unreachable_error (Some errno.Unreachable) = true
is_unreachable_error _ = false

-- an open with a value that truncates
abbrev pub truncates_with : Option Call → Option Reply → Bool
truncates_with (Some (call.OpenFile path flags)) (Some (Value first second bytes)) = has_bit 8 flags
truncates_with _ _ = false

abbrev pub is_truncating : Entry → Bool
is_truncating entry = truncates_with entry.call entry.reply

-- a move to the kernel of that name, with a value
abbrev pub move_target : Option Call → Option Reply → Option (List ℕ)
move_target (Some (call.Migrate name)) (Some (Value first second bytes)) = Some name
move_target (Some (call.Rexec name host)) (Some (Value first second bytes)) = Some host
move_target _ _ = None

-- whether a call moves its process
abbrev pub is_move : Call → Bool
is_move (call.Migrate name) = true
is_move (call.Rexec name host) = true
is_move _ = false

-- a kill of that process that is done
abbrev pub kills_with : ℕ → Option Call → Option Reply → Bool
kills_with pid (Some (call.Kill target)) (Some (Value first second bytes)) = target == pid
kills_with pid _ _ = false

abbrev pub is_kill_of : ℕ → Event → Bool
is_kill_of pid (event.Enter entry) = kills_with pid entry.call entry.reply
is_kill_of pid _ = false

-- the call that was issued by a process with that number
abbrev pub issued_by : ℕ → ℕ → Event → Option Call
issued_by pid number (event.Issue p n call) = if p == pid && n == number then Some call else None
issued_by pid number _ = None

-- the first of two values
abbrev pub or_else : {A : Type 0} → Option A → Option A → Option A
or_else (Some x) other = Some x
or_else None other = other

abbrev pub issued_call : ℕ → ℕ → List Rec → Option Call
issued_call pid number [] = None
issued_call pid number (rec ∷ rest) = or_else (issued_by pid number rec.event) (issued_call pid number rest)

-- the server of a path: that of its longest domain
abbrev pub server_of : Description → List (List ℕ) → ℕ
server_of c path = server_of_domain c.kernels (domain_of (roots_of c.kernels) path)

-- whether a domain begins at a path
abbrev pub is_domain : Description → List (List ℕ) → Bool
is_domain c path = begins_domain (roots_of c.kernels) path
