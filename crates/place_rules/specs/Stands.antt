-- Where an entry is to stand, by what is kept.
use Rattle.std.specs.Prelude.{ℕ, ◌==◌, Bool, ◌||◌, if◌then◌else◌, List, Option, Some, None}
use Rattle.std.specs.Map.{lookup}
use Rattle.std.specs.Option.{option_and_then}
use Rattle.sprite_ids.specs.Pid.{home_of}
use Rattle.sprite_ids.specs.declared.names.StreamNo.{StreamNo}
use Rattle.process_machine.specs.declared.call.Call.{Call}
use Rattle.process_machine.specs.declared.call.Call.TheVariants as call
use Rattle.process_machine.specs.declared.call.Reply.{Reply}
use Rattle.unix_calls.specs.declared.description.Description.{Description}
use Rattle.unix_calls.specs.declared.entry.Part.{Part}
use Rattle.unix_calls.specs.declared.entry.Part.TheVariants as part
use Rattle.call_journal.specs.Calls.{error_in, is_value}
use Rattle.call_journal.specs.EntryPlaces.{is_client_pid, is_too_big}
use Rattle.trace_tables.specs.declared.Caller.{Caller}
use Rattle.trace_tables.specs.declared.Tied.{Tied}
use Rattle.trace_rules.specs.Modes.{has_stream}
use Rattle.place_rules.specs.declared.stand.Stand.{Stand}
use Rattle.place_rules.specs.declared.stand.Stand.TheVariants as stand

-- whether a kernel is where it is to stand, where its process is at that one
abbrev pub is_at : Stand → ℕ → ℕ → Bool
is_at stand.AtProcess at kernel = kernel == at
is_at (stand.AtKernel due) at kernel = kernel == due
is_at (stand.AtEither server) at kernel = kernel == server || kernel == at

-- at that kernel, where there is one
abbrev pub at_kernel : Option ℕ → Stand
at_kernel None = stand.AtProcess
at_kernel (Some kernel) = stand.AtKernel kernel

abbrev pub at_home : ℕ → Stand
at_home pid = stand.AtKernel (home_of pid)

-- the kernel that is kept of a device
abbrev pub device_at : List (ℕ × ℕ) → ℕ → Option ℕ
device_at devices place = lookup (λ other. place == other) devices

abbrev pub device_stand : List (ℕ × ℕ) → Option ℕ → Stand
device_stand devices device = at_kernel (option_and_then (device_at devices) device)

abbrev pub at_home_of : Description → ℕ → Stand
at_home_of c pid = if is_client_pid c pid then stand.AtKernel (home_of pid) else stand.AtProcess

abbrev pub at_file : Option Tied → Stand
at_file None = stand.AtProcess
at_file (Some tied) = stand.AtEither tied.file.server

abbrev pub at_file_if : Bool → Option Tied → Stand
at_file_if does tied = if does then at_file tied else stand.AtProcess

abbrev pub at_shared : List StreamNo → Option Tied → Stand
at_shared shared None = stand.AtProcess
at_shared shared (Some tied) = if has_stream shared tied.stream then stand.AtEither tied.file.server else stand.AtProcess

-- of a whole call that goes by no names
abbrev pub other_stand : Description → List StreamNo → Option Tied → ℕ → Call → Option Reply → Stand
other_stand c shared tied pid (call.Print bytes) reply = at_home pid
other_stand c shared tied pid (call.Exit code) reply = at_home pid
other_stand c shared tied pid call.BadStep reply = at_home pid
other_stand c shared tied pid (call.Host max) reply = at_home pid
other_stand c shared tied pid call.Tick reply = at_home pid
other_stand c shared tied pid call.Getppid reply = at_home pid
other_stand c shared tied pid call.Fork reply = at_home pid
other_stand c shared tied pid call.Wait reply = at_home pid
other_stand c shared tied pid (call.Kill killed) reply = at_home_of c killed
other_stand c shared tied pid (call.Read fd many) reply = at_file_if (is_value reply) tied
other_stand c shared tied pid (call.Size fd) reply = at_file_if (is_value reply) tied
other_stand c shared tied pid (call.Write fd bytes) reply = at_file_if (is_value reply || is_too_big (error_in reply)) tied
other_stand c shared tied pid (call.Seek fd offset) reply = at_shared shared tied
other_stand c shared tied pid _ reply = stand.AtProcess

-- at the server that its names lead to, or as one that goes by none
abbrev pub by_server : Option ℕ → Stand → Stand
by_server None other = other
by_server (Some server) other = stand.AtKernel server

abbrev pub called_stand : Description → List StreamNo → Caller → ℕ → Call → Option Reply → Stand
called_stand c shared caller pid call reply = by_server caller.server (other_stand c shared caller.tied pid call reply)

-- by its part
abbrev pub stand_by : Description → List StreamNo → List (ℕ × ℕ) → Caller → ℕ → Part → Option Call → Option Reply → Stand
stand_by c shared devices caller pid part.Whole (Some call) reply = called_stand c shared caller pid call reply
stand_by c shared devices caller pid part.Ask (Some call) reply = device_stand devices caller.device
stand_by c shared devices caller pid part.Done (Some call) reply = device_stand devices caller.device
stand_by c shared devices caller pid part.Death call reply = at_home pid
stand_by c shared devices caller pid _ None reply = stand.AtProcess
