-- Each entry stands at the kernel that does its call.
use Rattle.std.specs.Prelude.{ℕ, ◌-◌, ◌%◌, ◌==◌, Bool, true, false, ◌&&◌, ◌||◌, not, if◌then◌else◌, List, nat_le, length, slice_get, Option, Some, None}
use Rattle.std.specs.List.{list_any}
use Rattle.std.specs.Option.{option_map, option_and_then, is_some}
use Rattle.sprite_ids.specs.Pid.{home_of}
use Rattle.sprite_ids.specs.declared.errno.Errno.{Errno}
use Rattle.sprite_ids.specs.declared.errno.Errno.TheVariants as errno
use Rattle.sprite_paths.specs.Path.{clean_path}
use Rattle.process_machine.specs.declared.call.Call.{Call}
use Rattle.process_machine.specs.declared.call.Call.TheVariants as call
use Rattle.unix_calls.specs.declared.description.Description.{Description}
use Rattle.unix_calls.specs.declared.description.KernelLine.{KernelLine}
use Rattle.unix_calls.specs.declared.entry.Entry.{Entry}
use Rattle.unix_calls.specs.declared.entry.Part.{Part}
use Rattle.unix_calls.specs.declared.entry.Part.TheVariants as part
use Rattle.unix_calls.specs.declared.event.Event.{Event}
use Rattle.unix_calls.specs.declared.event.Event.TheVariants as event
use Rattle.unix_calls.specs.declared.event.Rec.{Rec}
use Rattle.unix_calls.specs.declared.state.Object.{Object}
use Rattle.unix_calls.specs.declared.state.Stream.{Stream}
use Rattle.unix_calls.specs.declared.state.Process.{Process}
use Rattle.unix_calls.specs.declared.state.Object.TheVariants.{OfDevice}
use Rattle.unix_calls.specs.State.{free_descriptor}
use Rattle.call_journal.specs.Past.{Past, Tie, holds, process_in, kernel_of, stream_in, tied, server_of_device, each_record, some_record}
use Rattle.call_journal.specs.Matching.{same_stream, is_at, has_event, is_request_about, is_reply_about}
use Rattle.call_journal.specs.Calls.{path_text, descriptor_of, is_value, error_in, server_of}

-- where an entry stands: at the kernel of its process, at another one, or at one of the two
pub data Stand : Type 0 where
  AtProcess : Stand
  AtKernel : ℕ → Stand
  AtEither : ℕ → Stand

-- at that kernel, where there is one; else at the process's
abbrev pub at_kernel : Option ℕ → Stand
at_kernel (Some kernel) = AtKernel kernel
at_kernel None = AtProcess

-- a call that goes by names, and never left the kernel of its process: the server is unreachable, the text is no path, an
-- open's flags are none, or all descriptors are in use
abbrev pub has_no_descriptor : Option Process → Bool
has_no_descriptor p = holds (λ (q : Process). not (is_some (free_descriptor q))) p

abbrev pub stays_by : Call → Option Process → Option Errno → Bool
stays_by call p (Some errno.Unreachable) = true
stays_by call p (Some errno.BadName) = true
stays_by (call.OpenFile path flags) p (Some errno.Invalid) = true
stays_by (call.OpenFile path flags) p (Some errno.TooMany) = has_no_descriptor p
stays_by (call.PdMake path) p (Some errno.TooMany) = has_no_descriptor p
stays_by _ p error = false

-- the server of a text's path, from the process's directory
abbrev pub server_of_text : Description → Option Process → List ℕ → Option ℕ
server_of_text c p text = option_map (server_of c) (option_and_then (λ (q : Process). clean_path q.cwd text) p)

abbrev pub name_stand : Description → Past → Entry → Call → List ℕ → Stand
name_stand c past entry call text =
    if stays_by call (process_in past entry.pid) (error_in entry.reply)
    then AtProcess
    else at_kernel (server_of_text c (process_in past entry.pid) text)

-- whether a number is that of a process whose home is a client
abbrev pub is_client_line : Option KernelLine → Bool
is_client_line line = holds (λ (l : KernelLine). length l.serves == 0) line

abbrev pub is_client_pid : Description → ℕ → Bool
is_client_pid c pid =
    nat_le 1 (home_of pid) && is_client_line (slice_get c.kernels (home_of pid - 1)) && nat_le 1 (pid % 1000) && nat_le (pid % 1000) 200

-- the server of the file behind a descriptor
abbrev pub file_server : Option Tie → Option ℕ
file_server tie = option_map (λ (t : Tie). t.file.server) tie

-- an operation on a file is done at its server or at the process's kernel
abbrev pub at_file : Option Tie → Stand
at_file (Some tie) = AtEither tie.file.server
at_file None = AtProcess

-- a stream whose offset went to the server
abbrev pub is_shared_record : Tie → Event → Bool
is_shared_record tie (event.Shared file stream) = same_stream stream tie.stream
is_shared_record tie _ = false

abbrev pub is_shared : Past → Tie → Bool
is_shared past tie = list_any (has_event (is_shared_record tie)) past.records

abbrev pub at_shared : Past → Option Tie → Stand
at_shared past (Some tie) = if is_shared past tie then AtEither tie.file.server else AtProcess
at_shared past None = AtProcess

-- whether a write was refused since the file would be too large
abbrev pub is_too_big : Option Errno → Bool
is_too_big (Some errno.TooBig) = true
is_too_big _ = false

-- of a whole call, which goes neither by names nor to a device's master
abbrev pub other_stand : Description → Past → Entry → Call → Stand
other_stand c past entry (call.Print bytes) = AtKernel (home_of entry.pid)
other_stand c past entry (call.Exit code) = AtKernel (home_of entry.pid)
other_stand c past entry call.BadStep = AtKernel (home_of entry.pid)
other_stand c past entry (call.Host max) = AtKernel (home_of entry.pid)
other_stand c past entry call.Tick = AtKernel (home_of entry.pid)
other_stand c past entry call.Getppid = AtKernel (home_of entry.pid)
other_stand c past entry call.Fork = AtKernel (home_of entry.pid)
other_stand c past entry call.Wait = AtKernel (home_of entry.pid)
other_stand c past entry (call.Kill pid) = if is_client_pid c pid then AtKernel (home_of pid) else AtProcess
other_stand c past entry (call.Read fd many) = if is_value entry.reply then at_file (tied past entry.pid fd) else AtProcess
other_stand c past entry (call.Size fd) = if is_value entry.reply then at_file (tied past entry.pid fd) else AtProcess
other_stand c past entry (call.Write fd bytes) =
    if is_value entry.reply || is_too_big (error_in entry.reply) then at_file (tied past entry.pid fd) else AtProcess
other_stand c past entry (call.Seek fd offset) = at_shared past (tied past entry.pid fd)
other_stand c past entry _ = AtProcess

abbrev pub whole_stand : Description → Past → Entry → Call → Option (List ℕ) → Stand
whole_stand c past entry call (Some text) = name_stand c past entry call text
whole_stand c past entry call None = other_stand c past entry call

-- the device that an ask goes to, and the one that a process is asking
abbrev pub device_of_object : Object → Option ℕ
device_of_object (OfDevice place) = Some place
device_of_object _ = None

abbrev pub device_asked : Past → Entry → Call → Option ℕ
device_asked past entry call =
    option_and_then (λ (s : Stream). device_of_object s.object) (option_and_then (stream_in past entry.pid) (descriptor_of call))

abbrev pub device_asking : Past → Entry → Option ℕ
device_asking past entry = option_and_then (λ (p : Process). p.asking) (process_in past entry.pid)

-- the kernel of a device
abbrev pub device_kernel : Past → Option ℕ → Option ℕ
device_kernel past place = option_and_then (server_of_device past.devices) place

-- where an entry stands, by its part
abbrev pub part_stand : Description → Past → Entry → Part → Option Call → Stand
part_stand c past entry part.Whole (Some call) = whole_stand c past entry call (path_text call)
part_stand c past entry part.Ask (Some call) = at_kernel (device_kernel past (device_asked past entry call))
part_stand c past entry part.Done (Some call) = at_kernel (device_kernel past (device_asking past entry))
part_stand c past entry part.Death call = AtKernel (home_of entry.pid)
part_stand c past entry _ None = AtProcess

abbrev pub stand_of : Description → Past → Entry → Stand
stand_of c past entry = part_stand c past entry entry.part entry.call

-- the kernel of an entry is where it stands
abbrev pub is_stand : Stand → ℕ → ℕ → Bool
is_stand AtProcess at kernel = kernel == at
is_stand (AtKernel due) at kernel = kernel == due
is_stand (AtEither server) at kernel = kernel == server || kernel == at

-- an entry at another kernel than its process's stands behind a delivery there of a request about its call
abbrev pub was_requested : Past → ℕ → Entry → Bool
was_requested past kernel entry = list_any (is_at kernel (is_request_about entry.pid entry.number)) past.records

abbrev pub entry_stands_at : Description → Past → ℕ → Entry → Option ℕ → Bool
entry_stands_at c past kernel entry None = false
entry_stands_at c past kernel entry (Some at) =
    is_stand (stand_of c past entry) at kernel && (kernel == at || was_requested past kernel entry)

-- an entry of that call that stands at another kernel than its process's
abbrev pub is_away : Past → ℕ → ℕ → ℕ → Event → Bool
is_away past pid number kernel (event.Enter entry) =
    entry.pid == pid && entry.number == number && not (holds (λ at. at == kernel) (kernel_of past pid))
is_away past pid number kernel _ = false

-- the return of a call with such an entry stands behind a delivery of a reply about it
abbrev pub is_answered : Description → Past → ℕ → ℕ → Bool
is_answered c past pid number =
    not (some_record c (λ earlier r rest. is_away earlier pid number r.kernel r.event) past.records)
    || list_any (has_event (is_reply_about pid number)) past.records

abbrev pub stands_well : Description → Past → ℕ → Event → Bool
stands_well c past kernel (event.Enter entry) = entry_stands_at c past kernel entry (kernel_of past entry.pid)
stands_well c past kernel (event.Return pid number reply) = is_answered c past pid number
stands_well c past kernel _ = true

-- each does
abbrev pub entries_stand_at_their_kernels : Description → List Rec → Bool
entries_stand_at_their_kernels c trace = each_record c (λ past rec rest. stands_well c past rec.kernel rec.event) trace
