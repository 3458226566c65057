-- Opens at the server.
use Rattle.std.specs.Prelude.{ℕ, ◌+◌, Bool, true, false, ◌&&◌, if◌then◌else◌, Option, Some, None, Result, Ok, Err}
use Rattle.sprite_ids.specs.declared.TxNo.{TxNo}
use Rattle.sprite_ids.specs.declared.FileId.{FileId}
use Rattle.sprite_ids.specs.declared.DeviceId.{DeviceId}
use Rattle.sprite_ids.specs.declared.Mode.{Mode}
use Rattle.sprite_ids.specs.declared.Errno.{Errno}
use Rattle.sprite_ids.specs.declared.Errno.TheVariants as errno
use Rattle.packet_bodies.specs.declared.OpeningRequest.{OpeningRequest}
use Rattle.packet_bodies.specs.declared.ReplyBody.TheVariants as replies
use Rattle.packet_bodies.specs.declared.Target.TheVariants as targets
use Rattle.server_names.specs.declared.NameEnd.{NameEnd}
use Rattle.server_names.specs.declared.NameEnd.TheVariants as ends
use Rattle.server_names.specs.declared.Node.{Node}
use Rattle.server_names.specs.declared.Node.TheVariants.{Dir, File, Device}
use Rattle.version_table.specs.declared.Action.{Action}
use Rattle.version_table.specs.declared.Action.TheVariants as actions
use Rattle.server_kernel.specs.declared.asked.Asked.{Asked}
use Rattle.server_kernel.specs.declared.server.Server.{Server}
use Rattle.server_kernel.specs.Flags.{has_bit, opening_mode}
use Rattle.server_kernel.specs.Says.{answers, refuses}
use Rattle.server_kernel.specs.Files.{made_file}
use Rattle.server_kernel.specs.Directory.{found_in, make_in, with_made}
use Rattle.server_kernel.specs.OpenCalls.{open_call, open_caller, gives_open}
use Rattle.server_kernel.specs.Grants.{decides}

-- the open is refused
abbrev pub refuses_open : TxNo → OpeningRequest → Errno → Server → Server
refuses_open tx r why s = refuses (open_caller tx r) (open_call r) why s

-- the open ends at its name: it is refused, or its walk met a remote link, and then nothing is entered
abbrev pub ends_open : TxNo → OpeningRequest → NameEnd → Server → Server
ends_open tx r (ends.Errno why) s = refuses_open tx r why s
ends_open tx r (ends.Redirect path) s = answers tx (replies.Redirect path) s
ends_open tx r ends.NoMemory s = s

-- what the open asks of the table of opens
abbrev pub opening_of : ℕ → OpeningRequest → Mode → Action
opening_of from r mode = actions.Opening from r.stream mode (has_bit 8 r.flags)

-- a file: an Opening of it, and where no callback goes first its Delivering
abbrev pub opens_file : Asked → OpeningRequest → Mode → FileId → Server → Server
opens_file asked r mode file s = decides asked file (opening_of asked.from r mode) s

-- a device: its kernel serves it, and nobody counts its streams here
abbrev pub opens_device : TxNo → OpeningRequest → DeviceId → Server → Server
opens_device tx r device s = answers tx (replies.Opened (record { object = targets.Device device; grant = None; size = 0 })) (gives_open tx r s)

-- what has the name is opened; a directory can't be
abbrev pub opens_node : Asked → OpeningRequest → Mode → Node → Server → Server
opens_node asked r mode Dir s = refuses_open asked.tx r errno.IsDir s
opens_node asked r mode (Device device) s = opens_device asked.tx r device s
opens_node asked r mode (File file) s = opens_file asked r mode file s

-- the next file that is made
abbrev pub new_file : Server → FileId
new_file s = record { server = s.kernel; number = s.next_file }

-- one file more is made
abbrev pub counts_file : Server → Server
counts_file s = record s { next_file = s.next_file + 1 }

-- the file that has the name now is made and opened
abbrev pub opens_made : Asked → OpeningRequest → Mode → Server → Server
opens_made asked r mode s = opens_file asked r mode (new_file s) (counts_file (made_file (new_file s) s))

abbrev pub creates_by : Asked → OpeningRequest → Mode → Result (Unit {0}) NameEnd → Server → Server
creates_by asked r mode (Ok done) s = opens_made asked r mode (with_made r.path (File (new_file s)) s)
creates_by asked r mode (Err end) s = ends_open asked.tx r end s

abbrev pub creates_file : Asked → OpeningRequest → Mode → Server → Server
creates_file asked r mode s = creates_by asked r mode (make_in r.path s) s

-- whether a name is missing
abbrev pub is_no_entry : Errno → Bool
is_no_entry errno.NoEntry = true
is_no_entry other = false

-- nothing has the name: a file is made where that is asked for
abbrev pub opens_absent : Asked → OpeningRequest → Mode → Errno → Server → Server
opens_absent asked r mode why s =
    if is_no_entry why && has_bit 4 r.flags then creates_file asked r mode s else refuses_open asked.tx r why s

abbrev pub opens_found : Asked → OpeningRequest → Mode → Result Node NameEnd → Server → Server
opens_found asked r mode (Ok node) s = opens_node asked r mode node s
opens_found asked r mode (Err (ends.Errno why)) s = opens_absent asked r mode why s
opens_found asked r mode (Err (ends.Redirect path)) s = answers asked.tx (replies.Redirect path) s
opens_found asked r mode (Err ends.NoMemory) s = s

abbrev pub opens_for : Asked → OpeningRequest → Mode → Server → Server
opens_for asked r mode s = opens_found asked r mode (found_in r.path s) s

-- an open; flags that are none are refused
abbrev pub opens_with : Asked → OpeningRequest → Option Mode → Server → Server
opens_with asked r (Some mode) s = opens_for asked r mode s
opens_with asked r None s = refuses_open asked.tx r errno.Invalid s

abbrev pub opens : Asked → OpeningRequest → Server → Server
opens asked r s = opens_with asked r (opening_mode r.flags) s
