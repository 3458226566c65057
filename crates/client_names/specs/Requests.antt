-- What name calls ask of servers.
use Rattle.std.specs.Prelude.{ℕ, List, [], Option, Some, None}
use Rattle.sprite_ids.specs.declared.Tries.TheVariants.{Always, Eight}
use Rattle.process_machine.specs.declared.Call.{Call}
use Rattle.process_machine.specs.declared.Call.TheVariants as calls
use Rattle.packet_bodies.specs.declared.Request.{Request}
use Rattle.packet_bodies.specs.declared.Request.TheVariants as requests
use Rattle.kernel_steps.specs.declared.Sending.{Sending}
use Rattle.client_file_tables.specs.declared.ClientFiles.{ClientFiles}
use Rattle.client_file_tables.specs.declared.NameKind.{NameKind}
use Rattle.client_file_tables.specs.declared.NameKind.TheVariants as kinds
use Rattle.client_file_tables.specs.Says.{about_of, to_one}
use Rattle.client_file_tables.specs.declared.NameWork.{NameWork}
use Rattle.client_names.specs.Paths.{Parts}

-- the path text of a name call, as the process gave it; of a rename the old one
abbrev pub text_of : Call → List ℕ
text_of (calls.OpenFile path flags) = path
text_of (calls.PdMake path) = path
text_of (calls.Stat path) = path
text_of (calls.Mkdir path) = path
text_of (calls.Rmdir path) = path
text_of (calls.Unlink path) = path
text_of (calls.Rename old new) = old
text_of (calls.List path max) = path
text_of (calls.Chdir path) = path
text_of _ = []

-- the text of a rename's new path
abbrev pub second_text_of : Call → Option (List ℕ)
second_text_of (calls.Rename old new) = Some new
second_text_of _ = None

-- what is asked of the server
abbrev pub request_by : NameKind → ℕ → NameWork → Request
request_by (kinds.Open flags stream fd) pid work =
    requests.Opening (record { pid = pid; number = work.number; stream = stream; path = work.path; flags = flags; fd = fd; text = text_of work.call })
request_by (kinds.Make device stream fd) pid work =
    requests.Make (record { pid = pid; number = work.number; stream = stream; path = work.path; device = device; fd = fd; text = text_of work.call })
request_by (kinds.Name op second max) pid work =
    requests.Name (record { pid = pid; number = work.number; op = op; path = work.path; second = second; max = max; text = text_of work.call; second_text = second_text_of work.call })

abbrev pub request_of : ℕ → NameWork → Request
request_of pid work = request_by work.kind pid work

-- the request goes to the server until it is answered
abbrev pub request_to : ℕ → ℕ → NameWork → Sending
request_to server pid work = to_one server Always (Some (about_of pid work.number)) (request_of pid work)

-- the server is asked for a sign of life
abbrev pub echo_to : ℕ → ℕ → NameWork → Sending
echo_to server pid work = to_one server Eight (Some (about_of pid work.number)) requests.Echo

-- all servers are asked who serves the prefix
abbrev pub broadcast_of : ℕ → NameWork → Parts → ClientFiles → Sending
broadcast_of pid work prefix s =
    record { to = s.servers; tries = Eight; about = Some (about_of pid work.number); body = requests.Prefix prefix }
