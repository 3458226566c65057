-- How a name call finds its server.
use Rattle.std.specs.Prelude.{ℕ, if◌then◌else◌, [], Option, Some, None, option_map}
use Rattle.prefix_table.specs.declared.prefixes.Domain.{Domain}
use Rattle.prefix_table.specs.Prefixes.{knows, learned, longest}
use Rattle.unix_calls.specs.declared.Event.TheVariants as events
use Rattle.unix_calls.specs.declared.SendKind.TheVariants.{Broadcast, Other}
use Rattle.client_file_tables.specs.declared.ClientFiles.{ClientFiles}
use Rattle.client_file_tables.specs.declared.NameState.{NameState}
use Rattle.client_file_tables.specs.declared.NameState.TheVariants.{Broadcasting, Echoing, Asking}
use Rattle.client_file_tables.specs.declared.Pending.TheVariants.{Name}
use Rattle.client_file_tables.specs.Says.{notes, sends_for}
use Rattle.client_file_tables.specs.Steps.{keeps}
use Rattle.client_file_tables.specs.declared.NameWork.{NameWork}
use Rattle.client_names.specs.Paths.{Parts}
use Rattle.client_names.specs.Requests.{request_to, echo_to, broadcast_of}

-- the call waits so
abbrev pub waits : ℕ → NameWork → NameState → ClientFiles → ClientFiles
waits pid work state s = keeps pid (Name (record { work = work; state = state })) s

-- the server of the longest learned prefix that fits the path
abbrev pub server_for : Parts → ClientFiles → Option ℕ
server_for path s = option_map (λ (domain : Domain). domain.server) (longest s.prefixes path)

-- the server is asked for a sign of life
abbrev pub echoes : ℕ → NameWork → ℕ → ClientFiles → ClientFiles
echoes pid work server s = waits pid work (Echoing s.out.next server) (sends_for pid (echo_to server pid work) Other s)

-- all servers are asked who serves the prefix
abbrev pub broadcasts : ℕ → NameWork → Parts → ClientFiles → ClientFiles
broadcasts pid work prefix s =
    waits pid work (Broadcasting s.out.next prefix) (sends_for pid (broadcast_of pid work prefix s) (Broadcast prefix) s)

-- the server gave its sign of life: it is asked
abbrev pub asks : ℕ → NameWork → ℕ → ClientFiles → ClientFiles
asks pid work server s = waits pid work (Asking s.out.next) (sends_for pid (request_to server pid work) Other s)

-- the path is looked up among the learned prefixes; where none fits, it is asked who serves `/`
abbrev pub looks_up_by : ℕ → NameWork → Option ℕ → ClientFiles → ClientFiles
looks_up_by pid work (Some server) s = echoes pid work server s
looks_up_by pid work None s = broadcasts pid work [] s

abbrev pub looks_up : ℕ → NameWork → ClientFiles → ClientFiles
looks_up pid work s = looks_up_by pid work (server_for work.path s) s

-- the walk met another domain: it is asked who serves it, unless that was learned meanwhile
abbrev pub redirects : ℕ → NameWork → Parts → ClientFiles → ClientFiles
redirects pid work prefix s = if knows s.prefixes prefix then looks_up pid work s else broadcasts pid work prefix s

-- a server answered a broadcast: its prefix is learned, where it isn't known yet
abbrev pub learns : Parts → ℕ → ClientFiles → ClientFiles
learns prefix server s =
    if knows s.prefixes prefix then s else notes (events.Learned prefix server) (record s { prefixes = learned s.prefixes prefix server })
