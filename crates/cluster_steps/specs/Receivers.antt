-- Which kernels take a request, and which requests they answer.
use Rattle.std.specs.Prelude.{ℕ, Bool, true, false, ◌&&◌, not, List, is_some}
use Rattle.std.specs.List.{list_all}
use Rattle.kernel_steps.specs.declared.Sending.{Sending}
use Rattle.packet_bodies.specs.declared.NameOp.{NameOp}
use Rattle.packet_bodies.specs.declared.NameOp.TheVariants as ops
use Rattle.packet_bodies.specs.declared.Request.{Request}
use Rattle.packet_bodies.specs.declared.Request.TheVariants as requests
use Rattle.unix_calls.specs.declared.Description.{Description}
use Rattle.unix_calls.specs.declared.KernelLine.{KernelLine}
use Rattle.unix_calls.specs.Domains.{begins_domain}
use Rattle.unix_calls.specs.Lawful.{holds, numbered, serves_none}
use Rattle.cluster_wire.specs.Goings.{server_in}

-- whether file servers take such a request, and not clients: for names, files and pages, for the server of a prefix, for a sign of life
abbrev pub is_for_servers : Request → Bool
is_for_servers (requests.Callback request) = false
is_for_servers (requests.Transfer request) = false
is_for_servers (requests.Home request) = false
is_for_servers (requests.Place pid kernel) = false
is_for_servers (requests.Killed pid) = false
is_for_servers (requests.Ask request) = false
is_for_servers (requests.Launch request) = false
is_for_servers _ = true

-- whether a kernel takes it: a file server serves a domain, and a client none
abbrev pub takes_such : Bool → KernelLine → Bool
takes_such true line = not (serves_none line)
takes_such false line = serves_none line

-- whether the kernel of that number is one of the cluster, and takes it
abbrev pub is_receiver : Description → Bool → ℕ → Bool
is_receiver c for_servers kernel = holds (takes_such for_servers) (numbered c.kernels kernel)

-- whether a file server does a name call: no walk alone, and no rename without a second path
abbrev pub is_served : NameOp → Bool → Bool
is_served ops.Walk second = false
is_served ops.Rename second = second
is_served op second = true

-- whether the kernel of that number serves a domain that hangs there
abbrev pub serves_at : Description → ℕ → List (List ℕ) → Bool
serves_at c kernel path = holds (λ (line : KernelLine). begins_domain line.serves path) (numbered c.kernels kernel)

-- whether the server of the longest domain of the path does
abbrev pub is_domain : Description → List (List ℕ) → Bool
is_domain c path = serves_at c (server_in c path) path

-- whether a request is one that kernels answer: the server of a prefix is asked for where a domain hangs, and a name call is one that is
-- done at servers
abbrev pub may_be_asked : Description → Request → Bool
may_be_asked c (requests.Prefix path) = is_domain c path
may_be_asked c (requests.Name request) = is_served request.op (is_some request.second)
may_be_asked c body = true

-- whether a remote call asks so, and goes to kernels alone that take such
abbrev pub fits : Description → Sending → Bool
fits c sending = may_be_asked c sending.body && list_all (is_receiver c (is_for_servers sending.body)) sending.to

-- whether all of them do
abbrev pub all_fit : Description → List Sending → Bool
all_fit c sendings = list_all (fits c) sendings
