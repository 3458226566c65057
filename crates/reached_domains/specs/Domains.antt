-- What the kernels of a reached cluster ask and tell of domains.
use Rattle.std.specs.Prelude.{◌≡◌, ℕ, ◌≤◌, Bool, true, List, Option, Some, None, is_some}
use Rattle.std.specs.List.{AllByRecursion}
use Rattle.sprite_ids.specs.declared.TxNo.{TxNo}
use Rattle.packet_bodies.specs.declared.Body.{Body}
use Rattle.packet_bodies.specs.declared.Body.TheVariants as bodies
use Rattle.packet_bodies.specs.declared.ReplyBody.{ReplyBody}
use Rattle.packet_bodies.specs.declared.ReplyBody.TheVariants.{Here, Redirect}
use Rattle.packet_bodies.specs.declared.Request.{Request}
use Rattle.packet_bodies.specs.declared.Request.TheVariants as requests
use Rattle.wire_format.specs.declared.Packet.{Packet}
use Rattle.wire_format.specs.Packets.{reading}
use Rattle.kernel_rpc.specs.declared.call.Call.{Call}
use Rattle.kernel_rpc.specs.Machine.{call_of}
use Rattle.unix_calls.specs.declared.Description.{Description}
use Rattle.unix_calls.specs.declared.Event.{Event}
use Rattle.unix_calls.specs.declared.Event.TheVariants as events
use Rattle.unix_calls.specs.declared.Rec.{Rec}
use Rattle.unix_calls.specs.Domains.{begins_domain, roots_of}
use Rattle.prefix_table.specs.declared.prefixes.Domain.{Domain}
use Rattle.server_kernel.specs.declared.Server.{Server}
use Rattle.server_kernel.specs.Boot.{serves_of}
use Rattle.server_kernel.specs.Directory.{is_root}
use Rattle.client_homes.specs.declared.ClientProcs.{ClientProcs}
use Rattle.cluster_wire.specs.Goings.{server_in}
use Rattle.cluster_kernels.specs.declared.KernelState.TheVariants as kernels
use Rattle.cluster_kernels.specs.States.{client_at, kernel_at}
use Rattle.server_walks.specs.Sorts.{fits}
use Rattle.broadcast_laws.specs.Broadcasts.{Parts, WaitsFor}
use Rattle.sprite_cluster.specs.Reached.{At, Reached}

-- the request in a packet's body, in a looked-up packet, and in spelled bytes
abbrev pub request_in : Body → Option Request
request_in (bodies.Request body) = Some body
request_in (bodies.Reply body) = None

abbrev pub request_read : Option Packet → Option Request
request_read None = None
request_read (Some packet) = request_in packet.body

abbrev pub asked_request : List ℕ → Option Request
asked_request bytes = request_read (reading bytes)

-- the prefix for whose server a request asks, a looked-up one, and one that is spelled so
abbrev pub prefix_of : Request → Option Parts
prefix_of (requests.Prefix path) = Some path
prefix_of body = None

abbrev pub prefix_by : Option Request → Option Parts
prefix_by None = None
prefix_by (Some body) = prefix_of body

abbrev pub asked_prefix : List ℕ → Option Parts
asked_prefix bytes = prefix_by (asked_request bytes)

-- whether the kernel of that number serves a domain that hangs there
abbrev pub serves : Description → ℕ → Parts → Bool
serves c kernel path = begins_domain (serves_of c.kernels kernel) path

-- each server of a reached cluster serves domains of the description alone, its own
abbrev pub ServersServeTheirs : {L : Type 0} → (L → ℕ → ℕ → ℕ) → (L → ℕ → ℕ → ℕ) → Type 0
ServersServeTheirs {L} faults asked =
    (c : Description) (begun : L) (now : At L) (kernel : ℕ) (server : Server) (path : Parts) → 1 ≤ kernel → Reached faults asked c begun now
    → kernel_at kernel now.state ≡ Some (kernels.Server server) → is_root path server ≡ true → serves c kernel path ≡ true

-- each remote call of a reached cluster that asks for the server of a prefix is to be answered by the server of its longest domain
abbrev pub OneServerAnswers : {L : Type 0} → (L → ℕ → ℕ → ℕ) → (L → ℕ → ℕ → ℕ) → Type 0
OneServerAnswers {L} faults asked =
    (c : Description) (begun : L) (now : At L) (tx : TxNo) (call : Call) (prefix : Parts) → Reached faults asked c begun now
    → call_of now.wire.machine tx ≡ Some call → asked_prefix call.body ≡ Some prefix → call.owner ≡ server_in c prefix

-- the answer to such a call: the prefix is the root of a domain of the one that answered; and the answer tells that prefix, and that it is
-- that server's
pub record TellsADomain (c : Description) (call : Call) (prefix : Parts) : Type 0 where
  pub served : serves c call.owner prefix ≡ true
  pub told : (reply : List ℕ) (packet : Packet) → call.reply ≡ Some reply → reading reply ≡ Some packet → (packet.from ≡ call.owner) × (packet.body ≡ bodies.Reply (Here prefix))

-- so it is in each reached cluster
abbrev pub AnswersTellDomains : {L : Type 0} → (L → ℕ → ℕ → ℕ) → (L → ℕ → ℕ → ℕ) → Type 0
AnswersTellDomains {L} faults asked =
    (c : Description) (begun : L) (now : At L) (tx : TxNo) (call : Call) (prefix : Parts) → Reached faults asked c begun now
    → call_of now.wire.machine tx ≡ Some call → asked_prefix call.body ≡ Some prefix → is_some call.reply ≡ true → TellsADomain c call prefix

-- each answer of a server to such a call and to any other is of a sort that the request may have
abbrev pub ServersAnswersFit : {L : Type 0} → (L → ℕ → ℕ → ℕ) → (L → ℕ → ℕ → ℕ) → Type 0
ServersAnswersFit {L} faults asked =
    (c : Description) (begun : L) (now : At L) (tx : TxNo) (call : Call) (request : Request) (reply : List ℕ) (packet : Packet) (body : ReplyBody) (path : Parts) → Reached faults asked c begun now
    → call_of now.wire.machine tx ≡ Some call → serves c call.owner path ≡ true → asked_request call.body ≡ Some request → call.reply ≡ Some reply → reading reply ≡ Some packet → packet.body ≡ bodies.Reply body
    → fits request body ≡ true

-- each answer that sends a name call on sends it to the root of a domain of the description
abbrev pub RedirectsAreDomains : {L : Type 0} → (L → ℕ → ℕ → ℕ) → (L → ℕ → ℕ → ℕ) → Type 0
RedirectsAreDomains {L} faults asked =
    (c : Description) (begun : L) (now : At L) (tx : TxNo) (call : Call) (reply : List ℕ) (packet : Packet) (path : Parts) → Reached faults asked c begun now
    → call_of now.wire.machine tx ≡ Some call → call.reply ≡ Some reply → reading reply ≡ Some packet → packet.body ≡ bodies.Reply (Redirect path) → begins_domain (roots_of c.kernels) path ≡ true

-- each answer comes from the kernel that was to give it
abbrev pub AnswersAreOwners : {L : Type 0} → (L → ℕ → ℕ → ℕ) → (L → ℕ → ℕ → ℕ) → Type 0
AnswersAreOwners {L} faults asked =
    (c : Description) (begun : L) (now : At L) (tx : TxNo) (call : Call) (reply : List ℕ) (packet : Packet) → Reached faults asked c begun now
    → call_of now.wire.machine tx ≡ Some call → call.reply ≡ Some reply → reading reply ≡ Some packet → packet.from ≡ call.owner

-- where an operation of a client waits in a broadcast for the server of a prefix, that call asks for it
abbrev pub BroadcastsAskSo : {L : Type 0} → (L → ℕ → ℕ → ℕ) → (L → ℕ → ℕ → ℕ) → Type 0
BroadcastsAskSo {L} faults asked =
    (c : Description) (begun : L) (now : At L) (kernel : ℕ) (client : ClientProcs) (tx : TxNo) (prefix : Parts) (call : Call) → 1 ≤ kernel → Reached faults asked c begun now
    → client_at kernel now.state ≡ Some client → WaitsFor client.files.pending tx prefix → call_of now.wire.machine tx ≡ Some call → asked_prefix call.body ≡ Some prefix

-- whether a row of a prefix table is a domain of the description, with its server
abbrev pub is_domain : Description → Domain → Bool
is_domain c domain = serves c domain.server domain.prefix

-- in each reached cluster each row of each client's prefix table is a domain of the description, with that domain's server
abbrev pub RowsAreDomains : {L : Type 0} → (L → ℕ → ℕ → ℕ) → (L → ℕ → ℕ → ℕ) → Type 0
RowsAreDomains {L} faults asked =
    (c : Description) (begun : L) (now : At L) (kernel : ℕ) (client : ClientProcs) → 1 ≤ kernel → Reached faults asked c begun now → client_at kernel now.state ≡ Some client
    → AllByRecursion (λ (domain : Domain). is_domain c domain ≡ true) client.files.prefixes

-- whether an event that tells that a prefix was learned tells of a domain of the description, with its server
abbrev pub learns_domain : Description → Event → Bool
learns_domain c (events.Learned prefix server) = serves c server prefix
learns_domain c event = true

-- so does each of a trace
abbrev pub LearnsDomains : Description → List Rec → Type 0
LearnsDomains c trace = AllByRecursion (λ (r : Rec). learns_domain c r.event ≡ true) trace

-- in the trace of a reached cluster what was learned are domains of the description, each with its server
abbrev pub LearnedAreDomains : {L : Type 0} → (L → ℕ → ℕ → ℕ) → (L → ℕ → ℕ → ℕ) → Type 0
LearnedAreDomains {L} faults asked = (c : Description) (begun : L) (now : At L) → Reached faults asked c begun now → LearnsDomains c now.trace
