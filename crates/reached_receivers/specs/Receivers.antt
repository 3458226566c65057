-- Where the packets of a reached cluster go: to its kernels, and each request to those that take such.
use Rattle.std.specs.Prelude.{◌≡◌, ◌≤◌, ℕ, Bool, true, false, length, Some}
use Rattle.std.specs.List.{AllByRecursion}
use Rattle.sprite_ids.specs.declared.TxNo.{TxNo}
use Rattle.packet_bodies.specs.declared.Request.{Request}
use Rattle.kernel_steps.specs.declared.Input.TheVariants as inputs
use Rattle.kernel_rpc.specs.declared.call.Call.{Call}
use Rattle.kernel_rpc.specs.declared.call.PacketCopy.{PacketCopy}
use Rattle.kernel_rpc.specs.declared.call.Receiver.{Receiver}
use Rattle.kernel_rpc.specs.Machine.{call_of}
use Rattle.unix_calls.specs.declared.Description.{Description}
use Rattle.unix_calls.specs.Domains.{begins_domain}
use Rattle.unix_calls.specs.Lawful.{Lawful}
use Rattle.server_kernel.specs.declared.Server.{Server}
use Rattle.server_kernel.specs.Boot.{serves_of}
use Rattle.server_kernel.specs.Directory.{Parts, is_root}
use Rattle.kept_requests.specs.Kept.{has_answer}
use Rattle.client_homes.specs.declared.ClientProcs.{ClientProcs}
use Rattle.client_requests.specs.Requests.{is_left}
use Rattle.cluster_kernels.specs.declared.KernelState.{KernelState}
use Rattle.cluster_kernels.specs.declared.KernelState.TheVariants as kernels
use Rattle.cluster_kernels.specs.Kernels.{can_take}
use Rattle.cluster_kernels.specs.States.{kernel_at}
use Rattle.cluster_steps.specs.Receivers.{is_for_servers, is_receiver, may_be_asked}
use Rattle.sprite_cluster.specs.Everywhere.{OfAll}
use Rattle.sprite_cluster.specs.Reached.{At, Reached}
use Rattle.reached_domains.specs.Domains.{asked_request}

-- ---- kernels

-- a kernel of the description
abbrev pub IsInside : Description → ℕ → Type 0
IsInside c kernel = (1 ≤ kernel) × (kernel ≤ length c.kernels)

abbrev pub is_server : KernelState → Bool
is_server (kernels.Server server) = true
is_server (kernels.Client client) = false

-- a kernel is what the description says of its number: one that takes such requests as its kind does
abbrev pub IsOfItsKind : Description → ℕ → KernelState → Type 0
IsOfItsKind c kernel state = is_receiver c (is_server state) kernel ≡ true

-- so is each kernel of a reached cluster
abbrev pub KernelsAreOfTheirKind : {L : Type 0} → (L → ℕ → ℕ → ℕ) → (L → ℕ → ℕ → ℕ) → Type 0
KernelsAreOfTheirKind {L} faults asked = (c : Description) (begun : L) (now : At L) → Reached faults asked c begun now → OfAll (IsOfItsKind c) 1 now.state.kernels

-- ---- calls

-- the request of a call can be read and is one that kernels answer; its owner takes such and so does each kernel to which it goes; and it
-- comes from a kernel of the description
pub record GoesRight (c : Description) (call : Call) : Type 0 where
  pub request : Request
  pub asks : asked_request call.body ≡ Some request
  pub may : may_be_asked c request ≡ true
  pub owner : is_receiver c (is_for_servers request) call.owner ≡ true
  pub receivers : AllByRecursion (λ (receiver : Receiver). is_receiver c (is_for_servers request) receiver.kernel ≡ true) call.receivers
  pub low : 1 ≤ call.from
  pub high : call.from ≤ length c.kernels

-- so does each unfinished call of a reached cluster
abbrev pub CallsGoRight : {L : Type 0} → (L → ℕ → ℕ → ℕ) → (L → ℕ → ℕ → ℕ) → Type 0
CallsGoRight {L} faults asked = (c : Description) (begun : L) (now : At L) → Reached faults asked c begun now → AllByRecursion (GoesRight c) now.wire.machine.unfinished

-- and what is asked of a server is for servers, and what is asked of a client isn't
abbrev pub RequestsAreOfTheirKind : {L : Type 0} → (L → ℕ → ℕ → ℕ) → (L → ℕ → ℕ → ℕ) → Type 0
RequestsAreOfTheirKind {L} faults asked =
    (c : Description) (begun : L) (now : At L) (tx : TxNo) (call : Call) (state : KernelState) (body : Request) → Reached faults asked c begun now → call_of now.wire.machine tx ≡ Some call
    → kernel_at call.owner now.state ≡ Some state → asked_request call.body ≡ Some body → is_for_servers body ≡ is_server state

-- ---- answers

-- each domain that a server of a reached cluster serves hangs there
abbrev pub DomainsHang : {L : Type 0} → (L → ℕ → ℕ → ℕ) → (L → ℕ → ℕ → ℕ) → Type 0
DomainsHang {L} faults asked =
    (c : Description) (begun : L) (now : At L) (kernel : ℕ) (server : Server) (path : Parts) → Lawful c → 1 ≤ kernel → Reached faults asked c begun now
    → kernel_at kernel now.state ≡ Some (kernels.Server server) → begins_domain (serves_of c.kernels kernel) path ≡ true → is_root path server ≡ true

-- each request that goes to a server of a reached cluster has an answer there, where the server can take it: a page that is asked for is in
-- its swap
abbrev pub RequestsHaveAnswers : {L : Type 0} → (L → ℕ → ℕ → ℕ) → (L → ℕ → ℕ → ℕ) → Type 0
RequestsHaveAnswers {L} faults asked =
    (c : Description) (begun : L) (now : At L) (tx : TxNo) (call : Call) (server : Server) (body : Request) → Lawful c → Reached faults asked c begun now → call_of now.wire.machine tx ≡ Some call
    → kernel_at call.owner now.state ≡ Some (kernels.Server server) → asked_request call.body ≡ Some body → can_take (inputs.Request call.tx call.from body) (kernels.Server server) ≡ true → has_answer server body ≡ true

-- and no client leaves a request alone that goes to it, where it can take it: a process that it brings is new there
abbrev pub ClientsTakeRequests : {L : Type 0} → (L → ℕ → ℕ → ℕ) → (L → ℕ → ℕ → ℕ) → Type 0
ClientsTakeRequests {L} faults asked =
    (c : Description) (begun : L) (now : At L) (tx : TxNo) (call : Call) (client : ClientProcs) (body : Request) → Reached faults asked c begun now → call_of now.wire.machine tx ≡ Some call
    → kernel_at call.owner now.state ≡ Some (kernels.Client client) → asked_request call.body ≡ Some body → can_take (inputs.Request call.tx call.from body) (kernels.Client client) ≡ true → is_left body client ≡ false

-- ---- packets

-- a packet goes to a kernel of the description
abbrev pub GoesInside : Description → PacketCopy → Type 0
GoesInside c copy = IsInside c copy.to

-- so does each that is in flight in a reached cluster
abbrev pub PacketsGoInside : {L : Type 0} → (L → ℕ → ℕ → ℕ) → (L → ℕ → ℕ → ℕ) → Type 0
PacketsGoInside {L} faults asked = (c : Description) (begun : L) (now : At L) → Reached faults asked c begun now → AllByRecursion (GoesInside c) now.wire.machine.copies
