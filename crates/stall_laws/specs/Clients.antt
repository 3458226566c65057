-- Which remote calls that go to clients are unfinished in a reached cluster and where it can't go on, and what is left of all calls then.
use Rattle.std.specs.Prelude.{◌≡◌, ◌≤◌, ℕ, true, false, [], Some, slice_get}
use Rattle.sprite_ids.specs.declared.TxNo.{TxNo}
use Rattle.packet_bodies.specs.declared.CallbackRequest.{CallbackRequest}
use Rattle.packet_bodies.specs.declared.Request.{Request}
use Rattle.packet_bodies.specs.declared.Request.TheVariants as requests
use Rattle.kernel_rpc.specs.declared.call.Call.{Call}
use Rattle.kernel_rpc.specs.declared.call.Part.TheVariants.{Holding}
use Rattle.kernel_rpc.specs.Machine.{call_of, part_of}
use Rattle.unix_calls.specs.declared.Description.{Description}
use Rattle.unix_calls.specs.Lawful.{Lawful}
use Rattle.server_kernel.specs.declared.CallOut.{CallOut}
use Rattle.server_kernel.specs.declared.Server.{Server}
use Rattle.client_homes.specs.declared.ClientProcs.{ClientProcs}
use Rattle.client_requests.specs.Requests.{asks_device, asks_wait}
use Rattle.client_requests.specs.Rows.{AskIn, WaitIn}
use Rattle.cluster_kernels.specs.declared.KernelState.TheVariants as kernels
use Rattle.cluster_kernels.specs.States.{kernel_at}
use Rattle.sprite_cluster.specs.Reached.{At, Reached}
use Rattle.reached_domains.specs.Domains.{asked_request}
use Rattle.stall_laws.specs.Stalls.{CantGoOn, KeepsNothing}

-- ---- calls that clients have

-- a client keeps the call of a request: it is a `wait` for this home, which is parked; or an ask of a pseudo-device here, which has no answer
-- yet
pub data KeptAs (tx : TxNo) (client : ClientProcs) (body : Request) : Type 0 where
  AsWait : WaitIn tx client → asks_wait body ≡ true → KeptAs tx client body
  AsAsk : AskIn tx client → asks_device body ≡ true → KeptAs tx client body

-- the client of that number has the call: it is the owner, and took its request
pub record ClientHasCall {L : Type 0} (now : At L) (tx : TxNo) (call : Call) (client : ClientProcs) (body : Request) : Type 0 where
  pub unfinished : call_of now.wire.machine tx ≡ Some call
  pub numbered : 1 ≤ call.owner
  pub taken : part_of call.owner call.receivers ≡ Some Holding
  pub there : kernel_at call.owner now.state ≡ Some (kernels.Client client)
  pub asks : asked_request call.body ≡ Some body

-- in a reached cluster each such call is kept so at its client
abbrev pub ClientsKeepTaken : {L : Type 0} → (L → ℕ → ℕ → ℕ) → (L → ℕ → ℕ → ℕ) → Type 0
ClientsKeepTaken {L} faults asked =
    (c : Description) (begun : L) (now : At L) (tx : TxNo) (call : Call) (client : ClientProcs) (body : Request) → Reached faults asked c begun now
    → ClientHasCall now tx call client body → KeptAs call.tx client body

-- ---- what is left at clients where the cluster can't go on

-- an unfinished call goes to the client
pub record GoesToClient {L : Type 0} (now : At L) (tx : TxNo) (call : Call) (client : ClientProcs) : Type 0 where
  pub unfinished : call_of now.wire.machine tx ≡ Some call
  pub numbered : 1 ≤ call.owner
  pub there : kernel_at call.owner now.state ≡ Some (kernels.Client client)

-- where a reached cluster can't go on, each such call is kept so there
abbrev pub ClientsKeepUnfinished : {L : Type 0} → (L → ℕ → ℕ → ℕ) → (L → ℕ → ℕ → ℕ) → Type 0
ClientsKeepUnfinished {L} faults asked =
    (c : Description) (begun : L) (now : At L) (tx : TxNo) (call : Call) (client : ClientProcs) (body : Request) → Reached faults asked c begun now → CantGoOn c now.wire.machine now.state
    → GoesToClient now tx call client → asked_request call.body ≡ Some body → KeptAs call.tx client body

-- so each is a `wait` or an ask of a pseudo-device
abbrev pub NoOtherIsLeftAtClients : {L : Type 0} → (L → ℕ → ℕ → ℕ) → (L → ℕ → ℕ → ℕ) → Type 0
NoOtherIsLeftAtClients {L} faults asked =
    (c : Description) (begun : L) (now : At L) (tx : TxNo) (call : Call) (client : ClientProcs) (body : Request) → Reached faults asked c begun now → CantGoOn c now.wire.machine now.state
    → GoesToClient now tx call client → asked_request call.body ≡ Some body → asks_wait body ≡ false → asks_device body ≡ false → ⊥

-- ---- callbacks

-- a callback that is out at a server is an unfinished call
pub record IsCalledBack {L : Type 0} (now : At L) (row : TxNo × CallOut) : Type 0 where
  pub call : Call
  pub unfinished : call_of now.wire.machine row.0 ≡ Some call
  pub request : CallbackRequest
  pub asks : asked_request call.body ≡ Some (requests.Callback request)

-- and so is each at each server of the cluster
abbrev pub CallbacksAreUnfinished : {L : Type 0} → At L → Type 0
CallbacksAreUnfinished {L} now =
    (kernel : ℕ) (server : Server) (at : ℕ) (row : TxNo × CallOut) → 1 ≤ kernel → kernel_at kernel now.state ≡ Some (kernels.Server server) → slice_get server.callbacks at ≡ Some row → IsCalledBack now row

-- each callback that is unfinished in a reached cluster goes to a client
abbrev pub CallbacksGoToClients : {L : Type 0} → (L → ℕ → ℕ → ℕ) → (L → ℕ → ℕ → ℕ) → Type 0
CallbacksGoToClients {L} faults asked =
    (c : Description) (begun : L) (now : At L) (tx : TxNo) (call : Call) (request : CallbackRequest) → Reached faults asked c begun now → call_of now.wire.machine tx ≡ Some call
    → asked_request call.body ≡ Some (requests.Callback request) → (client : ClientProcs) × GoesToClient now tx call client

-- no callback is out at any server, so none keeps a request, nor has a busy file
pub record NoneIsOut {L : Type 0} (now : At L) : Type 0 where
  pub out : (kernel : ℕ) (server : Server) → 1 ≤ kernel → kernel_at kernel now.state ≡ Some (kernels.Server server) → server.callbacks ≡ []
  pub kept : (kernel : ℕ) (server : Server) → 1 ≤ kernel → kernel_at kernel now.state ≡ Some (kernels.Server server) → KeepsNothing server

-- so it is with each reached cluster that can't go on, where callbacks that are out are unfinished calls
abbrev pub NoCallbackWaits : {L : Type 0} → (L → ℕ → ℕ → ℕ) → (L → ℕ → ℕ → ℕ) → Type 0
NoCallbackWaits {L} faults asked = (c : Description) (begun : L) (now : At L) → Reached faults asked c begun now → CantGoOn c now.wire.machine now.state → CallbacksAreUnfinished now → NoneIsOut now

-- ---- what is left at all

-- an unfinished call is kept so at a client
pub record IsLeftAtClient {L : Type 0} (now : At L) (call : Call) : Type 0 where
  pub client : ClientProcs
  pub there : kernel_at call.owner now.state ≡ Some (kernels.Client client)
  pub body : Request
  pub asks : asked_request call.body ≡ Some body
  pub kept : KeptAs call.tx client body

-- nothing is left at servers; and all calls that are unfinished are `wait`s and asks of pseudo-devices, each kept at its client
pub record WaitsAndAsksAlone {L : Type 0} (now : At L) : Type 0 where
  pub servers : NoneIsOut now
  pub calls : (tx : TxNo) (call : Call) → call_of now.wire.machine tx ≡ Some call → IsLeftAtClient now call

-- so it is with each reached cluster of a lawful description that can't go on, where callbacks that are out are unfinished calls
abbrev pub WaitsAndAsksAreLeft : {L : Type 0} → (L → ℕ → ℕ → ℕ) → (L → ℕ → ℕ → ℕ) → Type 0
WaitsAndAsksAreLeft {L} faults asked =
    (c : Description) (begun : L) (now : At L) → Lawful c → Reached faults asked c begun now → CantGoOn c now.wire.machine now.state → CallbacksAreUnfinished now → WaitsAndAsksAlone now
