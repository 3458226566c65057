-- The callbacks that are out at the servers of a reached cluster, and the remote calls that they are.
use Rattle.std.specs.Prelude.{◌≡◌, ℕ, ◌≤◌, ◌==◌, true, false, if◌then◌else◌, List, [], ◌∷◌, ◌++◌, map, Option, Some, slice_get}
use Rattle.sprite_ids.specs.declared.CallKind.{CallKind}
use Rattle.sprite_ids.specs.declared.CopyNo.{CopyNo}
use Rattle.sprite_ids.specs.declared.Flushed.{Flushed}
use Rattle.sprite_ids.specs.declared.Tries.TheVariants.{Always}
use Rattle.sprite_ids.specs.declared.TxNo.{TxNo}
use Rattle.packet_bodies.specs.declared.Body.TheVariants as bodies
use Rattle.packet_bodies.specs.declared.CallbackRequest.{CallbackRequest}
use Rattle.packet_bodies.specs.declared.ReplyBody.TheVariants as replies
use Rattle.packet_bodies.specs.declared.Request.{Request}
use Rattle.packet_bodies.specs.declared.Request.TheVariants as requests
use Rattle.wire_format.specs.declared.Packet.{Packet}
use Rattle.wire_format.specs.Packets.{reading}
use Rattle.kernel_rpc.specs.declared.call.Call.{Call}
use Rattle.kernel_rpc.specs.declared.call.PacketCopy.{PacketCopy}
use Rattle.kernel_rpc.specs.declared.call.Receiver.{Receiver}
use Rattle.kernel_rpc.specs.Machine.{call_of, copy_of, holds, part_of}
use Rattle.unix_calls.specs.declared.Description.{Description}
use Rattle.server_kernel.specs.declared.CallOut.{CallOut}
use Rattle.server_kernel.specs.declared.Server.{Server}
use Rattle.cluster_kernels.specs.declared.KernelState.TheVariants as kernels
use Rattle.cluster_kernels.specs.States.{client_at, kernel_at}
use Rattle.client_homes.specs.declared.ClientProcs.{ClientProcs}
use Rattle.sprite_cluster.specs.Reached.{At, Reached}
use Rattle.reached_domains.specs.Domains.{asked_request}

-- ---- callbacks among remote calls

-- the callback that a remote call is with that request and number, which that kernel is to answer, where it is one
abbrev pub callback_in : Option Request → TxNo → ℕ → List (TxNo × CallOut)
callback_in (Some (requests.Callback request)) tx owner = (tx, record { file = request.file; kernel = owner }) ∷ []
callback_in _ tx owner = []

-- the callback of a kernel that this call is
abbrev pub callback_by : ℕ → Call → List (TxNo × CallOut)
callback_by kernel call = if call.from == kernel then callback_in (asked_request call.body) call.tx call.owner else []

-- the callbacks of a kernel among remote calls, in their order
abbrev pub callbacks_of : ℕ → List Call → List (TxNo × CallOut)
callbacks_of kernel [] = []
callbacks_of kernel (call ∷ calls) = callback_by kernel call ++ callbacks_of kernel calls

-- the callbacks that are out at each server of a reached cluster are those of its remote calls that aren't finished, in their order
abbrev pub CallbacksAreCalls : {L : Type 0} → (L → ℕ → ℕ → ℕ) → (L → ℕ → ℕ → ℕ) → Type 0
CallbacksAreCalls {L} faults asked =
    (c : Description) (begun : L) (now : At L) (kernel : ℕ) (server : Server) → 1 ≤ kernel → Reached faults asked c begun now
    → kernel_at kernel now.state ≡ Some (kernels.Server server) → server.callbacks ≡ callbacks_of kernel now.wire.machine.unfinished

-- a remote call is a callback, which goes to its one kernel as long as it takes
pub record CallsBack (call : Call) : Type 0 where
  pub request : CallbackRequest
  pub asks : asked_request call.body ≡ Some (requests.Callback request)
  pub lasts : call.tries ≡ Always
  pub alone : map (λ (receiver : Receiver). receiver.kernel) call.receivers ≡ call.owner ∷ []

-- each unfinished remote call of a server of a reached cluster is such
abbrev pub ServersCallBack : {L : Type 0} → (L → ℕ → ℕ → ℕ) → (L → ℕ → ℕ → ℕ) → Type 0
ServersCallBack {L} faults asked =
    (c : Description) (begun : L) (now : At L) (tx : TxNo) (call : Call) (server : Server) → Reached faults asked c begun now → call_of now.wire.machine tx ≡ Some call → 1 ≤ call.from
    → kernel_at call.from now.state ≡ Some (kernels.Server server) → CallsBack call

-- ---- one callback, one remote call

-- a callback of a kernel is a remote call that isn't finished
pub record IsOut {L : Type 0} (now : At L) (kernel : ℕ) (tx : TxNo) (out : CallOut) : Type 0 where
  pub call : Call
  pub there : call_of now.wire.machine tx ≡ Some call
  pub source : call.from ≡ kernel
  pub owner : call.owner ≡ out.kernel
  pub alone : map (λ (receiver : Receiver). receiver.kernel) call.receivers ≡ out.kernel ∷ []
  pub lasts : call.tries ≡ Always
  pub stamp : ℕ
  pub kind : CallKind
  pub asks : asked_request call.body ≡ Some (requests.Callback (record { file = out.file; stamp = stamp; kind = kind }))

-- so is each that is out at a server of a reached cluster
abbrev pub EachIsOut : {L : Type 0} → (L → ℕ → ℕ → ℕ) → (L → ℕ → ℕ → ℕ) → Type 0
EachIsOut {L} faults asked =
    (c : Description) (begun : L) (now : At L) (kernel : ℕ) (server : Server) (at : ℕ) (tx : TxNo) (out : CallOut) → 1 ≤ kernel → Reached faults asked c begun now
    → kernel_at kernel now.state ≡ Some (kernels.Server server) → slice_get server.callbacks at ≡ Some (tx, out) → IsOut now kernel tx out

-- a remote call stands among the callbacks of its server
pub record HasRow (server : Server) (call : Call) : Type 0 where
  pub at : ℕ
  pub request : CallbackRequest
  pub asks : asked_request call.body ≡ Some (requests.Callback request)
  pub there : slice_get server.callbacks at ≡ Some (call.tx, record { file = request.file; kernel = call.owner })

-- so does each of a server that isn't finished
abbrev pub EachHasRow : {L : Type 0} → (L → ℕ → ℕ → ℕ) → (L → ℕ → ℕ → ℕ) → Type 0
EachHasRow {L} faults asked =
    (c : Description) (begun : L) (now : At L) (tx : TxNo) (call : Call) (server : Server) → Reached faults asked c begun now → call_of now.wire.machine tx ≡ Some call → 1 ≤ call.from
    → kernel_at call.from now.state ≡ Some (kernels.Server server) → HasRow server call

-- ---- how callbacks are answered

-- a reply, as it is spelled, brings flushed blocks
pub record BringsFlushed (reply : List ℕ) : Type 0 where
  pub packet : Packet
  pub flushed : Flushed
  pub reads : reading reply ≡ Some packet
  pub is : packet.body ≡ bodies.Reply (replies.Flushed flushed)

-- each callback of a reached cluster that has a reply has such a one
abbrev pub CallbacksAreFlushed : {L : Type 0} → (L → ℕ → ℕ → ℕ) → (L → ℕ → ℕ → ℕ) → Type 0
CallbacksAreFlushed {L} faults asked =
    (c : Description) (begun : L) (now : At L) (tx : TxNo) (call : Call) (request : CallbackRequest) (reply : List ℕ) → Reached faults asked c begun now → call_of now.wire.machine tx ≡ Some call
    → asked_request call.body ≡ Some (requests.Callback request) → call.reply ≡ Some reply → BringsFlushed reply

-- between two changes of a reached cluster no client has the request of a callback: it was answered in the step in which it came
abbrev pub NoClientHasOne : {L : Type 0} → (L → ℕ → ℕ → ℕ) → (L → ℕ → ℕ → ℕ) → Type 0
NoClientHasOne {L} faults asked =
    (c : Description) (begun : L) (now : At L) (tx : TxNo) (call : Call) (request : CallbackRequest) (client : ClientProcs) → Reached faults asked c begun now → call_of now.wire.machine tx ≡ Some call
    → asked_request call.body ≡ Some (requests.Callback request) → 1 ≤ call.owner → client_at call.owner now.state ≡ Some client → holds (part_of call.owner call.receivers) ≡ false

-- the copies of a reply that are in flight in a reached cluster go to its caller
abbrev pub RepliesGoToCallers : {L : Type 0} → (L → ℕ → ℕ → ℕ) → (L → ℕ → ℕ → ℕ) → Type 0
RepliesGoToCallers {L} faults asked =
    (c : Description) (begun : L) (now : At L) (number : CopyNo) (copy : PacketCopy) (call : Call) → Reached faults asked c begun now → copy_of now.wire.machine number ≡ Some copy → copy.reply ≡ true
    → call_of now.wire.machine copy.tx ≡ Some call → copy.to ≡ call.from
