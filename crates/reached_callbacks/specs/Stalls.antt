-- What a cluster that can't go on has out: no callbacks, and nothing at its servers.
use Rattle.std.specs.Prelude.{◌≡◌, ℕ, ◌≤◌, [], Some}
use Rattle.sprite_ids.specs.declared.TxNo.{TxNo}
use Rattle.packet_bodies.specs.declared.CallbackRequest.{CallbackRequest}
use Rattle.packet_bodies.specs.declared.Request.TheVariants.{Callback}
use Rattle.kernel_rpc.specs.declared.call.Call.{Call}
use Rattle.kernel_rpc.specs.Machine.{call_of}
use Rattle.unix_calls.specs.declared.Description.{Description}
use Rattle.unix_calls.specs.Lawful.{Lawful}
use Rattle.client_homes.specs.declared.ClientProcs.{ClientProcs}
use Rattle.server_kernel.specs.declared.Server.{Server}
use Rattle.cluster_kernels.specs.declared.KernelState.TheVariants as kernels
use Rattle.cluster_kernels.specs.States.{client_at, kernel_at}
use Rattle.sprite_cluster.specs.Reached.{At, Reached}
use Rattle.reached_domains.specs.Domains.{asked_request}
use Rattle.stall_laws.specs.Stalls.{CantGoOn, IsWithOwner, KeepsNothing}

-- where a reached cluster can't go on, no callback is out at any server
abbrev pub NoCallbackIsOut : {L : Type 0} → (L → ℕ → ℕ → ℕ) → (L → ℕ → ℕ → ℕ) → Type 0
NoCallbackIsOut {L} faults asked =
    (c : Description) (begun : L) (now : At L) (kernel : ℕ) (server : Server) → 1 ≤ kernel → Reached faults asked c begun now → CantGoOn c now.wire.machine now.state
    → kernel_at kernel now.state ≡ Some (kernels.Server server) → server.callbacks ≡ []

-- a server has nothing left to do: no callback of it is out, and it keeps no request
pub record HasNothingLeft (s : Server) : Type 0 where
  pub none_out : s.callbacks ≡ []
  pub none_kept : KeepsNothing s

-- so it is with each server then
abbrev pub ServersAreDone : {L : Type 0} → (L → ℕ → ℕ → ℕ) → (L → ℕ → ℕ → ℕ) → Type 0
ServersAreDone {L} faults asked =
    (c : Description) (begun : L) (now : At L) (kernel : ℕ) (server : Server) → 1 ≤ kernel → Reached faults asked c begun now → CantGoOn c now.wire.machine now.state
    → kernel_at kernel now.state ≡ Some (kernels.Server server) → HasNothingLeft server

-- a remote call is with a client, which took its request and hasn't answered it; and it is no callback
pub record IsWithClient {L : Type 0} (now : At L) (call : Call) : Type 0 where
  pub client : ClientProcs
  pub there : client_at call.owner now.state ≡ Some client
  pub taken : IsWithOwner call
  pub other : (request : CallbackRequest) → asked_request call.body ≡ Some (Callback request) → ⊥

-- so is each then that isn't finished, of a lawful description
abbrev pub ClientsHaveAll : {L : Type 0} → (L → ℕ → ℕ → ℕ) → (L → ℕ → ℕ → ℕ) → Type 0
ClientsHaveAll {L} faults asked =
    (c : Description) (begun : L) (now : At L) (tx : TxNo) (call : Call) → Lawful c → Reached faults asked c begun now → CantGoOn c now.wire.machine now.state
    → call_of now.wire.machine tx ≡ Some call → IsWithClient now call
