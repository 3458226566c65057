-- What the remote calls of clients' operations on files and their write-backs ask in each reached cluster.
use Rattle.std.specs.Prelude.{◌≡◌, ℕ, ◌≤◌, true, List, Option, Some, None}
use Rattle.sprite_ids.specs.declared.Tries.{Tries}
use Rattle.sprite_ids.specs.declared.TxNo.{TxNo}
use Rattle.packet_bodies.specs.declared.Request.{Request}
use Rattle.kernel_rpc.specs.declared.call.Call.{Call}
use Rattle.kernel_rpc.specs.Machine.{call_of}
use Rattle.unix_calls.specs.declared.Description.{Description}
use Rattle.client_file_tables.specs.declared.pending.Pending.{Pending}
use Rattle.client_file_tables.specs.declared.works.WriteBackOut.{WriteBackOut}
use Rattle.client_homes.specs.declared.ClientProcs.{ClientProcs}
use Rattle.cluster_kernels.specs.States.{client_at}
use Rattle.operation_calls.specs.Asking.{IsOut, WaitsFor}
use Rattle.operation_calls.specs.Requests.{Wanted, wanted_of, write_back_wanted}
use Rattle.reached_domains.specs.Domains.{asked_request}
use Rattle.sprite_cluster.specs.Reached.{At, Reached}

-- that kernel is to answer, where one is known
abbrev pub IsFor : Option ℕ → ℕ → Type 0
IsFor None owner = Unit {0}
IsFor (Some kernel) owner = owner ≡ kernel

-- an unfinished call of the wire, of that caller and owner, with that body and tries, is such a one of the kernel: its body reads back as a
-- request of that kind
pub record IsSuch (kernel : ℕ) (wanted : Wanted) (from owner : ℕ) (body : List ℕ) (tries : Tries) : Type 0 where
  pub own : from ≡ kernel
  pub request : Request
  pub reads : asked_request body ≡ Some request
  pub asks : wanted.such request ≡ true
  pub lasts : tries ≡ wanted.tries
  pub to : IsFor wanted.to owner

abbrev pub CallIs : ℕ → Wanted → Call → Type 0
CallIs kernel wanted call = IsSuch kernel wanted call.from call.owner call.body call.tries

-- in each reached cluster: where an operation of a client waits for a remote call of its own that isn't finished, that is a call of this
-- client, of the kind that the operation sends
abbrev pub OwnCallsAskSo : {L : Type 0} → (L → ℕ → ℕ → ℕ) → (L → ℕ → ℕ → ℕ) → Type 0
OwnCallsAskSo {L} faults asked =
    (c : Description) (begun : L) (now : At L) (kernel : ℕ) (client : ClientProcs) (tx : TxNo) (row : ℕ × Pending) (call : Call) → 1 ≤ kernel → Reached faults asked c begun now
    → client_at kernel now.state ≡ Some client → WaitsFor client.files.pending tx row → call_of now.wire.machine tx ≡ Some call → CallIs kernel (wanted_of row.1) call

-- and where a write-back is out whose call isn't finished, that is a write-back of this client
abbrev pub WriteBacksAskSo : {L : Type 0} → (L → ℕ → ℕ → ℕ) → (L → ℕ → ℕ → ℕ) → Type 0
WriteBacksAskSo {L} faults asked =
    (c : Description) (begun : L) (now : At L) (kernel : ℕ) (client : ClientProcs) (row : TxNo × WriteBackOut) (call : Call) → 1 ≤ kernel → Reached faults asked c begun now
    → client_at kernel now.state ≡ Some client → IsOut client.files.write_backs row → call_of now.wire.machine row.0 ≡ Some call → CallIs kernel (write_back_wanted row.1) call
