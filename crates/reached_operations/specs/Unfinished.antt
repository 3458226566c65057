-- That the remote calls for which clients' operations on files wait, and their write-backs, are unfinished calls of the wire.
use Rattle.std.specs.Prelude.{◌≡◌, ℕ, ◌≤◌, Some}
use Rattle.sprite_ids.specs.declared.TxNo.{TxNo}
use Rattle.kernel_rpc.specs.declared.call.Call.{Call}
use Rattle.kernel_rpc.specs.Machine.{Machine, call_of}
use Rattle.unix_calls.specs.declared.Description.{Description}
use Rattle.client_file_tables.specs.declared.pending.Pending.{Pending}
use Rattle.client_file_tables.specs.declared.works.WriteBackOut.{WriteBackOut}
use Rattle.client_homes.specs.declared.ClientProcs.{ClientProcs}
use Rattle.cluster_kernels.specs.States.{client_at}
use Rattle.operation_calls.specs.Asking.{IsOut, WaitsFor}
use Rattle.operation_calls.specs.Requests.{Wanted, wanted_of, write_back_wanted}
use Rattle.reached_operations.specs.Operations.{CallIs}
use Rattle.sprite_cluster.specs.Reached.{At, Reached}

-- the call of that number is unfinished, so that its reply wasn't handed out yet, and is such a one of the kernel
pub record IsUnfinishedCall (machine : Machine) (kernel : ℕ) (wanted : Wanted) (tx : TxNo) : Type 0 where
  pub call : Call
  pub there : call_of machine tx ≡ Some call
  pub is : CallIs kernel wanted call

-- in each reached cluster: each remote call for which an operation of a client waits that is its own is unfinished, is this client's, and asks
-- what the operation sent
abbrev pub OwnCallsAreUnfinished : {L : Type 0} → (L → ℕ → ℕ → ℕ) → (L → ℕ → ℕ → ℕ) → Type 0
OwnCallsAreUnfinished {L} faults asked =
    (c : Description) (begun : L) (now : At L) (kernel : ℕ) (client : ClientProcs) (tx : TxNo) (row : ℕ × Pending) → 1 ≤ kernel → Reached faults asked c begun now
    → client_at kernel now.state ≡ Some client → WaitsFor client.files.pending tx row → IsUnfinishedCall now.wire.machine kernel (wanted_of row.1) tx

-- and so is each write-back that is out
abbrev pub WriteBacksAreUnfinished : {L : Type 0} → (L → ℕ → ℕ → ℕ) → (L → ℕ → ℕ → ℕ) → Type 0
WriteBacksAreUnfinished {L} faults asked =
    (c : Description) (begun : L) (now : At L) (kernel : ℕ) (client : ClientProcs) (row : TxNo × WriteBackOut) → 1 ≤ kernel → Reached faults asked c begun now
    → client_at kernel now.state ≡ Some client → IsOut client.files.write_backs row → IsUnfinishedCall now.wire.machine kernel (write_back_wanted row.1) row.0
