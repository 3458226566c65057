-- A run that stands stalled has only waits, gets and asks out.
use Rattle.std.proofs.Common.{◌≡◌, ℕ, ◌≤◌, [], Some}
use Rattle.unix_calls.specs.declared.Description.{Description}
use Rattle.unix_calls.specs.Lawful.{Lawful}
use Rattle.client_facts.specs.FileFacts.{TurnsAreInOrder}
use Rattle.client_homes.specs.declared.ClientProcs.{ClientProcs}
use Rattle.cluster_kernels.specs.declared.KernelState.TheVariants as kernels
use Rattle.cluster_kernels.specs.States.{client_at, kernel_at}
use Rattle.cluster_wire.specs.Goings.{next_of}
use Rattle.file_facts.specs.CallFacts.{KeepsCallFacts}
use Rattle.sprite_cluster.specs.Reached.{At, Reached}
use Rattle.sprite_cluster.proofs.KernelLaws.{one_at}
use Rattle.reached_clients.specs.Clients.{OfClient, OfClients}
use Rattle.reached_fills.proofs.FillLaws.{fills_stay}
use Rattle.reached_locks.specs.Locks.{LocksAreForOperations}
use Rattle.reached_locks.proofs.LockLaws.{locks_stay}
use Rattle.reached_waits.specs.Waits.{WaitsForSomething}
use Rattle.reached_waits.proofs.WaitLaws.{operations_stay}
use Rattle.reached_domains.proofs.DomainLaws.{client_is}
use Rattle.reached_operations.proofs.KeepLaws.{call_facts_stay}
use Rattle.reached_operations.proofs.UnfinishedLaws.{own_calls_are_unfinished, write_backs_are_unfinished}
use Rattle.reached_callbacks.proofs.StallLaws.{are_unfinished}
use Rattle.stall_laws.specs.Clients.{WaitsAndAsksAlone}
use Rattle.stall_laws.proofs.LeftLaws.{stalled_leaves}
use Rattle.pending_laws.specs.Waits.{WaitFacts}
use Rattle.stalled_clusters.specs.Stalled.{StalledHasNoOperation, StalledHasOnlyWaits}
use Rattle.stalled_clusters.proofs.IdleLaws.{none_pending}

module _ {L : Type 0} (faults asked : L → ℕ → ℕ → ℕ) where
  -- ---- calls

  pub only_waits : StalledHasOnlyWaits faults asked
  only_waits c begun now lawful reached e = stalled_leaves faults asked c begun now lawful reached e (are_unfinished faults asked c begun now reached)

  -- ---- operations

  module _ (c : Description) (begun : L) (now : At L) (reached : Reached faults asked c begun now) where
    -- of each client what all clients have
    of_client : (F : ℕ → ClientProcs → Type 0) (kernel : ℕ) (client : ClientProcs) → 1 ≤ kernel → client_at kernel now.state ≡ Some client → OfClients F 1 now.state.kernels → F kernel client
    of_client F kernel client low there all = one_at (OfClient F) kernel (kernels.Client client) now.state.kernels low all (client_is (kernel_at kernel now.state) client there)

    waits_so : Lawful c → (kernel : ℕ) (client : ClientProcs) → 1 ≤ kernel → client_at kernel now.state ≡ Some client → WaitFacts client.files
    waits_so lawful kernel client low there =
        let locks : LocksAreForOperations client = of_client (λ kernel client. LocksAreForOperations client) kernel client low there (locks_stay faults asked c begun now reached) in
        let order : TurnsAreInOrder client.files = of_client (λ kernel client. TurnsAreInOrder client.files) kernel client low there (fills_stay faults asked c begun now lawful reached) in
        let waits : WaitsForSomething client.files = of_client (λ kernel client. WaitsForSomething client.files) kernel client low there (operations_stay faults asked c begun now reached) in
        record { syncs = waits.syncs; wants = waits.wants; queued = waits.queued; kept_out = waits.kept_out; none_else = locks.none_else; turns = waits.turns; in_order = order }

    idle_at : Lawful c → WaitsAndAsksAlone now → (kernel : ℕ) (client : ClientProcs) → 1 ≤ kernel → client_at kernel now.state ≡ Some client → client.files.pending ≡ []
    idle_at lawful alone kernel client low there =
        none_pending now alone.calls kernel client.files (λ tx row waits. own_calls_are_unfinished faults asked c begun now kernel client tx row low reached there waits)
        (λ row out. write_backs_are_unfinished faults asked c begun now kernel client row low reached there out)
        (of_client (λ kernel client. KeepsCallFacts (next_of now.wire.machine) client.files) kernel client low there (call_facts_stay faults asked c begun now reached)).out (waits_so lawful kernel client low there)

  pub no_operation : StalledHasNoOperation faults asked
  no_operation c begun now kernel client lawful reached e low there = idle_at c begun now reached lawful (only_waits c begun now lawful reached e) kernel client low there
