-- What is true of the servers of a reached cluster.
use Rattle.std.specs.Prelude.{◌≡◌, ◌≤◌, ℕ, true, Some}
use Rattle.sprite_ids.specs.declared.FileId.{FileId}
use Rattle.unix_calls.specs.declared.Description.{Description}
use Rattle.file_store.specs.Files.{is_there}
use Rattle.server_kernel.specs.declared.Server.{Server}
use Rattle.server_kernel.specs.Facts.{BusyAreWaitedFor, BusyIsAsking, UnlinkedAreOpen}
use Rattle.server_facts.specs.Calls.{BusyIsCalled, KernelsAreCalled}
use Rattle.server_facts.specs.Unlinked.{in_domains}
use Rattle.cluster_kernels.specs.declared.KernelState.TheVariants as kernels
use Rattle.cluster_kernels.specs.States.{kernel_at}
use Rattle.sprite_cluster.specs.Reached.{At, Reached}

-- each server of a reached cluster has the fact
abbrev pub ServersHave : {L : Type 0} → (L → ℕ → ℕ → ℕ) → (L → ℕ → ℕ → ℕ) → (Server → Type 0) → Type 0
ServersHave {L} faults asked Fact =
    (c : Description) (begun : L) (now : At L) (kernel : ℕ) (server : Server) → Reached faults asked c begun now → kernel_at kernel now.state ≡ Some (kernels.Server server) → Fact server

-- the facts of its files that are busy: which open or move is kept, which callbacks are out, and what waits
pub record FilesAreBusySo (s : Server) : Type 0 where
  pub kept : BusyIsAsking s
  pub called : BusyIsCalled s
  pub out : KernelsAreCalled s
  pub waited : BusyAreWaitedFor s

abbrev pub FilesAreBusy : {L : Type 0} → (L → ℕ → ℕ → ℕ) → (L → ℕ → ℕ → ℕ) → Type 0
FilesAreBusy faults asked = ServersHave faults asked FilesAreBusySo

-- which files there are: one that has no name is there, and open; one that has a name is there; and none has two
pub record FilesAreThereSo (s : Server) : Type 0 where
  pub nameless : UnlinkedAreOpen s
  pub named : (file : FileId) → 1 ≤ in_domains file s.domains → is_there s.store.files file ≡ true
  pub once : (file : FileId) → in_domains file s.domains ≤ 1

abbrev pub FilesAreThere : {L : Type 0} → (L → ℕ → ℕ → ℕ) → (L → ℕ → ℕ → ℕ) → Type 0
FilesAreThere faults asked = ServersHave faults asked FilesAreThereSo
