-- What each step of a server keeps is true of all servers of a reached cluster.
use Rattle.std.proofs.Common.{arith, ◌≡◌, ◌≤◌, ℕ, ◌+◌, ◌-◌, [], ◌∷◌, Some, sym, subst}
use Rattle.sprite_ids.specs.declared.TxNo.{TxNo}
use Rattle.process_machine.specs.Machine.{Machine}
use Rattle.kernel_steps.specs.declared.Input.{Input}
use Rattle.unix_calls.specs.declared.Description.{Description}
use Rattle.server_kernel.specs.declared.Server.{Server}
use Rattle.server_kernel.specs.Boot as booting
use Rattle.cluster_kernels.specs.declared.KernelState.{KernelState}
use Rattle.cluster_kernels.specs.declared.KernelState.TheVariants as kernels
use Rattle.cluster_kernels.specs.Kernels.{image_put, kernel_step}
use Rattle.cluster_kernels.specs.States.{kernel_at}
use Rattle.sprite_cluster.specs.Everywhere.{OfAll}
use Rattle.sprite_cluster.specs.Reached.{At, Reached}
use Rattle.sprite_cluster.proofs.KernelLaws.{Any, BeginsSo, Keeps, kernels_last, one_of}
use Rattle.sprite_cluster.proofs.ReachedLaws.{lasts_on}
use Rattle.server_facts.specs.Calls.{BusyStands}
use Rattle.server_facts.specs.Steps.{BootHas, StepKeeps}
use Rattle.server_facts.specs.Unlinked.{UnlinkedStand, in_domains, times}
use Rattle.server_facts.proofs.BootLaws.{boot_has_busy}
use Rattle.server_facts.proofs.BusyLaws.{step_keeps_busy}
use Rattle.server_facts.proofs.UnlinkedBoot.{boot_has_unlinked}
use Rattle.server_facts.proofs.UnlinkedLaws.{step_keeps_unlinked}
use Rattle.reached_servers.specs.Servers.{FilesAreBusy, FilesAreThere, ServersHave}

-- a fact of a kernel, where it is a server
abbrev OfServer : (Server → Type 0) → ℕ → KernelState → Type 0
OfServer Fact kernel (kernels.Server server) = Fact server
OfServer Fact kernel (kernels.Client client) = Unit {0}

module _ (Fact : Server → Type 0) (steps : StepKeeps Fact) where
  step_keeps : (kernel : ℕ) (state : KernelState) (input : Input) (next : TxNo) (step : ℕ) → Any input state → OfServer Fact kernel state → OfServer Fact kernel (kernel_step state input next step).0
  step_keeps kernel (kernels.Server server) input next step any h = steps server input next h
  step_keeps kernel (kernels.Client client) input next step any h = tt

  image_keeps : (kernel pid : ℕ) (image : Machine) (state : KernelState) → OfServer Fact kernel state → OfServer Fact kernel (image_put pid image state)
  image_keeps kernel pid image (kernels.Server server) h = h
  image_keeps kernel pid image (kernels.Client client) h = tt

  servers_keep : Keeps (OfServer Fact) Any
  servers_keep = record { steps = step_keeps; images = image_keeps; own = λ input state is. tt }

-- each server of that description has the fact as it begins
abbrev pub BeginsWith : Description → (Server → Type 0) → Type 0
BeginsWith c Fact = (kernel : ℕ) (s : Server) → booting.boots c kernel ≡ Some s → Fact s

servers_begin : (Fact : Server → Type 0) (c : Description) → BeginsWith c Fact → BeginsSo c (OfServer Fact)
servers_begin Fact c boots [] kernel state e = subst (OfServer Fact kernel) (sym e) tt
servers_begin Fact c boots (path ∷ paths) kernel (kernels.Server made) e = boots kernel made e
servers_begin Fact c boots (path ∷ paths) kernel (kernels.Client made) e = absurd e

-- each server of a reached cluster of that description has what its steps keep
pub servers_of_have : {L : Type 0} (faults asked : L → ℕ → ℕ → ℕ) (Fact : Server → Type 0) → StepKeeps Fact → (c : Description) → BeginsWith c Fact → (begun : L) (now : At L) (kernel : ℕ) (server : Server) → Reached faults asked c begun now → kernel_at kernel now.state ≡ Some (kernels.Server server) → Fact server
servers_of_have {L} faults asked Fact steps c boots begun now kernel server reached e =
    one_of (OfServer Fact) now.state.kernels 1 (kernel - 1) (kernels.Server server)
    (lasts_on faults asked c begun (λ (at : At L). OfAll (OfServer Fact) 1 at.state.kernels) now
    (kernels_last faults asked c begun (OfServer Fact) Any (servers_keep Fact steps) (servers_begin Fact c boots) (λ number old low past copy input brings state there. tt)) reached)
    e

-- and so of any description
pub servers_have : {L : Type 0} (faults asked : L → ℕ → ℕ → ℕ) (Fact : Server → Type 0) → StepKeeps Fact → BootHas Fact → ServersHave faults asked Fact
servers_have faults asked Fact steps boots c begun now kernel server reached e = servers_of_have faults asked Fact steps c (boots c) begun now kernel server reached e

pub files_busy : {L : Type 0} (faults asked : L → ℕ → ℕ → ℕ) → FilesAreBusy faults asked
files_busy faults asked c begun now kernel server reached e =
    let stands : BusyStands server = servers_have faults asked BusyStands step_keeps_busy boot_has_busy c begun now kernel server reached e in
    record { kept = stands.asking.busy; called = stands.busy; out = stands.calls.out; waited = stands.asking.waited }

pub files_there : {L : Type 0} (faults asked : L → ℕ → ℕ → ℕ) → FilesAreThere faults asked
files_there faults asked c begun now kernel server reached e =
    let stands : UnlinkedStand server = servers_have faults asked UnlinkedStand step_keeps_unlinked boot_has_unlinked c begun now kernel server reached e in
    record {
      nameless = stands.opens;
      named = λ file one. let both : 1 ≤ in_domains file server.domains + times file server.unlinked = omega (arith, one) in stands.there file both;
      once = λ file. let few = stands.few file in omega (arith, few);
    }
