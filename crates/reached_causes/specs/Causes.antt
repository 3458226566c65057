-- Why a reached cluster's trace calls a server unreachable.
use Rattle.std.specs.Prelude.{◌≡◌, ℕ, true, Some}
use Rattle.unix_calls.specs.declared.Description.{Description}
use Rattle.unix_calls.specs.Lawful.{Lawful}
use Rattle.server_kernel.specs.declared.Server.{Server}
use Rattle.redirect_laws.specs.Links.{LinksIn}
use Rattle.cluster_kernels.specs.declared.KernelState.TheVariants as kernels
use Rattle.cluster_kernels.specs.States.{kernel_at}
use Rattle.call_journal.specs.Calls.{is_domain}
use Rattle.call_journal.specs.Unreachable.{unreachable_for_cause}
use Rattle.sprite_cluster.specs.Reached.{At, Reached}

-- the trace of each reached cluster of a lawful description calls a server unreachable only for cause
abbrev pub UnreachableForCause : {L : Type 0} → (L → ℕ → ℕ → ℕ) → (L → ℕ → ℕ → ℕ) → Type 0
UnreachableForCause {L} faults asked = (c : Description) (begun : L) (now : At L) → Lawful c → Reached faults asked c begun now → unreachable_for_cause c now.trace ≡ true

-- in each domain of each server of a reached cluster others hang at roots of the description's domains alone, to which its answers may lead
abbrev pub ServersLinkToDomains : {L : Type 0} → (L → ℕ → ℕ → ℕ) → (L → ℕ → ℕ → ℕ) → Type 0
ServersLinkToDomains {L} faults asked =
    (c : Description) (begun : L) (now : At L) (kernel : ℕ) (server : Server) → Reached faults asked c begun now → kernel_at kernel now.state ≡ Some (kernels.Server server) → LinksIn (is_domain c) server.domains
