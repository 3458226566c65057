-- Where other domains hang in those of a reached cluster's servers.
use Rattle.std.specs.Prelude.{ℕ}
use Rattle.server_kernel.specs.declared.Server.{Server}
use Rattle.call_journal.specs.Calls.{is_domain}
use Rattle.redirect_laws.specs.Links.{LinksIn}
use Rattle.redirect_laws.proofs.BootLinks.{servers_begin_linked}
use Rattle.redirect_laws.proofs.ServerLinks.{servers_lead}
use Rattle.reached_servers.proofs.ServerLaws.{servers_of_have}
use Rattle.reached_causes.specs.Causes.{ServersLinkToDomains}

pub servers_link : {L : Type 0} (faults asked : L → ℕ → ℕ → ℕ) → ServersLinkToDomains faults asked
servers_link faults asked c begun now kernel server reached e =
    servers_of_have faults asked (λ (s : Server). LinksIn (is_domain c) s.domains) (λ s input next h. (servers_lead (is_domain c) s input next h).0) c (λ kernel s e. (servers_begin_linked c kernel s e).0) begun now kernel server reached e
