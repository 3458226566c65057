use Rattle.redirect_laws.proofs.ServerLinks.{servers_lead}
use Rattle.redirect_laws.proofs.redirects.servers_lead_on_to_roots.Goals as goal

pub returns : goal.returns
returns c = servers_lead
