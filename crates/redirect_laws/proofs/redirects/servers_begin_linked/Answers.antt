use Rattle.redirect_laws.proofs.BootLinks.{servers_begin_linked}
use Rattle.redirect_laws.proofs.redirects.servers_begin_linked.Goals as goal

pub returns : goal.returns
returns c = servers_begin_linked
