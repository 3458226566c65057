use Rattle.reached_domains.proofs.DomainLaws.{servers_serve}
use Rattle.reached_domains.proofs.laws.servers_serve_theirs.Goals as goal

pub returns : goal.returns
returns g c = servers_serve g.L.Link.faults g.L.Link.asked
