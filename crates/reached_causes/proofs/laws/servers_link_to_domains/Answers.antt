use Rattle.reached_causes.proofs.LinkLaws.{servers_link}
use Rattle.reached_causes.proofs.laws.servers_link_to_domains.Goals as goal

pub returns : goal.returns
returns g c = servers_link g.L.Link.faults g.L.Link.asked
