use Rattle.reached_domains.proofs.DomainLaws.{broadcasts_ask}
use Rattle.reached_domains.proofs.laws.broadcasts_ask_so.Goals as goal

pub returns : goal.returns
returns g c = broadcasts_ask g.L.Link.faults g.L.Link.asked
