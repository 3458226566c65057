use Rattle.reached_domains.proofs.DomainLaws.{redirects_lead}
use Rattle.reached_domains.proofs.laws.redirects_are_domains.Goals as goal

pub returns : goal.returns
returns g c = redirects_lead g.L.Link.faults g.L.Link.asked
