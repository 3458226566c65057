use Rattle.reached_domains.proofs.DomainLaws.{answers_owners}
use Rattle.reached_domains.proofs.laws.answers_are_owners.Goals as goal

pub returns : goal.returns
returns g c = answers_owners g.L.Link.faults g.L.Link.asked
