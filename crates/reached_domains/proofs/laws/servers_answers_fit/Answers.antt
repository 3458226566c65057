use Rattle.reached_domains.proofs.DomainLaws.{answers_fit}
use Rattle.reached_domains.proofs.laws.servers_answers_fit.Goals as goal

pub returns : goal.returns
returns g c = answers_fit g.L.Link.faults g.L.Link.asked
