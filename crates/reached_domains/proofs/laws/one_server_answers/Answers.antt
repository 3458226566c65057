use Rattle.reached_domains.proofs.DomainLaws.{one_answers}
use Rattle.reached_domains.proofs.laws.one_server_answers.Goals as goal

pub returns : goal.returns
returns g c = one_answers g.L.Link.faults g.L.Link.asked
