use Rattle.reached_domains.proofs.DomainLaws.{answers_tell}
use Rattle.reached_domains.proofs.laws.answers_tell_domains.Goals as goal

pub returns : goal.returns
returns g c = answers_tell g.L.Link.faults g.L.Link.asked
