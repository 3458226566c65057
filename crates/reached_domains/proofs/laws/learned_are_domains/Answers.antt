use Rattle.reached_domains.proofs.LearnedLaws.{learned_domains}
use Rattle.reached_domains.proofs.laws.learned_are_domains.Goals as goal

pub returns : goal.returns
returns g c = learned_domains g.L.Link.faults g.L.Link.asked
