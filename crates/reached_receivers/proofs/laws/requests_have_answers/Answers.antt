use Rattle.reached_receivers.proofs.ReceiverLaws.{requests_answered}
use Rattle.reached_receivers.proofs.laws.requests_have_answers.Goals as goal

pub returns : goal.returns
returns g c = requests_answered g.L.Link.faults g.L.Link.asked
