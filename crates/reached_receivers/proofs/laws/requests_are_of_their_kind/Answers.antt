use Rattle.reached_receivers.proofs.ReceiverLaws.{requests_kind}
use Rattle.reached_receivers.proofs.laws.requests_are_of_their_kind.Goals as goal

pub returns : goal.returns
returns g c = requests_kind g.L.Link.faults g.L.Link.asked
