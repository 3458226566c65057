use Rattle.reached_receivers.proofs.ReceiverLaws.{domains_hang}
use Rattle.reached_receivers.proofs.laws.domains_hang.Goals as goal

pub returns : goal.returns
returns g c = domains_hang g.L.Link.faults g.L.Link.asked
