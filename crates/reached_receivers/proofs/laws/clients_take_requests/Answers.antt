use Rattle.reached_receivers.proofs.ReceiverLaws.{clients_take}
use Rattle.reached_receivers.proofs.laws.clients_take_requests.Goals as goal

pub returns : goal.returns
returns g c = clients_take g.L.Link.faults g.L.Link.asked
