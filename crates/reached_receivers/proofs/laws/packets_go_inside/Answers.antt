use Rattle.reached_receivers.proofs.ReceiverLaws.{packets_inside}
use Rattle.reached_receivers.proofs.laws.packets_go_inside.Goals as goal

pub returns : goal.returns
returns g c = packets_inside g.L.Link.faults g.L.Link.asked
