use Rattle.reached_receivers.proofs.ReceiverLaws.{calls_right}
use Rattle.reached_receivers.proofs.laws.calls_go_right.Goals as goal

pub returns : goal.returns
returns g c = calls_right g.L.Link.faults g.L.Link.asked
