use Rattle.reached_receivers.proofs.ReceiverLaws.{kinds_last}
use Rattle.reached_receivers.proofs.laws.kernels_are_of_their_kind.Goals as goal

pub returns : goal.returns
returns g c = kinds_last g.L.Link.faults g.L.Link.asked
