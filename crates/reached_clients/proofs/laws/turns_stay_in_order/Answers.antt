use Rattle.reached_clients.proofs.ClientLaws.{turns_stay}
use Rattle.reached_clients.proofs.laws.turns_stay_in_order.Goals as goal

pub returns : goal.returns
returns g c = turns_stay g.L.Link.faults g.L.Link.asked
