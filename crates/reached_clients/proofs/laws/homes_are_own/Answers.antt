use Rattle.reached_clients.proofs.ClientLaws.{homes_own}
use Rattle.reached_clients.proofs.laws.homes_are_own.Goals as goal

pub returns : goal.returns
returns g c = homes_own g.L.Link.faults g.L.Link.asked
