use Rattle.reached_clients.proofs.ClientLaws.{places_stay}
use Rattle.reached_clients.proofs.laws.places_stay_once.Goals as goal

pub returns : goal.returns
returns g c = places_stay g.L.Link.faults g.L.Link.asked
