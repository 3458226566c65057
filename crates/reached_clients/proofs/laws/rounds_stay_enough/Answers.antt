use Rattle.reached_clients.proofs.ClientLaws.{rounds_stay}
use Rattle.reached_clients.proofs.laws.rounds_stay_enough.Goals as goal

pub returns : goal.returns
returns g c = rounds_stay g.L.Link.faults g.L.Link.asked
