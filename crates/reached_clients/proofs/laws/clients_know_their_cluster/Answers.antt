use Rattle.reached_clients.proofs.ClientLaws.{clients_know}
use Rattle.reached_clients.proofs.laws.clients_know_their_cluster.Goals as goal

pub returns : goal.returns
returns g c = clients_know g.L.Link.faults g.L.Link.asked
