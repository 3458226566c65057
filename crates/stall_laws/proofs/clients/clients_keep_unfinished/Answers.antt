use Rattle.stall_laws.proofs.LeftLaws.{unfinished_at_clients}
use Rattle.stall_laws.proofs.clients.clients_keep_unfinished.Goals as goal

pub returns : goal.returns
returns g c = unfinished_at_clients g.L.Link.faults g.L.Link.asked
