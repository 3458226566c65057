use Rattle.stall_laws.proofs.LeftLaws.{clients_keep}
use Rattle.stall_laws.proofs.clients.clients_keep_taken.Goals as goal

pub returns : goal.returns
returns g c = clients_keep g.L.Link.faults g.L.Link.asked
