use Rattle.stall_laws.proofs.LeftLaws.{callbacks_go}
use Rattle.stall_laws.proofs.clients.callbacks_go_to_clients.Goals as goal

pub returns : goal.returns
returns g c = callbacks_go g.L.Link.faults g.L.Link.asked
