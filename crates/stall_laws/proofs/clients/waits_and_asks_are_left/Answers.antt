use Rattle.stall_laws.proofs.LeftLaws.{waits_left}
use Rattle.stall_laws.proofs.clients.waits_and_asks_are_left.Goals as goal

pub returns : goal.returns
returns g c = waits_left g.L.Link.faults g.L.Link.asked
