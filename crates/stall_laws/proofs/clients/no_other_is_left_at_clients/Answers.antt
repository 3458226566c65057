use Rattle.stall_laws.proofs.LeftLaws.{no_other_left}
use Rattle.stall_laws.proofs.clients.no_other_is_left_at_clients.Goals as goal

pub returns : goal.returns
returns g c = no_other_left g.L.Link.faults g.L.Link.asked
