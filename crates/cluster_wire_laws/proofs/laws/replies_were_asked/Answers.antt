use Rattle.cluster_wire_laws.proofs.TraceLaws.{replies_asked}
use Rattle.cluster_wire_laws.proofs.laws.replies_were_asked.Goals as goal

pub returns : goal.returns
returns g c = replies_asked g.L.Link.faults g.L.Link.asked
