use Rattle.cluster_wire_laws.proofs.TraceLaws.{sendings_asked}
use Rattle.cluster_wire_laws.proofs.laws.sendings_were_asked.Goals as goal

pub returns : goal.returns
returns g c = sendings_asked g.L.Link.faults g.L.Link.asked
