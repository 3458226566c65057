use Rattle.cluster_wire_laws.proofs.FewLaws.{six_packets}
use Rattle.cluster_wire_laws.proofs.laws.six_packets_each.Goals as goal

pub returns : goal.returns
returns g c = six_packets g.L.Link.faults g.L.Link.asked
