use Rattle.cluster_wire_laws.proofs.FewLaws.{few_packets}
use Rattle.cluster_wire_laws.proofs.laws.few_packets_come.Goals as goal

pub returns : goal.returns
returns g c = few_packets g.L.Link.faults g.L.Link.asked
