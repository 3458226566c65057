use Rattle.cluster_wire_laws.proofs.SixLaws.{six_copies}
use Rattle.cluster_wire_laws.proofs.laws.six_copies_each.Goals as goal

pub returns : goal.returns
returns g c = six_copies g.L.Link.faults g.L.Link.asked
