use Rattle.cluster_wire_laws.proofs.EndingLaws.{ending_so}
use Rattle.cluster_wire_laws.proofs.laws.ends_are_told.Goals as goal

pub returns : goal.returns
returns g c = ending_so g.L.Link.faults g.L.Link.asked
