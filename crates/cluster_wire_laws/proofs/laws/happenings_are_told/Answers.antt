use Rattle.cluster_wire_laws.proofs.TurnLaws.{happening_so}
use Rattle.cluster_wire_laws.proofs.laws.happenings_are_told.Goals as goal

pub returns : goal.returns
returns g c = happening_so g.L.Link.faults g.L.Link.asked
