use Rattle.stalled_clusters.proofs.StalledLaws.{no_operation}
use Rattle.stalled_clusters.proofs.laws.stalled_has_no_operation.Goals as goal

pub returns : goal.returns
returns g c = no_operation g.L.Link.faults g.L.Link.asked
