use Rattle.stalled_clusters.proofs.StalledLaws.{only_waits}
use Rattle.stalled_clusters.proofs.laws.stalled_has_only_waits.Goals as goal

pub returns : goal.returns
returns g c = only_waits g.L.Link.faults g.L.Link.asked
