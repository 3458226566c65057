use Rattle.stall_laws.proofs.LeftLaws.{stalled_leaves}
use Rattle.stall_laws.proofs.runs.stalled_leaves_waits.Goals as goal

pub returns : goal.returns
returns g c = stalled_leaves g.L.Link.faults g.L.Link.asked
