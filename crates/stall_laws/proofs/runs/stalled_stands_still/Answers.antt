use Rattle.stall_laws.proofs.LeftLaws.{stalled_stuck}
use Rattle.stall_laws.proofs.runs.stalled_stands_still.Goals as goal

pub returns : goal.returns
returns g c = stalled_stuck g.L.Link.faults g.L.Link.asked
