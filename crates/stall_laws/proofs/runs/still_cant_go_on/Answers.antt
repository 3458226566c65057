use Rattle.stall_laws.proofs.LeftLaws.{still_stuck}
use Rattle.stall_laws.proofs.runs.still_cant_go_on.Goals as goal

pub returns : goal.returns
returns g c = still_stuck g.L.Link.faults g.L.Link.asked
