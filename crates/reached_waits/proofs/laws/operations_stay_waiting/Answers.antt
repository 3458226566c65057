use Rattle.reached_waits.proofs.WaitLaws.{operations_stay}
use Rattle.reached_waits.proofs.laws.operations_stay_waiting.Goals as goal

pub returns : goal.returns
returns g c = operations_stay g.L.Link.faults g.L.Link.asked
