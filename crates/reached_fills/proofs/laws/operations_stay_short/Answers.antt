use Rattle.reached_fills.proofs.FillLaws.{short_stay}
use Rattle.reached_fills.proofs.laws.operations_stay_short.Goals as goal

pub returns : goal.returns
returns g c = short_stay g.L.Link.faults g.L.Link.asked
