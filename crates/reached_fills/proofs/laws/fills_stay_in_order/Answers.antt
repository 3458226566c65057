use Rattle.reached_fills.proofs.FillLaws.{fills_stay}
use Rattle.reached_fills.proofs.laws.fills_stay_in_order.Goals as goal

pub returns : goal.returns
returns g c = fills_stay g.L.Link.faults g.L.Link.asked
