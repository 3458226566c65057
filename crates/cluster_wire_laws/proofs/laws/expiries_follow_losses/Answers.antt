use Rattle.cluster_wire_laws.proofs.ExpiryLaws.{loss_before}
use Rattle.cluster_wire_laws.proofs.laws.expiries_follow_losses.Goals as goal

pub returns : goal.returns
returns g c = loss_before g.L.Link.faults g.L.Link.asked
