use Rattle.reached_callbacks.proofs.StallLaws.{clients_have_all}
use Rattle.reached_callbacks.proofs.stalls.clients_have_all.Goals as goal

pub returns : goal.returns
returns g c = clients_have_all g.L.Link.faults g.L.Link.asked
