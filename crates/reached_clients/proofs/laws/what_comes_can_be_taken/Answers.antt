use Rattle.reached_clients.proofs.TakenLaws.{comes_taken}
use Rattle.reached_clients.proofs.laws.what_comes_can_be_taken.Goals as goal

pub returns : goal.returns
returns g c = comes_taken g.L.Link.faults g.L.Link.asked
