use Rattle.reached_operations.proofs.KeepLaws.{call_facts_stay}
use Rattle.reached_operations.proofs.answered.call_facts_stay.Goals as goal

pub returns : goal.returns
returns g c = call_facts_stay g.L.Link.faults g.L.Link.asked
