use Rattle.reached_operations.proofs.OwnLaws.{own_calls_ask_so}
use Rattle.reached_operations.proofs.operations.own_calls_ask_so.Goals as goal

pub returns : goal.returns
returns g c = own_calls_ask_so g.L.Link.faults g.L.Link.asked
