use Rattle.reached_operations.proofs.UnfinishedLaws.{own_calls_are_unfinished}
use Rattle.reached_operations.proofs.unfinished.own_calls_are_unfinished.Goals as goal

pub returns : goal.returns
returns g c = own_calls_are_unfinished g.L.Link.faults g.L.Link.asked
