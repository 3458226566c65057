use Rattle.reached_operations.proofs.UnfinishedLaws.{write_backs_are_unfinished}
use Rattle.reached_operations.proofs.unfinished.write_backs_are_unfinished.Goals as goal

pub returns : goal.returns
returns g c = write_backs_are_unfinished g.L.Link.faults g.L.Link.asked
