use Rattle.reached_operations.proofs.OwnLaws.{write_backs_ask_so}
use Rattle.reached_operations.proofs.operations.write_backs_ask_so.Goals as goal

pub returns : goal.returns
returns g c = write_backs_ask_so g.L.Link.faults g.L.Link.asked
