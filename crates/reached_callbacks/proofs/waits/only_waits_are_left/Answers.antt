use Rattle.reached_callbacks.proofs.StallLaws.{only_waits}
use Rattle.reached_callbacks.proofs.waits.only_waits_are_left.Goals as goal

pub returns : goal.returns
returns g c = only_waits g.L.Link.faults g.L.Link.asked
