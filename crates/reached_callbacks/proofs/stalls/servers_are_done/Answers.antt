use Rattle.reached_callbacks.proofs.StallLaws.{servers_are_done}
use Rattle.reached_callbacks.proofs.stalls.servers_are_done.Goals as goal

pub returns : goal.returns
returns g c = servers_are_done g.L.Link.faults g.L.Link.asked
