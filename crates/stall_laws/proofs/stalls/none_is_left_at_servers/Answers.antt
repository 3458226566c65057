use Rattle.stall_laws.proofs.StallLaws.{none_left}
use Rattle.stall_laws.proofs.stalls.none_is_left_at_servers.Goals as goal

pub returns : goal.returns
returns g c = none_left g.L.Link.faults g.L.Link.asked
