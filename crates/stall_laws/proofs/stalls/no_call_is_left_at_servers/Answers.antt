use Rattle.stall_laws.proofs.StallLaws.{no_call_left}
use Rattle.stall_laws.proofs.stalls.no_call_is_left_at_servers.Goals as goal

pub returns : goal.returns
returns g c = no_call_left g.L.Link.faults g.L.Link.asked
