use Rattle.stall_laws.proofs.StallLaws.{keep_such}
use Rattle.stall_laws.proofs.calls.servers_keep_such.Goals as goal

pub returns : goal.returns
returns g c = keep_such g.L.Link.faults g.L.Link.asked
