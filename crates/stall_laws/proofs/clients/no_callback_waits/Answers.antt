use Rattle.stall_laws.proofs.LeftLaws.{none_waits}
use Rattle.stall_laws.proofs.clients.no_callback_waits.Goals as goal

pub returns : goal.returns
returns g c = none_waits g.L.Link.faults g.L.Link.asked
