use Rattle.stall_laws.proofs.StallLaws.{owners_hold}
use Rattle.stall_laws.proofs.calls.owners_alone_hold.Goals as goal

pub returns : goal.returns
returns g c = owners_hold g.L.Link.faults g.L.Link.asked
