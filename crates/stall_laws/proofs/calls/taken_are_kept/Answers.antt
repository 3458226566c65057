use Rattle.stall_laws.proofs.StallLaws.{taken_kept}
use Rattle.stall_laws.proofs.calls.taken_are_kept.Goals as goal

pub returns : goal.returns
returns g c = taken_kept g.L.Link.faults g.L.Link.asked
