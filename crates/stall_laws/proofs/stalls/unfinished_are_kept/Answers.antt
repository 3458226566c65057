use Rattle.stall_laws.proofs.StallLaws.{unfinished_kept}
use Rattle.stall_laws.proofs.stalls.unfinished_are_kept.Goals as goal

pub returns : goal.returns
returns g c = unfinished_kept g.L.Link.faults g.L.Link.asked
