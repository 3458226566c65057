use Rattle.stall_laws.proofs.StallLaws.{all_unfinished_kept}
use Rattle.stall_laws.proofs.stalls.all_unfinished_are_kept.Goals as goal

pub returns : goal.returns
returns g c = all_unfinished_kept g.L.Link.faults g.L.Link.asked
