use Rattle.stall_laws.proofs.StallLaws.{all_kept}
use Rattle.stall_laws.proofs.calls.all_taken_are_kept.Goals as goal

pub returns : goal.returns
returns g c = all_kept g.L.Link.faults g.L.Link.asked
