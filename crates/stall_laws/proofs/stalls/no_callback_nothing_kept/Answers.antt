use Rattle.stall_laws.proofs.StallLaws.{none_kept}
use Rattle.stall_laws.proofs.stalls.no_callback_nothing_kept.Goals as goal

pub returns : goal.returns
returns g c = none_kept g.L.Link.faults g.L.Link.asked
