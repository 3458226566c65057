use Rattle.stall_laws.proofs.StallLaws.{all_taken}
use Rattle.stall_laws.proofs.stalls.all_calls_are_taken.Goals as goal

pub returns : goal.returns
returns g c = all_taken g.L.Link.faults g.L.Link.asked
