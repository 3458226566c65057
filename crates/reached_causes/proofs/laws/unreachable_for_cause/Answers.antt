use Rattle.reached_causes.proofs.CauseLaws.{unreachable_so}
use Rattle.reached_causes.proofs.laws.unreachable_for_cause.Goals as goal

pub returns : goal.returns
returns g c = unreachable_so g.L.Link.faults g.L.Link.asked
