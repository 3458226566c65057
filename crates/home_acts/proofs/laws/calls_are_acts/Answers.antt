use Rattle.home_acts.proofs.HomeWalk.{calls_are_acts}
use Rattle.home_acts.proofs.laws.calls_are_acts.Goals as goal

pub returns : goal.returns
returns c = calls_are_acts
