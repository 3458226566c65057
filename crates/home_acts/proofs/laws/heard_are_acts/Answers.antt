use Rattle.home_acts.proofs.HomeWalk.{heard_are_acts}
use Rattle.home_acts.proofs.laws.heard_are_acts.Goals as goal

pub returns : goal.returns
returns c = heard_are_acts
