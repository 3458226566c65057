use Rattle.home_acts.proofs.HomeWalk.{served_are_acts}
use Rattle.home_acts.proofs.laws.served_are_acts.Goals as goal

pub returns : goal.returns
returns c = served_are_acts
