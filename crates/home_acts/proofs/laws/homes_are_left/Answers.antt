use Rattle.home_acts.proofs.HomeWalk.{homes_are_left}
use Rattle.home_acts.proofs.laws.homes_are_left.Goals as goal

pub returns : goal.returns
returns c = homes_are_left
