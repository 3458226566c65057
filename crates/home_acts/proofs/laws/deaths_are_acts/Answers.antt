use Rattle.home_acts.proofs.HomeWalk.{deaths_are_acts}
use Rattle.home_acts.proofs.laws.deaths_are_acts.Goals as goal

pub returns : goal.returns
returns c = deaths_are_acts
