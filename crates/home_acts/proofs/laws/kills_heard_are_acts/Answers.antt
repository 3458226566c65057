use Rattle.home_acts.proofs.HomeWalk.{kills_heard_are_acts}
use Rattle.home_acts.proofs.laws.kills_heard_are_acts.Goals as goal

pub returns : goal.returns
returns c = kills_heard_are_acts
