use Rattle.home_acts.proofs.HomeWalk.{places_heard_are_noted}
use Rattle.home_acts.proofs.laws.places_heard_are_noted.Goals as goal

pub returns : goal.returns
returns c = places_heard_are_noted
