use Rattle.home_acts.proofs.HomeWalk.{places_are_noted}
use Rattle.home_acts.proofs.laws.places_are_noted.Goals as goal

pub returns : goal.returns
returns c = places_are_noted
