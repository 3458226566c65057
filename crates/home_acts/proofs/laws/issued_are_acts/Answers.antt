use Rattle.home_acts.proofs.HomeWalk.{issued_are_acts}
use Rattle.home_acts.proofs.laws.issued_are_acts.Goals as goal

pub returns : goal.returns
returns c = issued_are_acts
