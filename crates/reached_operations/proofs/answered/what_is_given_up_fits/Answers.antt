use Rattle.reached_operations.proofs.FitLaws.{what_is_given_up_fits}
use Rattle.reached_operations.proofs.answered.what_is_given_up_fits.Goals as goal

pub returns : goal.returns
returns g c = what_is_given_up_fits g.L.Link.faults g.L.Link.asked
