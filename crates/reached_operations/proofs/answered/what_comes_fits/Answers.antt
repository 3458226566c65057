use Rattle.reached_operations.proofs.FitLaws.{what_comes_fits}
use Rattle.reached_operations.proofs.answered.what_comes_fits.Goals as goal

pub returns : goal.returns
returns g c = what_comes_fits g.L.Link.faults g.L.Link.asked
