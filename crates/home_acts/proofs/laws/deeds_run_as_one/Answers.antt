use Rattle.home_acts.proofs.AsOneLaws.{deeds_run_as_one}
use Rattle.home_acts.proofs.laws.deeds_run_as_one.Goals as goal

pub returns : goal.returns
returns c = deeds_run_as_one
