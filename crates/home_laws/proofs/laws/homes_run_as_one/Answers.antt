use Rattle.home_laws.proofs.RunLaws.{homes_run_as_one}
use Rattle.home_laws.proofs.laws.homes_run_as_one.Goals as goal

pub returns : goal.returns
returns c = homes_run_as_one
