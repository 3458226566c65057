use Rattle.home_laws.proofs.RunLaws.{homes_run_from_the_start}
use Rattle.home_laws.proofs.laws.homes_run_from_the_start.Goals as goal

pub returns : goal.returns
returns c = homes_run_from_the_start
