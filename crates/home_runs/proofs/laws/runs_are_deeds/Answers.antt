use Rattle.home_runs.proofs.RunLaws.{runs_are_deeds}
use Rattle.home_runs.proofs.laws.runs_are_deeds.Goals as goal

pub returns : goal.returns
returns c = runs_are_deeds
