use Rattle.home_runs.proofs.RunLaws.{steps_are_deeds}
use Rattle.home_runs.proofs.laws.steps_are_deeds.Goals as goal

pub returns : goal.returns
returns c = steps_are_deeds
