use Rattle.home_acts.proofs.ActLaws.{answers_are_acts}
use Rattle.home_acts.proofs.laws.answers_are_acts.Goals as goal

pub returns : goal.returns
returns c = answers_are_acts
