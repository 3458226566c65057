use Rattle.home_laws.proofs.HomeLaws.{homes_answer_as_one}
use Rattle.home_laws.proofs.laws.homes_answer_as_one.Goals as goal

pub returns : goal.returns
returns c = homes_answer_as_one
