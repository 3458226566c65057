use Rattle.reached_causes.proofs.GiveUpLaws.{given_up_behind_sends}
use Rattle.reached_causes.proofs.laws.given_up_behind_sends.Goals as goal

pub returns : goal.returns
returns c = given_up_behind_sends
