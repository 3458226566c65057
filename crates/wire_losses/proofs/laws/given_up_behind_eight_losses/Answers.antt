use Rattle.wire_losses.proofs.EightLaws.{given_up_behind_eight}
use Rattle.wire_losses.proofs.laws.given_up_behind_eight_losses.Goals as goal

pub returns : goal.returns
returns c = given_up_behind_eight
