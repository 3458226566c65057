use Rattle.unix_calls.proofs.EndLaws.{others_stay}
use Rattle.unix_calls.proofs.laws.others_stay.Goals as goal

pub returns : goal.returns
returns c = others_stay
