use Rattle.kernel_rpc.proofs.StayLaws.{stays_until_answered}
use Rattle.kernel_rpc.proofs.laws.unfinished_calls_stay.Goals as goal

pub returns : goal.returns
returns c = stays_until_answered
