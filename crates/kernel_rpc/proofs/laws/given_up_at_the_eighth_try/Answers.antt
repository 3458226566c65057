use Rattle.kernel_rpc.proofs.TryLaws.{given_up_at_eighth}
use Rattle.kernel_rpc.proofs.laws.given_up_at_the_eighth_try.Goals as goal

pub returns : goal.returns
returns c = given_up_at_eighth
