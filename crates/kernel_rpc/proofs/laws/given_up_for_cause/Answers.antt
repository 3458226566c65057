use Rattle.kernel_rpc.proofs.CauseLaws.{given_up_for_cause}
use Rattle.kernel_rpc.proofs.laws.given_up_for_cause.Goals as goal

pub returns : goal.returns
returns c = given_up_for_cause
