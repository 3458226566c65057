use Rattle.kernel_rpc.proofs.RunLaws.{requests_at_most_once}
use Rattle.kernel_rpc.proofs.laws.requests_come_at_most_once.Goals as goal

pub returns : goal.returns
returns c = requests_at_most_once
