use Rattle.kernel_rpc.proofs.RunLaws.{replies_at_most_once}
use Rattle.kernel_rpc.proofs.laws.replies_come_at_most_once.Goals as goal

pub returns : goal.returns
returns c = replies_at_most_once
