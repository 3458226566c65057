use Rattle.kernel_rpc.proofs.LossLaws.{lost_before_expiry}
use Rattle.kernel_rpc.proofs.laws.a_packet_is_lost_before_a_timer_fires.Goals as goal

pub returns : goal.returns
returns c = lost_before_expiry
