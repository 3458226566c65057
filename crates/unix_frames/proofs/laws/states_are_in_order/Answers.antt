use Rattle.unix_frames.proofs.OrderLaws.{states_are_in_order}
use Rattle.unix_frames.proofs.laws.states_are_in_order.Goals as goal

pub returns : goal.returns
returns c = states_are_in_order
