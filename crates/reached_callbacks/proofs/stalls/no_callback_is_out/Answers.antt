use Rattle.reached_callbacks.proofs.StallLaws.{no_callback_out}
use Rattle.reached_callbacks.proofs.stalls.no_callback_is_out.Goals as goal

pub returns : goal.returns
returns g c = no_callback_out g.L.Link.faults g.L.Link.asked
