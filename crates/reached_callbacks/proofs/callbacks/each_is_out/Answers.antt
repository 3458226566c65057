use Rattle.reached_callbacks.proofs.CallbackLaws.{each_is_out}
use Rattle.reached_callbacks.proofs.callbacks.each_is_out.Goals as goal

pub returns : goal.returns
returns g c = each_is_out g.L.Link.faults g.L.Link.asked
