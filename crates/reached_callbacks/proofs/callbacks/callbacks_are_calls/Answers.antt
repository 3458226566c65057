use Rattle.reached_callbacks.proofs.CallbackLaws.{callbacks_are_calls}
use Rattle.reached_callbacks.proofs.callbacks.callbacks_are_calls.Goals as goal

pub returns : goal.returns
returns g c = callbacks_are_calls g.L.Link.faults g.L.Link.asked
