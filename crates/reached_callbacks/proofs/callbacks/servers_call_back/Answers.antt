use Rattle.reached_callbacks.proofs.CallbackLaws.{servers_call_back}
use Rattle.reached_callbacks.proofs.callbacks.servers_call_back.Goals as goal

pub returns : goal.returns
returns g c = servers_call_back g.L.Link.faults g.L.Link.asked
