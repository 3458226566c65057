use Rattle.broadcast_laws.proofs.AskLaws.{clients_ask}
use Rattle.broadcast_laws.proofs.broadcasts.clients_ask_so.Goals as goal

pub returns : goal.returns
returns c = clients_ask
