use Rattle.server_walks.proofs.TellingLaws.{servers_call_back}
use Rattle.server_walks.proofs.telling.servers_call_back_so.Goals as goal

pub returns : goal.returns
returns c = servers_call_back
