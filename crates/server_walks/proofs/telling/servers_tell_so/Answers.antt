use Rattle.server_walks.proofs.TellingLaws.{servers_tell}
use Rattle.server_walks.proofs.telling.servers_tell_so.Goals as goal

pub returns : goal.returns
returns c = servers_tell
