use Rattle.server_answers.proofs.ServerLaws.{servers_keep}
use Rattle.server_answers.proofs.servers.servers_keep_so.Goals as goal

pub returns : goal.returns
returns c = servers_keep
