use Rattle.server_answers.proofs.RootLaws.{servers_begin_with_none}
use Rattle.server_answers.proofs.servers.servers_begin_with_none.Goals as goal

pub returns : goal.returns
returns c = servers_begin_with_none
