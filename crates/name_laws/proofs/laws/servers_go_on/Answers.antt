use Rattle.name_laws.proofs.GoOnLaws.{servers_go_on}
use Rattle.name_laws.proofs.laws.servers_go_on.Goals as goal

pub returns : goal.returns
returns c = servers_go_on
