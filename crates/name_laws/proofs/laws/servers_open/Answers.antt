use Rattle.name_laws.proofs.BootLaws.{servers_open}
use Rattle.name_laws.proofs.laws.servers_open.Goals as goal

pub returns : goal.returns
returns c = servers_open
