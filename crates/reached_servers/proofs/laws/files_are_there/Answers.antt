use Rattle.reached_servers.proofs.ServerLaws.{files_there}
use Rattle.reached_servers.proofs.laws.files_are_there.Goals as goal

pub returns : goal.returns
returns g c = files_there g.L.Link.faults g.L.Link.asked
