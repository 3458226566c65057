use Rattle.reached_servers.proofs.ServerLaws.{files_busy}
use Rattle.reached_servers.proofs.laws.files_are_busy.Goals as goal

pub returns : goal.returns
returns g c = files_busy g.L.Link.faults g.L.Link.asked
