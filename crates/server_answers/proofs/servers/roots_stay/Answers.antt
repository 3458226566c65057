use Rattle.server_answers.proofs.ServerLaws.{roots_stay}
use Rattle.server_answers.proofs.servers.roots_stay.Goals as goal

pub returns : goal.returns
returns c = roots_stay
