use Rattle.server_answers.proofs.RootLaws.{roots_are_served}
use Rattle.server_answers.proofs.servers.roots_are_served.Goals as goal

pub returns : goal.returns
returns c = roots_are_served
