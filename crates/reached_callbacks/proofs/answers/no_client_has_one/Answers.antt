use Rattle.reached_callbacks.proofs.FlushedLaws.{no_client_has_one}
use Rattle.reached_callbacks.proofs.answers.no_client_has_one.Goals as goal

pub returns : goal.returns
returns g c = no_client_has_one g.L.Link.faults g.L.Link.asked
