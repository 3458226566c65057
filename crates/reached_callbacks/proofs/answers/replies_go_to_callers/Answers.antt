use Rattle.reached_callbacks.proofs.BackLaws.{replies_go}
use Rattle.reached_callbacks.proofs.answers.replies_go_to_callers.Goals as goal

pub returns : goal.returns
returns g c = replies_go g.L.Link.faults g.L.Link.asked
