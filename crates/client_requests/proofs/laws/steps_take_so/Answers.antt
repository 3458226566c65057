use Rattle.client_requests.proofs.RequestLaws.{steps_take_so}
use Rattle.client_requests.proofs.laws.steps_take_so.Goals as goal

pub returns : goal.returns
returns c = steps_take_so
