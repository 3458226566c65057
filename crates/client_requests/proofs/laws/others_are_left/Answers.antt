use Rattle.client_requests.proofs.RequestLaws.{others_are_left}
use Rattle.client_requests.proofs.laws.others_are_left.Goals as goal

pub returns : goal.returns
returns c = others_are_left
