use Rattle.client_requests.proofs.RequestLaws.{begins_with_none}
use Rattle.client_requests.proofs.laws.begins_with_none.Goals as goal

pub returns : goal.returns
returns c = begins_with_none
