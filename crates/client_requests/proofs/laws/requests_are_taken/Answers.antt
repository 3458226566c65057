use Rattle.client_requests.proofs.RequestLaws.{requests_are_taken}
use Rattle.client_requests.proofs.laws.requests_are_taken.Goals as goal

pub returns : goal.returns
returns c = requests_are_taken
