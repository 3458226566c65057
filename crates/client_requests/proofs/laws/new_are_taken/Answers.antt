use Rattle.client_requests.proofs.RequestLaws.{new_are_taken}
use Rattle.client_requests.proofs.laws.new_are_taken.Goals as goal

pub returns : goal.returns
returns c = new_are_taken
