use Rattle.client_requests.proofs.RowLaws.{answered_is_there}
use Rattle.client_requests.proofs.owed.answered_is_there.Goals as goal

pub returns : goal.returns
returns c = answered_is_there
