use Rattle.client_requests.proofs.RowLaws.{kept_is_there}
use Rattle.client_requests.proofs.owed.kept_is_there.Goals as goal

pub returns : goal.returns
returns c = kept_is_there
