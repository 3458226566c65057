use Rattle.client_requests.proofs.RequestLaws.{kept_or_answered}
use Rattle.client_requests.proofs.laws.kept_or_answered.Goals as goal

pub returns : goal.returns
returns c = kept_or_answered
