use Rattle.client_requests.proofs.RequestLaws.{nothing_else_is_kept}
use Rattle.client_requests.proofs.laws.nothing_else_is_kept.Goals as goal

pub returns : goal.returns
returns c = nothing_else_is_kept
