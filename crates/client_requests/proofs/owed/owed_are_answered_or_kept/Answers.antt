use Rattle.client_requests.proofs.OwedLaws.{owed_are_answered_or_kept}
use Rattle.client_requests.proofs.owed.owed_are_answered_or_kept.Goals as goal

pub returns : goal.returns
returns c = owed_are_answered_or_kept
