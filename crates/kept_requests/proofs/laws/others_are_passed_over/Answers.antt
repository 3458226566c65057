use Rattle.kept_requests.proofs.StepLaws.{passed_over}
use Rattle.kept_requests.proofs.laws.others_are_passed_over.Goals as goal

pub returns : goal.returns
returns c = passed_over
