use Rattle.kept_requests.proofs.StepLaws.{step_keeps}
use Rattle.kept_requests.proofs.laws.step_keeps_such.Goals as goal

pub returns : goal.returns
returns c = step_keeps
