use Rattle.kept_requests.proofs.StepLaws.{step_answers}
use Rattle.kept_requests.proofs.laws.step_answers_or_keeps.Goals as goal

pub returns : goal.returns
returns c = step_answers
