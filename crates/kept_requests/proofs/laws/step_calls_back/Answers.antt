use Rattle.kept_requests.proofs.CallbackLaws.{step_calls_back}
use Rattle.kept_requests.proofs.laws.step_calls_back.Goals as goal

pub returns : goal.returns
returns c = step_calls_back
