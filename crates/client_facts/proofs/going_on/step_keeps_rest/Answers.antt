use Rattle.client_facts.proofs.StepLaws.{step_keeps_rest}
use Rattle.client_facts.proofs.going_on.step_keeps_rest.Goals as goal

pub returns : goal.returns
returns c = step_keeps_rest
