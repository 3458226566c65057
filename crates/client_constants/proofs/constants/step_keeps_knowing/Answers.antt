use Rattle.client_constants.proofs.ConstantLaws.{step_keeps_knowing}
use Rattle.client_constants.proofs.constants.step_keeps_knowing.Goals as goal

pub returns : goal.returns
returns c = step_keeps_knowing
