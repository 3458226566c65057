use Rattle.client_constants.proofs.ConstantLaws.{begins_knowing}
use Rattle.client_constants.proofs.constants.begins_knowing.Goals as goal

pub returns : goal.returns
returns c = begins_knowing
