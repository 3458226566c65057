use Rattle.client_constants.proofs.ConstantLaws.{image_keeps_knowing}
use Rattle.client_constants.proofs.constants.image_keeps_knowing.Goals as goal

pub returns : goal.returns
returns c = image_keeps_knowing
