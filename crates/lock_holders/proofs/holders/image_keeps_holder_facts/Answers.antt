use Rattle.lock_holders.proofs.SoleKernel.{image_keeps_holder_facts}
use Rattle.lock_holders.proofs.holders.image_keeps_holder_facts.Goals as goal

pub returns : goal.returns
returns c = image_keeps_holder_facts
