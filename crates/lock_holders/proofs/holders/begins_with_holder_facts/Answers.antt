use Rattle.lock_holders.proofs.SoleKernel.{begins_with_holder_facts}
use Rattle.lock_holders.proofs.holders.begins_with_holder_facts.Goals as goal

pub returns : goal.returns
returns c = begins_with_holder_facts
