use Rattle.lock_holders.proofs.SoleKernel.{step_keeps_holder_facts}
use Rattle.lock_holders.proofs.holders.step_keeps_holder_facts.Goals as goal

pub returns : goal.returns
returns c = step_keeps_holder_facts
