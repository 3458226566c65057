use Rattle.lock_facts.proofs.KernelFacts.{step_keeps_lock_facts}
use Rattle.lock_facts.proofs.lock_steps.step_keeps_lock_facts.Goals as goal

pub returns : goal.returns
returns c = step_keeps_lock_facts
