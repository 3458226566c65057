use Rattle.lock_facts.proofs.WaitKernel.{step_keeps_wait_facts}
use Rattle.lock_facts.proofs.lock_steps.step_keeps_wait_facts.Goals as goal

pub returns : goal.returns
returns c = step_keeps_wait_facts
