use Rattle.holder_facts.proofs.LineKernel.{step_keeps_queue_facts}
use Rattle.holder_facts.proofs.queue_facts.step_keeps_queue_facts.Goals as goal

pub returns : goal.returns
returns c = step_keeps_queue_facts
