use Rattle.holder_facts.proofs.LineKernel.{begins_with_queue_facts}
use Rattle.holder_facts.proofs.queue_facts.begins_with_queue_facts.Goals as goal

pub returns : goal.returns
returns c = begins_with_queue_facts
