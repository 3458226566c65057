use Rattle.holder_facts.proofs.LineKernel.{image_keeps_queue_facts}
use Rattle.holder_facts.proofs.queue_facts.image_keeps_queue_facts.Goals as goal

pub returns : goal.returns
returns c = image_keeps_queue_facts
