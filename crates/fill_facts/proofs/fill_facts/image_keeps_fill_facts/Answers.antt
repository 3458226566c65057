use Rattle.fill_facts.proofs.KernelFacts.{image_keeps_fill_facts}
use Rattle.fill_facts.proofs.fill_facts.image_keeps_fill_facts.Goals as goal

pub returns : goal.returns
returns c = image_keeps_fill_facts
