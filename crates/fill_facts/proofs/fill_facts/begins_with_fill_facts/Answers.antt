use Rattle.fill_facts.proofs.KernelFacts.{begins_with_fill_facts}
use Rattle.fill_facts.proofs.fill_facts.begins_with_fill_facts.Goals as goal

pub returns : goal.returns
returns c = begins_with_fill_facts
