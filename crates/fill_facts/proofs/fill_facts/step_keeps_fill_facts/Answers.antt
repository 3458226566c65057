use Rattle.fill_facts.proofs.KernelFacts.{step_keeps_fill_facts}
use Rattle.fill_facts.proofs.fill_facts.step_keeps_fill_facts.Goals as goal

pub returns : goal.returns
returns c = step_keeps_fill_facts
