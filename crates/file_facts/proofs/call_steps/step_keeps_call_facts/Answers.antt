use Rattle.file_facts.proofs.KernelFacts.{step_keeps_call_facts}
use Rattle.file_facts.proofs.call_steps.step_keeps_call_facts.Goals as goal

pub returns : goal.returns
returns c = step_keeps_call_facts
