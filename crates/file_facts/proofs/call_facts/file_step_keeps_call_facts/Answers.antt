use Rattle.file_facts.proofs.RestFacts.{file_step_keeps_call_facts}
use Rattle.file_facts.proofs.call_facts.file_step_keeps_call_facts.Goals as goal

pub returns : goal.returns
returns c = file_step_keeps_call_facts
