use Rattle.file_facts.proofs.RestFacts.{begins_with_call_facts}
use Rattle.file_facts.proofs.call_facts.begins_with_call_facts.Goals as goal

pub returns : goal.returns
returns c = begins_with_call_facts
