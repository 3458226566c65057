use Rattle.file_facts.proofs.RestFacts.{growing_keeps_call_facts}
use Rattle.file_facts.proofs.call_facts.growing_keeps_call_facts.Goals as goal

pub returns : goal.returns
returns c = growing_keeps_call_facts
