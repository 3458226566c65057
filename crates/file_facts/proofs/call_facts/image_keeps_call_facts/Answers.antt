use Rattle.file_facts.proofs.RestFacts.{image_keeps_call_facts}
use Rattle.file_facts.proofs.call_facts.image_keeps_call_facts.Goals as goal

pub returns : goal.returns
returns c = image_keeps_call_facts
