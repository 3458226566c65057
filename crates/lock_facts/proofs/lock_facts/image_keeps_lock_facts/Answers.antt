use Rattle.lock_facts.proofs.RestFacts.{image_keeps_lock_facts}
use Rattle.lock_facts.proofs.lock_facts.image_keeps_lock_facts.Goals as goal

pub returns : goal.returns
returns c = image_keeps_lock_facts
