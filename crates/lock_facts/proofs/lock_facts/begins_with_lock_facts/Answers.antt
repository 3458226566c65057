use Rattle.lock_facts.proofs.RestFacts.{begins_with_lock_facts}
use Rattle.lock_facts.proofs.lock_facts.begins_with_lock_facts.Goals as goal

pub returns : goal.returns
returns c = begins_with_lock_facts
