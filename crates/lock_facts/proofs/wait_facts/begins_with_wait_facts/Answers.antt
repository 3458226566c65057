use Rattle.lock_facts.proofs.WaitRest.{begins_with_wait_facts}
use Rattle.lock_facts.proofs.wait_facts.begins_with_wait_facts.Goals as goal

pub returns : goal.returns
returns c = begins_with_wait_facts
