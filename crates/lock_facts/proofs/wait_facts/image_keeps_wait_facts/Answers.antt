use Rattle.lock_facts.proofs.WaitRest.{image_keeps_wait_facts}
use Rattle.lock_facts.proofs.wait_facts.image_keeps_wait_facts.Goals as goal

pub returns : goal.returns
returns c = image_keeps_wait_facts
