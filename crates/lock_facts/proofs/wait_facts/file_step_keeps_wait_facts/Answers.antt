use Rattle.lock_facts.proofs.WaitRest.{file_step_keeps_wait_facts}
use Rattle.lock_facts.proofs.wait_facts.file_step_keeps_wait_facts.Goals as goal

pub returns : goal.returns
returns c = file_step_keeps_wait_facts
