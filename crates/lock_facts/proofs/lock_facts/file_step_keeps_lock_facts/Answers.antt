use Rattle.lock_facts.proofs.RestFacts.{file_step_keeps_lock_facts}
use Rattle.lock_facts.proofs.lock_facts.file_step_keeps_lock_facts.Goals as goal

pub returns : goal.returns
returns c = file_step_keeps_lock_facts
