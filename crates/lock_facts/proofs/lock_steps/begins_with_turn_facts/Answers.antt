use Rattle.lock_facts.proofs.RankKernel.{begins_with_turn_facts}
use Rattle.lock_facts.proofs.lock_steps.begins_with_turn_facts.Goals as goal

pub returns : goal.returns
returns c = begins_with_turn_facts
