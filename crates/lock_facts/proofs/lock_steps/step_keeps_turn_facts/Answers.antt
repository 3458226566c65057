use Rattle.lock_facts.proofs.RankKernel.{step_keeps_turn_facts}
use Rattle.lock_facts.proofs.lock_steps.step_keeps_turn_facts.Goals as goal

pub returns : goal.returns
returns c = step_keeps_turn_facts
