use Rattle.lock_facts.proofs.RankKernel.{image_keeps_turn_facts}
use Rattle.lock_facts.proofs.lock_steps.image_keeps_turn_facts.Goals as goal

pub returns : goal.returns
returns c = image_keeps_turn_facts
