use Rattle.move_facts.proofs.MoveKernel.{step_keeps_move_facts}
use Rattle.move_facts.proofs.move_facts.step_keeps_move_facts.Goals as goal

pub returns : goal.returns
returns c = step_keeps_move_facts
