use Rattle.move_facts.proofs.MoveKernel.{begins_with_move_facts}
use Rattle.move_facts.proofs.move_facts.begins_with_move_facts.Goals as goal

pub returns : goal.returns
returns c = begins_with_move_facts
