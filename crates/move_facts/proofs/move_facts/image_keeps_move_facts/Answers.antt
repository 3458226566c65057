use Rattle.move_facts.proofs.MoveKernel.{image_keeps_move_facts}
use Rattle.move_facts.proofs.move_facts.image_keeps_move_facts.Goals as goal

pub returns : goal.returns
returns c = image_keeps_move_facts
