use Rattle.file_views.proofs.AskingMoveLaws.{steps_keep_asking, moves_keep_asking, new_has_asking}
use Rattle.file_views.proofs.laws.asking_stays.Goals as goal

pub returns : goal.returns
returns c = record { new = new_has_asking; steps = steps_keep_asking; moves = moves_keep_asking }
