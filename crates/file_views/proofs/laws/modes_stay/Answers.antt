use Rattle.file_views.proofs.ModeStepLaws.{steps_keep_modes, moves_keep_modes, new_has_modes}
use Rattle.file_views.proofs.laws.modes_stay.Goals as goal

pub returns : goal.returns
returns c = record { new = new_has_modes; steps = steps_keep_modes; moves = moves_keep_modes }
