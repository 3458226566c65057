use Rattle.file_views.proofs.StampStepLaws.{steps_keep_stamps}
use Rattle.file_views.proofs.StampMoveLaws.{moves_keep_stamps, new_has_stamps}
use Rattle.file_views.proofs.laws.stamps_stay.Goals as goal

pub returns : goal.returns
returns c = record { new = new_has_stamps; steps = steps_keep_stamps; moves = moves_keep_stamps }
