use Rattle.file_views.proofs.HolderStepLaws.{steps_keep_holders, moves_keep_holders, new_has_holders}
use Rattle.file_views.proofs.laws.holders_stay.Goals as goal

pub returns : goal.returns
returns c = record { new = new_has_holders; steps = steps_keep_holders; moves = moves_keep_holders }
