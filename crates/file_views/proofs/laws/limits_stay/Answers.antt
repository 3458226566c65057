use Rattle.file_views.proofs.LimitLaws.{steps_keep_limits, moves_keep_limits, new_has_limits}
use Rattle.file_views.proofs.laws.limits_stay.Goals as goal

pub returns : goal.returns
returns c = record { new = new_has_limits; steps = steps_keep_limits; moves = moves_keep_limits }
