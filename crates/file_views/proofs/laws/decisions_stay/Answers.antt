use Rattle.file_views.proofs.DecisionStepLaws.{steps_keep_decisions, moves_keep_decisions, new_has_decisions}
use Rattle.file_views.proofs.laws.decisions_stay.Goals as goal

pub returns : goal.returns
returns c = record { new = new_has_decisions; steps = steps_keep_decisions; moves = moves_keep_decisions }
