use Rattle.restart_views.proofs.AnsweredLaws.{new_answered, steps_answered}
use Rattle.restart_views.proofs.laws.answers_are_current.Goals as goal

pub returns : goal.returns
returns c = record { new = new_answered; steps = steps_answered }
