use Rattle.reached_callbacks.proofs.AnswerLaws.{callbacks_are_answered}
use Rattle.reached_callbacks.proofs.answers.callbacks_are_answered.Goals as goal

pub returns : goal.returns
returns c = callbacks_are_answered
