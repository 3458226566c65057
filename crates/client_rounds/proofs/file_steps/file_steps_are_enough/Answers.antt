use Rattle.client_rounds.proofs.StepLaws.{file_steps_are_enough}
use Rattle.client_rounds.proofs.file_steps.file_steps_are_enough.Goals as goal

pub returns : goal.returns
returns c = file_steps_are_enough
