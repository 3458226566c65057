use Rattle.client_rounds.proofs.StepLaws.{file_steps_keep_this}
use Rattle.client_rounds.proofs.file_steps.file_steps_keep_this.Goals as goal

pub returns : goal.returns
returns c = file_steps_keep_this
