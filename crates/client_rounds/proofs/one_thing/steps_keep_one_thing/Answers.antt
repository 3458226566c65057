use Rattle.client_rounds.proofs.OneLaws.{steps_keep_one_thing}
use Rattle.client_rounds.proofs.one_thing.steps_keep_one_thing.Goals as goal

pub returns : goal.returns
returns c = steps_keep_one_thing
