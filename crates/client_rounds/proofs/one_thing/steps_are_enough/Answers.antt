use Rattle.client_rounds.proofs.OneLaws.{steps_are_enough}
use Rattle.client_rounds.proofs.one_thing.steps_are_enough.Goals as goal

pub returns : goal.returns
returns c = steps_are_enough
