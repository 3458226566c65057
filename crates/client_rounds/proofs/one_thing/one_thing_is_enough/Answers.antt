use Rattle.client_rounds.proofs.OneLaws.{one_thing_is_enough}
use Rattle.client_rounds.proofs.one_thing.one_thing_is_enough.Goals as goal

pub returns : goal.returns
returns c = one_thing_is_enough
