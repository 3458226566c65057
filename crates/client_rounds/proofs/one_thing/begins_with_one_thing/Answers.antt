use Rattle.client_rounds.proofs.OneLaws.{begins_with_one_thing}
use Rattle.client_rounds.proofs.one_thing.begins_with_one_thing.Goals as goal

pub returns : goal.returns
returns c = begins_with_one_thing
