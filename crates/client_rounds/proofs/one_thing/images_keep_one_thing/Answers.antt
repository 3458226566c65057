use Rattle.client_rounds.proofs.OneLaws.{images_keep_one_thing}
use Rattle.client_rounds.proofs.one_thing.images_keep_one_thing.Goals as goal

pub returns : goal.returns
returns c = images_keep_one_thing
