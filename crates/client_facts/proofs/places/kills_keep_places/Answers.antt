use Rattle.client_facts.proofs.ComingLaws.{kills_keep_places}
use Rattle.client_facts.proofs.places.kills_keep_places.Goals as goal

pub returns : goal.returns
returns c = kills_keep_places
