use Rattle.client_facts.proofs.PlaceLaws.{rounds_keep_places}
use Rattle.client_facts.proofs.places.rounds_keep_places.Goals as goal

pub returns : goal.returns
returns c = rounds_keep_places
