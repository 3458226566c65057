use Rattle.client_facts.proofs.ComingLaws.{evictions_keep_places}
use Rattle.client_facts.proofs.places.evictions_keep_places.Goals as goal

pub returns : goal.returns
returns c = evictions_keep_places
