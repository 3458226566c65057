use Rattle.client_facts.proofs.ComingLaws.{births_keep_places}
use Rattle.client_facts.proofs.places.births_keep_places.Goals as goal

pub returns : goal.returns
returns c = births_keep_places
