use Rattle.client_walks.proofs.BornLaws.{begins_with_places}
use Rattle.client_walks.proofs.places.begins_with_places.Goals as goal

pub returns : goal.returns
returns c = begins_with_places
