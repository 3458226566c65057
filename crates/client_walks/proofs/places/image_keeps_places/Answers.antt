use Rattle.client_walks.proofs.BornLaws.{image_keeps_places}
use Rattle.client_walks.proofs.places.image_keeps_places.Goals as goal

pub returns : goal.returns
returns c = image_keeps_places
