use Rattle.client_walks.proofs.OnceLaws.{step_keeps_places}
use Rattle.client_walks.proofs.places.step_keeps_places.Goals as goal

pub returns : goal.returns
returns c = step_keeps_places
