use Rattle.client_facts.proofs.PlaceLaws.{round_keeps_places}
use Rattle.client_facts.proofs.places.round_keeps_places.Goals as goal

pub returns : goal.returns
returns c = round_keeps_places
