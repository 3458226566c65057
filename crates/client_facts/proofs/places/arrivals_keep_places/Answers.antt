use Rattle.client_facts.proofs.ArrivalLaws.{arrivals_keep_places}
use Rattle.client_facts.proofs.places.arrivals_keep_places.Goals as goal

pub returns : goal.returns
returns c = arrivals_keep_places
