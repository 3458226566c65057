use Rattle.home_laws.proofs.RequestLaws.{requests_are_served}
use Rattle.home_laws.proofs.laws.requests_are_served.Goals as goal

pub returns : goal.returns
returns c = requests_are_served
