use Rattle.home_laws.proofs.RequestLaws.{requests_go_on_fitting}
use Rattle.home_laws.proofs.laws.requests_go_on_fitting.Goals as goal

pub returns : goal.returns
returns c = requests_go_on_fitting
