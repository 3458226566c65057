use Rattle.home_laws.proofs.HomeLaws.{deaths_as_one}
use Rattle.home_laws.proofs.laws.deaths_as_one.Goals as goal

pub returns : goal.returns
returns c = deaths_as_one
