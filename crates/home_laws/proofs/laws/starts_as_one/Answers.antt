use Rattle.home_laws.proofs.StartLaws.{starts_as_one}
use Rattle.home_laws.proofs.laws.starts_as_one.Goals as goal

pub returns : goal.returns
returns c = starts_as_one
