use Rattle.home_laws.proofs.HomeLaws.{kills_as_one}
use Rattle.home_laws.proofs.laws.kills_as_one.Goals as goal

pub returns : goal.returns
returns c = kills_as_one
