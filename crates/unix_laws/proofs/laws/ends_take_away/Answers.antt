use Rattle.unix_laws.proofs.EndLaws.{ends_take_away}
use Rattle.unix_laws.proofs.laws.ends_take_away.Goals as goal

pub returns : goal.returns
returns c = ends_take_away
