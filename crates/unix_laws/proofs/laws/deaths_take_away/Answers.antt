use Rattle.unix_laws.proofs.EndLaws.{deaths_take_away}
use Rattle.unix_laws.proofs.laws.deaths_take_away.Goals as goal

pub returns : goal.returns
returns c = deaths_take_away
