use Rattle.reached_prefixes.proofs.KnownLaws.{rows_learned}
use Rattle.reached_prefixes.proofs.laws.rows_are_learned.Goals as goal

pub returns : goal.returns
returns g c = rows_learned g.L.Link.faults g.L.Link.asked
