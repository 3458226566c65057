use Rattle.reached_domains.proofs.RowLaws.{rows_are_domains}
use Rattle.reached_domains.proofs.laws.rows_are_domains.Goals as goal

pub returns : goal.returns
returns g c = rows_are_domains g.L.Link.faults g.L.Link.asked
