use Rattle.home_laws.proofs.StartLaws.{tables_go_on}
use Rattle.home_laws.proofs.laws.tables_go_on.Goals as goal

pub returns : goal.returns
returns c = tables_go_on
