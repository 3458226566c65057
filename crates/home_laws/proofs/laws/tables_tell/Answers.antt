use Rattle.home_laws.proofs.TellLaws.{tables_tell}
use Rattle.home_laws.proofs.laws.tables_tell.Goals as goal

pub returns : goal.returns
returns c = tables_tell
