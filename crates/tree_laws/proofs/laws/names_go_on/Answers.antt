use Rattle.tree_laws.proofs.GoOnLaws.{names_go_on}
use Rattle.tree_laws.proofs.laws.names_go_on.Goals as goal

pub returns : goal.returns
returns c = names_go_on
