use Rattle.tree_laws.proofs.FindLaws.{finds_as_one}
use Rattle.tree_laws.proofs.laws.finds_as_one.Goals as goal

pub returns : goal.returns
returns c = finds_as_one
