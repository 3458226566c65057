use Rattle.flat_tree.proofs.ListLaws.{lists_as_one}
use Rattle.flat_tree.proofs.laws.lists_as_one.Goals as goal

pub returns : goal.returns
returns c = lists_as_one
