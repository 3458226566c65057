use Rattle.tree_laws.proofs.RemoveLaws.{removes_as_one}
use Rattle.tree_laws.proofs.laws.removes_as_one.Goals as goal

pub returns : goal.returns
returns c = removes_as_one
