use Rattle.flat_tree.proofs.FileLaws.{opened_as_one}
use Rattle.flat_tree.proofs.laws.opened_as_one.Goals as goal

pub returns : goal.returns
returns c = opened_as_one
