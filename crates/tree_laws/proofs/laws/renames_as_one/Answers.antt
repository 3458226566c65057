use Rattle.tree_laws.proofs.RenameLaws.{renames_as_one}
use Rattle.tree_laws.proofs.laws.renames_as_one.Goals as goal

pub returns : goal.returns
returns c = renames_as_one
