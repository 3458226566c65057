use Rattle.tree_laws.proofs.RenameLaws.{renamed_is_same}
use Rattle.tree_laws.proofs.laws.renamed_is_same.Goals as goal

pub returns : goal.returns
returns c = renamed_is_same
