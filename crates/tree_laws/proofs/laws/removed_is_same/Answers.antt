use Rattle.tree_laws.proofs.GoneLaws.{removed_is_same}
use Rattle.tree_laws.proofs.laws.removed_is_same.Goals as goal

pub returns : goal.returns
returns c = removed_is_same
