use Rattle.tree_laws.proofs.FindLaws.{counts_as_one}
use Rattle.tree_laws.proofs.laws.counts_as_one.Goals as goal

pub returns : goal.returns
returns c = counts_as_one
