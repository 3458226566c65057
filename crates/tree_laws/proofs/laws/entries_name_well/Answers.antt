use Rattle.tree_laws.proofs.WellLaws.{entries_name_well}
use Rattle.tree_laws.proofs.laws.entries_name_well.Goals as goal

pub returns : goal.returns
returns c = entries_name_well
