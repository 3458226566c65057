use Rattle.version_table.proofs.StampLaws.{callbacks_go_once}
use Rattle.version_table.proofs.laws.callbacks_go_once.Goals as goal

pub returns : goal.returns
returns c = callbacks_go_once
