use Rattle.migrate_freeze.proofs.EndLaws.{moves_end}
use Rattle.migrate_freeze.proofs.laws.moves_end.Goals as goal

pub returns : goal.returns
returns c = moves_end
