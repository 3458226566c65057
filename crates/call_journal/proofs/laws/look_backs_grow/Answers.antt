use Rattle.call_journal.proofs.GrowthLaws.{look_backs_grow}
use Rattle.call_journal.proofs.laws.look_backs_grow.Goals as goal

pub returns : goal.returns
returns c = look_backs_grow
