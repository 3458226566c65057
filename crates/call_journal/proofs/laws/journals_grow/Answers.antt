use Rattle.call_journal.proofs.GrowthLaws.{journals_grow}
use Rattle.call_journal.proofs.laws.journals_grow.Goals as goal

pub returns : goal.returns
returns c = journals_grow
