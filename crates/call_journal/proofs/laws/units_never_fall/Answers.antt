use Rattle.call_journal.proofs.GrowthLaws.{units_never_fall}
use Rattle.call_journal.proofs.laws.units_never_fall.Goals as goal

pub returns : goal.returns
returns c = units_never_fall
