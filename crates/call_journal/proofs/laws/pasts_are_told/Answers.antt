use Rattle.call_journal.proofs.GrowthLaws.{pasts_are_told}
use Rattle.call_journal.proofs.laws.pasts_are_told.Goals as goal

pub returns : goal.returns
returns c = pasts_are_told
