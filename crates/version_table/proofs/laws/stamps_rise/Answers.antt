use Rattle.version_table.proofs.StampLaws.{stamps_rise}
use Rattle.version_table.proofs.laws.stamps_rise.Goals as goal

pub returns : goal.returns
returns c = stamps_rise
