use Rattle.migrate_freeze.proofs.LandingLaws.{each_lands}
use Rattle.migrate_freeze.proofs.laws.each_lands.Goals as goal

pub returns : goal.returns
returns c = each_lands
