use Rattle.home_laws.proofs.HomeLaws.{waits_are_blocked}
use Rattle.home_laws.proofs.laws.waits_are_blocked.Goals as goal

pub returns : goal.returns
returns c = waits_are_blocked
