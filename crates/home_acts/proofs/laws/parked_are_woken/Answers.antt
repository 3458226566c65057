use Rattle.home_acts.proofs.WakeLaws.{parked_are_woken}
use Rattle.home_acts.proofs.laws.parked_are_woken.Goals as goal

pub returns : goal.returns
returns c = parked_are_woken
