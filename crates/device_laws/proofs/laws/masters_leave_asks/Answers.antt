use Rattle.device_laws.proofs.GoneLaws.{masters_leave_asks}
use Rattle.device_laws.proofs.laws.masters_leave_asks.Goals as goal

pub returns : goal.returns
returns c = masters_leave_asks
