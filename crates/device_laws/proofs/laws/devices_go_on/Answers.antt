use Rattle.device_laws.proofs.GoneLaws.{devices_go_on}
use Rattle.device_laws.proofs.laws.devices_go_on.Goals as goal

pub returns : goal.returns
returns c = devices_go_on
