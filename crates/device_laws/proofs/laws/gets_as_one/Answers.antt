use Rattle.device_laws.proofs.DeviceLaws.{gets_as_one}
use Rattle.device_laws.proofs.laws.gets_as_one.Goals as goal

pub returns : goal.returns
returns c = gets_as_one
