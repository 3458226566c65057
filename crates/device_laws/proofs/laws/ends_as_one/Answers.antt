use Rattle.device_laws.proofs.DeviceLaws.{ends_as_one}
use Rattle.device_laws.proofs.laws.ends_as_one.Goals as goal

pub returns : goal.returns
returns c = ends_as_one
