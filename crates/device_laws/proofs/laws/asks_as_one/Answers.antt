use Rattle.device_laws.proofs.DeviceLaws.{asks_as_one}
use Rattle.device_laws.proofs.laws.asks_as_one.Goals as goal

pub returns : goal.returns
returns c = asks_as_one
