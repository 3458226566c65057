use Rattle.device_laws.proofs.DeviceLaws.{puts_as_one}
use Rattle.device_laws.proofs.laws.puts_as_one.Goals as goal

pub returns : goal.returns
returns c = puts_as_one
