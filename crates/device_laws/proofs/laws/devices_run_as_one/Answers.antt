use Rattle.device_laws.proofs.RunLaws.{devices_run_as_one}
use Rattle.device_laws.proofs.laws.devices_run_as_one.Goals as goal

pub returns : goal.returns
returns c = devices_run_as_one
