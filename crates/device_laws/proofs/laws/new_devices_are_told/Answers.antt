use Rattle.device_laws.proofs.RunLaws.{new_devices_are_told}
use Rattle.device_laws.proofs.laws.new_devices_are_told.Goals as goal

pub returns : goal.returns
returns c = new_devices_are_told
