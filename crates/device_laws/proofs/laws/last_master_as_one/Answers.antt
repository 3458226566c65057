use Rattle.device_laws.proofs.GoneLaws.{last_master_as_one}
use Rattle.device_laws.proofs.laws.last_master_as_one.Goals as goal

pub returns : goal.returns
returns c = last_master_as_one
