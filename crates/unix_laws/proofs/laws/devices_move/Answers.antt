use Rattle.unix_laws.proofs.DeviceLaws.{devices_move}
use Rattle.unix_laws.proofs.laws.devices_move.Goals as goal

pub returns : goal.returns
returns c = devices_move
