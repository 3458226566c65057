use Rattle.unix_laws.proofs.DeviceLaws.{asks_come_in_order}
use Rattle.unix_laws.proofs.laws.asks_come_in_order.Goals as goal

pub returns : goal.returns
returns c = asks_come_in_order
