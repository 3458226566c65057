use Rattle.reached_callbacks.proofs.CallbackLaws.{each_has_row}
use Rattle.reached_callbacks.proofs.callbacks.each_has_row.Goals as goal

pub returns : goal.returns
returns g c = each_has_row g.L.Link.faults g.L.Link.asked
