use Rattle.settling_laws.proofs.SettleLaws.{new_owing, all_owing, settling_ends}
use Rattle.settling_laws.proofs.laws.settlings_end.Goals as goal

pub returns : goal.returns
returns c = record { new = new_owing; steps = all_owing; ends = settling_ends }
